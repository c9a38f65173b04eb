-- What the room and the check answer, as writing promises it.
use mathlib.Core.Path.{◌≡◌, refl, sym}
use mathlib.Core.Bool.{Bool, true, false, ◌&&◌}
use mathlib.Core.List.{List}
use Prim.Native.Nat.{ℕ, ◌+◌, ◌*◌, ◌/◌, ◌%◌, ◌<◌, ◌≤◌}
use Rattle.std.proofs.Common.{min}
use native.Mathlib.Decide.{dec_lt}
use native.Mathlib.Omega.{arith}
use lib.Dec.{leb}
use lib.ListN.{length}
use borrow.Author.Tests.{leb-true, leb-false}
use Rattle.std.specs.Prelude.{Err}
use Rattle.checker.specs.declared.refusal.Refusal.TheVariants.{Size}
use Rattle.problem.specs.Lent.{word_count, rule_count}
use Rattle.checker.specs.Demands.{Sized}
use Rattle.checker.specs.Tests.{sized}
use Rattle.checker.specs.Refusal.{refusal_with}
use Rattle.checker.proofs.Answers.{refused_size, refused_problem}
use Rattle.blocks.specs.Edition.{edition1}
use Rattle.blocks.specs.Written.{blocks_for, word_blocks, rule_blocks, encode}
use Rattle.blocks.specs.Promise.{Writes}
use Rattle.blocks.proofs.ReadBack.{length_encode}
use Rattle.checker.proofs.TestsMet.{sized_met}
use Rattle.writer.specs.Items.{room_for}

-- so many blocks, with what is left over in one more
pub words_up : (n : ℕ) {x : ℕ} → x ≡ n / 21 + min 1 (n % 21) → x ≡ blocks_for 21 n
unfolding blocks_for
words_up n e = omega arith

pub rules_up : (n : ℕ) {x : ℕ} → x ≡ n / 63 + min 1 (n % 63) → x ≡ blocks_for 63 n
unfolding blocks_for
rules_up n e = omega arith

module _ (limit : ℕ) (ws bs : List ℕ) where
  -- the file's own length
  abbrev need : ℕ
  need = 512 * (word_blocks edition1 (word_count ws) + rule_blocks edition1 (rule_count bs) + 1)

  -- more numbers than 32 words or 252 rules have
  over : ¬ Sized ws bs → refusal_with limit ws bs ≡ Err Size
  over n = go (sized ws bs) refl
    where
      go : (x : Bool) → sized ws bs ≡ x → refusal_with limit ws bs ≡ Err Size
      go true e = absurd (n (sized_met ws bs (rw e tt)))
      go false e = sym (refused_problem ws bs limit (sym (refused_size ws bs e)))

  module _ (f : List ℕ) where
    pub room : room_for (length ws) (length bs) (length f) ≡ true → length (encode edition1 limit ws bs) ≤ length f
    room e = go (leb (length ws) 96) (leb (length bs) 1512) e
      where
        go : (x y : Bool) → x && (y && leb need (length f)) ≡ true
            → length (encode edition1 limit ws bs) ≤ length f
        go true true e = omega (arith, leb-true need (length f) e, length_encode limit ws bs)
        go true false e = let z : ◌≡◌ {A = ℕ} 0 1 = cc in absurd (omega arith)
        go false y e = let z : ◌≡◌ {A = ℕ} 0 1 = cc in absurd (omega arith)

    pub no_room : room_for (length ws) (length bs) (length f) ≡ false → Writes edition1 limit ws bs f f (Err Size)
    no_room e = go (dec_lt (length f) (length (encode edition1 limit ws bs)))
      where
        sizes : length (encode edition1 limit ws bs) ≤ length f → ¬ Sized ws bs
        sizes h s = over_long (leb (length ws) 96) (leb (length bs) 1512) refl refl e
          where
            over_long : (x y : Bool) → leb (length ws) 96 ≡ x → leb (length bs) 1512 ≡ y
                → x && (y && leb need (length f)) ≡ false → ⊥
            over_long true true p q e = omega (arith, leb-false need (length f) e, length_encode limit ws bs)
            over_long true false p q e = omega (arith, leb-false (length bs) 1512 q, s.whole_rules, s.rules)
            over_long false y p q e = omega (arith, leb-false (length ws) 96 p, s.whole_words, s.words)

        go : Dec (length f < length (encode edition1 limit ws bs)) → Writes edition1 limit ws bs f f (Err Size)
        go (yes h) = Writes.size (λ l. omega arith) refl
        go (no h) = Writes.refused (omega arith) (over (sizes (omega arith))) refl
