-- A kind that moves bits of a alone into r: what it owes, over a only.
use Rattle.std.proofs.Common.{◌≡◌, ℕ, T, refl}
use lib.Bits.{bit_and, bit_or}
use Rattle.words.specs.Bits.{◌⊑◌}
use Rattle.words.proofs.Order.{⊑_refl}
use Rattle.rules.specs.Kinds.{Place, B, S, Op, op}
use Rattle.rules.specs.Rows.{row, operand}
use Rattle.rules.specs.Meaning.{result}
use Rattle.hull.specs.Moves.{met}
use Rattle.problem.specs.Places.{Bounds, shaped, span_of}
use Rattle.hull.specs.Narrowing.{Narrows}
use Rattle.hull.proofs.Moving.{Moved, moved_narrows}

module _ (o : Op) (k : ℕ) (w : Place → ℕ) (t : Bounds) (no_b : ¬ T (operand (row o) B)) (no_s : ¬ T (operand (row o) S)) (get : ℕ → ℕ) (into : ℕ → ℕ → ℕ) where
  pub record Alone : Type 0 where
    pub proper : t.a.lo ⊑ t.a.hi
    pub says : {a : ℕ} (b s : ℕ) → a ⊑ t.a.hi → result o w k a b s ≡ get a
    pub get_mono : {a a' : ℕ} → a ⊑ a' → a' ⊑ t.a.hi → get a ⊑ get a'
    pub into_mono : {a a' r r' : ℕ} → a ⊑ a' → a' ⊑ t.a.hi → r ⊑ r' → r' ⊑ get t.a.hi → into a r ⊑ into a' r'
    pub back : {a : ℕ} → a ⊑ t.a.hi → into a (get a) ≡ a
    pub reached : {a r : ℕ} → a ⊑ t.a.hi → r ⊑ get t.a.hi → get (into a r) ≡ r

  moved : Alone → Moved o k w t no_s (λ a b. get a) into (λ b r. b)
  moved x = record {
    proper = record { a_in = x.proper; b_in = λ u. absurd (no_b u); a_top = ⊑_refl _; b_top = λ u. absurd (no_b u) };
    says = λ {a} {b} s q. x.says b s q.a_top;
    get_mono = λ q. x.get_mono q.a_in q.a_top;
    a_mono = λ q n l. x.into_mono q.a_in q.a_top n l;
    b_mono = λ u. absurd (no_b u);
    a_back = λ q. x.back q.a_top;
    b_back = λ u. absurd (no_b u);
    b_rest = λ b r n. refl;
    reached = λ q l. x.reached q.a_top l;
  }

  pub alone_narrows : Alone
      → Narrows (shaped (op o) k w) (span_of t) (met into t (bit_or t.r.lo (get t.a.lo)) (bit_and t.r.hi (get t.a.hi)))
  alone_narrows x = moved_narrows o k w t no_s (λ a b. get a) into (λ b r. b) (moved x)
