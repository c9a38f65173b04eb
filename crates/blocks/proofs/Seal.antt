-- The check of a block: a sealed block is sound, and a sound block is the seal of itself without its check.
use Rattle.std.proofs.Common.{◌≡◌, ℕ, ◌+◌, ◌-◌, ◌*◌, ◌/◌, ◌%◌, ◌<◌, ◌≤◌, ◌≢◌}
use Rattle.std.proofs.Common.{List, length, set, ◌∙◌, arith, length-set, get_or-set_other, get_or-set_same, set-set}
use lib.Seq.{set_comm, set-get_or}
use Rattle.lists.specs.Lists.{at, Under}
use Rattle.blocks.specs.Block.{sixteen, sum, Sound}
use Rattle.blocks.specs.Written.{seal}
use Rattle.lists.proofs.Pieces.{total_one}

-- a block with its two check bytes set
abbrev pub checked : List ℕ → ℕ → ℕ → List ℕ
checked b x y = set (set b 6 x) 7 y

module _ (b : List ℕ) (long : 8 ≤ length b) (x y : ℕ) where
  at_six : at (checked b x y) 6 ≡ x
  at_six = get_or-set_other (set b 6 x) 7 6 y 0 (λ e. omega arith) ∙ get_or-set_same b 6 x 0 (omega arith)

  at_seven : at (checked b x y) 7 ≡ y
  at_seven = get_or-set_same (set b 6 x) 7 y 0 (simp length-set (omega arith))

  pub at_other : (j : ℕ) → j ≢ 6 → j ≢ 7 → at (checked b x y) j ≡ at b j
  at_other j p q = get_or-set_other (set b 6 x) 7 j y 0 q ∙ get_or-set_other b 6 j x 0 p

  sum_checked : sum (checked b x y) + at b 6 + 256 * at b 7 ≡ sum b + x + 256 * y
  unfolding sum
  sum_checked =
      let e = total_one 256 (sixteen (checked b x y)) (sixteen b) 3 (omega arith)
      (λ j n. rw (at_other (2 * j) (λ z. n (omega arith)) (λ z. omega arith), at_other (2 * j + 1) (λ z. omega arith) (λ z. n (omega arith)))) in
      omega (arith, at_six, at_seven)

pub seal_sound : (b : List ℕ) → 8 ≤ length b → at b 6 ≡ 0 → at b 7 ≡ 0 → Sound (seal b)
unfolding seal
seal_sound b long p q =
    record { makes = omega (arith, sum_checked b long ((65535 - sum b % 65536) % 256) ((65535 - sum b % 65536) / 256)) }

lacks : (s t x y : ℕ) → x < 256 → y < 256 → s + x + 256 * y ≡ t + 0 + 256 * 0 → t % 65536 ≡ 65535 → 65535 - s % 65536 ≡ x + 256 * y
lacks s t x y p q e h = omega arith

low : (x y : ℕ) → x < 256 → (x + 256 * y) % 256 ≡ x
low x y p = omega arith

high : (x y : ℕ) → x < 256 → (x + 256 * y) / 256 ≡ y
high x y p = omega arith

-- a sound block is the seal of itself with no check
pub seal_blank : (b : List ℕ) → 8 ≤ length b → Under 256 b → Sound b → seal (checked b 0 0) ≡ b
unfolding seal
seal_blank b long u s =
    let e = lacks (sum (checked b 0 0)) (sum b) (at b 6) (at b 7) (u.each 6) (u.each 7) (sum_checked b long 0 0) s.makes in
    rw (e, low (at b 6) (at b 7) (u.each 6), high (at b 6) (at b 7) (u.each 6)) (back b long)
  where
    back : (b : List ℕ) → 8 ≤ length b → set (set (checked b 0 0) 6 (at b 6)) 7 (at b 7) ≡ b
    back b long =
        rw (
          set_comm (set b 6 0) 7 6 0 (at b 6) (λ e. omega arith),
          set-set b 6 0 (at b 6),
          set-get_or b 6 0,
          set-set b 7 0 (at b 7),
          set-get_or b 7 0,
        )
