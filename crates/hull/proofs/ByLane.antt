-- One lane of the three: its columns as masks, its bounds without their lowest bit, and with one more bit below.
use Rattle.std.proofs.Common.{◌≡◌, ℕ, ◌/◌, Bool, true, false, eqb, refl}
use mathlib.Core.Bool.{beq}
use lib.Bits.{bit_and}
use Rattle.words.specs.Bits.{bit}
use Rattle.hull.specs.declared.Lanes.{Lanes}
use Rattle.hull.specs.Columns.{nz, push, halves_of, widened}
use Rattle.hull.specs.Runs.{Lane, lane_r, lane_a, lane_b, lo, hi, has}
use Rattle.lists.proofs.Bools.{at4, beq_eq}
use Rattle.hull.proofs.Masks.{col}

-- the columns with the bit b at lane p
abbrev pub columns : Lane → Bool → ℕ
columns lane_r false = 15
columns lane_r true = 240
columns lane_a false = 51
columns lane_a true = 204
columns lane_b false = 85
columns lane_b true = 170

pub has_columns : (p : Lane) (b : Bool) (c : Lane → Bool) → has (columns p b) c ≡ beq (c p) b
unfolding bit
has_columns lane_r b c = beq_eq _ _ (at4 (λ b x y z. beq (has (columns lane_r b) (col x y z)) (beq x b)) tt b (c lane_r) (c lane_a) (c lane_b))
has_columns lane_a b c = beq_eq _ _ (at4 (λ b x y z. beq (has (columns lane_a b) (col x y z)) (beq y b)) tt b (c lane_r) (c lane_a) (c lane_b))
has_columns lane_b b c = beq_eq _ _ (at4 (λ b x y z. beq (has (columns lane_b b) (col x y z)) (beq z b)) tt b (c lane_r) (c lane_a) (c lane_b))

pub lo_half : (p : Lane) (w : Lanes) → lo p (halves_of w) ≡ lo p w / 2
lo_half lane_r w = refl
lo_half lane_a w = refl
lo_half lane_b w = refl

pub hi_half : (p : Lane) (w : Lanes) → hi p (halves_of w) ≡ hi p w / 2
hi_half lane_r w = refl
hi_half lane_a w = refl
hi_half lane_b w = refl

pub lo_widened : (p : Lane) (s : ℕ) (w : Lanes) → lo p (widened s w) ≡ push (lo p w) (eqb (bit_and s (columns p false)) 0)
unfolding widened
lo_widened lane_r s w = refl
lo_widened lane_a s w = refl
lo_widened lane_b s w = refl

pub hi_widened : (p : Lane) (s : ℕ) (w : Lanes) → hi p (widened s w) ≡ push (hi p w) (nz (bit_and s (columns p true)))
unfolding widened
hi_widened lane_r s w = refl
hi_widened lane_a s w = refl
hi_widened lane_b s w = refl
