-- In the order by bits "or" is the least number above two numbers, and "and" the greatest below them.
use Prim.Native.Nat.{ℕ}
use native.Mathlib.Omega.{arith}
use lib.Bits.{bit_and, bit_or}
use Rattle.words.specs.Bits.{◌⊑◌}
use Rattle.words.proofs.Order.{⊑_trans}
use Rattle.words.proofs.Ops.{bit_and_lem, bit_or_lem}

pub ⊑_or_l : (a b : ℕ) → a ⊑ bit_or a b
⊑_or_l a b = record { bits = λ j. omega (arith, bit_or_lem j a b) }

pub ⊑_or_r : (a b : ℕ) → b ⊑ bit_or a b
⊑_or_r a b = record { bits = λ j. omega (arith, bit_or_lem j a b) }

pub or_⊑ : {a b c : ℕ} → a ⊑ c → b ⊑ c → bit_or a b ⊑ c
or_⊑ {a} {b} p q = record { bits = λ j. omega (arith, bit_or_lem j a b, p.bits j, q.bits j) }

pub and_⊑_l : (a b : ℕ) → bit_and a b ⊑ a
and_⊑_l a b = record { bits = λ j. omega (arith, bit_and_lem j a b) }

pub and_⊑_r : (a b : ℕ) → bit_and a b ⊑ b
and_⊑_r a b = record { bits = λ j. omega (arith, bit_and_lem j a b) }

pub ⊑_and : {a b c : ℕ} → c ⊑ a → c ⊑ b → c ⊑ bit_and a b
⊑_and {a} {b} p q = record { bits = λ j. omega (arith, bit_and_lem j a b, p.bits j, q.bits j) }

-- both keep the order
pub or_mono : {a b c d : ℕ} → a ⊑ c → b ⊑ d → bit_or a b ⊑ bit_or c d
or_mono {a} {b} {c} {d} p q = or_⊑ (⊑_trans p (⊑_or_l c d)) (⊑_trans q (⊑_or_r c d))

pub and_mono : {a c : ℕ} (m : ℕ) → a ⊑ c → bit_and a m ⊑ bit_and c m
and_mono {a} {c} m p = ⊑_and (⊑_trans (and_⊑_l a m) p) (and_⊑_r a m)
