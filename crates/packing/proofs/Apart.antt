-- An answer's number taken apart gives its parts, and one answer has one number.
use mathlib.Core.Path.{◌≡◌, sym, ap, ◌∙◌}
use Prim.Native.Nat.{ℕ, ◌/◌, ◌%◌}
use native.Mathlib.Omega.{arith}
use Rattle.packing.specs.declared.Parts.{Parts}
use Rattle.packing.specs.Packed.{parts, packed, unpacked, Within, Returns}

-- the parts in one number, each at its bits
pub packed_apart : (p : Parts) → Within p → unpacked (packed p) ≡ p
packed_apart p h =
    go (packed p % 256) (packed p / 256 % 4294967296) (packed p / 1099511627776) (omega (arith, h.number)) (omega (arith, h.number, h.count))
    (omega (arith, h.number, h.count))
  where
    go : (n c m : ℕ) → n ≡ p.number → c ≡ p.count → m ≡ p.more → parts n c m ≡ p
    go n c m a b d = rw (a, b, d)

-- what a call returns: its answer x, packed
pub returning : {A : Type 0} {P : A → Type 0} {parts_of : A → Parts} {r : ℕ} (x : A) → P x → Within (parts_of x) → r ≡ packed (parts_of x)
    → Returns P parts_of r
returning x p w n = record { answer = x; promised = p; within = w; number = n }

-- what comes back, taken apart, is the answer
pub returned_apart : {A : Type 0} {P : A → Type 0} {parts_of : A → Parts} {r : ℕ} (x : Returns P parts_of r) → unpacked r ≡ parts_of x.answer
returned_apart {parts_of = parts_of} x = ap unpacked x.number ∙ packed_apart (parts_of x.answer) x.within

-- one answer has one number
pub returned_same : {A : Type 0} {P Q : A → Type 0} {parts_of : A → Parts} {r s : ℕ} (a : Returns P parts_of r) (b : Returns Q parts_of s)
    → a.answer ≡ b.answer → r ≡ s
returned_same {parts_of = parts_of} a b same = a.number ∙ ap (λ x. packed (parts_of x)) same ∙ sym b.number
