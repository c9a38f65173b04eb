-- To be believed: what each kind means, through the numbers of its places. That this is SMT-LIB's meaning is shown against `SmtLib`.
use Rattle.std.specs.Prelude.{◌≡◌, ◌≢◌, ℕ, zero, suc, ◌+◌, ◌*◌, ◌/◌, ◌%◌, ◌^◌, ◌≤◌, ◌<◌, ◌-◌}
use Rattle.std.specs.Int.Bits.{bit_and, bit_or, bit_xor}
use Rattle.rules.specs.Kinds.{Place, R, A, B, S, Op, COPY, NOT, AND, OR, XOR, ADD, ITE, SLICE, JOIN, SHL, SHR, Rel, ULE, ULT, NE, Kind, op, rel}

-- a rule apart from its words: its kind, its number k, and the widths of its places
pub record Shape : Type 0 where
  pub kind : Kind
  pub k : ℕ
  pub width : Place → ℕ

-- a if s is 1, else b
abbrev pub choose : ℕ → ℕ → ℕ → ℕ
choose zero a b = b
choose (suc s) a b = a

-- what a kind computes of a, b and s, at its number k and the widths w of its places; a shift by the width or more gives 0
abbrev pub result : Op → (Place → ℕ) → ℕ → ℕ → ℕ → ℕ → ℕ
result COPY w k a b s = a
result NOT w k a b s = 2 ^ w R - 1 - a
result AND w k a b s = bit_and a b
result OR w k a b s = bit_or a b
result XOR w k a b s = bit_xor a b
result ADD w k a b s = (a + b) % 2 ^ w R
result ITE w k a b s = choose s a b
result SLICE w k a b s = a / 2 ^ k % 2 ^ w R
result JOIN w k a b s = a * 2 ^ w B + b
result SHL w k a b s = a * 2 ^ k % 2 ^ w R
result SHR w k a b s = a / 2 ^ k

abbrev pub Compares : Rel → ℕ → ℕ → Type 0
Compares ULE a b = a ≤ b
Compares ULT a b = a < b
Compares NE a b = a ≢ b

-- what a kind says of the values f at its places
abbrev pub Holds : Kind → (Place → ℕ) → ℕ → (Place → ℕ) → Type 0
Holds (op o) w k f = f R ≡ result o w k (f A) (f B) (f S)
Holds (rel x) w k f = Compares x (f A) (f B)
