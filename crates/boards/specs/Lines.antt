-- To be believed: what the adviser program prints for the files of boards G and H, as the paper has it, and what it means that `advise` puts such lines.
use Rattle.std.specs.Prelude.{◌≡◌, List, [], ◌∷◌, ◌++◌, ℕ, length, drop, Result, Ok}
use Rattle.tighten.specs.Memory.{Cleared}
use Rattle.checker.specs.declared.refusal.Refusal.{Refusal}
use Rattle.report.specs.Promise.{Lent, Advises}
use Rattle.boards.specs.Row.{Problem, bytes_of}

-- sat 2 / 0 2 10 / 1 2 01 / 2 2 11
abbrev pub lines_g : List ℕ
lines_g =
    115 ∷ 97 ∷ 116 ∷ 32 ∷ 50 ∷ 10
    ∷ 48 ∷ 32 ∷ 50 ∷ 32 ∷ 49 ∷ 48 ∷ 10
    ∷ 49 ∷ 32 ∷ 50 ∷ 32 ∷ 48 ∷ 49 ∷ 10
    ∷ 50 ∷ 32 ∷ 50 ∷ 32 ∷ 49 ∷ 49 ∷ 10 ∷ []

-- unsat 0 / cause 0 0 3
abbrev pub lines_h : List ℕ
lines_h = 117 ∷ 110 ∷ 115 ∷ 97 ∷ 116 ∷ 32 ∷ 48 ∷ 10 ∷ 99 ∷ 97 ∷ 117 ∷ 115 ∷ 101 ∷ 32 ∷ 48 ∷ 32 ∷ 48 ∷ 32 ∷ 51 ∷ 10 ∷ []

-- Given the problem's file, `advise` puts these lines. Whatever bytes and work memory of enough length are lent, every result that its promise allows is this
-- one: the answer is their length, they stand in front, the rest of the bytes stays as it was, and work memory is all 0
pub record PutFor (p : Problem) (limit : ℕ) (text : List ℕ) : Type 0 where
  pub answered : {out work out' work' : List ℕ} {r : Result ℕ Refusal} → Lent out work → Advises (bytes_of p limit) out work r out' work'
      → (r ≡ Ok (length text)) × (out' ≡ text ++ drop (length text) out) × Cleared work work'
