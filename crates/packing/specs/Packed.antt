-- To be believed: answers as one number: the answer's own number in bits 0 to 7; its place, count, value, limit or length in bits 8 to 39; and above them how
-- many entries or records there are.
use Rattle.std.specs.Prelude.{◌≡◌, ℕ, ◌+◌, ◌*◌, ◌/◌, ◌%◌, ◌<◌, Result, Ok, Err}
use Rattle.checker.specs.declared.refusal.Refusal.{Refusal}
use Rattle.checker.specs.Refusals.{number_of, place_of}
use Rattle.tighten.specs.declared.Answer.{Answer}
use Rattle.solve.specs.declared.Solved.{Solved}
use Rattle.explain.specs.declared.Explained.{Explained}
use Rattle.cause.specs.declared.Caused.{Caused}
use Rattle.blocks.specs.declared.Problem.{Problem}
use Rattle.packing.specs.declared.Parts.{Parts}
use Rattle.packing.specs.Numbers.{FOUND, NONE, GAVE_UP, OK, TIGHT, CONFLICT, FORCED, FREE, EXISTS, CAUSE}

abbrev pub parts : ℕ → ℕ → ℕ → Parts
parts n c m = record { number = n; count = c; more = m }

abbrev pub packed : Parts → ℕ
packed p = p.number + 256 * p.count + 1099511627776 * p.more

-- the same taken apart
abbrev pub unpacked : ℕ → Parts
unpacked r = parts (r % 256) (r / 256 % 4294967296) (r / 1099511627776)

-- each part within its bits
pub record Within (p : Parts) : Type 0 where
  pub number : p.number < 256
  pub count : p.count < 4294967296
  pub more : p.more < 16777216

-- a call that promises P of its answer returns the answer's parts, each within its bits, as one number
pub record Returns {A : Type 0} (P : A → Type 0) (parts_of : A → Parts) (r : ℕ) : Type 0 where
  pub answer : A
  pub promised : P answer
  pub within : Within (parts_of answer)
  pub number : r ≡ packed (parts_of answer)

-- ---- the parts of the answers that are no refusals

abbrev pub passed : Unit {0} → Parts
passed t = parts OK 0 0

abbrev pub tight_or_not : Answer → Parts
tight_or_not Answer.Tight = parts TIGHT 0 0
tight_or_not Answer.Conflict = parts CONFLICT 0 0

abbrev pub settings : Solved → Parts
settings (Solved.Found g) = parts FOUND g 0
settings (Solved.Nothing g) = parts NONE g 0
settings (Solved.GaveUp g) = parts GAVE_UP g 0

-- for a reason its entries, and with FORCED the bit's value
abbrev pub reason : Explained → Parts
reason (Explained.Conflict c) = parts CONFLICT 0 c
reason (Explained.Forced b c) = parts FORCED b c
reason Explained.Free = parts FREE 0 0

-- the sum of the guesses, and for a cause its entries
abbrev pub named : Caused → Parts
named (Caused.Exists g) = parts EXISTS g 0
named (Caused.GaveUp g) = parts GAVE_UP g 0
named (Caused.Cause g c) = parts CAUSE g c

-- the limit, the number of words in bits 40 to 47 and of rules above
abbrev pub counts : Problem → Parts
counts x = parts OK x.limit (x.words + 256 * x.rules)

-- the length of a file or of lines
abbrev pub long : ℕ → Parts
long k = parts OK k 0

-- ---- the parts of what each call returns: its answer, or a refusal by its number and place

abbrev pub returned : {A : Type 0} → (A → Parts) → Result A Refusal → Parts
returned f (Ok x) = f x
returned f (Err r) = parts (number_of r) (place_of r) 0

abbrev pub checked : Result (Unit {0}) Refusal → Parts
checked = returned passed

abbrev pub tightened : Result Answer Refusal → Parts
tightened = returned tight_or_not

abbrev pub solved : Result Solved Refusal → Parts
solved = returned settings

abbrev pub explained : Result Explained Refusal → Parts
explained = returned reason

abbrev pub caused : Result Caused Refusal → Parts
caused = returned named

abbrev pub read : Result Problem Refusal → Parts
read = returned counts

abbrev pub written : Result ℕ Refusal → Parts
written = returned long

abbrev pub advised : Result ℕ Refusal → Parts
advised = returned long

-- a refusal: its number is below 32, its place below 252
pub record SmallRefusal (r : Refusal) : Type 0 where
  pub number : number_of r < 32
  pub place : place_of r < 252
