-- To be believed: the numbered list of refusals, each with its number and its place.
use Rattle.std.specs.Prelude.{ℕ}
use Rattle.checker.specs.declared.refusal.Refusal.{Refusal}
use Rattle.checker.specs.declared.refusal.Refusal.TheVariants.{Size, Check, Layout, Width, Table, Kind, Field, Fit, Limit, Ask, Empty}
use Rattle.checker.specs.Demands.{Demand, SIZE, WIDTH, TABLE, KIND, FIELD, FIT, LIMIT}

abbrev pub number_of : Refusal → ℕ
number_of Size = 1
number_of (Check i) = 2
number_of (Layout i) = 3
number_of (Width i) = 4
number_of (Table i) = 5
number_of (Kind n) = 6
number_of (Field n) = 7
number_of (Fit n) = 8
number_of Limit = 9
number_of Ask = 10
number_of Empty = 11

-- a block for 2 and 3, a word for 4 and 5, a rule for 6 to 8, else 0
abbrev pub place_of : Refusal → ℕ
place_of Size = 0
place_of (Check i) = i
place_of (Layout i) = i
place_of (Width i) = i
place_of (Table i) = i
place_of (Kind n) = n
place_of (Field n) = n
place_of (Fit n) = n
place_of Limit = 0
place_of Ask = 0
place_of Empty = 0

-- what refuses a problem that does not meet a demand
abbrev pub refusal_of : Demand → Refusal
refusal_of SIZE = Size
refusal_of (WIDTH i) = Width i
refusal_of (TABLE i) = Table i
refusal_of (KIND n) = Kind n
refusal_of (FIELD n) = Field n
refusal_of (FIT n) = Fit n
refusal_of LIMIT = Limit
