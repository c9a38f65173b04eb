-- To be believed: the numbers of the answers that are no refusals, for all calls. Refusals have the paper's own numbers, which are below 32.
use Rattle.std.specs.Prelude.{ℕ}
use Rattle.packing.specs.declared.Code.{Code}
use Rattle.packing.specs.declared.Code.TheVariants as code

abbrev pub FOUND : ℕ
FOUND = 32

abbrev pub NONE : ℕ
NONE = 33

abbrev pub GAVE_UP : ℕ
GAVE_UP = 34

abbrev pub OK : ℕ
OK = 35

abbrev pub TIGHT : ℕ
TIGHT = 36

abbrev pub CONFLICT : ℕ
CONFLICT = 37

abbrev pub FORCED : ℕ
FORCED = 38

abbrev pub FREE : ℕ
FREE = 39

abbrev pub EXISTS : ℕ
EXISTS = 40

abbrev pub CAUSE : ℕ
CAUSE = 41

-- the same by their names in the code
abbrev pub numbered : Code → ℕ
numbered code.Found = FOUND
numbered code.None = NONE
numbered code.GaveUp = GAVE_UP
numbered code.Ok = OK
numbered code.Tight = TIGHT
numbered code.Conflict = CONFLICT
numbered code.Forced = FORCED
numbered code.Free = FREE
numbered code.Exists = EXISTS
numbered code.Cause = CAUSE
