-- To be believed: the kinds, the places and the classes by their names in the code, and the numbers that are read as kinds and places.
use Rattle.std.specs.Prelude.{◌≡◌, ℕ, ◌<◌, Result, MatchResult}
use Rattle.rules.specs.Kinds as rules
use Rattle.rules.specs.Kinds.{op, rel, kind_of}
use Rattle.rules.specs.Rows as rows
use Rattle.rules.specs.ProperProblem.{KindNumber}
use Rattle.problem.specs.declared.kinds.Kind.{Kind}
use Rattle.problem.specs.declared.kinds.Kind.TheVariants as kind
use Rattle.problem.specs.declared.kinds.Place.{Place}
use Rattle.problem.specs.declared.kinds.Place.TheVariants as place
use Rattle.problem.specs.declared.kinds.Class.{Class}
use Rattle.problem.specs.declared.kinds.Class.TheVariants as class
use Rattle.problem.specs.declared.kinds.UnknownKind.{UnknownKind}
use Rattle.problem.specs.declared.kinds.UnknownPlace.{UnknownPlace}

abbrev pub kind_named : Kind → rules.Kind
kind_named kind.Copy = op rules.COPY
kind_named kind.Not = op rules.NOT
kind_named kind.And = op rules.AND
kind_named kind.Or = op rules.OR
kind_named kind.Xor = op rules.XOR
kind_named kind.Add = op rules.ADD
kind_named kind.Ite = op rules.ITE
kind_named kind.Slice = op rules.SLICE
kind_named kind.Join = op rules.JOIN
kind_named kind.Shl = op rules.SHL
kind_named kind.Shr = op rules.SHR
kind_named kind.Ule = rel rules.ULE
kind_named kind.Ult = rel rules.ULT
kind_named kind.Ne = rel rules.NE

abbrev pub place_named : Place → rules.Place
place_named place.R = rules.R
place_named place.A = rules.A
place_named place.B = rules.B
place_named place.S = rules.S

abbrev pub class_named : Class → rows.Class
class_named class.EqualRA = rows.equal_r_a
class_named class.EqualRAB = rows.equal_r_a_b
class_named class.Chosen = rows.chosen
class_named class.Part = rows.part
class_named class.Joined = rows.joined
class_named class.EqualAB = rows.equal_a_b

-- a number is read as the kind that has it, and any other is named
abbrev pub KindRead : ℕ → Result Kind UnknownKind → Type 0
KindRead n r = MatchResult r (λ κ. KindNumber n × (kind_named κ ≡ kind_of n)) (λ e. (e.0 ≡ n) × ¬ KindNumber n)

-- the number of a place
abbrev pub place_number : Place → ℕ
place_number place.R = 0
place_number place.A = 1
place_number place.B = 2
place_number place.S = 3

abbrev pub PlaceRead : ℕ → Result Place UnknownPlace → Type 0
PlaceRead n r = MatchResult r (λ p. place_number p ≡ n) (λ e. (e.0 ≡ n) × (3 < n))
