use Rattle.std.proofs.Common.{◌≡◌, refl, false, slice_index_or}
use denote.Enum.Declared.{tag_of}
use Rattle.rules.specs.Rows.{class}
use Rattle.problem.specs.declared.kinds.Kind.{Kind}
use Rattle.problem.specs.declared.kinds.Kind.TheVariants as kind
use Rattle.problem.specs.declared.kinds.Class.TheVariants.{EqualRA}
use Rattle.problem.specs.contracts.kinds.Kind.{the_type}
use Rattle.problem.specs.declared.kinds.TheConstants.{ROWS}
use Rattle.problem.specs.declared.kinds.Row.{Row}
use Rattle.problem.specs.Named.{kind_named, class_named}
use Rattle.problem.proofs.kinds.Kind.class.Goals as goal

-- the row of each kind
right : (κ : Kind) → class_named (slice_index_or {A = Row} ROWS (tag_of the_type κ) (EqualRA, false, false, false, false, false)).0 ≡ class (kind_named κ)
right kind.Copy = refl
right kind.Not = refl
right kind.And = refl
right kind.Or = refl
right kind.Xor = refl
right kind.Add = refl
right kind.Ite = refl
right kind.Slice = refl
right kind.Join = refl
right kind.Shl = refl
right kind.Shr = refl
right kind.Ule = refl
right kind.Ult = refl
right kind.Ne = refl

pub returns : goal.returns
returns c = right c.args.self
