-- What is computed for each kind is the hull: the theorem of the fourteen kinds. And what each function asks of a rule follows from a legal one.
use Rattle.std.proofs.Common.{◌≡◌, ◌≢◌, ℕ, Option, T, refl, arith}
use Rattle.words.specs.Word.{Width}
use Rattle.rules.specs.Kinds.{R, A, B, COPY, NOT, AND, OR, XOR, ADD, ITE, SLICE, JOIN, SHL, SHR, ULE, ULT, NE, Kind, op, rel}
use Rattle.problem.specs.Places.{Widths, Bounds, width_of, shaped, shape_of, span_of}
use Rattle.rules.specs.Rows.{uses}
use Rattle.rules.specs.Fits.{Legal}
use Rattle.problem.specs.declared.kinds.Kind as kinds
use Rattle.problem.specs.declared.kinds.Kind.TheVariants as kind
use Rattle.problem.specs.Named.{kind_named}
use Rattle.problem.proofs.Readings.{uses_a}
use Rattle.hull.specs.ByColumns.{columns_of}
use Rattle.hull.specs.Narrowing.{narrowed_as, Narrows}
use Rattle.hull.proofs.Slices.{copy_narrows, slice_kind_narrows, shr_narrows}
use Rattle.hull.proofs.Inverts.{not_narrows}
use Rattle.hull.proofs.Shifts.{shl_narrows}
use Rattle.hull.proofs.Joins.{join_narrows}
use Rattle.hull.proofs.ColumnKinds.{and_narrows, or_narrows, xor_narrows, add_narrows, ite_narrows, ule_narrows, ult_narrows, ne_narrows}

-- SHL and SHR look at no more than that r and a are of one width: their k may be any
pub narrowed_hull : (κ : Kind) (k : ℕ) (w : Widths) (t : Bounds) → Legal (shaped κ k (width_of w)) (span_of t)
    → Narrows (shaped κ k (width_of w)) (span_of t) (narrowed_as κ k w t)
narrowed_hull (op COPY) k w t l = copy_narrows k (width_of w) t (l.width A tt).high (l.bounded A tt) l.fitting
narrowed_hull (op NOT) k w t l = not_narrows k (width_of w) t (l.bounded R tt) (rw l.fitting (l.bounded A tt))
narrowed_hull (op AND) k w t l = and_narrows k (width_of w) t l
narrowed_hull (op OR) k w t l = or_narrows k (width_of w) t l
narrowed_hull (op XOR) k w t l = xor_narrows k (width_of w) t l
narrowed_hull (op ADD) k w t l = add_narrows k (width_of w) t l
narrowed_hull (op ITE) k w t l = ite_narrows k (width_of w) t l
narrowed_hull (op SLICE) k w t l = slice_kind_narrows k (width_of w) t (l.width A tt).high (l.bounded A tt)
narrowed_hull (op JOIN) k w t l =
    join_narrows k (width_of w) t w.a (omega (arith, l.fitting, (l.width R tt).high)) (l.bounded A tt) (l.bounded B tt)
narrowed_hull (op SHL) k w t l = shl_narrows k (width_of w) t (l.width R tt).high (l.bounded A tt).under
narrowed_hull (op SHR) k w t l = shr_narrows k (width_of w) t (l.width A tt).high (l.bounded A tt) l.fitting
narrowed_hull (rel ULE) k w t l = ule_narrows k (width_of w) t l
narrowed_hull (rel ULT) k w t l = ult_narrows k (width_of w) t l
narrowed_hull (rel NE) k w t l = ne_narrows k (width_of w) t l

module _ (κ : kinds.Kind) (k : ℕ) (w : Widths) (t : Bounds) (legal : Legal (shape_of κ k w) (span_of t)) where
  -- what the code returns is what is computed for the kind
  pub told : (r : Option Bounds) → r ≡ narrowed_as (kind_named κ) k w t → Narrows (shape_of κ k w) (span_of t) r
  told r e = rw e (narrowed_hull (kind_named κ) k w t legal)

  -- the kinds of computing rules use r, and all kinds use a
  pub r_width : T (uses (kind_named κ) R) → Width w.r
  r_width u = legal.width R u

  pub a_width : Width w.a
  a_width = legal.width A (uses_a (kind_named κ))

  pub b_width : T (uses (kind_named κ) B) → Width w.b
  b_width u = legal.width B u

-- the kinds that move no bits go by columns
pub columns_told : (κ : kinds.Kind) (k : ℕ) (w : Widths) (t : Bounds)
    → κ ≢ kind.Copy → κ ≢ kind.Not → κ ≢ kind.Slice → κ ≢ kind.Join → κ ≢ kind.Shl → κ ≢ kind.Shr
    → columns_of (kind_named κ) w.a t ≡ narrowed_as (kind_named κ) k w t
columns_told kind.Copy k w t a b d e f g = absurd (a refl)
columns_told kind.Not k w t a b d e f g = absurd (b refl)
columns_told kind.And k w t a b d e f g = refl
columns_told kind.Or k w t a b d e f g = refl
columns_told kind.Xor k w t a b d e f g = refl
columns_told kind.Add k w t a b d e f g = refl
columns_told kind.Ite k w t a b d e f g = refl
columns_told kind.Slice k w t a b d e f g = absurd (d refl)
columns_told kind.Join k w t a b d e f g = absurd (e refl)
columns_told kind.Shl k w t a b d e f g = absurd (f refl)
columns_told kind.Shr k w t a b d e f g = absurd (g refl)
columns_told kind.Ule k w t a b d e f g = refl
columns_told kind.Ult k w t a b d e f g = refl
columns_told kind.Ne k w t a b d e f g = refl
