-- A kind that goes by columns: what the sweep leaves of its frame is the hull of the fits at each place that it uses.
use Rattle.std.proofs.Common.{◌≡◌, ℕ, Bool, Option, not, ◌&&◌, ◌||◌, T}
use Rattle.std.specs.Bool.{then_some}
use Rattle.words.specs.Bits.{one}
use Rattle.rules.specs.Kinds.{Place, R, A, B, S}
use Rattle.rules.specs.Rows.{uses}
use Rattle.rules.specs.Meaning.{Shape}
use Rattle.rules.specs.Fits.{Uses, Legal, Fit, Hull}
use Rattle.hull.specs.declared.Auto.{Auto}
use Rattle.hull.specs.declared.Lanes.{Lanes}
use Rattle.hull.specs.Columns.{even, odd}
use Rattle.hull.specs.Runs.{lane_r, lane_a, lane_b}
use Rattle.hull.specs.ByColumns.{left_by}
use Rattle.problem.specs.Places.{Bounds, span_of, lo_of, hi_of}
use Rattle.hull.specs.Narrowing.{Leaves, Narrows}
use Rattle.hull.proofs.Decided.{narrows}
use Rattle.hull.proofs.OnlyUsed.{unpicked, hull_picked}
use Rattle.hull.proofs.Tied.{lane_hull}
use Rattle.hull.proofs.LeftStates.{fit_any, any_fit, s_hull}
use Rattle.hull.proofs.Frames.{ByColumns, frame, swept, tied}

module _ (σ : Shape) (t : Bounds) (u : Auto) (begin : Bool) where
  -- whether r and s are used
  abbrev c : Bool
  c = uses σ.kind R

  abbrev d : Bool
  d = uses σ.kind S

  -- whether s may be 0, and 1
  abbrev z : Bool
  z = even (frame σ t u begin).s.lo && (swept σ t u begin).live.zero

  abbrev e : Bool
  e = odd (frame σ t u begin).s.hi && (swept σ t u begin).live.one

  abbrev w : Lanes
  w = (swept σ t u begin).w

  abbrev pub swept_by : Option Bounds
  swept_by = then_some (z || e) (left_by c d z e w t)

  pub swept_narrows : ByColumns σ t u begin → Legal σ (span_of t) → Narrows σ (span_of t) swept_by
  swept_narrows x legal = narrows σ t left_over (z || e) (fit_any (tied σ t u begin x legal)) (λ some. owed some (any_fit (tied σ t u begin x legal) some))
    where
      left_over : Bounds
      left_over = left_by c d z e w t

      owed : T (z || e) → (f : Place → ℕ) × Fit σ (span_of t) f → Leaves σ (span_of t) left_over
      owed some (f, fit) = record { some = (f, fit); hull = hull; rest = rest }
        where
          hull : (p : Place) → Uses σ p → Hull σ (span_of t) p (lo_of left_over p) (hi_of left_over p)
          hull R used = hull_picked c t.r.lo t.r.hi used (lane_hull (tied σ t u begin x legal) lane_r used f fit)
          hull A used = lane_hull (tied σ t u begin x legal) lane_a used f fit
          hull B used = lane_hull (tied σ t u begin x legal) lane_b used f fit
          hull S used = hull_picked d t.s.lo t.s.hi used (s_hull (tied σ t u begin x legal) used some)

          rest : (p : Place) → ¬ Uses σ p → (lo_of left_over p ≡ lo_of t p) × (hi_of left_over p ≡ hi_of t p)
          rest R no_use = (unpicked c t.r.lo w.r.lo no_use, unpicked c t.r.hi w.r.hi no_use)
          rest A no_use = absurd (no_use x.use_a)
          rest B no_use = absurd (no_use x.use_b)
          rest S no_use = (unpicked d t.s.lo (one (not z)) no_use, unpicked d t.s.hi (one e) no_use)
