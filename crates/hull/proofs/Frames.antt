-- A kind that goes by columns: its fits are the runs of its automaton between the bounds of its frame.
use Rattle.std.proofs.Common.{◌≡◌, ℕ, Bool, T, ◌↔◌, sym, refl, ◌∙◌, arith}
use Rattle.words.specs.Bits.{one, ◌⊑◌}
use Rattle.words.specs.Word.{Bounded}
use Rattle.words.proofs.Order.{⊑_le, ⊑_antisym}
use Rattle.rules.specs.Kinds.{Place, R, A, B, S}
use Rattle.rules.specs.Rows.{uses}
use Rattle.rules.specs.Meaning.{Shape, Holds}
use Rattle.rules.specs.Fits.{Uses, Legal, Fit}
use Rattle.rules.proofs.Used.{only_used}
use Rattle.hull.specs.declared.Auto.{Auto}
use Rattle.hull.specs.declared.Swept.{Swept}
use Rattle.hull.specs.Columns.{even, odd, keep_if, sweep_of}
use Rattle.hull.specs.Runs.{Lane, lane_r, lane_a, lane_b, lo, hi, pick, Runs, RunIn}
use Rattle.hull.specs.ByColumns.{lanes_of, framed_by}
use Rattle.problem.specs.Places.{Bounds, span_of, lo_of, hi_of}
use Rattle.hull.proofs.Size.{Below, small_of}
use Rattle.lists.proofs.Bools.{beq_eq}
use Rattle.hull.proofs.LowBit.{as_bit, one_inj, may_be→, may_be←}
use Rattle.hull.proofs.Meaning.{Under}
use Rattle.hull.proofs.OnlyUsed.{kept, picked, unpicked, keep_in, pick_in, keep_bounded, pick_bounded}
use Rattle.hull.proofs.Tied.{place, values, Spelt, Tied}

module _ (σ : Shape) (t : Bounds) (u : Auto) (begin : Bool) where
  -- what such a kind owes: it reads a and b, columns of one width, and a run of its automaton u means what the kind says;
  -- a run begins in the state s, or in a state of its own where s is not used
  pub record ByColumns : Type 0 where
    pub use_a : Uses σ A
    pub use_b : Uses σ B
    pub level : (p : Lane) → Uses σ (place p) → σ.width (place p) ≡ σ.width A
    pub one_bit : Uses σ S → σ.width S ≡ 1
    pub means : (q : Bool) → (¬ Uses σ S → q ≡ begin) → (v : Lane → ℕ) → Under (σ.width A) v
        → Runs u (σ.width A) q v ↔ Holds σ.kind σ.width σ.k (values q v)

  abbrev n : ℕ
  n = σ.width A

  -- whether r and s are used
  abbrev c : Bool
  c = uses σ.kind R

  abbrev d : Bool
  d = uses σ.kind S

  abbrev pub frame : Bounds
  frame = framed_by c d begin t

  abbrev pub swept : Swept
  swept = sweep_of u n (even frame.s.lo) (odd frame.s.hi) (lanes_of frame)

  module _ (x : ByColumns) (legal : Legal σ (span_of t)) where
    bounds_at : (p : Lane) → Uses σ (place p) → Bounded n (lo_of t (place p)) (hi_of t (place p))
    bounds_at p used = rw (x.level p used) at (legal.bounded (place p) used)

    small : Below n (lanes_of frame)
    small lane_r = small_of (keep_bounded c (bounds_at lane_r))
    small lane_a = small_of (bounds_at lane_a x.use_a)
    small lane_b = small_of (bounds_at lane_b x.use_b)

    one_bit : Bounded 1 frame.s.lo frame.s.hi
    one_bit = pick_bounded d begin (λ used. rw (x.one_bit used) at (legal.bounded S used))

    -- s may be q, by the bounds of the frame
    abbrev may_be : Bool → Bool
    may_be q = pick q (even frame.s.lo) (odd frame.s.hi)

    begun : (q : Bool) → T (may_be q) → ¬ Uses σ S → q ≡ begin
    begun q m no_use =
        let (l, h) = may_be→ one_bit q m in
        let e : one q ≡ one begin = ⊑_antisym (rw (unpicked d (one begin) t.s.hi no_use) at h) (rw (unpicked d (one begin) t.s.lo no_use) at l) in
        beq_eq q begin (one_inj q begin e)

    abbrev lane_of : (Place → ℕ) → Lane → ℕ
    lane_of f lane_r = keep_if c (f R)
    lane_of f lane_a = f A
    lane_of f lane_b = f B

    spelt : (f : Place → ℕ) → Fit σ (span_of t) f → Spelt σ u n (even frame.s.lo) (odd frame.s.hi) (lanes_of frame) f
    spelt f fit = go (as_bit (pick d (one begin) (f S)) (omega (arith, ⊑_le _ _ s_to, one_bit.below)))
      where
        s_to : pick d (one begin) (f S) ⊑ frame.s.hi
        s_to = pick_in d (one begin) (fit.to S)

        from : (p : Lane) → lo p (lanes_of frame) ⊑ lane_of f p
        from lane_r = keep_in c (fit.from R)
        from lane_a = fit.from A x.use_a
        from lane_b = fit.from B x.use_b

        to : (p : Lane) → lane_of f p ⊑ hi p (lanes_of frame)
        to lane_r = keep_in c (fit.to R)
        to lane_a = fit.to A x.use_a
        to lane_b = fit.to B x.use_b

        same : (p : Lane) → Uses σ (place p) → lane_of f p ≡ f (place p)
        same lane_r used = kept c (f R) used
        same lane_a used = refl
        same lane_b used = refl

        go : (q : Bool) × (pick d (one begin) (f S) ≡ one q) → Spelt σ u n (even frame.s.lo) (odd frame.s.hi) (lanes_of frame) f
        go (q, e) = record {
          state = q;
          begins = m;
          value = lane_of f;
          run = record { runs = (x.means q (begun q m) (lane_of f) below).1 holds; from = from; to = to };
          same = same;
          choice = choice;
        }
          where
            m : T (may_be q)
            m = may_be← q (rw e at (pick_in d (one begin) (fit.from S))) (rw e at s_to)

            below : Under n (lane_of f)
            below p = omega (arith, ⊑_le _ _ (to p), (small p).1)

            choice : Uses σ S → f S ≡ one q
            choice used = sym (picked d (one begin) (f S) used) ∙ e

            all : (p : Place) → T (uses σ.kind p) → f p ≡ values q (lane_of f) p
            all R used = sym (kept c (f R) used)
            all A used = refl
            all B used = refl
            all S used = choice used

            holds : Holds σ.kind σ.width σ.k (values q (lane_of f))
            holds = only_used σ.kind σ.width σ.k f (values q (lane_of f)) all fit.holds

    fit_of : (q : Bool) (v : Lane → ℕ) → T (may_be q) → RunIn u n q (lanes_of frame) v → Fit σ (span_of t) (values q v)
    fit_of q v m r = record { from = from; to = to; holds = (x.means q (begun q m) v (λ p. omega (arith, ⊑_le _ _ (r.to p), (small p).1))).0 r.runs }
      where
        from : (p : Place) → Uses σ p → lo_of t p ⊑ values q v p
        from R used = rw (kept c t.r.lo used) at (r.from lane_r)
        from A used = r.from lane_a
        from B used = r.from lane_b
        from S used = rw (picked d (one begin) t.s.lo used) at (may_be→ one_bit q m).0

        to : (p : Place) → Uses σ p → values q v p ⊑ hi_of t p
        to R used = rw (kept c t.r.hi used) at (r.to lane_r)
        to A used = r.to lane_a
        to B used = r.to lane_b
        to S used = rw (picked d (one begin) t.s.hi used) at (may_be→ one_bit q m).1

    pub tied : Tied σ (span_of t) u n (even frame.s.lo) (odd frame.s.hi) (lanes_of frame)
    tied = record { small = small; into = spelt; back = fit_of }
