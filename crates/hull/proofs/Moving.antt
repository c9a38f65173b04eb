-- A kind that only moves bits of its operands into r has a least and a greatest fit, if it has one: these are the hull.
-- `get` is what r gets from a and b; `into_a` and `into_b` put a value of r back into an operand and leave its other bits as they were.
use Rattle.std.proofs.Common.{◌≡◌, ℕ, T, sym, refl, ap, ◌∙◌}
use lib.Bits.{bit_and, bit_or}
use Rattle.words.specs.Bits.{under, ◌⊑◌}
use Rattle.words.proofs.Order.{⊑_refl, ⊑_trans}
use Rattle.words.proofs.Ops.{under_sound, under_complete}
use Rattle.words.proofs.Meets.{⊑_or_l, ⊑_or_r, or_⊑, and_⊑_l, and_⊑_r, ⊑_and}
use Rattle.rules.specs.Kinds.{Place, R, A, B, S, Op, op}
use Rattle.rules.specs.Rows.{row, operand}
use Rattle.rules.specs.Meaning.{Shape, result}
use Rattle.rules.specs.Fits.{Uses, Fit}
use Rattle.std.specs.Bool.{then_some}
use Rattle.hull.specs.Moves.{with_rab}
use Rattle.problem.specs.Places.{Bounds, shaped, span_of, lo_of, hi_of}
use Rattle.hull.specs.Narrowing.{Narrows}
use Rattle.hull.proofs.Decided.{ends_owed, narrows}

module _ (o : Op) (k : ℕ) (w : Place → ℕ) (t : Bounds) (no_s : ¬ T (operand (row o) S)) (get : ℕ → ℕ → ℕ) (into_a into_b : ℕ → ℕ → ℕ) where
  abbrev UseB : Type 0
  UseB = T (operand (row o) B)

  -- operands a and b, in order by bits and under their high bounds
  pub record Ordered (a b a' b' : ℕ) : Type 0 where
    pub a_in : a ⊑ a'
    pub b_in : UseB → b ⊑ b'
    pub a_top : a' ⊑ t.a.hi
    pub b_top : UseB → b' ⊑ t.b.hi

  -- what such a kind owes, for operands under their bounds and values of r that they can give
  pub record Moved : Type 0 where
    pub proper : Ordered t.a.lo t.b.lo t.a.hi t.b.hi
    pub says : {a b : ℕ} (s : ℕ) → Ordered a b a b → result o w k a b s ≡ get a b
    pub get_mono : {a b a' b' : ℕ} → Ordered a b a' b' → get a b ⊑ get a' b'
    pub a_mono : {a b a' b' r r' : ℕ} → Ordered a b a' b' → r ⊑ r' → r' ⊑ get t.a.hi t.b.hi → into_a a r ⊑ into_a a' r'
    pub b_mono : {a b a' b' r r' : ℕ} → UseB → Ordered a b a' b' → r ⊑ r' → r' ⊑ get t.a.hi t.b.hi → into_b b r ⊑ into_b b' r'
    pub a_back : {a b : ℕ} → Ordered a b a b → into_a a (get a b) ≡ a
    pub b_back : {a b : ℕ} → UseB → Ordered a b a b → into_b b (get a b) ≡ b
    pub b_rest : (b r : ℕ) → ¬ UseB → into_b b r ≡ b
    pub reached : {a b r : ℕ} → Ordered a b a b → r ⊑ get t.a.hi t.b.hi → get (into_a a r) (into_b b r) ≡ r

  abbrev σ : Shape
  σ = shaped (op o) k w

  -- what is left of r
  abbrev l : ℕ
  l = bit_or t.r.lo (get t.a.lo t.b.lo)

  abbrev h : ℕ
  h = bit_and t.r.hi (get t.a.hi t.b.hi)

  -- n at r, and put back into the operands a and b
  abbrev carried : ℕ → ℕ → ℕ → Place → ℕ
  carried a b n R = n
  carried a b n A = into_a a n
  carried a b n B = into_b b n
  carried a b n S = 0

  abbrev left_over : Bounds
  left_over = with_rab l h (into_a t.a.lo l) (into_a t.a.hi h) (into_b t.b.lo l) (into_b t.b.hi h) t

  module _ (x : Moved) where
    self : {a b a' b' : ℕ} → Ordered a b a' b' → Ordered a' b' a' b'
    self q = record { a_in = ⊑_refl _; b_in = λ u. ⊑_refl _; a_top = q.a_top; b_top = q.b_top }

    upward : {a b a' b' : ℕ} → Ordered a b a' b' → Ordered a' b' t.a.hi t.b.hi
    upward q = record { a_in = q.a_top; b_in = q.b_top; a_top = ⊑_refl _; b_top = λ u. ⊑_refl _ }

    lowest : Ordered t.a.lo t.b.lo t.a.lo t.b.lo
    lowest = record { a_in = ⊑_refl _; b_in = λ u. ⊑_refl _; a_top = x.proper.a_in; b_top = x.proper.b_in }

    h_top : h ⊑ get t.a.hi t.b.hi
    h_top = and_⊑_r t.r.hi (get t.a.hi t.b.hi)

    -- between operands and a value of r that are left there is a fit
    carried_fit : {a b n : ℕ} → Ordered t.a.lo t.b.lo a b → l ⊑ n → n ⊑ h → Fit σ (span_of t) (carried a b n)
    carried_fit {a} {b} {n} q ln nh = record { from = from; to = to; holds = sym (x.says 0 carried_in ∙ x.reached (self q) top) }
      where
        low : get t.a.lo t.b.lo ⊑ n
        low = ⊑_trans (⊑_or_r t.r.lo (get t.a.lo t.b.lo)) ln

        top : n ⊑ get t.a.hi t.b.hi
        top = ⊑_trans nh h_top

        from : (p : Place) → Uses σ p → lo_of t p ⊑ carried a b n p
        from R used = ⊑_trans (⊑_or_l t.r.lo (get t.a.lo t.b.lo)) ln
        from A used = rw (x.a_back lowest) at (x.a_mono q low top)
        from B used = rw (x.b_back used lowest) at (x.b_mono used q low top)
        from S used = absurd (no_s used)

        to : (p : Place) → Uses σ p → carried a b n p ⊑ hi_of t p
        to R used = ⊑_trans nh (and_⊑_l t.r.hi (get t.a.hi t.b.hi))
        to A used = rw (x.a_back (self x.proper)) at (x.a_mono (upward q) top (⊑_refl _))
        to B used = rw (x.b_back used (self x.proper)) at (x.b_mono used (upward q) top (⊑_refl _))
        to S used = absurd (no_s used)

        carried_in : Ordered (into_a a n) (into_b b n) (into_a a n) (into_b b n)
        carried_in = record { a_in = ⊑_refl _; b_in = λ u. ⊑_refl _; a_top = to A tt; b_top = to B }

    module _ {f : Place → ℕ} (fit : Fit σ (span_of t) f) where
      above : Ordered t.a.lo t.b.lo (f A) (f B)
      above = record { a_in = fit.from A tt; b_in = fit.from B; a_top = fit.to A tt; b_top = fit.to B }

      gotten : f R ≡ get (f A) (f B)
      gotten = fit.holds ∙ x.says (f S) (self above)

      r_top : f R ⊑ get t.a.hi t.b.hi
      r_top = rw gotten (x.get_mono (upward above))

      r_from : l ⊑ f R
      r_from = or_⊑ (fit.from R tt) (rw gotten (x.get_mono above))

      r_to : f R ⊑ h
      r_to = ⊑_and (fit.to R tt) r_top

      -- what is put back at a fit is what stood there
      a_same : into_a (f A) (f R) ≡ f A
      a_same = ap (into_a (f A)) gotten ∙ x.a_back (self above)

      b_same : UseB → into_b (f B) (f R) ≡ f B
      b_same u = ap (into_b (f B)) gotten ∙ x.b_back u (self above)

      -- every fit lies between what is left
      between : (p : Place) → Uses σ p → (carried t.a.lo t.b.lo l p ⊑ f p) × (f p ⊑ carried t.a.hi t.b.hi h p)
      between R used = (r_from, r_to)
      between A used = (rw a_same at (x.a_mono above r_from r_top), rw a_same at (x.a_mono (upward above) r_to h_top))
      between B used = (rw (b_same used) at (x.b_mono used above r_from r_top), rw (b_same used) at (x.b_mono used (upward above) r_to h_top))
      between S used = absurd (no_s used)

    shows : (p : Place) → Uses σ p → (lo_of left_over p ≡ carried t.a.lo t.b.lo l p) × (hi_of left_over p ≡ carried t.a.hi t.b.hi h p)
    shows R used = (refl, refl)
    shows A used = (refl, refl)
    shows B used = (refl, refl)
    shows S used = absurd (no_s used)

    rest : (p : Place) → ¬ Uses σ p → (lo_of left_over p ≡ lo_of t p) × (hi_of left_over p ≡ hi_of t p)
    rest R no_use = absurd (no_use tt)
    rest A no_use = absurd (no_use tt)
    rest B no_use = (x.b_rest t.b.lo l no_use, x.b_rest t.b.hi h no_use)
    rest S no_use = (refl, refl)

    pub moved_narrows : Narrows σ (span_of t) (then_some (under l h) left_over)
    moved_narrows =
        narrows σ t left_over (under l h) (λ f fit. under_complete l h (⊑_trans (r_from fit) (r_to fit)))
        (λ b.
        (let q = under_sound l h b in
        ends_owed (carried_fit lowest (⊑_refl l) q) (carried_fit x.proper q (⊑_refl h)) (λ f fit. between fit) shows rest))
