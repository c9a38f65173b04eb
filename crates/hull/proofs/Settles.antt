-- A kind that computes has at most one fit where its operands are fixed: what it computes of them, if that lies between the bounds of r.
use Rattle.std.proofs.Common.{◌≡◌, ℕ, ◌&&◌, T, eqb, ◌≢◌, sym, refl, ◌∙◌, eqb→eq}
use lib.Bits.{bit_and, bit_or}
use Rattle.words.specs.Bits.{under, ◌⊑◌}
use Rattle.words.proofs.Order.{⊑_refl, ⊑_trans, ⊑_antisym}
use Rattle.words.proofs.Ops.{under_sound, under_complete}
use Rattle.words.proofs.Meets.{⊑_or_l, ⊑_or_r, or_⊑, and_⊑_l, and_⊑_r, ⊑_and}
use Rattle.rules.specs.Kinds.{Place, R, A, B, S, Op, op}
use Rattle.rules.specs.Meaning.{Shape, result}
use Rattle.rules.specs.Fits.{Uses, Fit}
use Rattle.rules.proofs.Used.{result_used, A≢R, B≢R, S≢R}
use Rattle.hull.specs.Moves.{with_ra}
use Rattle.hull.specs.ByColumns.{fixed_in, settled}
use Rattle.problem.specs.Places.{Bounds, shaped, span_of, lo_of, hi_of}
use Rattle.hull.specs.Narrowing.{Narrows}
use Rattle.lists.proofs.Bools.{and_left, and_right}
use Rattle.hull.proofs.Decided.{ends_owed, narrows}

-- operands that the test finds fixed
pub fixed_in_lem : (t : Bounds) → T (fixed_in t) → (t.a.lo ≡ t.a.hi) × (t.b.lo ≡ t.b.hi) × (t.s.lo ≡ t.s.hi)
fixed_in_lem t h =
    let a = eqb t.a.lo t.a.hi in
    let b = eqb t.b.lo t.b.hi in
    let s = eqb t.s.lo t.s.hi in
    (eqb→eq _ _ (and_left a b (and_left (a && b) s h)), eqb→eq _ _ (and_right a b (and_left (a && b) s h)), eqb→eq _ _ (and_right (a && b) s h))

module _ (o : Op) (k : ℕ) (w : Place → ℕ) (t : Bounds) (v : ℕ) where
  abbrev σ : Shape
  σ = shaped (op o) k w

  abbrev l : ℕ
  l = bit_or t.r.lo v

  abbrev h : ℕ
  h = bit_and t.r.hi v

  abbrev left_over : Bounds
  left_over = with_ra l h t.a.lo t.a.hi t

  -- the one value at each place
  abbrev only : Place → ℕ
  only R = v
  only A = t.a.lo
  only B = t.b.lo
  only S = t.s.lo

  module _ (fixed : (p : Place) → Uses σ p → p ≢ R → lo_of t p ≡ hi_of t p) (says : v ≡ result o w k t.a.lo t.b.lo t.s.lo) where
    is_only : {f : Place → ℕ} → Fit σ (span_of t) f → (p : Place) → Uses σ p → f p ≡ only p
    is_only {f} fit p used = go p used
      where
        operand_is : (p : Place) → Uses σ p → p ≢ R → f p ≡ lo_of t p
        operand_is p used d = ⊑_antisym (rw (fixed p used d) (fit.to p used)) (fit.from p used)

        go : (p : Place) → Uses σ p → f p ≡ only p
        go R used =
            fit.holds ∙ result_used o w k _ _ _ _ _ _ (operand_is A tt A≢R) (λ u. operand_is B u B≢R) (λ u. operand_is S u S≢R) ∙ sym says
        go A used = operand_is A used A≢R
        go B used = operand_is B used B≢R
        go S used = operand_is S used S≢R

    module _ (q : l ⊑ h) where
      l_is : l ≡ v
      l_is = ⊑_antisym (⊑_trans q (and_⊑_r t.r.hi v)) (⊑_or_r t.r.lo v)

      h_is : h ≡ v
      h_is = ⊑_antisym (and_⊑_r t.r.hi v) (⊑_trans (⊑_or_r t.r.lo v) q)

      shows : (p : Place) → Uses σ p → (lo_of left_over p ≡ only p) × (hi_of left_over p ≡ only p)
      shows R used = (l_is, h_is)
      shows A used = (refl, sym (fixed A used A≢R))
      shows B used = (refl, sym (fixed B used B≢R))
      shows S used = (refl, sym (fixed S used S≢R))

      only_fit : Fit σ (span_of t) only
      only_fit = record { from = from; to = to; holds = says }
        where
          from : (p : Place) → Uses σ p → lo_of t p ⊑ only p
          from R used = ⊑_trans (⊑_or_l t.r.lo v) (⊑_trans q (and_⊑_r t.r.hi v))
          from A used = ⊑_refl _
          from B used = ⊑_refl _
          from S used = ⊑_refl _

          to : (p : Place) → Uses σ p → only p ⊑ hi_of t p
          to R used = ⊑_trans (⊑_or_r t.r.lo v) (⊑_trans q (and_⊑_l t.r.hi v))
          to A used = rw (fixed A used A≢R) (⊑_refl _)
          to B used = rw (fixed B used B≢R) (⊑_refl _)
          to S used = rw (fixed S used S≢R) (⊑_refl _)

    rest : (p : Place) → ¬ Uses σ p → (lo_of left_over p ≡ lo_of t p) × (hi_of left_over p ≡ hi_of t p)
    rest R no_use = absurd (no_use tt)
    rest A no_use = absurd (no_use tt)
    rest B no_use = (refl, refl)
    rest S no_use = (refl, refl)

    fit_under : {f : Place → ℕ} → Fit σ (span_of t) f → l ⊑ h
    fit_under fit =
        let e = is_only fit R tt in
        let low = rw e at (fit.from R tt) in
        let top = rw e at (fit.to R tt) in
        or_⊑ (⊑_and (⊑_trans low top) low) (⊑_and top (⊑_refl v))

    pub settled_narrows : Narrows σ (span_of t) (settled v t)
    settled_narrows =
        narrows σ t left_over (under l h) (λ f fit. under_complete l h (fit_under fit))
        (λ b.
        (let q = under_sound l h b in
        ends_owed (only_fit q) (only_fit q)
        (λ f fit p used. (rw (is_only fit p used) (⊑_refl _), rw (is_only fit p used) (⊑_refl _))) (shows q) rest))
