-- The states that are left: those of the set from which there is a run. They say whether there is a fit, and they are the hull at s.
use Rattle.std.proofs.Common.{◌≡◌, ℕ, Bool, true, false, not, ◌&&◌, ◌||◌, T, arith}
use Rattle.words.specs.Bits.{bit, one, ◌⊑◌}
use Rattle.words.proofs.Order.{⊑_refl, bit_of_zero}
use Rattle.rules.specs.Kinds.{Place, S}
use Rattle.rules.specs.Meaning.{Shape}
use Rattle.rules.specs.Fits.{Span, Uses, Fit, Hull}
use Rattle.hull.specs.declared.Lanes.{Lanes}
use Rattle.hull.specs.declared.Auto.{Auto}
use Rattle.hull.specs.Columns.{sweep_of}
use Rattle.hull.specs.Runs.{Lane, pick, live}
use Rattle.lists.proofs.Bools.{and_both, and_left, and_right, or_left, or_right}
use Rattle.hull.proofs.Tied.{values, Tied, live_fit, fit_live}

zero_⊑ : (x : ℕ) → 0 ⊑ x
zero_⊑ x = record { bits = λ j. omega (arith, bit_of_zero j) }

-- s may be 0 if z and 1 if e
s_low : (z e q : Bool) → T (pick q z e) → one (not z) ⊑ one q
s_low true e q m = zero_⊑ _
s_low false e true m = ⊑_refl 1
s_low false e false m = absurd m

s_top : (z e q : Bool) → T (pick q z e) → one q ⊑ one e
s_top z e false m = zero_⊑ _
s_top z true true m = ⊑_refl 1
s_top z false true m = absurd m

of_or : (z e : Bool) → T (z || e) → (q : Bool) × T (pick q z e)
of_or true e m = (false, tt)
of_or false e m = (true, m)

or_of : (z e q : Bool) → T (pick q z e) → T (z || e)
or_of z e false m = or_left z e m
or_of z e true m = or_right z e m

module _ {σ : Shape} {t : Span} {u : Auto} {n : ℕ} {f0 f1 : Bool} {w : Lanes} (tied : Tied σ t u n f0 f1 w) where
  -- state 0 is left, and state 1
  abbrev z : Bool
  z = f0 && (sweep_of u n f0 f1 w).live.zero

  abbrev e : Bool
  e = f1 && (sweep_of u n f0 f1 w).live.one

  -- a state that is left has a fit, and each fit has a state that is left
  left_fit : (q : Bool) → T (pick q z e) → (v : Lane → ℕ) × Fit σ t (values q v)
  left_fit false m = live_fit tied false (and_left f0 _ m) (and_right f0 _ m)
  left_fit true m = live_fit tied true (and_left f1 _ m) (and_right f1 _ m)

  fit_left : (f : Place → ℕ) → Fit σ t f → (q : Bool) × T (pick q z e) × (Uses σ S → f S ≡ one q)
  fit_left f fit = let s = tied.into f fit in (s.state, go s.state s.begins (fit_live tied s), s.choice)
    where
      go : (q : Bool) → T (pick q f0 f1) → T (live q (sweep_of u n f0 f1 w)) → T (pick q z e)
      go false m l = and_both f0 _ m l
      go true m l = and_both f1 _ m l

  -- there is a fit just where a state is left
  pub fit_any : (f : Place → ℕ) → Fit σ t f → T (z || e)
  fit_any f fit = let (q, m, s) = fit_left f fit in or_of z e q m

  pub any_fit : T (z || e) → (f : Place → ℕ) × Fit σ t f
  any_fit m = let (q, k) = of_or z e m in let (v, fit) = left_fit q k in (values q v, fit)

  pub s_hull : Uses σ S → T (z || e) → Hull σ t S (one (not z)) (one e)
  s_hull used some = record {
    from = λ f fit. let (q, m, s) = fit_left f fit in rw (s used) (s_low z e q m);
    to = λ f fit. let (q, m, s) = fit_left f fit in rw (s used) (s_top z e q m);
    off = off z e left_fit some;
    on = on z e left_fit;
  }
    where
      off : (z e : Bool) → ((q : Bool) → T (pick q z e) → (v : Lane → ℕ) × Fit σ t (values q v)) → T (z || e)
          → (j : ℕ) → bit (one (not z)) j ≡ 0 → (f : Place → ℕ) × Fit σ t f × (bit (f S) j ≡ 0)
      off true e give m j o = let (v, fit) = give false tt in (values false v, fit, o)
      off false e give m j o = let (v, fit) = give true m in (values true v, fit, o)

      on : (z e : Bool) → ((q : Bool) → T (pick q z e) → (v : Lane → ℕ) × Fit σ t (values q v))
          → (j : ℕ) → bit (one e) j ≡ 1 → (f : Place → ℕ) × Fit σ t f × (bit (f S) j ≡ 1)
      on z true give j o = let (v, fit) = give true tt in (values true v, fit, o)
      on z false give j o = absurd (omega (arith, bit_of_zero j))
