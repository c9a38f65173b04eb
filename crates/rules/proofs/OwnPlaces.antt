-- Each field of a rule is a place of its own, also where one word stands twice: a fit may give the two places different values.
-- So a table with an open bit in word i is tight for "word i is not word i", though that rule holds for no values.
use mathlib.Core.Path.{◌≡◌, refl, sym, ap}
use mathlib.Core.Logic.{◌≢◌}
use mathlib.Core.List.{List}
use Prim.Native.Nat.{ℕ}
use native.Mathlib.Omega.{arith}
use Rattle.words.specs.Bits.{bit, ◌⊑◌}
use Rattle.words.specs.Table.{Table, Inside, Open}
use Rattle.lists.specs.Lists.{at}
use Rattle.words.proofs.Order.{⊑_refl}
use Rattle.rules.specs.Kinds.{Place, R, A, B, S, kind_of}
use Rattle.rules.specs.Fits.{Uses, Fit}
use Rattle.rules.specs.Tight.{Rule, word, shape, span, TightAt, HoldsAt}

-- the rule NE whose places a and b both hold word i
abbrev pub ne_self : ℕ → Rule
ne_self i = record { kind = 14; r = 0; a = i; b = i; s = 0; k = 0 }

pub ne_self_fails : (w v : List ℕ) (i : ℕ) → ¬ HoldsAt w v (ne_self i)
unfolding kind_of
ne_self_fails w v i n = n refl

-- the value x at a and y at b
abbrev pair : ℕ → ℕ → Place → ℕ
pair x y R = 0
pair x y A = x
pair x y B = y
pair x y S = 0

pair_fit : (w : List ℕ) (t : Table) (i x y : ℕ) → at t.lo i ⊑ x → x ⊑ at t.hi i → at t.lo i ⊑ y → y ⊑ at t.hi i → x ≢ y
    → Fit (shape w (ne_self i)) (span t (ne_self i)) (pair x y)
unfolding kind_of
pair_fit w t i x y lx hx ly hy d = record { from = from; to = to; holds = d }
  where
    from : (p : Place) → Uses (shape w (ne_self i)) p → at t.lo (word (ne_self i) p) ⊑ pair x y p
    from R u = absurd u
    from A u = lx
    from B u = ly
    from S u = absurd u

    to : (p : Place) → Uses (shape w (ne_self i)) p → pair x y p ⊑ at t.hi (word (ne_self i) p)
    to R u = absurd u
    to A u = hx
    to B u = hy
    to S u = absurd u

-- lo at one of the two places and hi at the other is a fit
pub ne_self_tight : (w : List ℕ) (t : Table) (i j : ℕ) → Inside t t → Open t i j → TightAt w t (record { kind = 14; r = 0; a = i; b = i; s = 0; k = 0 })
unfolding kind_of
ne_self_tight w t i j whole o = record { some = (pair lo hi, low_high); off = off; on = on }
  where
    lo : ℕ
    lo = at t.lo i

    hi : ℕ
    hi = at t.hi i

    apart : lo ≢ hi
    apart e = omega (arith, o.off, o.on, ap (λ (n : ℕ). bit n j) e)

    low_high : Fit (shape w (ne_self i)) (span t (ne_self i)) (pair lo hi)
    low_high = pair_fit w t i lo hi (⊑_refl lo) (whole.mid i) (whole.mid i) (⊑_refl hi) apart

    high_low : Fit (shape w (ne_self i)) (span t (ne_self i)) (pair hi lo)
    high_low = pair_fit w t i hi lo (whole.mid i) (⊑_refl hi) (⊑_refl lo) (whole.mid i) (λ e. apart (sym e))

    off : (p : Place) (b : ℕ) → Uses (shape w (ne_self i)) p → Open t (word (ne_self i) p) b
        → (f : Place → ℕ) × Fit (shape w (ne_self i)) (span t (ne_self i)) f × (bit (f p) b ≡ 0)
    off R b u z = absurd u
    off A b u z = (pair lo hi, low_high, z.off)
    off B b u z = (pair hi lo, high_low, z.off)
    off S b u z = absurd u

    on : (p : Place) (b : ℕ) → Uses (shape w (ne_self i)) p → Open t (word (ne_self i) p) b
        → (f : Place → ℕ) × Fit (shape w (ne_self i)) (span t (ne_self i)) f × (bit (f p) b ≡ 1)
    on R b u z = absurd u
    on A b u z = (pair hi lo, high_low, z.on)
    on B b u z = (pair lo hi, low_high, z.on)
    on S b u z = absurd u
