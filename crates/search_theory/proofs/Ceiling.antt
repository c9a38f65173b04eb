-- The ceiling on guesses, where the guess always falls on one of the first m words: 2^B - 1, B being their open bits after the first tightening.
use mathlib.Core.Path.{ap, subst}
use mathlib.Core.Logic.{◌≢◌}
use Prim.Native.Nat.{ℕ, zero, suc, ◌+◌, ◌^◌, ◌≤◌, ◌<◌}
use native.Mathlib.Omega.{arith}
use lib.Pow.{pow_pos}
use Rattle.words.specs.Table.{Table, Inside, Guess, with0, with1}
use Rattle.words.specs.Count.{open_below}
use Rattle.words.proofs.Tables.{inside_trans, self}
use Rattle.words.proofs.Fixing.{inside0, inside1}
use Rattle.words.proofs.Falls.{open_less}
use Rattle.rules.specs.Tightening.{Widest}
use Rattle.rules.proofs.OneWidest.{one_widest, widest_whole}
use Rattle.search_theory.specs.Search.{Outcome, found, none, gave_up, Search, conflict, settled, stopped, first, second}
use Rattle.search_theory.proofs.Falls.{falls0, falls1}

-- in a tight table inside t the guess falls on one of the first m words
pub record Driven (Tight : Table → Type 0) (t : Table) (m : ℕ) : Type 0 where
  pub drives : (u : Table) (i j : ℕ) → Tight u → Inside u t → Guess u i j → i < m

-- the count of an outcome, after g guesses, is at most g + 2^b - 1; and a search that gives up has a limit below that
abbrev pub Within : ℕ → ℕ → ℕ → Outcome → Type 0
Within limit g b (found v n) = n < g + 2 ^ b
Within limit g b (none n) = n < g + 2 ^ b
Within limit g b gave_up = suc limit < g + 2 ^ b

step0 : (limit g b : ℕ) (o : Outcome) → Within limit (suc g) b o → Within limit g (suc b) o
step0 limit g b (found v n) r = omega (arith, pow_pos b)
step0 limit g b (none n) r = omega (arith, pow_pos b)
step0 limit g b gave_up r = omega (arith, pow_pos b)

step1 : (limit g b n : ℕ) (o : Outcome) → n < suc g + 2 ^ b → Within limit n b o → Within limit g (suc b) o
step1 limit g b n (found v k) l r = omega (arith, pow_pos b)
step1 limit g b n (none k) l r = omega (arith, pow_pos b)
step1 limit g b n gave_up l r = omega (arith, pow_pos b)

module _ (Tight : Table → Type 0) (limit m : ℕ) (t₀ : Table) (dr : Driven Tight t₀ m) where
  -- b is at least the number of open bits of the first m words of t, tightened
  Bound : Table → ℕ → Type 0
  Bound t b = (u : Table) → Widest Tight t u → open_below m u ≤ b

  module _ {t u : Table} {i j : ℕ} (w : Widest Tight t u) (h : Guess u i j) (p : Inside t t₀) where
    into : Inside u t₀
    into = inside_trans w.inside p

    reach : i < m
    reach = dr.drives u i j w.tight into h

    next0 : Inside (with0 u i j) t₀
    next0 = inside_trans (inside0 u i j (widest_whole Tight w) h.here) into

    next1 : Inside (with1 u i j) t₀
    next1 = inside_trans (inside1 u i j (widest_whole Tight w) h.here) into

    bound0 : (b : ℕ) → open_below m u ≤ suc b → Bound (with0 u i j) b
    unfolding Bound
    bound0 b l x wx = omega (arith, falls0 w h m reach, open_less (self next0) wx.inside m)

    bound1 : (b : ℕ) → open_below m u ≤ suc b → Bound (with1 u i j) b
    unfolding Bound
    bound1 b l x wx = omega (arith, falls1 w h m reach, open_less (self next1) wx.inside m)

    not_zero : open_below m u ≤ 0 → ⊥
    not_zero l = omega (arith, falls0 w h m reach)

  within : {t : Table} {g : ℕ} {o : Outcome} → Search Tight limit t g o → Inside t t₀ → (b : ℕ) → Bound t b → Within limit g b o
  unfolding Bound
  within (conflict c) p b k = omega (arith, pow_pos b)
  within (settled w d) p b k = omega (arith, pow_pos b)
  within (stopped {u = u} w h l) p zero k = absurd (not_zero w h p (k u w))
  within (stopped w h l) p (suc b) k = omega (arith, pow_pos b)
  within (first {u = u} w h l s n) p zero k = absurd (not_zero w h p (k u w))
  within (first {u = u} {g = g} {o = o} w h l s n) p (suc b) k = step0 limit g b o (within s (next0 w h p) b (bound0 w h p b (k u w)))
  within (second {u = u} w h l s r) p zero k = absurd (not_zero w h p (k u w))
  within (second {u = u} {g = g} {n = n} {o = o} w h l s r) p (suc b) k =
      step1 limit g b n o
      (within s (next0 w h p) b (bound0 w h p b (k u w)))
      (within r (next1 w h p) b (bound1 w h p b (k u w)))

  -- with B open bits in the first m words after the first tightening, at most 2^B - 1 guesses
  pub ceiling : {u : Table} {o : Outcome} → Inside t₀ t₀ → Widest Tight t₀ u → Search Tight limit t₀ 0 o → Within limit 0 (open_below m u) o
  unfolding Bound
  ceiling {u} ok w s = within s ok (open_below m u) (λ x wx. omega (arith, ap (open_below m) (one_widest Tight t₀ x u wx w)))

  -- and a limit that reaches that number never gives up
  pub ceiling_answers : {u : Table} {o : Outcome} → Inside t₀ t₀ → Widest Tight t₀ u → 2 ^ open_below m u ≤ suc limit → Search Tight limit t₀ 0 o
      → o ≢ gave_up
  ceiling_answers {u} {o} ok w l s e =
      let r : Within limit 0 (open_below m u) gave_up = subst (λ x. Within limit 0 (open_below m u) x) e (ceiling ok w s) in
      omega arith
