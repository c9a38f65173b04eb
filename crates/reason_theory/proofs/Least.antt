-- A reason is irreducible: no list with some of its entries, but not all, gives the answer. (A shorter list of other bits may.)
use mathlib.Core.Path.{◌≡◌, refl}
use mathlib.Core.Bool.{Bool, true, false, cond, ◌||◌}
use mathlib.Core.List.{List}
use Prim.Native.Nat.{ℕ, suc, ◌≤◌}
use native.Mathlib.Omega.{arith}
use lib.Dec.{T, eqb}
use borrow.Author.Tests.{eqb-true, ne_eqb}
use Rattle.rules.specs.Kinds.{Place}
use Rattle.rules.specs.Meaning.{Shape}
use Rattle.rules.specs.Fits.{Span, Legal}
use Rattle.reason_theory.specs.Says.{Answer, Says}
use Rattle.reason_theory.specs.Reason.{Spot, entry, opened, Reason, all_seen, dropped, kept, fixed_of, Explains, no_reason, with_reason}
use Rattle.reason_theory.specs.Alone.{listed, alone}
use Rattle.reason_theory.proofs.Opened.{Within, within_refl, within_trans, opened_mono, opened_wider}
use Rattle.reason_theory.proofs.Rising.{Rising, no_more, next, fixed_rising}
use Rattle.reason_theory.proofs.Kept.{says_between, alone_wider, not_kept}

module _ {σ : Shape} {p : Place} {j : ℕ} {x : Answer} (less : List ℕ) (e : ℕ) (gone : listed e less ≡ false) where
  -- bounds that are wider from the start, and of the bits still to come only those listed in less
  part : {n : ℕ} {t : Span} {ns : List Spot} {out : List ℕ} (v : Span) → Rising σ n ns → Says σ t p j x → Reason σ p j x t ns out → Within t v
      → T (listed e out) → ((m : ℕ) → n ≤ m → T (listed m less) → T (listed m out)) → ¬ Says σ (alone v ns less) p j x
  unfolding alone listed
  part v no_more s all_seen k m sub y = m
  part {t = t} v (next {b = b} {q = q} {ns = ns} u w h r) s (dropped {out = out} s' d) k m sub y =
      go (listed (entry q b) less) refl y (λ y'. part (opened v q b) r s' d (opened_mono q b k) m (λ i l. sub i (omega arith)) y')
    where
      go : (c : Bool) → listed (entry q b) less ≡ c → Says σ (alone (cond c v (opened v q b)) ns less) p j x
          → (Says σ (alone (opened v q b) ns less) p j x → ⊥) → ⊥
      go true z y ih = rw (not_kept (entry q b) (omega arith) r d) at (sub (entry q b) h (rw z tt))
      go false z y ih = ih y
  part {t = t} v (next {b = b} {q = q} {ns = ns} u w h r) s (kept {out = out} n d) k m sub y =
      go (eqb e (entry q b)) refl m y (λ v' k' m' y'. part v' r s d k' m' above y')
    where
      above : (i : ℕ) → suc (entry q b) ≤ i → T (listed i less) → T (listed i out)
      above i l z = rw (ne_eqb i (entry q b) (omega arith)) at (sub i (omega arith) z)

      wider : (c : Bool) → Within t (cond c v (opened v q b))
      wider true = k
      wider false = within_trans k (opened_wider v q b)

      go : (c : Bool) → eqb e (entry q b) ≡ c → T (c || listed e out) → Says σ (alone (cond (listed (entry q b) less) v (opened v q b)) ns less) p j x
          → ((v' : Span) → Within t v' → T (listed e out) → Says σ (alone v' ns less) p j x → ⊥) → ⊥
      go true z m y ih =
          let gone' : listed (entry q b) less ≡ false = rw (← eqb-true e (entry q b) z) gone in
          let y' : Says σ (alone (opened v q b) ns less) p j x = rw gone' at y in
          n (says_between (opened_wider t q b) (within_trans (opened_mono q b k) (alone_wider ns (opened v q b) less)) s y')
      go false z m y ih = ih (cond (listed (entry q b) less) v (opened v q b)) (wider (listed (entry q b) less)) m y

module _ {σ : Shape} {t : Span} (h : Legal σ t) where
  pub reason_least : {p : Place} {j : ℕ} {x : Answer} {out : List ℕ} → Explains σ t p j x out
      → (less : List ℕ) → ((m : ℕ) → T (listed m less) → T (listed m out)) → (e : ℕ) → T (listed e out) → listed e less ≡ false
      → ¬ Says σ (alone t (fixed_of σ t) less) p j x
  unfolding listed
  reason_least (no_reason s) less sub e m gone = absurd m
  reason_least (with_reason n s r) less sub e m gone = part less e gone t (fixed_rising h) s r (within_refl t) m (λ i l. sub i)
