-- What a reason is: its bits alone give the same answer, and with any one of them treated as open too the answer does not stay.
-- Fits only become more as bits are treated as open, so an answer that has changed does not come back.
use mathlib.Core.Path.{◌≡◌, refl, sym, ap, ◌∙◌}
use mathlib.Core.Logic.{◌⊎◌, inl, inr}
use mathlib.Core.Bool.{Bool, true, false, cond, ◌||◌}
use mathlib.Core.List.{List, [], ◌∷◌}
use Prim.Native.Nat.{ℕ, ◌≤◌, ◌<◌}
use native.Mathlib.Omega.{arith}
use lib.Dec.{T, eqb}
use borrow.Author.Tests.{eqb-true, eq-eqb, ne_eqb}
use Rattle.rules.specs.Kinds.{Place}
use Rattle.rules.specs.Meaning.{Shape}
use Rattle.rules.specs.Fits.{Span, Uses, Legal}
use Rattle.reason_theory.specs.Says.{Answer, FORCED, FREE, Says, says_conflict, says_forced, says_free}
use Rattle.reason_theory.specs.Reason.{Spot, spot, entry, opened, Reason, all_seen, dropped, kept, fixed_of, Explains, no_reason, with_reason}
use Rattle.reason_theory.specs.Alone.{listed, alone}
use Rattle.reason_theory.proofs.Opened.{Within, within_refl, within_trans, within_fit, opened_mono, opened_wider, place_one}
use Rattle.reason_theory.proofs.Rising.{Rising, no_more, next, fixed_rising}

-- ---- answers under wider bounds

-- a FREE answer stays
pub free_wider : {σ : Shape} {s t : Span} {p : Place} {j : ℕ} → Within s t → Says σ s p j FREE → Says σ t p j FREE
free_wider h (says_free fit git d) = says_free (within_fit h fit) (within_fit h git) d

-- a FORCED answer can only become FREE
pub forced_wider : {σ : Shape} {s t : Span} {p : Place} {j b : ℕ} {y : Answer} → Within s t → Says σ s p j (FORCED b) → Says σ t p j y
    → (y ≡ FORCED b) ⊎ (y ≡ FREE)
forced_wider h (says_forced {f = f} b fit a) (says_conflict n) = absurd (n f (within_fit h fit))
forced_wider h (says_forced {f = f} b fit a) (says_forced c git d) = inl (ap FORCED (sym (d f (within_fit h fit)) ∙ a f fit))
forced_wider h (says_forced b fit a) (says_free git kit d) = inr refl

-- an answer that holds for narrow bounds and for wide ones holds for those between
pub says_between : {σ : Shape} {s t u : Span} {p : Place} {j : ℕ} {x : Answer} → Within s t → Within t u → Says σ s p j x → Says σ u p j x → Says σ t p j x
says_between h k (says_conflict n) (says_conflict m) = says_conflict (λ f fit. m f (within_fit k fit))
says_between h k (says_forced b fit a) (says_forced c git d) = says_forced b (within_fit h fit) (λ g e. d g (within_fit k e))
says_between h k (says_free fit git d) (says_free a c e) = says_free (within_fit h fit) (within_fit h git) d

-- bits alone are in wider bounds
pub alone_wider : (ns : List Spot) (t : Span) (out : List ℕ) → Within t (alone t ns out)
unfolding alone
alone_wider [] t out = within_refl t
alone_wider (spot q b ∷ ns) t out = go (listed (entry q b) out) (λ u. alone_wider ns u out)
  where
    go : (c : Bool) → ((u : Span) → Within u (alone u ns out)) → Within t (alone (cond c t (opened t q b)) ns out)
    go true h = h t
    go false h = within_trans (opened_wider t q b) (h (opened t q b))

-- ---- entries of what is still to come

-- a lower entry in the list is of no account
alone_above : {σ : Shape} {m : ℕ} {ns : List Spot} (n : ℕ) (out : List ℕ) (t : Span) → n < m → Rising σ m ns → alone t ns (n ∷ out) ≡ alone t ns out
unfolding alone listed
alone_above n out t l no_more = refl
alone_above n out t l (next {b = b} {q = q} {ns = ns} u w h r) =
    rw (ne_eqb (entry q b) n (omega arith)) (alone_above n out (cond (listed (entry q b) out) t (opened t q b)) (omega arith) r)

module _ {σ : Shape} {p : Place} {j : ℕ} {x : Answer} where
  -- and is not kept
  pub not_kept : {m : ℕ} {t : Span} {ns : List Spot} {out : List ℕ} (n : ℕ) → n < m → Rising σ m ns → Reason σ p j x t ns out → listed n out ≡ false
  unfolding listed
  not_kept n l no_more all_seen = refl
  not_kept n l (next u w h r) (dropped s d) = not_kept n (omega arith) r d
  not_kept n l (next {b = b} {q = q} u w h r) (kept s d) = rw (ne_eqb n (entry q b) (omega arith)) (not_kept n (omega arith) r d)

  enough : {n : ℕ} {t : Span} {ns : List Spot} {out : List ℕ} → Rising σ n ns → Says σ t p j x → Reason σ p j x t ns out → Says σ (alone t ns out) p j x
  unfolding alone listed
  enough no_more s all_seen = s
  enough (next {b = b} {q = q} u w h r) s (dropped s' d) = rw (not_kept (entry q b) (omega arith) r d) (enough r s' d)
  enough {t = t} (next {b = b} {q = q} u w h r) s (kept {out = out} n d) =
      rw (eq-eqb (entry q b) (entry q b) refl, alone_above (entry q b) out t (omega arith) r) (enough r s d)

-- an entry tells its place and its bit
pub entry_one : (q r : Place) (b c : ℕ) → b < 64 → c < 64 → entry q b ≡ entry r c → (q ≡ r) × (b ≡ c)
entry_one q r b c l h e = (place_one q r (omega arith), omega arith)

module _ {σ : Shape} (wide : (q : Place) → Uses σ q → σ.width q ≤ 64) (q : Place) (b : ℕ) (l : b < 64) where
  needs : {p : Place} {j n : ℕ} {x : Answer} {t : Span} {ns : List Spot} {out : List ℕ} → Rising σ n ns → Says σ t p j x → Reason σ p j x t ns out
      → T (listed (entry q b) out) → ¬ Says σ (opened (alone t ns out) q b) p j x
  unfolding alone listed
  needs no_more s all_seen m y = m
  needs (next {b = c} {q = o} u w h r) s (dropped s' d) m y =
      needs r s' d m (rw (not_kept (entry o c) (omega arith) r d) at y)
  needs {p} {j} {x = x} {t = t} (next {b = c} {q = o} {ns = ns} u w h r) s (kept {out = out} n d) m y =
      let y' : Says σ (opened (alone t ns out) q b) p j x = rw (eq-eqb (entry o c) (entry o c) refl, alone_above (entry o c) out t (omega arith) r) at y in
      go (eqb (entry q b) (entry o c)) refl m (λ m'. needs r s d m' y') y'
    where
      go : (v : Bool) → eqb (entry q b) (entry o c) ≡ v → T (v || listed (entry q b) out) → (T (listed (entry q b) out) → ⊥)
          → Says σ (opened (alone t ns out) q b) p j x → ⊥
      go true e m ih y =
          let (eq, eb) = entry_one q o b c l (omega (arith, wide o u)) (eqb-true _ _ e) in
          n (says_between (opened_wider t o c) (opened_mono o c (alone_wider ns t out)) s (rw (eq, eb) at y))
      go false e m ih y = ih m

module _ {σ : Shape} {t : Span} (h : Legal σ t) where
  -- a reason's bits alone give the same answer
  pub reason_enough : {p : Place} {j : ℕ} {x : Answer} {out : List ℕ} → Explains σ t p j x out → Says σ (alone t (fixed_of σ t) out) p j x
  reason_enough (no_reason s) = free_wider (alone_wider (fixed_of σ t) t []) s
  reason_enough (with_reason n s r) = enough (fixed_rising h) s r

  -- and with any one of them treated as open too it is another answer
  pub reason_needs : {p : Place} {j : ℕ} {x : Answer} {out : List ℕ} → Explains σ t p j x out → (q : Place) (b : ℕ) → b < 64 → T (listed (entry q b) out)
      → ¬ Says σ (opened (alone t (fixed_of σ t) out) q b) p j x
  unfolding listed
  reason_needs (no_reason s) q b l m = absurd m
  reason_needs (with_reason n s r) q b l m = needs (λ o u. (h.width o u).high) q b l (fixed_rising h) s r m
