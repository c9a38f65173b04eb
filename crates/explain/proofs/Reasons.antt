-- What the list holds after `explain`: the bits of the reason alone give the answer, and with any one of them treated as open too it does not stay.
use mathlib.Core.Path.{◌≡◌, refl, ap, ◌∙◌}
use mathlib.Core.List.{List, []}
use Prim.Native.Nat.{ℕ, ◌≤◌, ◌<◌}
use native.Mathlib.Omega.{arith}
use lib.Dec.{T}
use lib.ListN.{length, take, drop}
use lib.Seq.{take_at, drop_at}
use Rattle.checker.specs.Promise.{Taken}
use Rattle.rules.specs.Kinds.{Place}
use Rattle.rules.specs.Meaning.{Shape}
use Rattle.rules.specs.Fits.{Span}
use Rattle.rules.specs.Tight.{rule, shape, span}
use Rattle.rules.proofs.ProperRules.{rule_legal}
use Rattle.std.specs.Prelude.{Ok}
use Rattle.problem.specs.Lent.{widths_of, table_of, rules_of}
use Rattle.lists.proofs.Series.{length_series}
use Rattle.reason_theory.specs.Says.{Answer, CONFLICT, FORCED, FREE, Says}
use Rattle.reason_theory.specs.Reason.{entry, opened, fixed_of, Explains, no_reason, with_reason}
use Rattle.reason_theory.specs.Alone.{listed, alone}
use Rattle.reason_theory.proofs.Kept.{reason_enough, reason_needs}
use Rattle.reason_theory.proofs.Listed.{reason_length}
use Rattle.explain.specs.declared.Explained.{Explained}
use Rattle.explain.specs.declared.Explained.TheVariants as explained
use Rattle.explain.specs.Places.{place_of}
use Rattle.explain.specs.Dropping.{reason_put}
use Rattle.explain.specs.Promise.{entries, given, Explanation, Tells, tells_conflict, tells_forced, Judged, answered, Explaining}
use Rattle.explain.specs.Promise.{judged, explain_refusal, Listing}
use Rattle.checker.proofs.Rooms.{taken}

-- what tells a reason of c entries is given for no other answer, and with no other count
told_given : {r : Explained} {x : Answer} {c : ℕ} (a : Answer) (k : ℕ) → Tells r x c → r ≡ given a k → (a ≡ x) × (k ≡ c)
told_given CONFLICT k tells_conflict e = (refl, cc)
told_given (FORCED b) k tells_conflict e = let z : ◌≡◌ {A = ℕ} 0 1 = cc in absurd (omega arith)
told_given FREE k tells_conflict e = let z : ◌≡◌ {A = ℕ} 0 1 = cc in absurd (omega arith)
told_given CONFLICT k tells_forced e = let z : ◌≡◌ {A = ℕ} 0 1 = cc in absurd (omega arith)
told_given (FORCED b) k tells_forced e = (cc, cc)
told_given FREE k tells_forced e = let z : ◌≡◌ {A = ℕ} 0 1 = cc in absurd (omega arith)

not_refused : (ws bs l : List ℕ) → explain_refusal ws bs l ≡ Ok tt → Taken entries (length l) ws bs
unfolding explain_refusal
not_refused ws bs l e = taken entries (length l) ws bs e

module _ {ws bs : List ℕ} {n p j : ℕ} {l : List ℕ} where
  pub listing : {m : List ℕ} {r : Explained} {x : Answer} {c : ℕ} → Explaining ws bs n p j l (Ok r) m → Tells r x c
      → Listing (shape (widths_of ws) (rule (rules_of bs) n)) (span (table_of ws) (rule (rules_of bs) n)) (place_of p) j x c l m
  listing {m} {c = c} (judged e (answered a g)) h =
      let (ex, ec) = told_given g.answer (length g.out) h g.told in
      let taken : Taken entries (length l) ws bs = not_refused ws bs l e in
      let first : take c m ≡ g.out = rw g.stands (take_at g.out _ c ec) in
      record {
        legal = rule_legal taken.problem.table (taken.problem.each n (rw length_series a.there));
        reason = rw (first, ← ex) g.explains;
        count = ap length first ∙ ec;
        rest = rw (g.stands, ec) (drop_at g.out (drop c l) c ec);
      }

  module _ {m : List ℕ} {r : Explained} {x : Answer} {c : ℕ} (e : Explaining ws bs n p j l (Ok r) m) (h : Tells r x c) where
    abbrev σ : Shape
    σ = shape (widths_of ws) (rule (rules_of bs) n)

    abbrev t : Span
    t = span (table_of ws) (rule (rules_of bs) n)

    -- the bits in the list, alone, give the same answer
    pub listed_enough : Says σ (alone t (fixed_of σ t) (take c m)) (place_of p) j x
    listed_enough = reason_enough (listing e h).legal (listing e h).reason

    -- and with any one of them treated as open too it does not stay
    pub listed_needs : (q : Place) (b : ℕ) → b < 64 → T (listed (entry q b) (take c m))
        → ¬ Says σ (opened (alone t (fixed_of σ t) (take c m)) q b) (place_of p) j x
    listed_needs q b i k = reason_needs (listing e h).legal (listing e h).reason q b i k

    -- there are at most 193 of them
    pub listed_most : c ≤ entries
    listed_most = omega (arith, (listing e h).count, reason_length (listing e h).legal (listing e h).reason)

-- ---- FREE

free_reason : {σ : Shape} {t : Span} {p : Place} {j : ℕ} {out : List ℕ} → Explains σ t p j FREE out → out ≡ []
free_reason (no_reason s) = refl
free_reason (with_reason n s r) = absurd (n refl)

told_free : (a : Answer) (k : ℕ) → explained.Free ≡ given a k → a ≡ FREE
told_free CONFLICT k e = let z : ◌≡◌ {A = ℕ} 0 1 = cc in absurd (omega arith)
told_free (FORCED b) k e = let z : ◌≡◌ {A = ℕ} 0 1 = cc in absurd (omega arith)
told_free FREE k e = refl

given_free : {σ : Shape} {t : Span} {p : Place} {j : ℕ} {l m : List ℕ} → Explanation σ t p j l explained.Free m → m ≡ l
given_free {l = l} g =
    let none : g.out ≡ [] = free_reason (rw (told_free g.answer (length g.out) g.told) at g.explains) in
    g.stands ∙ ap (λ (w : List ℕ). reason_put w l) none

judged_free : {ws bs : List ℕ} {n p j : ℕ} {l m : List ℕ} → Judged ws bs n p j l (Ok explained.Free) m → m ≡ l
judged_free (answered a g) = given_free g

-- the list stays as it was
pub free_unchanged : {ws bs : List ℕ} {n p j : ℕ} {l m : List ℕ} → Explaining ws bs n p j l (Ok explained.Free) m → m ≡ l
free_unchanged (judged e d) = judged_free d
