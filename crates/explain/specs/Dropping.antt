-- Mirrors code: fixed bits gone through in turn, from the bounds and the list before to the bounds and the list after.
-- To be believed: `reason_put`.
use Rattle.std.specs.Prelude.{◌≡◌, cond, List, [], ◌∷◌, ◌++◌, ℕ, ◌+◌, ◌≤◌, ◌<◌, length, drop}
use Rattle.std.proofs.lemmas.List.Edits.{sets}
use Rattle.rules.specs.Kinds.{Place}
use Rattle.problem.specs.Places.{Bounds, width_of, span_of}
use Rattle.rules.specs.Meaning.{Shape}
use Rattle.rules.specs.Fits.{Span, Legal}
use Rattle.reason_theory.specs.Says.{Answer}
use Rattle.reason_theory.specs.Reason.{Spot, spot, Reason, fixed_bit, fixed_at, fixed_of}
use Rattle.explain.specs.declared.Question.{Question}
use Rattle.explain.specs.declared.Said.{Said}
use Rattle.explain.specs.declared.Kept.{Kept}
use Rattle.explain.specs.Asking.{shape_in, place_in, answer, Asks}

-- bit b of place p, if it is fixed
abbrev pub spot_at : Span → Place → ℕ → List Spot
spot_at t p b = cond (fixed_bit t p b) (spot p b ∷ []) []

-- the bits ns are gone through, from the bounds t to the bounds u, and out is kept: whatever comes after goes on from there
pub record Passed (σ : Shape) (p : Place) (j : ℕ) (x : Answer) (t : Span) (ns : List Spot) (u : Span) (out : List ℕ) : Type 0 where
  pub onward : (ms : List Spot) (rest : List ℕ) → Reason σ p j x u ms rest → Reason σ p j x t (ns ++ ms) (out ++ rest)

-- and what is kept is put behind the entries that stand in the list
pub record Gone (q : Question) (x : Said) (ns : List Spot) (s : Kept) (l : List ℕ) (r : Kept) (m : List ℕ) : Type 0 where
  pub out : List ℕ
  pub passed : Passed (shape_in q) (place_in q) q.bit (answer x) (span_of s.t) ns (span_of r.t) out
  pub count : r.count ≡ s.count + length out
  pub list : m ≡ sets l s.count out
  pub few : length out ≤ length ns
  pub legal : Legal (shape_in q) (span_of r.t)

-- what is known before bit b of place p is gone through
pub record BitAsked (q : Question) (g : Bounds) (s : Kept) (p : Place) (b : ℕ) (l : List ℕ) : Type 0 where
  pub asks : Asks q s.t
  pub below : b < width_of q.w p
  pub small : b < 64
  pub room : s.count + length (spot_at (span_of g) p b) ≤ length l

-- and before all of place p
pub record PlaceAsked (q : Question) (g : Bounds) (s : Kept) (p : Place) (l : List ℕ) : Type 0 where
  pub asks : Asks q s.t
  pub room : s.count + length (fixed_at (shape_in q) (span_of g) p) ≤ length l

-- the list l with the entries out at its beginning, the rest unchanged
abbrev pub reason_put : List ℕ → List ℕ → List ℕ
reason_put out l = out ++ drop (length out) l

-- r entries stand in the list, which are the reason for the answer x over the bounds t
pub record Reasoned (q : Question) (x : Said) (t : Bounds) (l : List ℕ) (r : ℕ) (m : List ℕ) : Type 0 where
  pub out : List ℕ
  pub reason : Reason (shape_in q) (place_in q) q.bit (answer x) (span_of t) (fixed_of (shape_in q) (span_of t)) out
  pub count : r ≡ length out
  pub list : m ≡ reason_put out l
