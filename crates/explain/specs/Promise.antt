-- To be believed: what the call `explain` promises: its answer, its place, its count, and every number of the list afterwards.
use Rattle.std.specs.Prelude.{◌≡◌, List, ℕ, ◌<◌, length, take, drop, Result, Ok, Err}
use Rattle.rules.specs.Kinds.{Place}
use Rattle.rules.specs.Meaning.{Shape}
use Rattle.rules.specs.Fits.{Span, Legal}
use Rattle.rules.specs.Tight.{rule, shape, span}
use Rattle.checker.specs.declared.refusal.Refusal.{Refusal}
use Rattle.checker.specs.declared.refusal.Refusal.TheVariants.{Ask}
use Rattle.problem.specs.Lent.{widths_of, table_of, rule_count, rules_of}
use Rattle.checker.specs.Refusal.{Checked, refusal, with_room}
use Rattle.reason_theory.specs.Says.{Answer, CONFLICT, FORCED, FREE}
use Rattle.reason_theory.specs.Reason.{Explains}
use Rattle.explain.specs.declared.Explained.{Explained}
use Rattle.explain.specs.declared.Explained.TheVariants as explained
use Rattle.explain.specs.Places.{place_of}
use Rattle.explain.specs.Asking.{OpenBit}
use Rattle.explain.specs.Dropping.{reason_put}

-- the entries for which room is asked
abbrev pub entries : ℕ
entries = 193

-- refusal 1 for a list that is too short, then the refusals of the problem
unfoldable pub explain_refusal : List ℕ → List ℕ → List ℕ → Checked
explain_refusal ws bs list = with_room entries (length list) 0 0 (refusal ws bs)

-- what comes back for an answer whose reason has c entries
abbrev pub given : Answer → ℕ → Explained
given CONFLICT c = explained.Conflict c
given (FORCED b) c = explained.Forced b c
given FREE c = explained.Free

-- an answer that has a reason, and the number of its entries
pub data Tells : Explained → Answer → ℕ → Type 0 where
  tells_conflict : {c : ℕ} → Tells (explained.Conflict c) CONFLICT c
  tells_forced : {b c : ℕ} → Tells (explained.Forced b c) (FORCED b) c

-- the rule of shape σ over the bounds t is explained at bit j of place p: r comes back, and list' stands where the list was
pub record Explanation (σ : Shape) (t : Span) (p : Place) (j : ℕ) (list : List ℕ) (r : Explained) (list' : List ℕ) : Type 0 where
  pub answer : Answer
  pub out : List ℕ
  pub explains : Explains σ t p j answer out
  pub told : r ≡ given answer (length out)
  pub stands : list' ≡ reason_put out list

module _ (ws bs : List ℕ) (n p j : ℕ) where
  -- there is a rule n, and bit j of its place p is open in the table as given
  pub record AsksOpenBit : Type 0 where
    pub there : n < rule_count bs
    pub open_bit : OpenBit (shape (widths_of ws) (rule (rules_of bs) n)) (span (table_of ws) (rule (rules_of bs) n)) p j

  -- over a proper problem: refusal 10 where the question names no open bit, else what the rule says of the bit, over the table as given
  pub data Judged (list : List ℕ) : Result Explained Refusal → List ℕ → Type 0 where
    not_asked : ¬ AsksOpenBit → Judged list (Err Ask) list
    answered : {r : Explained} {list' : List ℕ} → AsksOpenBit
        → Explanation (shape (widths_of ws) (rule (rules_of bs) n)) (span (table_of ws) (rule (rules_of bs) n)) (place_of p) j list r list'
        → Judged list (Ok r) list'

  -- words ws, rules bs and a list were lent; r comes back, and list' stands in the list afterwards
  pub data Explaining (list : List ℕ) : Result Explained Refusal → List ℕ → Type 0 where
    refused : {r : Refusal} → explain_refusal ws bs list ≡ Err r → Explaining list (Err r) list
    judged : {r : Result Explained Refusal} {list' : List ℕ} → explain_refusal ws bs list ≡ Ok tt → Judged list r list' → Explaining list r list'

-- the first c numbers of the list are the reason, and the others are as they were
pub record Listing (σ : Shape) (t : Span) (p : Place) (j : ℕ) (x : Answer) (c : ℕ) (list list' : List ℕ) : Type 0 where
  pub legal : Legal σ t
  pub reason : Explains σ t p j x (take c list')
  pub count : length (take c list') ≡ c
  pub rest : drop c list' ≡ drop c list
