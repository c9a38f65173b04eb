-- To be believed: what the call `cause` promises: its answer, and every lent number afterwards.
use Rattle.std.specs.Prelude.{◌≡◌, List, map, ℕ, ◌≤◌, ◌<◌, length, Result, Ok, Err}
use Rattle.rules.specs.Tight.{rule, AllHold}
use Rattle.lists.specs.Lists.{at}
use Rattle.checker.specs.declared.refusal.Refusal.{Refusal}
use Rattle.problem.specs.Lent.{widths_of, table_of, rule_count, rules_of}
use Rattle.checker.specs.Refusal.{Checked, refusal_with, with_room}
use Rattle.tighten.specs.Memory.{Cleared}
use Rattle.search_theory.specs.Search.{none}
use Rattle.cause_theory.specs.Cause.{Cause, EXISTS, CAUSE, GAVE_UP, Tried, Causes}
use Rattle.cause.specs.declared.Caused.{Caused}
use Rattle.cause.specs.declared.Caused.TheVariants as answer

-- the numbers of work memory that the call asks for
abbrev pub cause_work : ℕ
cause_work = 5120

-- refusal 1 for memory or a list that is too short, then the refusals of the problem and its limit
unfoldable pub cause_refusal : ℕ → List ℕ → List ℕ → List ℕ → List ℕ → Checked
cause_refusal limit ws bs list work = with_room cause_work (length work) (rule_count bs) (length list) (refusal_with limit ws bs)

-- nothing is refused
pub record CauseGiven (limit : ℕ) (ws bs list work : List ℕ) : Type 0 where
  pub passed : cause_refusal limit ws bs list work ≡ Ok tt

-- what the paper's procedure comes to for the lent problem
abbrev pub Named : ℕ → List ℕ → List ℕ → Cause → Type 0
Named limit ws bs x = Causes (widths_of ws) (rules_of bs) limit (table_of ws) x

-- the entries out are the first of list', which else is as list
pub record Entered (out list list' : List ℕ) : Type 0 where
  pub room : length out ≤ length list
  pub size : length list' ≡ length list
  pub each : (i : ℕ) → i < length out → at list' i ≡ at out i
  pub rest : (i : ℕ) → length out ≤ i → at list' i ≡ at list i

-- words ws, rules bs, a limit, a list and work memory were lent; the answer comes back, and list' and work' stand in list and memory afterwards
pub data Causing (limit : ℕ) (ws bs list work : List ℕ) : Result Caused Refusal → List ℕ → List ℕ → Type 0 where
  refused : {r : Refusal} → cause_refusal limit ws bs list work ≡ Err r → Causing limit ws bs list work (Err r) list work
  exists_at : {work' : List ℕ} {g : ℕ} → CauseGiven limit ws bs list work → Named limit ws bs (EXISTS g) → Cleared work work'
      → Causing limit ws bs list work (Ok (answer.Exists g)) list work'
  gave_up_at : {work' : List ℕ} {g : ℕ} → CauseGiven limit ws bs list work → Named limit ws bs (GAVE_UP g) → Cleared work work'
      → Causing limit ws bs list work (Ok (answer.GaveUp g)) list work'
  caused_by : {out list' work' : List ℕ} {g k : ℕ} → CauseGiven limit ws bs list work → Named limit ws bs (CAUSE out g) → length out ≡ k
      → Entered out list list' → Cleared work work'
      → Causing limit ws bs list work (Ok (answer.Cause g k)) list' work'

-- the problem is given, and its own search found that it has no settings, with a count
pub record NoneFirst (limit : ℕ) (ws bs list work : List ℕ) (first : ℕ) : Type 0 where
  pub given : CauseGiven limit ws bs list work
  pub nothing : Tried (widths_of ws) limit (table_of ws) (rules_of bs) (none first)

-- the rules of the lent problem whose numbers are listed
abbrev pub RulesHold : List ℕ → List ℕ → List ℕ → List ℕ → Type 0
RulesHold ws bs out = AllHold (widths_of ws) (map (rule (rules_of bs)) out)
