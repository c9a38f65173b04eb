-- To be believed: what the call `advise` promises: which report a file gets, and every lent byte and number afterwards.
-- Mirrors code: `ToReport`, `Told`.
use Rattle.std.specs.Prelude.{◌≡◌, List, ℕ, ◌≤◌, length, Result, Ok, Err}
use Rattle.checker.specs.declared.refusal.Refusal.{Refusal}
use Rattle.checker.specs.declared.refusal.Refusal.TheVariants.{Size}
use Rattle.checker.specs.Refusals.{number_of, place_of}
use Rattle.problem.specs.Lent.{widths_of}
use Rattle.tighten.specs.Memory.{Cleared}
use Rattle.search_theory.specs.Search.{found, none, gave_up}
use Rattle.cause_theory.specs.Cause.{CAUSE, GAVE_UP}
use Rattle.solve.specs.Promise.{Comes}
use Rattle.cause.specs.Promise.{cause_work, Named}
use Rattle.lists.specs.Lists.{zeros}
use Rattle.blocks.specs.Edition.{edition1}
use Rattle.blocks.specs.Written.{IsFile}
use Rattle.blocks.specs.Promise.{Reads}
use Rattle.report.specs.Text.{Report, sat, unsat, named, unnamed, unknown, refused}
use Rattle.report.specs.Printed.{most, Printed}

-- enough bytes and, as for a cause, enough work memory were lent
pub record Lent (out work : List ℕ) : Type 0 where
  pub bytes : most ≤ length out
  pub memory : cause_work ≤ length work

-- what a problem's own search and, after NONE, the procedure for its cause come to
pub data ReportOf (limit : ℕ) (ws bs : List ℕ) : Report → Type 0 where
  found_first : {v : List ℕ} {g : ℕ} → Comes limit ws bs (found v g) → ReportOf limit ws bs (sat g (widths_of ws) v)
  none_named : {rules : List ℕ} {g sum : ℕ} → Comes limit ws bs (none g) → Named limit ws bs (CAUSE rules sum)
      → ReportOf limit ws bs (unsat g (named sum rules))
  none_unnamed : {g sum : ℕ} → Comes limit ws bs (none g) → Named limit ws bs (GAVE_UP sum)
      → ReportOf limit ws bs (unsat g (unnamed sum))
  gave_up_at : Comes limit ws bs gave_up → ReportOf limit ws bs (unknown limit)

-- a problem without refusals, with enough lent
pub record ToReport (limit : ℕ) (ws bs out work : List ℕ) : Type 0 where
  pub lent : Lent out work
  pub fine : edition1.judge limit ws bs ≡ Ok tt

-- a problem's report stands in bytes out', which were out, and has e of them; work memory is all 0
pub data Told (limit : ℕ) (ws bs out work : List ℕ) (e : ℕ) (out' work' : List ℕ) : Type 0 where
  told : {x : Report} → ReportOf limit ws bs x → Printed x out out' e → Cleared work work' → Told limit ws bs out work e out' work'

-- memory for 32 words and for 252 rules
abbrev pub no_words : List ℕ
no_words = zeros 96

abbrev pub no_rules : List ℕ
no_rules = zeros 1512

-- the report on a file: the number and the place with which reading it is refused; or what its problem is answered
pub data Reports (f : List ℕ) : Report → Type 0 where
  unread : {r : Refusal} → Reads edition1 f no_words no_rules no_words no_rules (Err r) → Reports f (refused (number_of r) (place_of r))
  answered : {limit : ℕ} {ws bs : List ℕ} {x : Report} → IsFile edition1 limit ws bs f → edition1.judge limit ws bs ≡ Ok tt → ReportOf limit ws bs x
      → Reports f x

-- bytes out and work memory were lent with the file f; out' and work' stand there afterwards
pub data Advises (f out work : List ℕ) : Result ℕ Refusal → List ℕ → List ℕ → Type 0 where
  size : ¬ Lent out work → Advises f out work (Err Size) out work
  lines : {x : Report} {out' work' : List ℕ} {e : ℕ} → Lent out work → Reports f x → Printed x out out' e → Cleared work work'
      → Advises f out work (Ok e) out' work'
