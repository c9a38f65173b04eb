use mathlib.Core.Path.{refl, ◌∙◌}
use native.Mathlib.Omega.{arith}
use Rattle.decimal.proofs.Appends.{appended_length}
use Rattle.report.proofs.Puts.{pieces_start, pieces_turn}
use Rattle.report.proofs.Reports.{words_end}
use Rattle.report.proofs.line.Lines.words.Goals as goal

pub loop-i-init : goal.loop-i-init
loop-i-init c = (record { there = pieces_start _ _ _ (omega (arith, c.requires.1)); same = refl }, refl, omega arith)

pub loop-i-preserved : goal.loop-i-preserved
loop-i-preserved c =
    let p = c.loop-i.invariant.0 in
    let q = c.word.ensures.0 in (
      record { there = pieces_turn c.loop-i.i _ p.there q.there; same = q.same ∙ p.same },
      appended_length q.there ∙ c.loop-i.invariant.1,
      omega arith,
    )

pub returns : goal.returns
returns c =
    let p = c.loop-i.invariant.0 in
    record { there = words_end c.args.words.now c.args.model.now _ p.there (omega arith) (omega arith); same = p.same }
