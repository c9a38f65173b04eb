use Rattle.explain.proofs.Opening.{changed_opened}
use Rattle.rules.specs.Kinds.{R, A, B, S}
use Rattle.explain.proofs.places.open_at.Goals as goal

pub returns-in-R : goal.returns-in-R
returns-in-R c = rw c.in-R.is (changed_opened c.args.t R c.args.b (rw c.in-R.is at c.at.ensures) c.opened-open.ensures)

pub returns-in-A : goal.returns-in-A
returns-in-A c = rw c.in-A.is (changed_opened c.args.t A c.args.b (rw c.in-A.is at c.at.ensures) c.opened-open.ensures)

pub returns-in-B : goal.returns-in-B
returns-in-B c = rw c.in-B.is (changed_opened c.args.t B c.args.b (rw c.in-B.is at c.at.ensures) c.opened-open.ensures)

pub returns-in-S : goal.returns-in-S
returns-in-S c = rw c.in-S.is (changed_opened c.args.t S c.args.b (rw c.in-S.is at c.at.ensures) c.opened-open.ensures)
