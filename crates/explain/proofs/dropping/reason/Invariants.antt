use Rattle.explain.specs.Dropping.{Gone}
use Rattle.explain.proofs.Walking.{bits}
use Rattle.explain.proofs.dropping.reason.Given as goal

abbrev pub invariant-loop-p : goal.invariant-loop-p
invariant-loop-p l = Gone l.fn.q l.fn.x (bits l.fn.q l.fn.t l.p-index) l.initial.r l.initial.list l.r l.list
