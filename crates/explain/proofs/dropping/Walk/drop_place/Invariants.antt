use Rattle.problem.specs.Named.{place_named}
use Rattle.problem.specs.Places.{span_of}
use Rattle.reason_theory.specs.Reason.{fixed_from}
use Rattle.explain.specs.Dropping.{Gone}
use Rattle.explain.proofs.dropping.Walk.drop_place.Given as goal

abbrev pub invariant-loop-b : goal.invariant-loop-b
invariant-loop-b l = Gone l.self.q l.self.x (fixed_from (span_of l.self.g) (place_named l.p) 0 l.b) l.initial.r l.initial.list l.r l.list
