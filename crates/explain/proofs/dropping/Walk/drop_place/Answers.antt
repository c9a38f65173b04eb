use mathlib.Core.Path.{sym, ◌∙◌}
use native.Mathlib.Omega.{arith}
use Rattle.explain.proofs.Questions.{place_used}
use Rattle.explain.proofs.Walking.{place_skipped, place_start, place_step, place_bit, place_end}
use Rattle.explain.proofs.dropping.Walk.drop_place.Goals as goal

pub returns-then-not-uses : goal.returns-then-not-uses
returns-then-not-uses c = place_skipped c.requires (sym c.uses.ensures ∙ c.if-not-uses.true)

pub loop-b-init : goal.loop-b-init
loop-b-init c = place_start c.requires

pub drop_bit-r-requires : goal.drop_bit-r-requires
drop_bit-r-requires c =
    let wide = (c.requires.asks.legal.width _ (place_used _ _ c.uses.ensures c.if-not-uses.false)).high in
    place_bit c.requires c.loop-b.b c.loop-b.invariant (sym c.uses.ensures ∙ c.if-not-uses.false) c.at-b-end.result c.at-b-end.ensures
    c.loop-b-test.true (omega (arith, c.loop-b-test.true, c.at-b-end.ensures, wide))

pub loop-b-preserved : goal.loop-b-preserved
loop-b-preserved c = place_step c.requires c.loop-b.b c.loop-b.invariant c.drop_bit-r.ensures

pub returns : goal.returns
returns c =
    place_end c.requires c.loop-b.b c.loop-b.invariant (sym c.uses.ensures ∙ c.if-not-uses.false) c.at-b-end.result c.at-b-end.ensures
    (omega (arith, c.loop-b-test.false, c.loop-b.auto.b-end))
