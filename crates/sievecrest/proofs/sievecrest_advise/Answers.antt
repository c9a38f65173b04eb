use mathlib.Core.Path.{sym, ◌∙◌}
use native.Mathlib.Omega.{arith}
use Rattle.packing.proofs.Apart.{returning}
use Rattle.sievecrest.proofs.Sizes.{advise_within}
use Rattle.sievecrest.proofs.Wider.{first_length, advise_wider}
use Rattle.sievecrest.proofs.sievecrest_advise.Goals as goal

pub slice_bounds-advise-end-2 : goal.slice_bounds-advise-end-2
slice_bounds-advise-end-2 c = sym (first_length _ _ c.min-n.ensures)

pub pack-requires : goal.pack-requires
pack-requires c =
    let k = c.advise.auto.out ∙ first_length _ _ c.min-n.ensures in
    advise_within (omega (arith, k, c.min-n.ensures)) c.advise.ensures

pub returns : goal.returns
returns c =
    let k = c.advise.auto.out ∙ first_length _ _ c.min-n.ensures in
    returning _ (advise_wider _ _ c.min-n.ensures k c.advise.ensures) (advise_within (omega (arith, k, c.min-n.ensures)) c.advise.ensures) c.pack.ensures
