use mathlib.Core.Path.{◌∙◌}
use Rattle.lists.proofs.Deciding.{decided, refuted}
use Rattle.explain.proofs.PlaceNumbers.{number_listed}
use Rattle.explain.proofs.Passing.{open_passed, has_room, wider_asks, bit_dropped, bit_kept}
use Rattle.explain.proofs.dropping.Walk.drop_bit.Goals as goal

pub returns-then-bit_of : goal.returns-then-bit_of
returns-then-bit_of c =
    open_passed (record { asked = c.requires; low = rw c.at-pair.ensures at c.bit_of.ensures; high = rw c.at-pair.ensures at c.bit_of-2.ensures })
    c.if-bit_of.true

pub stays-requires : goal.stays-requires
stays-requires c =
    wider_asks (record { asked = c.requires; low = rw c.at-pair.ensures at c.bit_of.ensures; high = rw c.at-pair.ensures at c.bit_of-2.ensures })
    c.if-bit_of.false c.open_at-u.result c.open_at-u.ensures

pub returns-then-stays : goal.returns-then-stays
returns-then-stays c =
    bit_dropped (record { asked = c.requires; low = rw c.at-pair.ensures at c.bit_of.ensures; high = rw c.at-pair.ensures at c.bit_of-2.ensures })
    c.if-bit_of.false c.open_at-u.result c.open_at-u.ensures (decided c.stays.ensures c.if-stays.true)

pub bounds-list-count : goal.bounds-list-count
bounds-list-count c =
    has_room (record { asked = c.requires; low = rw c.at-pair.ensures at c.bit_of.ensures; high = rw c.at-pair.ensures at c.bit_of-2.ensures })
    c.if-bit_of.false

pub returns : goal.returns
returns c =
    bit_kept (record { asked = c.requires; low = rw c.at-pair.ensures at c.bit_of.ensures; high = rw c.at-pair.ensures at c.bit_of-2.ensures })
    c.if-bit_of.false c.open_at-u.result c.open_at-u.ensures _ (c.from.ensures.0 ∙ number_listed c.args.p) (refuted c.stays.ensures c.if-stays.false)
