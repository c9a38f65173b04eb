use Rattle.std.proofs.Common.{◌∙◌}
use Rattle.hull.proofs.AllKinds.{told, r_width, a_width, b_width, columns_told}
use Rattle.hull.proofs.narrow.Goals as goal

pub invariant_of-shift : goal.invariant_of-shift
invariant_of-shift c = record { width = r_width c.args.kind c.args.k c.args.w c.args.t c.requires (rw c.in-Copy.is tt) }

pub invariant_of-invert : goal.invariant_of-invert
invariant_of-invert c = record { width = r_width c.args.kind c.args.k c.args.w c.args.t c.requires (rw c.in-Not.is tt) }

pub invariant_of-shift-in-Slice : goal.invariant_of-shift-in-Slice
invariant_of-shift-in-Slice c = record { width = r_width c.args.kind c.args.k c.args.w c.args.t c.requires (rw c.in-Slice.is tt) }

pub invariant_of-join : goal.invariant_of-join
invariant_of-join c = record { width = b_width c.args.kind c.args.k c.args.w c.args.t c.requires (rw c.in-Join.is tt) }

pub invariant_of-shift-in-Shl : goal.invariant_of-shift-in-Shl
invariant_of-shift-in-Shl c = record { width = r_width c.args.kind c.args.k c.args.w c.args.t c.requires (rw c.in-Shl.is tt) }

pub invariant_of-shift-in-Shr : goal.invariant_of-shift-in-Shr
invariant_of-shift-in-Shr c = record { width = r_width c.args.kind c.args.k c.args.w c.args.t c.requires (rw c.in-Shr.is tt) }

pub invariant_of-columns : goal.invariant_of-columns
invariant_of-columns c = record { width = a_width c.args.kind c.args.k c.args.w c.args.t c.requires }

pub returns-in-Copy : goal.returns-in-Copy
returns-in-Copy c =
    told c.args.kind c.args.k c.args.w c.args.t c.requires _ (rw c.in-Copy.is c.shift.ensures)

pub returns-in-Not : goal.returns-in-Not
returns-in-Not c =
    told c.args.kind c.args.k c.args.w c.args.t c.requires _ (rw c.in-Not.is c.invert.ensures)

pub returns-in-Slice : goal.returns-in-Slice
returns-in-Slice c =
    told c.args.kind c.args.k c.args.w c.args.t c.requires _ (rw c.in-Slice.is c.shift-in-Slice.ensures)

pub returns-in-Join : goal.returns-in-Join
returns-in-Join c =
    told c.args.kind c.args.k c.args.w c.args.t c.requires _ (rw c.in-Join.is c.join.ensures)

pub returns-in-Shl : goal.returns-in-Shl
returns-in-Shl c =
    told c.args.kind c.args.k c.args.w c.args.t c.requires _ (rw c.in-Shl.is c.shift-in-Shl.ensures)

pub returns-in-Shr : goal.returns-in-Shr
returns-in-Shr c =
    told c.args.kind c.args.k c.args.w c.args.t c.requires _ (rw c.in-Shr.is c.shift-in-Shr.ensures)

pub returns-in_default : goal.returns-in_default
returns-in_default c =
    let d = c.in_default in
    told c.args.kind c.args.k c.args.w c.args.t c.requires _
    (c.columns.ensures ∙ columns_told c.args.kind c.args.k c.args.w c.args.t d.not-Copy d.not-Not d.not-Slice d.not-Join d.not-Shl d.not-Shr)
