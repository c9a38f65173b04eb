-- Mirrors code: the fields of a rule as they are read, and the widths and bounds of the words that they name.
use Rattle.std.specs.Prelude.{List, ℕ, ◌+◌, ◌*◌}
use Rattle.lists.specs.Lists.{at}
use Rattle.rules.specs.Tight.{Rule}
use Rattle.problem.specs.declared.Fields.{Fields}
use Rattle.problem.specs.declared.Places.{Places}
use Rattle.problem.specs.Places.{Widths, Bounds}
use Rattle.problem.specs.declared.Span.{Span}
use Rattle.problem.specs.Lent.{fields, width_at, lo_at, hi_at}

unfoldable pub fields_at : List ℕ → ℕ → Fields
fields_at bs n = record {
  kind = at bs (fields * n);
  r = at bs (fields * n + 1);
  a = at bs (fields * n + 2);
  b = at bs (fields * n + 3);
  s = at bs (fields * n + 4);
  k = at bs (fields * n + 5);
}

-- the rule of a rule's fields
abbrev pub rule_of : Fields → Rule
rule_of x = record { kind = x.kind; r = x.r; a = x.a; b = x.b; s = x.s; k = x.k }

-- the numbers of the words that a rule's fields name
abbrev pub words_of : Fields → Places ℕ
words_of x = record { r = x.r; a = x.a; b = x.b; s = x.s }

-- the widths of the words with these numbers
unfoldable pub widths_of_words : List ℕ → Places ℕ → Widths
widths_of_words ws x = record { r = width_at ws x.r; a = width_at ws x.a; b = width_at ws x.b; s = width_at ws x.s }

abbrev pub widths_at : List ℕ → Fields → Widths
widths_at ws x = widths_of_words ws (words_of x)

abbrev pub pair_at : List ℕ → ℕ → Span
pair_at ws i = record { lo = lo_at ws i; hi = hi_at ws i }

-- the bounds of the words with these numbers
unfoldable pub bounds_of_words : List ℕ → Places ℕ → Bounds
bounds_of_words ws x = record { r = pair_at ws x.r; a = pair_at ws x.a; b = pair_at ws x.b; s = pair_at ws x.s }

abbrev pub bounds_at : List ℕ → Fields → Bounds
bounds_at ws x = bounds_of_words ws (words_of x)
