-- To be believed: lent numbers as a problem: three numbers a word, six bytes a rule, one after the other.
use Rattle.std.specs.Prelude.{List, ℕ, ◌+◌, ◌*◌, ◌/◌, length}
use Rattle.words.specs.Table.{Table}
use Rattle.lists.specs.Lists.{at, series}
use Rattle.rules.specs.Tight.{Rule}

-- numbers a word: width, lo, hi
abbrev pub stride : ℕ
stride = 3

-- bytes a rule: kind, r, a, b, s, k
abbrev pub fields : ℕ
fields = 6

abbrev pub word_count : List ℕ → ℕ
word_count ws = length ws / stride

abbrev pub width_at : List ℕ → ℕ → ℕ
width_at ws i = at ws (stride * i)

abbrev pub lo_at : List ℕ → ℕ → ℕ
lo_at ws i = at ws (stride * i + 1)

abbrev pub hi_at : List ℕ → ℕ → ℕ
hi_at ws i = at ws (stride * i + 2)

abbrev pub rule_count : List ℕ → ℕ
rule_count bs = length bs / fields

abbrev pub rule_at : List ℕ → ℕ → Rule
rule_at bs n = record {
  kind = at bs (fields * n);
  r = at bs (fields * n + 1);
  a = at bs (fields * n + 2);
  b = at bs (fields * n + 3);
  s = at bs (fields * n + 4);
  k = at bs (fields * n + 5);
}

-- the widths, the table and the rules that the numbers stand for
abbrev pub widths_of : List ℕ → List ℕ
widths_of ws = series (word_count ws) (width_at ws)

abbrev pub table_of : List ℕ → Table
table_of ws = record { lo = series (word_count ws) (lo_at ws); hi = series (word_count ws) (hi_at ws) }

abbrev pub rules_of : List ℕ → List Rule
rules_of bs = series (rule_count bs) (rule_at bs)
