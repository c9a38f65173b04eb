-- To be believed: a draft, which is a problem as far as a script has been read: its words and its rules, and how one of either is added.
use Rattle.std.specs.Prelude.{List, [], ◌∷◌, ◌++◌, map, ℕ, ◌-◌, ◌^◌}
use Rattle.words.specs.Table.{Table}
use Rattle.rules.specs.Kinds.{Op, Rel}
use Rattle.rules.specs.KindNumbers.{op_number, rel_number}
use Rattle.rules.specs.Tight.{Rule, AllHold}
use Rattle.search_theory.specs.Settings.{Settings}

-- the widths and bounds of the words so far, and the rules so far
pub record Draft : Type 0 where
  pub widths : List ℕ
  pub table : Table
  pub rules : List Rule

-- one word more, and one rule more
unfoldable pub more_word : ℕ → ℕ → ℕ → Draft → Draft
more_word w lo hi d = record {
  widths = d.widths ++ (w ∷ []);
  table = record { lo = d.table.lo ++ (lo ∷ []); hi = d.table.hi ++ (hi ∷ []) };
  rules = d.rules;
}

unfoldable pub more_rule : Rule → Draft → Draft
more_rule ρ d = record { widths = d.widths; table = d.table; rules = d.rules ++ (ρ ∷ []) }

-- the rule that computes word r, and the rule that relates a and b
abbrev pub computing_rule : Op → ℕ → ℕ → ℕ → ℕ → ℕ → Rule
computing_rule o k r a b s = record { kind = op_number o; r = r; a = a; b = b; s = s; k = k }

abbrev pub relating_rule : Rel → ℕ → ℕ → Rule
relating_rule x a b = record { kind = rel_number x; r = 0; a = a; b = b; s = 0; k = 0 }

-- the declared words alone, all bits open
unfoldable pub start : List ℕ → Draft
start ws = record { widths = ws; table = record { lo = map (λ w. 0) ws; hi = map (λ w. 2 ^ w - 1) ws }; rules = [] }

-- the settings of the problem that a draft is
abbrev pub SettingsOf : Draft → List ℕ → Type 0
SettingsOf d v = Settings (AllHold d.widths d.rules) d.table v
