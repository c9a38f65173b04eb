-- To be believed: settings of a table, and the first of them in word order.
-- `Holds` may be any property of values; a problem's is that all its rules hold.
use Rattle.std.specs.Prelude.{◌≡◌, ◌⊎◌, List, ℕ}
use Rattle.words.specs.Table.{Table, Keeps, Earlier}

-- settings: values that keep the fixed bits (and so the widths), for which the rules hold
pub record Settings (Holds : List ℕ → Type 0) (t : Table) (v : List ℕ) : Type 0 where
  pub keeps : Keeps t v
  pub holds : Holds v

-- v is the first of the settings
pub record First (Holds : List ℕ → Type 0) (t : Table) (v : List ℕ) : Type 0 where
  pub settings : Settings Holds t v
  pub before : (w : List ℕ) → Settings Holds t w → (w ≡ v) ⊎ Earlier v w

-- there are no settings
abbrev pub Without : (List ℕ → Type 0) → Table → Type 0
Without Holds t = (v : List ℕ) → ¬ Settings Holds t v
