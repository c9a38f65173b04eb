-- Mirrors code: what a step of tightening has done to a table, for a notion P of tight: one rule, or all rules once.
use Rattle.std.specs.Prelude.{◌≡◌, Bool, true, false, ℕ, ◌<◌, IsNone, IsSome, Option, Some}
use Rattle.words.specs.Table.{Table, Inside}
use Rattle.words.specs.Count.{open_below}
use Rattle.rules.specs.Tightening.{Conflict}

-- from table t of n words to table u; r says whether a bound changed, and is none where there is no fit
pub record Stepped (P : Table → Type 0) (n : ℕ) (t u : Table) (r : Option Bool) : Type 0 where
  -- without a fit no tight table lies inside t
  pub none : IsNone r → Conflict P t
  -- with one, u lies inside t, and each tight table inside t lies inside u
  pub inside : IsSome r → Inside u t
  pub all : IsSome r → (s : Table) → P s → Inside s t → Inside s u
  -- where no bound changed, t is tight
  pub same : r ≡ Some false → u ≡ t
  pub tight : r ≡ Some false → P t
  -- where one changed, fewer bits are open
  pub less : r ≡ Some true → open_below n u < open_below n t
