-- The open bits of the table fall at every call of the search, for the whole table and for the words that the guess falls on.
use mathlib.Core.Logic.{inl, inr}
use Prim.Native.Nat.{ℕ, ◌<◌}
use native.Mathlib.Omega.{arith}
use Rattle.words.specs.Table.{Table, Inside, Guess, with0, with1}
use Rattle.words.specs.Count.{open_below}
use Rattle.words.proofs.Fixing.{inside0, inside1, fixed0, fixed1}
use Rattle.words.proofs.Falls.{open_less, open_falls}
use Rattle.words.proofs.Tables.{self}
use Rattle.rules.specs.Tightening.{Widest}

module _ {Tight : Table → Type 0} {t u : Table} {i j : ℕ} (w : Widest Tight t u) (g : Guess u i j) (n : ℕ) (reach : i < n) where
  -- from the tight table, by the guess
  pub falls0 : open_below n (with0 u i j) < open_below n u
  falls0 =
      let uu = self w.inside in
      open_falls uu (inside0 u i j uu g.here) i j g.here (inr (fixed0 u i j uu g.here)) n reach

  pub falls1 : open_below n (with1 u i j) < open_below n u
  falls1 =
      let uu = self w.inside in
      open_falls uu (inside1 u i j uu g.here) i j g.here (inl (fixed1 u i j uu g.here)) n reach

  -- from the table searched to the tables of both values
  pub search_falls : Inside t t → (open_below n (with0 u i j) < open_below n t) × (open_below n (with1 u i j) < open_below n t)
  search_falls ok = (omega (arith, open_less ok w.inside n, falls0), omega (arith, open_less ok w.inside n, falls1))
