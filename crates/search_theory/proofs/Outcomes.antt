-- The three outcomes are never one another.
use mathlib.Core.Path.{◌≡◌}
use mathlib.Core.Logic.{◌≢◌}
use mathlib.Core.List.{List}
use Prim.Native.Nat.{ℕ}
use native.Mathlib.Omega.{arith}
use Rattle.search_theory.specs.Search.{found, none, gave_up}

pub found_not_none : {v : List ℕ} {m n : ℕ} → found v m ≢ none n
found_not_none e = let z : ◌≡◌ {A = ℕ} 0 1 = cc in omega arith

pub found_not_gave_up : {v : List ℕ} {n : ℕ} → found v n ≢ gave_up
found_not_gave_up e = let z : ◌≡◌ {A = ℕ} 0 1 = cc in omega arith

pub none_not_gave_up : {n : ℕ} → none n ≢ gave_up
none_not_gave_up e = let z : ◌≡◌ {A = ℕ} 0 1 = cc in omega arith
