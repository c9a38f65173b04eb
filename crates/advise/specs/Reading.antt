-- Mirrors code: what comes of reading: at most as many bytes as there is room for.
use Rattle.std.specs.Prelude.{List, ℕ, ◌≤◌, length, Result, Ok, Err}

abbrev pub InputRead : {E : Type 0} → Result ℕ E → List ℕ → Type 0
InputRead (Ok n) l = n ≤ length l
InputRead (Err e) l = Unit {0}
