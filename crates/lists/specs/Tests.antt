-- Mirrors code: what a test tells.
use Rattle.std.specs.Prelude.{Bool, true, false}

-- a statement holds, or it does not
pub data Decides (P : Type 0) : Bool → Type 0 where
  holds : P → Decides P true
  fails : ¬ P → Decides P false
