-- To be believed: what putting text into lent bytes promises.
use Rattle.std.specs.Prelude.{◌≡◌, List, ℕ, ◌+◌, ◌≤◌, length, take}
use Rattle.std.specs.List.{AllZip}
use Rattle.lists.specs.Lists.{put}
use Rattle.decimal.specs.Text.{spaced}

-- xs was put into l at `at`, and ends before e; there was room
pub record Appended (l : List ℕ) (at : ℕ) (xs m : List ℕ) (e : ℕ) : Type 0 where
  pub ends : e ≡ at + length xs
  pub room : e ≤ length l
  pub text : m ≡ put l at xs

-- there is room from `at` on for the numbers that the first of xs stand for, each after a blank, however many of them
abbrev pub RoomFor : {A : Type 0} → (A → ℕ → Type 0) → List ℕ → ℕ → List A → Type 0
RoomFor R l at xs = (k : ℕ) (ns : List ℕ) → AllZip R (take k xs) ns → at + length (spaced ns) ≤ length l

-- the numbers that xs stand for were put at `at`, each after a blank, and end before e
pub record Spaced {A : Type 0} (R : A → ℕ → Type 0) (l : List ℕ) (at : ℕ) (xs : List A) (m : List ℕ) (e : ℕ) : Type 0 where
  pub numbers : List ℕ
  pub each : AllZip R xs numbers
  pub there : Appended l at (spaced numbers) m e
