-- Mirrors code: one trial, and all of them, as they stand in work memory.
use Rattle.std.specs.Prelude.{◌≡◌, List, [], ◌∷◌, ℕ, suc, ◌+◌, ◌≤◌, length, Option, None, Some, Result, Ok, Err}
use Rattle.problem.specs.Lent.{widths_of, table_of, rule_count, rules_of}
use Rattle.checker.specs.Demands.{most_guesses}
use Rattle.search_theory.specs.Search.{Outcome, found, none, gave_up}
use Rattle.search.specs.Starting.{memory_length}
use Rattle.cause_theory.specs.Cause.{Cause, CAUSE, GAVE_UP, trial, Tried, Trims}
use Rattle.cause.specs.declared.Kept.{Kept}
use Rattle.cause.specs.Listing.{kept_in, Standing}

-- the search of the lent problem for some of its rules comes to an outcome
abbrev pub TriedFor : List ℕ → List ℕ → ℕ → ℕ → List ℕ → Outcome → Type 0
TriedFor ws bs limit n kept o = Tried (widths_of ws) limit (table_of ws) (trial (rules_of bs) n kept) o

-- the trials of the lent problem, from n rules not decided and c guesses on, come to x
abbrev pub TrimsTo : List ℕ → List ℕ → ℕ → ℕ → List ℕ → ℕ → Cause → Type 0
TrimsTo ws bs limit n kept c x = Trims (widths_of ws) (rules_of bs) limit (table_of ws) n kept c x

-- rule n is to be tried, with n rules below it not decided and k kept
pub record Trying (bs l : List ℕ) (n k : ℕ) : Type 0 where
  pub room : memory_length ≤ length l
  pub standing : Standing bs l (suc n) k

-- n rules are left to be decided in memory m, and k rules, those of the list, are kept
pub record Left (bs : List ℕ) (n k : ℕ) (kept l m : List ℕ) : Type 0 where
  pub size : length m ≡ length l
  pub standing : Standing bs m n k
  pub same : kept_in m n k ≡ kept

-- the trial without rule n was decided: the rule is dropped, or kept
pub data Decided (ws bs : List ℕ) (limit n k : ℕ) (l : List ℕ) (t : Kept) (m : List ℕ) : Type 0 where
  dropped : t.rules ≡ k → TriedFor ws bs limit n (kept_in l (suc n) k) (none t.count) → Left bs n k (kept_in l (suc n) k) l m
      → Decided ws bs limit n k l t m
  kept_on : {v : List ℕ} → t.rules ≡ k + 1 → TriedFor ws bs limit n (kept_in l (suc n) k) (found v t.count)
      → Left bs n (k + 1) (n ∷ kept_in l (suc n) k) l m → Decided ws bs limit n k l t m

-- it was made: it gave up, or was decided
abbrev pub Tries : List ℕ → List ℕ → ℕ → ℕ → ℕ → List ℕ → Option Kept → List ℕ → Type 0
Tries ws bs limit n k l None m = TriedFor ws bs limit n (kept_in l (suc n) k) gave_up × (length m ≡ length l)
Tries ws bs limit n k l (Some t) m = Decided ws bs limit n k l t m

-- all rules are to be tried, after a first search of so many guesses
pub record Trimming (bs l : List ℕ) (limit first : ℕ) : Type 0 where
  pub room : memory_length ≤ length l
  pub standing : Standing bs l (rule_count bs) 0
  pub low : limit ≤ most_guesses
  pub few : first ≤ most_guesses

-- all were decided: the numbers kept stand first in the list
pub record AllDecided (ws bs : List ℕ) (limit first : ℕ) (l : List ℕ) (t : Kept) (m : List ℕ) : Type 0 where
  pub size : length m ≡ length l
  pub standing : Standing bs m 0 t.rules
  pub trims : TrimsTo ws bs limit (rule_count bs) [] first (CAUSE (kept_in m 0 t.rules) t.count)

-- all were tried: they were decided, or one gave up
abbrev pub TrialsEnd : List ℕ → List ℕ → ℕ → ℕ → List ℕ → Result Kept ℕ → List ℕ → Type 0
TrialsEnd ws bs limit first l (Ok t) m = AllDecided ws bs limit first l t m
TrialsEnd ws bs limit first l (Err sum) m = (length m ≡ length l) × TrimsTo ws bs limit (rule_count bs) [] first (GAVE_UP sum)
