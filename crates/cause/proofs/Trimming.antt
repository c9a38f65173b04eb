-- All trials, one after the other: what is decided so far is part of the paper's procedure, whatever the rest comes to.
use mathlib.Core.Path.{◌≡◌, refl, ◌∙◌}
use mathlib.Core.List.{List, []}
use Prim.Native.Nat.{ℕ, suc, ◌+◌, ◌*◌, ◌≤◌}
use native.Mathlib.Omega.{arith}
use Rattle.std.proofs.Common.{None, Ok, Err}
use lib.ListN.{length}
use Rattle.lists.specs.Lists.{series}
use Rattle.problem.specs.Lent.{rule_count}
use Rattle.search_theory.specs.Search.{answer_found, answer_none}
use Rattle.search_theory.proofs.Limit.{count_limit}
use Rattle.cause_theory.specs.Cause.{Cause, CAUSE, GAVE_UP, decided, spared, needed, unknown}
use Rattle.cause.specs.declared.Kept.{Kept}
use Rattle.cause.specs.Listing.{kept_in, Standing}
use Rattle.cause.specs.Trials.{TrimsTo, Decided, Tries, dropped, kept_on, Trimming, TrialsEnd}

-- n rules are not decided, k are kept, and so many guesses were made
pub record Going (ws bs : List ℕ) (limit first : ℕ) (l : List ℕ) (n k sum : ℕ) (m : List ℕ) : Type 0 where
  pub size : length m ≡ length l
  pub standing : Standing bs m n k
  pub small : sum + 1000000 * n ≤ 1000000 * (rule_count bs + 1)
  pub towards : (x : Cause) → TrimsTo ws bs limit n (kept_in m n k) sum x → TrimsTo ws bs limit (rule_count bs) [] first x

module _ {ws bs l : List ℕ} {limit first : ℕ} (t : Trimming bs l limit first) where
  pub going_start : Going ws bs limit first l (rule_count bs) 0 first l
  unfolding kept_in series
  going_start = record { size = refl; standing = t.standing; small = omega (arith, t.few); towards = λ x h. h }

  module _ {n k sum : ℕ} {m : List ℕ} (g : Going ws bs limit first l (suc n) k sum m) where
    -- a trial was decided
    module _ {r : Kept} {m' : List ℕ} (s : Decided ws bs limit n k m r m') where
      few : r.count ≤ 1000000
      few = go s
        where
          go : Decided ws bs limit n k m r m' → r.count ≤ 1000000
          go (dropped b c d) = omega (arith, count_limit c answer_none (omega arith), t.low)
          go (kept_on b c d) = omega (arith, count_limit c answer_found (omega arith), t.low)

      pub sum_small : sum + r.count + 1000000 * n ≤ 1000000 * (rule_count bs + 1)
      sum_small = omega (arith, few, g.small)

      pub going_step : Going ws bs limit first l n r.rules (sum + r.count) m'
      going_step = go s
        where
          go : Decided ws bs limit n k m r m' → Going ws bs limit first l n r.rules (sum + r.count) m'
          go (dropped b c d) = rw b (record {
            size = d.size ∙ g.size;
            standing = d.standing;
            small = sum_small;
            towards = λ x h. g.towards x (spared c (rw d.same at h));
          })
          go (kept_on b c d) = rw b (record {
            size = d.size ∙ g.size;
            standing = d.standing;
            small = sum_small;
            towards = λ x h. g.towards x (needed c (rw d.same at h));
          })

    -- it gave up
    pub limit_small : sum + limit ≤ 1000000 * (rule_count bs + 1)
    limit_small = omega (arith, t.low, g.small)

    pub going_gave_up : (m' : List ℕ) → Tries ws bs limit n k m None m' → TrialsEnd ws bs limit first l (Err (sum + limit)) m'
    going_gave_up m' (c, d) = (d ∙ g.size, g.towards (GAVE_UP (sum + limit)) (unknown c))

  pub going_end : {k sum : ℕ} {m : List ℕ} → Going ws bs limit first l 0 k sum m
      → TrialsEnd ws bs limit first l (Ok (record { count = sum; rules = k })) m
  going_end {k} {sum} {m} g = record { size = g.size; standing = g.standing; trims = g.towards (CAUSE (kept_in m 0 k) sum) decided }
