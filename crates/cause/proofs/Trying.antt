-- One trial: the rule taken out of the list, the search of the rest, and what is kept then.
use Rattle.checker.specs.Promise.{Fine}
use mathlib.Core.Path.{◌≡◌, refl, sym, ap, ◌∙◌}
use mathlib.Core.List.{List, ◌∷◌, ◌++◌, map}
use Prim.Native.Nat.{ℕ, zero, suc, ◌+◌, ◌≤◌, ◌<◌, ◌-◌}
use native.Mathlib.Numerals.{add-one}
use native.Mathlib.Omega.{arith}
use Rattle.std.proofs.Common.{None, Some}
use native.Mathlib.Decide.{dec_lt}
use lib.ListN.{length, take}
use Rattle.lists.specs.Lists.{at, series}
use Rattle.rules.specs.Tight.{rule}
use Rattle.problem.specs.Lent.{rule_count, rule_at, rules_of, word_count}
use Rattle.problem.proofs.Lents.{rule_at_lem}
use Rattle.tighten.specs.Memory.{table_in, chosen}
use Rattle.lists.proofs.Series.{series_same, series_add, series_take, series_map}
use Rattle.search.specs.declared.Answer.{Answer}
use Rattle.search.specs.declared.Answer.TheVariants.{Found, Nothing, GaveUp}
use Rattle.search.specs.Searching.{outcome_of}
use Rattle.search.specs.Starting.{ToSearch, Sought}
use Rattle.cause_theory.specs.Cause.{trial}
use Rattle.cause.specs.Listing.{kept_in, Removed, Inserted}
use Rattle.cause.specs.Trials.{TriedFor, Trying, Left, Tries, dropped, kept_on}

module _ {ws bs l : List ℕ} {n k : ℕ} (fine : Fine 0 ws bs) (t : Trying bs l n k) {m : List ℕ} (x : Removed n k l m) where
  fewer : n + k < rule_count bs
  fewer = omega (arith, t.standing.most)

  few : rule_count bs ≤ 252
  few = fine.sized.rules

  number : (j : ℕ) → j < n → at m (64 + j) ≡ j
  number j h = x.below (64 + j) (omega arith) ∙ t.standing.numbers j (omega arith)

  -- the kept ones have moved
  moved : (j : ℕ) → j < k → at m (64 + n + j) ≡ at l (64 + suc n + j)
  moved j h =
      let e : 64 + n + 1 + j ≡ 64 + suc n + j = omega arith in
      x.moved j h ∙ ap (at l) e

  below : (j : ℕ) → j < n + k → at m (64 + j) < rule_count bs
  below j h = go (dec_lt j n)
    where
      go : Dec (j < n) → at m (64 + j) < rule_count bs
      go (yes a) = rw (number j a) (omega (arith, fewer))
      go (no a) =
          let e : 64 + n + (j - n) ≡ 64 + j = omega arith in
          let low : at m (64 + n + (j - n)) < rule_count bs = rw (moved (j - n) (omega arith)) (t.standing.kept (j - n) (omega arith)) in
          rw e at low

  pub trial_asked : ToSearch bs m (n + k)
  trial_asked = record {
    listed = record { room = omega (arith, fewer, few, t.room, x.size); each = below };
    few = omega (arith, fewer, few);
    room = omega (arith, t.room, x.size);
  }

  -- the rules listed are those of the trial
  trial_chosen : chosen (rules_of bs) m (n + k) ≡ trial (rules_of bs) n (kept_in l (suc n) k)
  unfolding chosen kept_in
  trial_chosen =
      series_add n k (λ j. rule (rules_of bs) (at m (64 + j)))
      ∙ ap (λ r. r ++ series k (λ j. rule (rules_of bs) (at m (64 + (n + j))))) front
      ∙ ap (λ r. take n (rules_of bs) ++ r) rest
    where
      front : series n (λ j. rule (rules_of bs) (at m (64 + j))) ≡ take n (rules_of bs)
      front =
          series_same n _ (rule_at bs) (λ j h. ap (rule (rules_of bs)) (number j h) ∙ rule_at_lem bs j (omega (arith, fewer)))
          ∙ sym (series_take n (rule_count bs) (rule_at bs) (omega (arith, fewer)))

      rest : series k (λ j. rule (rules_of bs) (at m (64 + (n + j)))) ≡ map (rule (rules_of bs)) (series k (λ j. at l (64 + suc n + j)))
      rest =
          series_same k _ (λ j. rule (rules_of bs) (at l (64 + suc n + j)))
          (λ j h. let e : 64 + (n + j) ≡ 64 + n + j = omega arith in ap (rule (rules_of bs)) (ap (at m) e ∙ moved j h))
          ∙ sym (series_map (rule (rules_of bs)) k (λ j. at l (64 + suc n + j)))

  module _ {limit : ℕ} {r : Answer} {z : List ℕ} (s : Sought ws bs (n + k) limit m r z) where
    tried : TriedFor ws bs limit n (kept_in l (suc n) k) (outcome_of r (table_in (word_count ws) z).lo)
    tried = rw trial_chosen at s.search

    kept_in_lem : (j : ℕ) → j < k → at z (64 + n + j) ≡ at l (64 + suc n + j)
    kept_in_lem j h = s.list (64 + n + j) (omega arith) (omega (arith, fewer, few)) ∙ moved j h

    numbers_in : (j : ℕ) → j < n → at z (64 + j) ≡ j
    numbers_in j h = s.list (64 + j) (omega arith) (omega (arith, fewer, few)) ∙ number j h

    pub memory_size : length z ≡ length l
    memory_size = s.size ∙ x.size

    -- dropped
    still : Left bs n k (kept_in l (suc n) k) l z
    unfolding kept_in
    still = record {
      size = memory_size;
      standing = record { numbers = numbers_in; kept = λ j h. rw (kept_in_lem j h) (t.standing.kept j h); most = omega (arith, fewer) };
      same = series_same k _ _ kept_in_lem;
    }

    pub trial_dropped : {d : ℕ} → r ≡ Nothing d → Tries ws bs limit n k l (Some (record { count = d; rules = k })) z
    trial_dropped e = dropped refl (rw e at tried) still

    pub trial_gave_up : r ≡ GaveUp → Tries ws bs limit n k l None z
    trial_gave_up e = (rw e at tried, memory_size)

    -- kept
    module _ {y : List ℕ} (i : Inserted n k z y) (here : at y (64 + n) ≡ n) where
      moved_up : (j : ℕ) → j < k → at y (64 + n + suc j) ≡ at l (64 + suc n + j)
      moved_up j h =
          let e : 64 + n + suc j ≡ 64 + n + 1 + j = omega arith in
          ap (at y) e ∙ i.moved j h ∙ kept_in_lem j h

      first : at y (64 + n + 0) ≡ n
      first = let e : 64 + n + 0 ≡ 64 + n = omega arith in ap (at y) e ∙ here

      all_rules : (j : ℕ) → j < k + 1 → at y (64 + n + j) < rule_count bs
      all_rules zero h = rw first (omega (arith, fewer))
      all_rules (suc j) h = rw (moved_up j (omega arith)) (t.standing.kept j (omega arith))

      put_back : Left bs n (k + 1) (n ∷ kept_in l (suc n) k) l y
      unfolding kept_in series
      put_back = record {
        size = i.size ∙ memory_size;
        standing = record {
          numbers = λ j h. i.below (64 + j) (omega arith) ∙ numbers_in j h;
          kept = all_rules;
          most = omega (arith, fewer);
        };
        same = rw (add-one k) (cc (first, series_same k (λ j. at y (64 + n + suc j)) (λ j. at l (64 + suc n + j)) moved_up));
      }

      pub trial_kept : {d : ℕ} → r ≡ Found d → Tries ws bs limit n k l (Some (record { count = d; rules = k + 1 })) y
      trial_kept e = kept_on refl (rw e at tried) put_back
