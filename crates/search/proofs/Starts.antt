-- The search of a problem's own table: the table loaded, the copy made of it, and room on the trail for all its open bits.
use Rattle.checker.specs.Promise.{Fine}
use mathlib.Core.Path.{◌≡◌, sym, ap, subst, ◌∙◌}
use mathlib.Core.Logic.{inl}
use mathlib.Core.List.{List}
use Prim.Native.Nat.{ℕ, zero, suc, ◌+◌, ◌*◌, ◌≤◌, ◌<◌}
use native.Mathlib.Nat.{zero-add}
use native.Mathlib.Omega.{arith}
use lib.ListN.{length}
use Rattle.words.specs.Table.{Table}
use Rattle.lists.specs.Lists.{at}
use Rattle.rules.specs.Tight.{Tight}
use Rattle.rules.proofs.Propers.{proper_inside, bits_below, open_bits}
use Rattle.problem.specs.Lent.{word_count, widths_of, table_of, rules_of, lo_at, hi_at}
use Rattle.lists.proofs.Series.{length_series}
use Rattle.problem.proofs.Lents.{lo_at_lem, hi_at_lem}
use Rattle.tighten.specs.Memory.{table_in, Loaded}
use Rattle.trail.specs.Trail.{copied, Moved}
use Rattle.search_theory.specs.Search.{Search}
use Rattle.search_theory.proofs.Solved.{width_most}
use Rattle.search.specs.declared.Answer.{Answer}
use Rattle.search.specs.Guessing.{copy_in}
use Rattle.search.specs.Searching.{outcome_of, Begun, Searched}
use Rattle.search.specs.Starting.{ToSearch, Sought}
use Rattle.search.proofs.Tables.{table_as, copy_as}
use Rattle.search.proofs.Frames.{chosen_kept, listed_kept}

-- m words have at most 64 m open bits
few_bits : (w : List ℕ) → ((i : ℕ) → at w i ≤ 64) → (m : ℕ) → bits_below m w ≤ 64 * m
unfolding bits_below
few_bits w most zero = omega arith
few_bits w most (suc m) = omega (arith, few_bits w most m, most m)

module _ {ws bs l : List ℕ} {c : ℕ} (fine : Fine 0 ws bs) (asked : ToSearch bs l c)
    {k m : List ℕ} (x : Loaded (word_count ws) ws l k) (y : Moved (word_count ws) 0 316 k m) where
  few : word_count ws ≤ 32
  few = fine.sized.words

  room : 4476 ≤ length m
  room = omega (arith, asked.room, x.size, y.size)

  los : length (table_of ws).lo ≡ word_count ws
  los = length_series (word_count ws) (lo_at ws)

  his : length (table_of ws).hi ≡ word_count ws
  his = length_series (word_count ws) (hi_at ws)

  table_there : table_in (word_count ws) m ≡ table_of ws
  table_there =
      table_as (word_count ws) m (table_of ws) few (omega (arith, room)) los his
      (λ i h. y.rest i (inl (omega arith)) ∙ x.low i h ∙ sym (lo_at_lem ws fine.sized.whole_words i))
      (λ i h. y.rest (i + 32) (inl (omega arith)) ∙ x.high i h ∙ sym (hi_at_lem ws fine.sized.whole_words i))

  copy_there : copy_in (word_count ws) m ≡ table_of ws
  copy_there =
      copy_as (word_count ws) m few (omega (arith, room)) (table_of ws) los his (λ i h. low i h) (λ i h. high i h)
    where
      low : (i : ℕ) → i < word_count ws → copied m i ≡ at (table_of ws).lo i
      low i h = y.low i h ∙ ap (at k) (zero-add i) ∙ x.low i h ∙ sym (lo_at_lem ws fine.sized.whole_words i)

      high : (i : ℕ) → i < word_count ws → copied m (i + 32) ≡ at (table_of ws).hi i
      high i h =
          let e : 316 + (i + 32) ≡ 316 + 32 + i = omega arith in
          let f : 0 + 32 + i ≡ i + 32 = omega arith in
          ap (at m) e ∙ y.high i h ∙ ap (at k) f ∙ x.high i h ∙ sym (hi_at_lem ws fine.sized.whole_words i)

  list : (q : ℕ) → 64 ≤ q → q < 316 → at m q ≡ at l q
  list q h g = y.rest q (inl g) ∙ x.rest q h

  pub problem_begun : (limit : ℕ) → Begun ws bs m c 0 0 limit
  problem_begun limit =
      let proper = fine.problem.table in
      record {
        tabled = record { room = omega (arith, room); table = rw table_there proper };
        listed = listed_kept l m c asked.few list bs (y.size ∙ x.size) asked.listed;
        few = asked.few;
        copy = rw (table_there, copy_there) (proper_inside proper);
        room = rw copy_there (omega (arith, room, few, open_bits proper (word_count ws), few_bits (widths_of ws) (width_most proper) (word_count ws)));
        within = omega arith;
      }

  pub problem_sought : {limit : ℕ} {r : Answer} {z : List ℕ} → Searched ws bs c limit m 0 0 r z → Sought ws bs c limit l r z
  problem_sought {limit} {r} {z} s = record {
    search = subst (λ (T : Table → Type 0). Search T limit (table_of ws) 0 (outcome_of r (table_in (word_count ws) z).lo))
        (ap (Tight (widths_of ws)) (chosen_kept l m c asked.few list (rules_of bs))) (rw table_there at s.search);
    size = s.frame.size ∙ y.size ∙ x.size;
    list = λ q h g. s.frame.same q h (omega arith) ∙ list q h g;
  }
