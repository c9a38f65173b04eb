-- The call's own steps: what is not refused is a proper problem with room, and what the search comes to is the answer.
use mathlib.Core.Path.{◌≡◌, sym, ◌∙◌}
use mathlib.Core.List.{List}
use Prim.Native.Nat.{ℕ, ◌≤◌, ◌<◌}
use native.Mathlib.Omega.{arith}
use lib.ListN.{length}
use Rattle.std.specs.Prelude.{Ok, Err}
use Rattle.checker.specs.declared.refusal.Refusal.{Refusal}
use Rattle.checker.specs.declared.refusal.Refusal.TheVariants.{Size}
use Rattle.problem.specs.Lent.{word_count, rule_count}
use Rattle.checker.specs.Refusal.{refusal_with}
use Rattle.checker.specs.Promise.{Fine}
use Rattle.checker.proofs.Right.{ok_fine}
use Rattle.checker.proofs.Rooms.{first_short, second_short, roomy, has_room}
use Rattle.tighten.specs.Memory.{table_in, Numbered, Cleared}
use Rattle.tighten.proofs.Calling.{all_chosen}
use Rattle.tighten.proofs.Memory.{low_at}
use Rattle.search.specs.declared.Answer.{Answer}
use Rattle.search.specs.declared.Answer.TheVariants.{Found, Nothing, GaveUp}
use Rattle.search.specs.Searching.{outcome_of}
use Rattle.search.specs.Starting.{ToSearch, Sought}
use Rattle.solve.specs.declared.Solved.TheVariants as answer
use Rattle.solve.specs.Promise.{solve_work, solve_refusal, Stored, Comes, Solving, refused, found_first, found_none, gave_up_at, SolveGiven}

-- ---- what is refused

module _ (limit : ℕ) (ws bs m l : List ℕ) where
  pub short_work : length l < solve_work → Solving limit ws bs m l (Err Size) m l
  unfolding solve_refusal
  short_work h = refused (first_short solve_work (length l) (word_count ws) (length m) (refusal_with limit ws bs) h)

  pub short_model : solve_work ≤ length l → length m < word_count ws → Solving limit ws bs m l (Err Size) m l
  unfolding solve_refusal
  short_model g h = refused (second_short solve_work (length l) (word_count ws) (length m) (refusal_with limit ws bs) g h)

  pub problem_refused : {r : Refusal} → solve_work ≤ length l → word_count ws ≤ length m → refusal_with limit ws bs ≡ Err r
      → Solving limit ws bs m l (Err r) m l
  unfolding solve_refusal
  problem_refused g h e = refused (roomy solve_work (length l) (word_count ws) (length m) (refusal_with limit ws bs) g h ∙ e)

  pub nothing_refused : solve_work ≤ length l → word_count ws ≤ length m → refusal_with limit ws bs ≡ Ok tt → SolveGiven limit ws bs m l
  unfolding solve_refusal
  nothing_refused g h e = record { passed = roomy solve_work (length l) (word_count ws) (length m) (refusal_with limit ws bs) g h ∙ e }

-- ---- what is not

module _ {limit : ℕ} {ws bs m l : List ℕ} (given : SolveGiven limit ws bs m l) where
  roomed : (solve_work ≤ length l) × (word_count ws ≤ length m) × (refusal_with limit ws bs ≡ Ok tt)
  unfolding solve_refusal
  roomed = has_room solve_work (length l) (word_count ws) (length m) (refusal_with limit ws bs) given.passed

  pub work_room : solve_work ≤ length l
  work_room = roomed.0

  pub model_room : word_count ws ≤ length m
  model_room = roomed.1

  pub fine : Fine limit ws bs
  fine = ok_fine limit ws bs roomed.2

  -- the first c rules are listed
  module _ {c : ℕ} {k : List ℕ} (y : Numbered c l k) where
    pub asked : c ≤ rule_count bs → ToSearch bs k c
    asked few = record {
      listed = record { room = omega (arith, fine.sized.rules, work_room, y.size); each = λ j h. rw (y.each j h) (omega arith) };
      few = omega (arith, fine.sized.rules);
      room = omega (arith, work_room, y.size);
    }

    module _ {r : Answer} {z : List ℕ} (s : Sought ws bs c limit k r z) where
      pub memory_room : word_count ws ≤ length z
      memory_room = omega (arith, fine.sized.words, work_room, y.size, s.size)

      cleared : {l' : List ℕ} → Cleared z l' → Cleared l l'
      cleared x = record { size = x.size ∙ s.size ∙ y.size; zeros = x.zeros }

      -- and these are all of them: the search is that of the problem
      module _ (all : c ≡ rule_count bs) where
        comes : Comes limit ws bs (outcome_of r (table_in (word_count ws) z).lo)
        comes = rw (all_chosen bs (rw all at y)) at (rw all at s.search)

        pub end_found : {g : ℕ} {m' l' : List ℕ} → r ≡ Found g → Stored (word_count ws) z m m' → Cleared z l'
            → Solving limit ws bs m l (Ok (answer.Found g)) m' l'
        end_found e x d =
            found_first given (rw e at comes)
            (record { size = x.size; each = λ i h. x.each i h ∙ sym (low_at (word_count ws) z i h); rest = x.rest }) (cleared d)

        pub end_none : {g : ℕ} {l' : List ℕ} → r ≡ Nothing g → Cleared z l' → Solving limit ws bs m l (Ok (answer.Nothing g)) m l'
        end_none e d = found_none given (rw e at comes) (cleared d)

        pub end_gave_up : {l' : List ℕ} → r ≡ GaveUp → Cleared z l' → Solving limit ws bs m l (Ok (answer.GaveUp limit)) m l'
        end_gave_up e d = gave_up_at given (rw e at comes) (cleared d)
