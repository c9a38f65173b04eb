-- The call's own steps: what is not refused is a proper problem with room, and what the trials come to is the answer.
use mathlib.Core.Path.{◌≡◌, sym, ap, subst, ◌∙◌}
use mathlib.Core.List.{List, []}
use Prim.Native.Nat.{ℕ, ◌+◌, ◌≤◌, ◌<◌}
use native.Mathlib.Omega.{arith}
use Rattle.std.proofs.Common.{Err}
use lib.ListN.{length}
use Rattle.checker.proofs.Firsts.{refused_not_ok}
use Rattle.lists.specs.Lists.{at}
use Rattle.std.specs.Prelude.{Result, Ok, Err}
use Rattle.checker.specs.declared.refusal.Refusal.{Refusal}
use Rattle.checker.specs.declared.refusal.Refusal.TheVariants.{Size}
use Rattle.problem.specs.Lent.{widths_of, table_of, rule_count, rule_at, rules_of, word_count}
use Rattle.checker.specs.Refusal.{refusal_with}
use Rattle.checker.specs.Promise.{Fine}
use Rattle.checker.proofs.Right.{ok_fine}
use Rattle.checker.proofs.Rooms.{first_short, second_short, roomy, has_room}
use Rattle.lists.proofs.Series.{length_series, series_at}
use Rattle.tighten.specs.Memory.{table_in, Numbered, Cleared}
use Rattle.tighten.proofs.Calling.{all_chosen, all_listed}
use Rattle.search_theory.specs.Search.{answer_none}
use Rattle.search_theory.proofs.Limit.{count_limit}
use Rattle.search.specs.declared.Answer.{Answer}
use Rattle.search.specs.declared.Answer.TheVariants.{Found, Nothing, GaveUp}
use Rattle.search.specs.Searching.{outcome_of}
use Rattle.search.specs.Starting.{ToSearch, Sought}
use Rattle.cause_theory.specs.Cause.{Cause, Tried, Trims, exists, gives_up, trimmed}
use Rattle.cause.specs.declared.Caused.{Caused}
use Rattle.cause.specs.declared.Caused.TheVariants as answer
use Rattle.cause.specs.declared.Kept.{Kept}
use Rattle.cause.specs.Listing.{kept_in, Short, Held}
use Rattle.cause.specs.Trials.{TrimsTo, Trimming, AllDecided, TrialsEnd}
use Rattle.cause.specs.Promise.{cause_work, cause_refusal, Named, Entered, Causing, refused, exists_at, gave_up_at, caused_by, NoneFirst, CauseGiven}

-- ---- what is refused

module _ (limit : ℕ) (ws bs s l : List ℕ) where
  pub short_work : length l < cause_work → Causing limit ws bs s l (Err Size) s l
  unfolding cause_refusal
  short_work h = refused (first_short cause_work (length l) (rule_count bs) (length s) (refusal_with limit ws bs) h)

  pub short_list : cause_work ≤ length l → length s < rule_count bs → Causing limit ws bs s l (Err Size) s l
  unfolding cause_refusal
  short_list g h = refused (second_short cause_work (length l) (rule_count bs) (length s) (refusal_with limit ws bs) g h)

  pub problem_refused : {r : Refusal} → cause_work ≤ length l → rule_count bs ≤ length s → refusal_with limit ws bs ≡ Err r
      → Causing limit ws bs s l (Err r) s l
  unfolding cause_refusal
  problem_refused g h e = refused (roomy cause_work (length l) (rule_count bs) (length s) (refusal_with limit ws bs) g h ∙ e)

  pub nothing_refused : cause_work ≤ length l → rule_count bs ≤ length s → refusal_with limit ws bs ≡ Ok tt → CauseGiven limit ws bs s l
  unfolding cause_refusal
  nothing_refused g h e = record { passed = roomy cause_work (length l) (rule_count bs) (length s) (refusal_with limit ws bs) g h ∙ e }

-- ---- what is not

module _ {limit : ℕ} {ws bs s l : List ℕ} (given : CauseGiven limit ws bs s l) where
  roomed : (cause_work ≤ length l) × (rule_count bs ≤ length s) × (refusal_with limit ws bs ≡ Ok tt)
  unfolding cause_refusal
  roomed = has_room cause_work (length l) (rule_count bs) (length s) (refusal_with limit ws bs) given.passed

  pub work_room : cause_work ≤ length l
  work_room = roomed.0

  pub list_room : rule_count bs ≤ length s
  list_room = roomed.1

  pub fine : Fine limit ws bs
  fine = ok_fine limit ws bs roomed.2

  -- the same call over a memory of the same length
  pub given_again : {z : List ℕ} → length z ≡ length l → CauseGiven limit ws bs s z
  given_again {z} e = nothing_refused limit ws bs s z (omega (arith, e, work_room)) list_room roomed.2

  -- ---- the first search

  module _ {k : List ℕ} (y : Numbered (rule_count bs) l k) where
    pub asked : ToSearch bs k (rule_count bs)
    asked = record {
      listed = all_listed bs y (omega (arith, fine.sized.rules, work_room, y.size));
      few = fine.sized.rules;
      room = omega (arith, work_room, y.size);
    }

    module _ {r : Answer} {z : List ℕ} (t : Sought ws bs (rule_count bs) limit k r z) where
      tried : Tried (widths_of ws) limit (table_of ws) (rules_of bs) (outcome_of r (table_in (word_count ws) z).lo)
      tried = rw (all_chosen bs y) at t.search

      same_size : length z ≡ length l
      same_size = t.size ∙ y.size

      cleared : {l' : List ℕ} → Cleared z l' → Cleared l l'
      cleared x = record { size = x.size ∙ same_size; zeros = x.zeros }

      pub end_exists : {g : ℕ} {l' : List ℕ} → r ≡ Found g → Cleared z l' → Causing limit ws bs s l (Ok (answer.Exists g)) s l'
      end_exists e c = exists_at given (exists (rw e at tried)) (cleared c)

      pub end_gave_up : {l' : List ℕ} → r ≡ GaveUp → Cleared z l' → Causing limit ws bs s l (Ok (answer.GaveUp limit)) s l'
      end_gave_up e c = gave_up_at given (gives_up (rw e at tried)) (cleared c)

      pub end_none : {g : ℕ} → r ≡ Nothing g → NoneFirst limit ws bs s z g
      end_none e = record { given = given_again same_size; nothing = rw e at tried }

      pub end_trials : {x : Result Caused Refusal} {s' l' : List ℕ} → Causing limit ws bs s z x s' l' → Causing limit ws bs s l x s' l'
      end_trials (refused e) = absurd (refused_not_ok e (given_again {z = z} same_size).passed)
      end_trials (exists_at g c x) = exists_at given c (cleared x)
      end_trials (gave_up_at g c x) = gave_up_at given c (cleared x)
      end_trials (caused_by g c q h x) = caused_by given c q h (cleared x)

-- ---- the trials

module _ {limit : ℕ} {ws bs s l : List ℕ} {first : ℕ} (n : NoneFirst limit ws bs s l first) {k : List ℕ} (y : Numbered (rule_count bs) l k) where
  f : Fine limit ws bs
  f = fine n.given

  pub trimming : Trimming bs k limit first
  trimming = record {
    room = omega (arith, work_room n.given, y.size);
    standing = record { numbers = λ j h. y.each j h; kept = λ j h. absurd (omega arith); most = omega arith };
    low = f.guesses;
    few = omega (arith, count_limit n.nothing answer_none (omega arith), f.guesses);
  }

  named : {x : Cause} → TrimsTo ws bs limit (rule_count bs) [] first x → Named limit ws bs x
  named {x} t =
      trimmed n.nothing
      (subst (λ m. Trims (widths_of ws) (rules_of bs) limit (table_of ws) m [] first x) (sym (length_series (rule_count bs) (rule_at bs))) t)

  cleared_end : {z : List ℕ} → length z ≡ length k → {l' : List ℕ} → Cleared z l' → Cleared l l'
  cleared_end e x = record { size = x.size ∙ e ∙ y.size; zeros = x.zeros }

  -- a trial gave up
  pub gave_up_end : {sum : ℕ} {z : List ℕ} → TrialsEnd ws bs limit first k (Err sum) z → {l' : List ℕ} → Cleared z l'
      → Causing limit ws bs s l (Ok (answer.GaveUp sum)) s l'
  gave_up_end (b, t) x = gave_up_at n.given (named t) (cleared_end b x)

  -- all trials were decided
  module _ {r : Kept} {z : List ℕ} (d : AllDecided ws bs limit first k r z) where
    pub give_room : (r.rules ≤ length s) × Short r.rules z
    give_room =
        let m = d.standing.most in (
          omega (arith, list_room n.given),
          record {
            most = omega (arith, f.sized.rules);
            room = omega (arith, f.sized.rules, work_room n.given, y.size, d.size);
            each = λ j h. omega (arith, low j h, f.sized.rules);
          },
        )
      where
        low : (j : ℕ) → j < r.rules → at z (64 + j) < rule_count bs
        low j h =
            let q : 64 + 0 + j ≡ 64 + j = omega arith in
            rw q at (d.standing.kept j h)

    pub cause_end : {s' l' : List ℕ} → Held r.rules z s s' → Cleared z l' → Causing limit ws bs s l (Ok (answer.Cause r.count r.rules)) s' l'
    unfolding kept_in
    cause_end {s'} h x = caused_by n.given (named d.trims) size entered (cleared_end d.size x)
      where
        size : length (kept_in z 0 r.rules) ≡ r.rules
        size = length_series r.rules (λ j. at z (64 + 0 + j))

        same : (j : ℕ) → j < r.rules → at (kept_in z 0 r.rules) j ≡ at z (64 + j)
        same j l =
            let q : 64 + 0 + j ≡ 64 + j = omega arith in
            series_at 0 r.rules j (λ i. at z (64 + 0 + i)) l ∙ ap (at z) q

        entered : Entered (kept_in z 0 r.rules) s s'
        entered = record {
          room = omega (arith, size, give_room.0);
          size = h.size;
          each = λ i l. let m : i < r.rules = rw size at l in h.each i m ∙ sym (same i m);
          rest = λ i l. h.rest i (rw size at l);
        }
