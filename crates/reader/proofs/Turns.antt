-- One block after the other: what the machine's step makes of the file, and what the scan of all blocks answers.
use mathlib.Core.Path.{◌≡◌, refl, sym, ◌∙◌, subst}
use mathlib.Core.List.{List}
use Prim.Native.Nat.{ℕ, zero, suc, ◌+◌, ◌*◌, ◌/◌, ◌%◌, ◌≤◌, ◌-◌}
use native.Mathlib.Numerals.{sub-one}
use native.Mathlib.Omega.{arith}
use lib.ListN.{length, take, drop}
use Rattle.std.specs.Prelude.{Option, Some, None, Ok, Err, ok_or}
use Rattle.checker.specs.declared.refusal.Refusal.{Refusal}
use Rattle.checker.specs.declared.refusal.Refusal.TheVariants.{Size, Check, Layout}
use Rattle.lists.specs.Lists.{part, Under}
use Rattle.blocks.specs.declared.Problem.{Problem}
use Rattle.blocks.specs.Edition.{edition1}
use Rattle.blocks.specs.Block.{sum, Sound}
use Rattle.blocks.specs.File.{block_at, Begins, Whole, Fault}
use Rattle.blocks.specs.Machine.{Run, start, more_words, more_rules, Ended, end, Accepted}
use Rattle.blocks.proofs.Fair.{fair1}
use Rattle.blocks.proofs.Machine.{accepted_begins, begins_accepted}
use Rattle.blocks.proofs.Once.{run_once, run_no_end, none_after_end}
use Rattle.blocks.proofs.Shape.{ended_proper}
use Rattle.reader.specs.declared.State.{State}
use Rattle.reader.specs.Scans.{Stuck, BlockStep, words_step, rules_step, end_step, fault_step, Stands, going, ended, Turned, on, stop, Scanned}

-- the part that the code looks at is the block
pub cut : (f : List ℕ) (i : ℕ) → take (512 * i + 512 - 512 * i) (drop (512 * i) f) ≡ block_at f i
unfolding part
cut f i = let z : 512 * i + 512 - 512 * i ≡ 512 = omega arith in rw z

pub stepped_there : {b b' : List ℕ} {i n m : ℕ} {s : Option State} → b ≡ b' → BlockStep b i n m s → BlockStep b' i n m s
stepped_there {i = i} {n = n} {m = m} {s = s} e = subst (λ b. BlockStep b i n m s) e

pub sum_right : {b : List ℕ} {s : ℕ} → s ≡ sum b % 65536 → s ≡ 65535 → Sound b
sum_right e h = record { makes = sym e ∙ h }

pub sum_wrong : {b : List ℕ} {s : ℕ} → s ≡ sum b % 65536 → ¬ (s ≡ 65535) → ¬ Sound b
sum_wrong e h z = h (e ∙ z.makes)

-- ---- where the machine is stuck no proper file begins so

module _ (f : List ℕ) {i : ℕ} where
  no_run : {n m n' m' : ℕ} → Run edition1 f i n m → Stuck (block_at f i) i n m → Run edition1 f (suc i) n' m' → ⊥
  no_run r s (more_words {c = c} r' z v l x) =
      let (p, q) = run_once r r' in
      s.words c x q (rw p z) (omega arith)
  no_run r s (more_rules {c = c} r' z v l x) =
      let (p, q) = run_once r r' in
      s.rules c x (rw q z) (omega arith)

  stuck_accepts : {n m : ℕ} → Run edition1 f i n m → Stuck (block_at f i) i n m → ¬ Accepted edition1 f (suc i)
  stuck_accepts r s (Accepted.going r') = no_run r s r'
  stuck_accepts r s (Accepted.ended (end {limit = limit} r' x)) = s.ends limit x

-- nothing follows an end block
ended_accepts : (f : List ℕ) {i n m l : ℕ} → Ended edition1 f i n m l → ¬ Accepted edition1 f (suc i)
ended_accepts f (end r x) (Accepted.going r') = none_after_end x r'
ended_accepts f (end r x) (Accepted.ended (end r' x')) = run_no_end r' x

-- ---- block i of a file

-- the file holds bytes, and block i is in it
pub record Here (f : List ℕ) (i : ℕ) : Type 0 where
  pub under : Under 256 f
  pub room : 512 * i + 512 ≤ length f

stands_accepted : {f : List ℕ} {i : ℕ} {s : State} → Stands f i s → Accepted edition1 f i
stands_accepted (going r) = Accepted.going r
stands_accepted (ended x) = Accepted.ended x

pub of_going : {f : List ℕ} {i n m : ℕ} → Stands f i (State.Going n m) → Run edition1 f i n m
of_going (going r) = r

of_ended : {f : List ℕ} {i : ℕ} {x : Problem} → Stands f i (State.Ended x) → Ended edition1 f i x.words x.rules x.limit
of_ended (ended x) = x

module _ {f : List ℕ} {i : ℕ} (here : Here f i) where
  begun : {s : State} → Stands f i s → Begins edition1 f i
  begun x = accepted_begins edition1 fair1 f here.under (omega (arith, here.room)) (stands_accepted x)

  at_fault : {s : State} → Stands f i s → Sound (block_at f i) → ¬ Accepted edition1 f (suc i) → Turned f i (Err (Layout i))
  at_fault x s n = stop (Fault.layout {i = i} (omega (arith, here.room)) (begun x) s (λ b. n (begins_accepted edition1 fair1 f b)))

  pub turn_check : {s : State} → Stands f i s → ¬ Sound (block_at f i) → Turned f i (Err (Check i))
  turn_check x n = stop (Fault.check {i = i} (omega (arith, here.room)) (begun x) n)

  pub turn_ended : {y : Problem} → Stands f i (State.Ended y) → Sound (block_at f i) → Turned f i (Err (Layout i))
  turn_ended x s = at_fault x s (ended_accepts f (of_ended x))

  module _ {n m : ℕ} (x : Stands f i (State.Going n m)) where
    turn_fault : Sound (block_at f i) → BlockStep (block_at f i) i n m None → Turned f i (Err (Layout i))
    turn_fault s (fault_step t) = at_fault x s (stuck_accepts f (of_going x) t)

    turn_on : {s : State} → BlockStep (block_at f i) i n m (Some s) → Turned f i (Ok s)
    turn_on (words_step {n' = n'} {c = c} b p q e l z) =
        on (going (subst (λ k. Run edition1 f (suc i) n' k) (sym z) (more_words {c = c} (subst (λ k. Run edition1 f i n k) p (of_going x)) q e l b)))
    turn_on (rules_step {n' = n'} {m' = m'} {c = c} b q e l z) = on (going {n = n'} {m = m'} (rw z (more_rules {c = c} (of_going x) q e l b)))
    turn_on (end_step y) = on (ended (end (of_going x) y))

    pub turn_next : {s : Option State} → Sound (block_at f i) → BlockStep (block_at f i) i n m s → Turned f i (ok_or s (Layout i))
    turn_next {s = None} s t = turn_fault s t
    turn_next {s = Some y} s t = turn_on t

-- ---- all blocks

module _ {f : List ℕ} where
  pub of_stop : {i : ℕ} {r : Refusal} → Whole edition1 f → Turned f i (Err r) → Scanned f (Err r)
  of_stop w (stop x) = Scanned.fault w x

  pub at_start : Stands f 0 (State.Going 0 0)
  at_start = going start

  pub not_whole : (length f % 512 ≡ 0 → 1 ≤ length f / 512 → length f / 512 ≤ 7 → ⊥) → Scanned f (Err Size)
  not_whole h = Scanned.size (λ w. h w.whole w.some w.most)

  -- all blocks are passed, and the machine still goes on
  pub unended : {i n m : ℕ} → Whole edition1 f → Under 256 f → i ≤ length f / 512 → length f / 512 ≤ i → Stands f i (State.Going n m)
      → Scanned f (Err (Layout (length f / 512 - 1)))
  unended {i} {n} {m} w u p q x = go (length f / 512) refl (subst (λ k. Run edition1 f k n m) (omega arith) (of_going x))
    where
      go : (k : ℕ) → length f / 512 ≡ k → Run edition1 f k n m → Scanned f (Err (Layout (k - 1)))
      go zero e r = absurd (omega (arith, w.some))
      go (suc j) e r =
          rw sub-one
          (Scanned.fault w (Fault.last {i = j} (sym e) (accepted_begins edition1 fair1 f u (omega arith) (Accepted.going r)) (λ l y. run_no_end r y)))

  pub all_read : {i : ℕ} {x : Problem} → Whole edition1 f → Under 256 f → i ≤ length f / 512 → length f / 512 ≤ i → Stands f i (State.Ended x)
      → Scanned f (Ok x)
  all_read w u p q x = Scanned.whole (ended_proper edition1 fair1 f u (omega (arith, w.whole)) (of_ended x))
