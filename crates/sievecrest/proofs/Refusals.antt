-- Demand 1 of each call that alters lent memory: a refusal has a number below 32 and a place that is there, and leaves everything lent as it was.
use mathlib.Core.Path.{◌≡◌, refl, subst}
use mathlib.Core.Bool.{Bool, true, false}
use mathlib.Core.List.{List}
use Prim.Native.Nat.{ℕ, ◌<◌}
use native.Mathlib.Omega.{arith}
use lib.Dec.{leb}
use lib.ListN.{length}
use Rattle.packing.specs.Packed.{SmallRefusal}
use Rattle.std.specs.Prelude.{Ok, Err}
use Rattle.checker.specs.declared.refusal.Refusal.{Refusal}
use Rattle.checker.specs.declared.refusal.Refusal.TheVariants.{Size, Check, Layout, Width, Table, Kind, Field, Fit, Limit, Ask}
use Rattle.checker.specs.Refusals.{number_of, place_of, refusal_of}
use Rattle.problem.specs.Lent.{word_count, rule_count}
use Rattle.checker.specs.Demands.{Demand, SIZE, WIDTH, TABLE, KIND, FIELD, FIT, LIMIT, by_phase, Sized}
use Rattle.checker.specs.Refusal.{Checked, asks, ◌then◌, refusal, refusal_with, with_room}
use Rattle.checker.specs.Promise.{FirstUnmet, Right}
use Rattle.checker.proofs.Right.{check_right, no_limit}
use Rattle.checker.proofs.Faults.{unmet_there}
use Rattle.tighten.specs.Promise as Tighten
use Rattle.solve.specs.Promise as Solve
use Rattle.explain.specs.Promise as Explain
use Rattle.cause.specs.Promise as Cause
use Rattle.blocks.specs.Edition.{edition1}
use Rattle.blocks.specs.File.{Whole, Fault, check, layout, last}
use Rattle.blocks.specs.Promise as File
use Rattle.report.specs.Promise as Report

small : (r : Refusal) → number_of r < 32 → place_of r < 252 → SmallRefusal r
small r a b = record { number = a; place = b }

-- ---- of the problem

abbrev SmallAnswer : Checked → Type 0
SmallAnswer (Ok t) = Unit {0}
SmallAnswer (Err r) = SmallRefusal r

room_small : (a x b y : ℕ) (z : Checked) → SmallAnswer z → SmallAnswer (with_room a x b y z)
unfolding with_room
room_small a x b y z h = go (leb a x) (leb b y)
  where
    go : (p q : Bool) → SmallAnswer (asks SIZE p then asks SIZE q then z)
    go true true = h
    go true false = small Size (omega arith) (omega arith)
    go false q = small Size (omega arith) (omega arith)

module _ (limit : ℕ) (ws bs : List ℕ) where
  -- a word or a rule that is there, where the sizes fit
  word_small : (r : Refusal) → number_of r < 32 → place_of r < word_count ws → Sized ws bs → SmallRefusal r
  word_small r l h s = small r l (omega (arith, s.words))

  rule_small : (r : Refusal) → number_of r < 32 → place_of r < rule_count bs → Sized ws bs → SmallRefusal r
  rule_small r l h s = small r l (omega (arith, s.rules))

  demand_small : (d : Demand) → FirstUnmet limit ws bs d → SmallRefusal (refusal_of d)
  demand_small SIZE u = small Size (omega arith) (omega arith)
  demand_small (WIDTH i) u = word_small (Width i) (omega arith) (unmet_there limit ws bs (WIDTH i) u.unmet) (u.earlier SIZE (by_phase (omega arith)))
  demand_small (TABLE i) u = word_small (Table i) (omega arith) (unmet_there limit ws bs (TABLE i) u.unmet) (u.earlier SIZE (by_phase (omega arith)))
  demand_small (KIND n) u = rule_small (Kind n) (omega arith) (unmet_there limit ws bs (KIND n) u.unmet) (u.earlier SIZE (by_phase (omega arith)))
  demand_small (FIELD n) u = rule_small (Field n) (omega arith) (unmet_there limit ws bs (FIELD n) u.unmet) (u.earlier SIZE (by_phase (omega arith)))
  demand_small (FIT n) u = rule_small (Fit n) (omega arith) (unmet_there limit ws bs (FIT n) u.unmet) (u.earlier SIZE (by_phase (omega arith)))
  demand_small LIMIT u = small Limit (omega arith) (omega arith)

  pub check_small : SmallAnswer (refusal_with limit ws bs)
  check_small = go (refusal_with limit ws bs) (check_right limit ws bs)
    where
      go : (x : Checked) → Right limit ws bs x → SmallAnswer x
      go (Ok t) r = tt
      go (Err r) (Right.refused d a u) = rw (← a) (demand_small d u)

problem_small : (ws bs : List ℕ) → SmallAnswer (refusal ws bs)
problem_small ws bs = rw (no_limit ws bs) (check_small 0 ws bs)

given_small : {r : Refusal} {x : Checked} → x ≡ Err r → SmallAnswer x → SmallRefusal r
given_small q h = subst SmallAnswer q h

-- ---- of each call

pub check_refused : (limit : ℕ) (ws bs : List ℕ) {r : Refusal} → refusal_with limit ws bs ≡ Err r → SmallRefusal r
check_refused limit ws bs q = given_small q (check_small limit ws bs)

pub tighten_refused : {ws bs l vs m : List ℕ} {r : Refusal} → Tighten.Tightening ws bs l (Err r) vs m → SmallRefusal r × (vs ≡ ws) × (m ≡ l)
unfolding Tighten.tighten_refusal
tighten_refused {ws} {bs} {l} (Tighten.refused q) =
    (given_small q (room_small Tighten.tighten_work (length l) 0 0 (refusal ws bs) (problem_small ws bs)), refl, refl)

pub solve_refused : {limit : ℕ} {ws bs m l m' l' : List ℕ} {r : Refusal} → Solve.Solving limit ws bs m l (Err r) m' l'
    → SmallRefusal r × (m' ≡ m) × (l' ≡ l)
unfolding Solve.solve_refusal
solve_refused {limit} {ws = ws} {bs} {m} {l} (Solve.refused q) = (
  given_small q
      (room_small Solve.solve_work (length l) (word_count ws) (length m) (refusal_with limit ws bs) (check_small limit ws bs)),
  refl,
  refl,
)

pub explain_refused : {ws bs l l' : List ℕ} {i p j : ℕ} {r : Refusal} → Explain.Explaining ws bs i p j l (Err r) l' → SmallRefusal r × (l' ≡ l)
unfolding Explain.explain_refusal
explain_refused {ws} {bs} {l} (Explain.refused e) =
    (given_small e (room_small Explain.entries (length l) 0 0 (refusal ws bs) (problem_small ws bs)), refl)
explain_refused (Explain.judged e (Explain.not_asked d)) = (small Ask (omega arith) (omega arith), refl)

pub cause_refused : {limit : ℕ} {ws bs m l m' l' : List ℕ} {r : Refusal} → Cause.Causing limit ws bs m l (Err r) m' l'
    → SmallRefusal r × (m' ≡ m) × (l' ≡ l)
unfolding Cause.cause_refusal
cause_refused {limit} {ws = ws} {bs} {m} {l} (Cause.refused q) = (
  given_small q
      (room_small Cause.cause_work (length l) (rule_count bs) (length m) (refusal_with limit ws bs) (check_small limit ws bs)),
  refl,
  refl,
)

fault_small : {f : List ℕ} {r : Refusal} → Whole edition1 f → Fault edition1 f r → SmallRefusal r
fault_small w (check {i = i} l b s) = small (Check i) (omega arith) (omega (arith, w.most))
fault_small w (layout {i = i} l b s n) = small (Layout i) (omega arith) (omega (arith, w.most))
fault_small w (last {i = i} l b n) = small (Layout i) (omega arith) (omega (arith, w.most))

pub read_refused : {f a b y z : List ℕ} {r : Refusal} → File.Reads edition1 f a b y z (Err r) → SmallRefusal r × (y ≡ a) × (z ≡ b)
read_refused (File.size d p q) = (small Size (omega arith) (omega arith), p, q)
read_refused (File.fault room w x p q) = (fault_small w x, p, q)
read_refused (File.refused {limit = limit} {ws = ws} {bs = bs} room is e p q) = (given_small e (check_small limit ws bs), p, q)

pub write_refused : {limit : ℕ} {ws bs f g : List ℕ} {r : Refusal} → File.Writes edition1 limit ws bs f g (Err r) → SmallRefusal r × (g ≡ f)
write_refused (File.size d q) = (small Size (omega arith) (omega arith), q)
write_refused {limit} {ws = ws} {bs} (File.refused room e q) = (given_small e (check_small limit ws bs), q)

pub advise_refused : {f l k m j : List ℕ} {r : Refusal} → Report.Advises f l k (Err r) m j → SmallRefusal r × (m ≡ l) × (j ≡ k)
advise_refused (Report.size d) = (small Size (omega arith) (omega arith), refl, refl)
