-- Two results that the promise of `advise` allows are equal: the answer, every lent byte, and every number of work memory.
use mathlib.Core.Path.{◌≡◌, refl}
use mathlib.Core.List.{List}
use Prim.Native.Nat.{ℕ}
use native.Mathlib.Omega.{arith}
use Rattle.problem.specs.Lent.{widths_of, table_of, rules_of}
use Rattle.tighten.proofs.Once.{cleared_once}
use Rattle.search_theory.proofs.Outcomes.{found_not_none, found_not_gave_up, none_not_gave_up}
use Rattle.cause_theory.proofs.One.{one_cause}
use Rattle.solve.proofs.Once.{comes_once}
use Rattle.std.specs.Prelude.{Result, Ok, Err}
use Rattle.checker.specs.declared.refusal.Refusal.{Refusal}
use Rattle.blocks.specs.declared.Problem.{Problem}
use Rattle.blocks.specs.Promise.{Room, Reads}
use Rattle.lists.proofs.Pieces.{length_zeros}
use Rattle.blocks.proofs.ReadBack.{one_problem}
use Rattle.blocks.proofs.Promise.{read_once}
use Rattle.report.specs.Text.{Report}
use Rattle.report.specs.Promise.{ReportOf, found_first, none_named, none_unnamed, gave_up_at, no_words, no_rules, Reports, unread, answered, Advises}
use Rattle.report.specs.Promise.{size, lines}

module _ (limit : ℕ) (ws bs : List ℕ) where
  answers_once : {x y : Report} → ReportOf limit ws bs x → ReportOf limit ws bs y → x ≡ y
  answers_once (found_first s) (found_first s') = let e = comes_once limit ws bs s s' in cc
  answers_once (found_first s) (none_named s' r) = absurd (found_not_none (comes_once limit ws bs s s'))
  answers_once (found_first s) (none_unnamed s' r) = absurd (found_not_none (comes_once limit ws bs s s'))
  answers_once (found_first s) (gave_up_at s') = absurd (found_not_gave_up (comes_once limit ws bs s s'))
  answers_once (none_named s r) (found_first s') = absurd (found_not_none (comes_once limit ws bs s' s))
  answers_once (none_named s r) (none_named s' r') =
      let e = comes_once limit ws bs s s' in
      let c = one_cause (widths_of ws) (rules_of bs) limit (table_of ws) r r' in
      cc
  answers_once (none_named s r) (none_unnamed s' r') =
      let c = one_cause (widths_of ws) (rules_of bs) limit (table_of ws) r r' in
      let z : ◌≡◌ {A = ℕ} 0 1 = cc in
      absurd (omega arith)
  answers_once (none_named s r) (gave_up_at s') = absurd (none_not_gave_up (comes_once limit ws bs s s'))
  answers_once (none_unnamed s r) (found_first s') = absurd (found_not_none (comes_once limit ws bs s' s))
  answers_once (none_unnamed s r) (none_named s' r') =
      let c = one_cause (widths_of ws) (rules_of bs) limit (table_of ws) r r' in
      let z : ◌≡◌ {A = ℕ} 0 1 = cc in
      absurd (omega arith)
  answers_once (none_unnamed s r) (none_unnamed s' r') =
      let e = comes_once limit ws bs s s' in
      let c = one_cause (widths_of ws) (rules_of bs) limit (table_of ws) r r' in
      cc
  answers_once (none_unnamed s r) (gave_up_at s') = absurd (none_not_gave_up (comes_once limit ws bs s s'))
  answers_once (gave_up_at s) (found_first s') = absurd (found_not_gave_up (comes_once limit ws bs s' s))
  answers_once (gave_up_at s) (none_named s' r) = absurd (none_not_gave_up (comes_once limit ws bs s' s))
  answers_once (gave_up_at s) (none_unnamed s' r) = absurd (none_not_gave_up (comes_once limit ws bs s' s))
  answers_once (gave_up_at s) (gave_up_at s') = refl

-- there is room to read
pub roomy : Room no_words no_rules
roomy = record { words = omega (arith, length_zeros 96); rules = omega (arith, length_zeros 1512) }

-- what is refused does not read
apart : {r : Refusal} {x : Result Problem Refusal} → x ≡ Err r → (y : Problem) → x ≡ Ok y → ⊥
apart p y q = let z : ◌≡◌ {A = ℕ} 0 1 = cc in omega arith

pub reports_once : {f : List ℕ} {x y : Report} → Reports f x → Reports f y → x ≡ y
reports_once (unread r) (unread r') = let e = (read_once r r').0 in cc
reports_once (unread r) (answered is j a) = absurd (apart refl _ (read_once r (Reads.ok roomy is j refl refl refl)).0)
reports_once (answered is j a) (unread r) = absurd (apart refl _ (read_once r (Reads.ok roomy is j refl refl refl)).0)
reports_once (answered {limit = limit} {ws = ws} {bs = bs} is j a) (answered is' j' a') =
    let (l, w, b) = one_problem is is' in
    answers_once limit ws bs a (rw (l, w, b) a')

module _ {f l k : List ℕ} where
  pub advise_once : {r s : Result ℕ Refusal} {a b m n : List ℕ} → Advises f l k r a m → Advises f l k s b n → (r ≡ s) × (a ≡ b) × (m ≡ n)
  advise_once (size h) (size h') = (refl, refl, refl)
  advise_once (size h) (lines g x p c) = absurd (h g)
  advise_once (lines g x p c) (size h) = absurd (h g)
  advise_once (lines g x p c) (lines g' x' p' c') =
      let same = reports_once x x' in
      (cc (p.ends, p'.ends), cc (p.text, p'.text), cleared_once c c')
