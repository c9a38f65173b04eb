-- The parts of every answer are within their bits, so that one number holds them.
use mathlib.Core.Path.{◌≡◌, refl}
use mathlib.Core.List.{List}
use Prim.Native.Nat.{ℕ, suc, ◌+◌, ◌*◌, ◌≤◌, ◌<◌}
use native.Mathlib.Nat.{mul-le-mul_right}
use native.Mathlib.Omega.{arith}
use lib.ListN.{length}
use Rattle.words.proofs.Order.{bit_lt}
use Rattle.rules.specs.Kinds.{Place}
use Rattle.rules.specs.Meaning.{Shape}
use Rattle.rules.specs.Fits.{Span, Legal}
use Rattle.rules.proofs.ProperRules.{problem_legal}
use Rattle.std.specs.Prelude.{Result, Ok, Err}
use Rattle.checker.specs.declared.refusal.Refusal.{Refusal}
use Rattle.checker.specs.Refusals.{number_of, place_of}
use Rattle.problem.specs.Lent.{word_count, rule_count, rule_at, rules_of}
use Rattle.checker.specs.Demands.{Sized}
use Rattle.checker.specs.Refusal.{Checked, refusal_with}
use Rattle.checker.specs.Promise.{Fine}
use Rattle.checker.proofs.Right.{ok_fine}
use Rattle.checker.proofs.Rooms.{has_room, taken}
use Rattle.lists.proofs.Series.{length_series}
use Rattle.tighten.specs.declared.Answer.{Answer}
use Rattle.tighten.specs.Promise as Tighten
use Rattle.search_theory.specs.Search.{answer_found, answer_none}
use Rattle.search_theory.proofs.Limit.{count_limit}
use Rattle.solve.specs.declared.Solved.{Solved}
use Rattle.solve.specs.Promise as Solve
use Rattle.reason_theory.specs.Says as Says
use Rattle.reason_theory.specs.Reason.{Explains, with_reason}
use Rattle.reason_theory.proofs.Listed.{reason_length}
use Rattle.explain.specs.declared.Explained.{Explained}
use Rattle.explain.specs.Promise as Explain
use Rattle.cause_theory.specs.Cause as Cause
use Rattle.cause_theory.specs.Cause.{sum_of}
use Rattle.cause_theory.proofs.Sum.{sum_limit, named_rules}
use Rattle.cause.specs.declared.Caused.{Caused}
use Rattle.cause.specs.Promise as Causing
use Rattle.blocks.specs.declared.Problem.{Problem}
use Rattle.blocks.specs.Edition.{edition1}
use Rattle.blocks.specs.Promise as File
use Rattle.blocks.specs.Written.{encode}
use Rattle.blocks.proofs.Counts.{blocks_rise}
use Rattle.blocks.proofs.Fair.{fair1}
use Rattle.blocks.proofs.ReadBack.{length_encode}
use Rattle.report.specs.Printed.{most}
use Rattle.report.specs.Promise as Report
use Rattle.report.proofs.Advising.{lines_within}
use Rattle.packing.specs.Packed.{parts, Within, checked, tightened, solved, explained, caused, read, written, advised, SmallRefusal}
use Rattle.sievecrest.proofs.Refusals.{check_refused, tighten_refused, solve_refused, explain_refused, cause_refused, read_refused, write_refused}
use Rattle.sievecrest.proofs.Refusals.{advise_refused}

within : (n c m : ℕ) → n < 256 → c < 4294967296 → m < 16777216 → Within (parts n c m)
within n c m a b d = record { number = a; count = b; more = d }

small_within : {r : Refusal} → SmallRefusal r → Within (parts (number_of r) (place_of r) 0)
small_within {r} h = within (number_of r) (place_of r) 0 (omega (arith, h.number)) (omega (arith, h.place)) (omega arith)

-- ---- check

pub check_within : (limit : ℕ) (ws bs : List ℕ) → Within (checked (refusal_with limit ws bs))
check_within limit ws bs = go (refusal_with limit ws bs) (λ r. check_refused limit ws bs)
  where
    go : (x : Checked) → ((r : Refusal) → x ≡ Err r → SmallRefusal r) → Within (checked x)
    go (Ok t) h = within 35 0 0 (omega arith) (omega arith) (omega arith)
    go (Err r) h = small_within (h r refl)

-- ---- tighten

pub tighten_within : {ws bs l : List ℕ} {x : Result Answer Refusal} {vs m : List ℕ} → Tighten.Tightening ws bs l x vs m → Within (tightened x)
tighten_within (Tighten.refused q) = small_within (tighten_refused (Tighten.refused q)).0
tighten_within (Tighten.answered q (Tighten.tight w b c)) = within 36 0 0 (omega arith) (omega arith) (omega arith)
tighten_within (Tighten.answered q (Tighten.conflict w c)) = within 37 0 0 (omega arith) (omega arith) (omega arith)

-- ---- solve

module _ {limit : ℕ} {ws bs m l : List ℕ} where
  pub solve_within : limit < 4294967296 → {x : Result Solved Refusal} {m' l' : List ℕ} → Solve.Solving limit ws bs m l x m' l' → Within (solved x)
  solve_within short (Solve.refused q) = small_within (solve_refused (Solve.refused q)).0
  solve_within short (Solve.found_first {g = g} h c v k) =
      within 32 g 0 (omega arith) (omega (arith, count_limit c answer_found (omega arith))) (omega arith)
  solve_within short (Solve.found_none {g = g} h c k) =
      within 33 g 0 (omega arith) (omega (arith, count_limit c answer_none (omega arith))) (omega arith)
  solve_within short (Solve.gave_up_at h c k) = within 34 limit 0 (omega arith) short (omega arith)

-- ---- explain

module _ {σ : Shape} {t : Span} (legal : Legal σ t) {p : Place} {j : ℕ} where
  forced_bit : {b : ℕ} → Says.Says σ t p j (Says.FORCED b) → b < 2
  forced_bit (Says.says_forced {f = f} b fit all) = omega (arith, all f fit, bit_lt (f p) j)

  explains_within : (x : Says.Answer) {out : List ℕ} → Explains σ t p j x out → Within (explained (Ok (Explain.given x (length out))))
  explains_within Says.CONFLICT {out} e = within 37 0 (length out) (omega arith) (omega arith) (omega (arith, reason_length legal e))
  explains_within (Says.FORCED b) {out} (with_reason n s r) =
      within 38 b (length out) (omega arith) (omega (arith, forced_bit s)) (omega (arith, reason_length legal (with_reason n s r)))
  explains_within Says.FREE e = within 39 0 0 (omega arith) (omega arith) (omega arith)

  given_within : {l m : List ℕ} {r : Explained} → Explain.Explanation σ t p j l r m → Within (explained (Ok r))
  given_within g = rw g.told (explains_within g.answer g.explains)

module _ {ws bs : List ℕ} {n p j : ℕ} {l : List ℕ} where
  pub explain_within : {x : Result Explained Refusal} {m : List ℕ} → Explain.Explaining ws bs n p j l x m → Within (explained x)
  unfolding Explain.explain_refusal
  explain_within (Explain.refused q) = small_within (explain_refused {ws = ws} {bs = bs} {l = l} {i = n} {p = p} {j = j} (Explain.refused q)).0
  explain_within (Explain.judged q (Explain.not_asked d)) = within 10 0 0 (omega arith) (omega arith) (omega arith)
  explain_within (Explain.judged q (Explain.answered a g)) =
      let f = taken Explain.entries (length l) ws bs q in
      given_within (problem_legal f.problem f.problem.table n (omega (arith, a.there, length_series (rule_count bs) (rule_at bs)))) g

-- ---- cause

module _ {limit : ℕ} {ws bs s l : List ℕ} where
  passed_fine : Causing.CauseGiven limit ws bs s l → Fine limit ws bs
  unfolding Causing.cause_refusal
  passed_fine g = ok_fine limit ws bs (has_room Causing.cause_work (length l) (rule_count bs) (length s) (refusal_with limit ws bs) g.passed).2

  -- 253 searches of at most 1,000,000 guesses each
  sum_within : {x : Cause.Cause} → Causing.CauseGiven limit ws bs s l → Causing.Named limit ws bs x → sum_of x < 4294967296
  sum_within g x =
      let f = passed_fine g in
      let few : suc (length (rules_of bs)) ≤ 253 = omega (arith, f.sized.rules, length_series (rule_count bs) (rule_at bs)) in
      omega (arith, sum_limit x, mul-le-mul_right limit few, f.guesses)

  named_within : {out : List ℕ} {g : ℕ} → Causing.CauseGiven limit ws bs s l → Causing.Named limit ws bs (Cause.CAUSE out g) → length out ≤ 252
  named_within g x = let f = passed_fine g in omega (arith, named_rules x, f.sized.rules, length_series (rule_count bs) (rule_at bs))

  pub cause_within : {x : Result Caused Refusal} {s' l' : List ℕ} → Causing.Causing limit ws bs s l x s' l' → Within (caused x)
  cause_within (Causing.refused q) = small_within (cause_refused (Causing.refused q)).0
  cause_within (Causing.exists_at {g = g} h x c) = within 40 g 0 (omega arith) (sum_within h x) (omega arith)
  cause_within (Causing.gave_up_at {g = g} h x c) = within 34 g 0 (omega arith) (sum_within h x) (omega arith)
  cause_within (Causing.caused_by {out = out} {g = g} {k = k} h x size e c) =
      within 41 g k (omega arith) (sum_within h x) (omega (arith, named_within h x, size))

-- ---- read and write

pub read_within : {f a b y z : List ℕ} {x : Result Problem Refusal} → File.Reads edition1 f a b y z x → Within (read x)
read_within (File.size n p q) = small_within (read_refused (File.size n p q)).0
read_within (File.fault room w x p q) = small_within (read_refused (File.fault room w x p q)).0
read_within (File.refused room is e p q) = small_within (read_refused (File.refused room is e p q)).0
read_within (File.ok {limit = limit} {ws = ws} {bs = bs} room is e same p q) =
    rw same
    (within 35 limit (word_count ws + 256 * rule_count bs) (omega arith) (omega (arith, is.storable.guesses))
    (omega (arith, is.storable.sized.words, is.storable.sized.rules)))

-- at most 7 blocks
encode_within : (limit : ℕ) (ws bs : List ℕ) → Sized ws bs → length (encode edition1 limit ws bs) ≤ 3584
encode_within limit ws bs s =
    omega (
      arith,
      length_encode limit ws bs,
      fair1.enough,
      blocks_rise edition1.words.most fair1.words.some (word_count ws) 32 s.words,
      blocks_rise edition1.rules.most fair1.rules.some (rule_count bs) 252 s.rules,
    )

pub write_within : {limit : ℕ} {ws bs f g : List ℕ} {x : Result ℕ Refusal} → File.Writes edition1 limit ws bs f g x → Within (written x)
write_within (File.size n q) = small_within (write_refused (File.size n q)).0
write_within (File.refused room e q) = small_within (write_refused (File.refused room e q)).0
write_within {limit} {ws} {bs} (File.ok {k = k} room e same q) =
    within 35 k 0 (omega arith) (omega (arith, same, encode_within limit ws bs (ok_fine limit ws bs e).sized)) (omega arith)

-- ---- advise

pub advise_within : {f l k m n : List ℕ} {x : Result ℕ Refusal} → length m ≤ most → Report.Advises f l k x m n → Within (advised x)
advise_within {f} h (Report.size d) = small_within (advise_refused {f = f} (Report.size d)).0
advise_within h (Report.lines {e = e} lent report p c) =
    within 35 e 0 (omega arith) (omega (arith, lines_within (Report.lines lent report p c))) (omega arith)
