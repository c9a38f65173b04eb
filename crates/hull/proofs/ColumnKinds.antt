-- The eight kinds that go by columns, each from what a run of its automaton means: swept, or computed at once where the operands are fixed.
use Rattle.std.proofs.Common.{◌≡◌, ℕ, zero, suc, ◌+◌, ◌-◌, ◌%◌, ◌^◌, ◌≤◌, Bool, true, false, Option, T, eqb, ◌≢◌, ◌↔◌, sym, refl, ◌∙◌, arith}
use lib.Dec.{eqb-suc-zero}
use lib.Bits.{bit_and, and_mask}
use lib.Pow.{mod-mod-pow}
use Rattle.rules.specs.Kinds.{Place, R, A, B, S, Op, AND, OR, XOR, ADD, ITE, Rel, ULE, ULT, NE, Kind, op, rel}
use Rattle.rules.specs.Rows.{row, operand}
use Rattle.rules.specs.Meaning.{Shape, result, choose, Holds}
use Rattle.rules.specs.Fits.{Span, Uses, Legal}
use Rattle.hull.specs.declared.Auto.{Auto}
use Rattle.hull.specs.Runs.{Lane, lane_r, lane_a, lane_b, pick, Runs}
use Rattle.hull.specs.Automata.{auto_of}
use Rattle.hull.specs.ByColumns.{framed_by, framed_of, left_of, swept_of, fixed_in, value_of, settled, columns_of}
use Rattle.problem.specs.Places.{Bounds, shaped, span_of, lo_of, hi_of}
use Rattle.hull.specs.Narrowing.{Narrows}
use Rattle.hull.proofs.Meaning.{Under}
use Rattle.hull.proofs.Results.{ands, ors, xors, sums, choices}
use Rattle.hull.proofs.Orders.{ules, ults, nes}
use Rattle.hull.proofs.Tied.{place, values}
use Rattle.hull.proofs.Frames.{ByColumns}
use Rattle.hull.proofs.OnlyUsed.{picked}
use Rattle.hull.proofs.Sweeps.{swept_by, swept_narrows}
use Rattle.hull.proofs.Settles.{fixed_in_lem, settled_narrows}

-- what is computed by columns for a kind is the hull
abbrev pub Right : ℕ → (Place → ℕ) → Bounds → Kind → Type 0
Right k w t κ = Legal (shaped κ k w) (span_of t) → Narrows (shaped κ k w) (span_of t) (columns_of κ (w A) t)

-- ---- ULE, ULT and NE

module _ (k : ℕ) (w : Place → ℕ) (t : Bounds) where
  compared : (x : Rel) (u : Auto) (begin : Bool) → w A ≡ w B
      → ((v : Lane → ℕ) → Under (w A) v → Runs u (w A) begin v ↔ Holds (rel x) w k (values begin v)) → ByColumns (shaped (rel x) k w) t u begin
  compared x u begin e means = record {
    use_a = tt;
    use_b = tt;
    level = level;
    one_bit = λ used. absurd used;
    means = λ q is. rw (is (λ used. used)) means;
  }
    where
      level : (p : Lane) → Uses (shaped (rel x) k w) (place p) → w (place p) ≡ w A
      level lane_r used = absurd used
      level lane_a used = refl
      level lane_b used = sym e

  pub ule_narrows : Right k w t (rel ULE)
  unfolding columns_of swept_of framed_of left_of
  ule_narrows legal = swept_narrows (shaped (rel ULE) k w) t (auto_of (rel ULE)) true (compared ULE (auto_of (rel ULE)) true legal.fitting (ules (w A))) legal

  pub ult_narrows : Right k w t (rel ULT)
  unfolding columns_of swept_of framed_of left_of
  ult_narrows legal = swept_narrows (shaped (rel ULT) k w) t (auto_of (rel ULT)) false (compared ULT (auto_of (rel ULT)) false legal.fitting (ults (w A))) legal

  pub ne_narrows : Right k w t (rel NE)
  unfolding columns_of swept_of framed_of left_of
  ne_narrows legal = swept_narrows (shaped (rel NE) k w) t (auto_of (rel NE)) false (compared NE (auto_of (rel NE)) false legal.fitting (nes (w A))) legal

-- ---- AND, OR, XOR, ADD and ITE

either : (σ : Shape) (t : Span) (b : Bool) (x y : Option Bounds) → Narrows σ t x → (T b → Narrows σ t y) → Narrows σ t (pick b x y)
either σ t true x y p q = q tt
either σ t false x y p q = p

module _ (k : ℕ) (w : Place → ℕ) (t : Bounds) where
  computed : (o : Op) (u : Auto) → T (operand (row o) B) → (w R ≡ w A) × (w R ≡ w B) → (T (operand (row o) S) → w S ≡ 1)
      → ((q : Bool) → (¬ T (operand (row o) S) → q ≡ false) → (v : Lane → ℕ) → Under (w A) v → Runs u (w A) q v ↔ Holds (op o) w k (values q v))
      → ByColumns (shaped (op o) k w) t u false
  computed o u use_b e one_bit means = record { use_a = tt; use_b = use_b; level = level; one_bit = one_bit; means = means }
    where
      level : (p : Lane) → Uses (shaped (op o) k w) (place p) → w (place p) ≡ w A
      level lane_r used = e.0
      level lane_a used = refl
      level lane_b used = sym e.1 ∙ e.0

  -- the operands are fixed where the frame's are
  all_fixed : (o : Op) → T (fixed_in (framed_by true (operand (row o) S) false t)) → (p : Place) → Uses (shaped (op o) k w) p → p ≢ R → lo_of t p ≡ hi_of t p
  all_fixed o h R used d = absurd (d refl)
  all_fixed o h A used d = (fixed_in_lem (framed_by true (operand (row o) S) false t) h).0
  all_fixed o h B used d = (fixed_in_lem (framed_by true (operand (row o) S) false t) h).1
  all_fixed o h S used d =
      let c = operand (row o) S in
      rw (picked c 0 t.s.lo used, picked c 0 t.s.hi used) at (fixed_in_lem (framed_by true c false t) h).2

  -- a kind whose value v is computed at once where the operands are fixed
  op_narrows : (o : Op) (u : Auto) (v : ℕ) → ByColumns (shaped (op o) k w) t u false → Legal (shaped (op o) k w) (span_of t)
      → v ≡ result o w k t.a.lo t.b.lo t.s.lo
      → Narrows (shaped (op o) k w) (span_of t)
      (pick (fixed_in (framed_by true (operand (row o) S) false t)) (swept_by (shaped (op o) k w) t u false) (settled v t))
  op_narrows o u v x legal says =
      either (shaped (op o) k w) (span_of t) (fixed_in (framed_by true (operand (row o) S) false t)) _ _ (swept_narrows (shaped (op o) k w) t u false x legal)
      (λ h. settled_narrows o k w t v (all_fixed o h) says)

  pub and_narrows : Right k w t (op AND)
  unfolding columns_of swept_of framed_of left_of value_of
  and_narrows legal =
      op_narrows AND (auto_of (op AND)) _ (computed AND (auto_of (op AND)) tt legal.fitting (λ used. absurd used) (λ q is. ands (w A) q)) legal refl

  pub or_narrows : Right k w t (op OR)
  unfolding columns_of swept_of framed_of left_of value_of
  or_narrows legal = op_narrows OR (auto_of (op OR)) _ (computed OR (auto_of (op OR)) tt legal.fitting (λ used. absurd used) (λ q is. ors (w A) q)) legal refl

  pub xor_narrows : Right k w t (op XOR)
  unfolding columns_of swept_of framed_of left_of value_of
  xor_narrows legal =
      op_narrows XOR (auto_of (op XOR)) _ (computed XOR (auto_of (op XOR)) tt legal.fitting (λ used. absurd used) (λ q is. xors (w A) q)) legal refl

  -- a sum of 64 bits, taken to n of them
  sum_low : (n a b : ℕ) → n ≤ 64 → bit_and ((a + b) % 2 ^ 64) (2 ^ n - 1) ≡ (a + b) % 2 ^ n
  sum_low n a b l =
      let e : 64 - n + n ≡ 64 = omega arith in
      and_mask ((a + b) % 2 ^ 64) n ∙ rw e at (mod-mod-pow (a + b) (64 - n) n)

  pub add_narrows : Right k w t (op ADD)
  unfolding columns_of swept_of framed_of left_of value_of
  add_narrows legal =
      op_narrows ADD (auto_of (op ADD)) _ (computed ADD (auto_of (op ADD)) tt legal.fitting (λ used. absurd used) means) legal
      (rw legal.fitting.0 (sum_low (w A) t.a.lo t.b.lo (legal.width A tt).high))
    where
      means : (q : Bool) → (¬ T (operand (row ADD) S) → q ≡ false) → (v : Lane → ℕ) → Under (w A) v
          → Runs (auto_of (op ADD)) (w A) q v ↔ Holds (op ADD) w k (values q v)
      means q is v h =
          let z : v lane_a + v lane_b + 0 ≡ v lane_a + v lane_b = omega arith in
          rw (is (λ used. used), legal.fitting.0, ← z) (sums (w A) false v h)

  choose_pick : (s a b : ℕ) → pick (eqb s 0) a b ≡ choose s a b
  choose_pick zero a b = refl
  choose_pick (suc s) a b = rw (eqb-suc-zero s)

  pub ite_narrows : Right k w t (op ITE)
  unfolding columns_of swept_of framed_of left_of value_of
  ite_narrows legal =
      op_narrows ITE (auto_of (op ITE)) _ (computed ITE (auto_of (op ITE)) tt (legal.fitting.0, legal.fitting.1) (λ used. legal.fitting.2) means) legal
      (choose_pick t.s.lo t.a.lo t.b.lo)
    where
      means : (q : Bool) → (¬ T (operand (row ITE) S) → q ≡ false) → (v : Lane → ℕ) → Under (w A) v
          → Runs (auto_of (op ITE)) (w A) q v ↔ Holds (op ITE) w k (values q v)
      means true is v h = choices (w A) true v h
      means false is v h = choices (w A) false v h
