use mathlib.Core.Path.{◌≡◌}
use Prim.Native.Nat.{◌+◌, ◌*◌}
use native.Mathlib.Omega.{arith}
use Rattle.decimal.proofs.Readings.{rest_byte, digit_first, digit_next, none_past, none_first, none_more}
use Rattle.decimal.proofs.number.read.Goals as goal

pub returns-in_err-get : goal.returns-in_err-get
returns-in_err-get c = rw c.from_residual.ensures (none_past c.args.s.now c.args.at c.in_err-get.ensures.lookup.3)

pub returns-in_err-v : goal.returns-in_err-v
returns-in_err-v c = rw c.from_residual-in_err-v.ensures
    (let p = c.in_ok-get.ensures.lookup.3 in none_first c.args.s.now c.args.at p.0 (omega (arith, p.1 0, c.in_err-v.ensures)))

pub loop-x-init : goal.loop-x-init
loop-x-init c =
    let p = c.in_ok-get.ensures.lookup.3 in
    (digit_first c.args.s.now c.args.at c.in_ok-v.v p.0 (omega (arith, c.in_ok-v.ensures)) (omega (arith, p.1 0, c.in_ok-v.ensures)), omega arith)

pub returns-then-v-eq0 : goal.returns-then-v-eq0
returns-then-v-eq0 c =
    let b = rest_byte c.args.s.now (c.args.at + 1) c.loop-x.x-index c.loop-x.e c.loop-x.invariant.1 c.loop-x-test.true in
    none_more c.loop-x.invariant.0 b.0 (omega (arith, c.in-Some.ensures)) (λ p. omega (arith, p.0, c.if-v-eq0.true))

pub returns-in_err-checked_mul : goal.returns-in_err-checked_mul
returns-in_err-checked_mul c =
    let b = rest_byte c.args.s.now (c.args.at + 1) c.loop-x.x-index c.loop-x.e c.loop-x.invariant.1 c.loop-x-test.true in
    rw c.from_residual-in_err-checked_mul.ensures
    (none_more c.loop-x.invariant.0 b.0 (omega (arith, c.in-Some.ensures)) (λ p. omega (arith, c.in-Some.ensures, p.1)))

pub returns-in_err-v-2 : goal.returns-in_err-v-2
returns-in_err-v-2 c =
    let b = rest_byte c.args.s.now (c.args.at + 1) c.loop-x.x-index c.loop-x.e c.loop-x.invariant.1 c.loop-x-test.true in
    rw c.from_residual-in_err-v-2.ensures
    (none_more c.loop-x.invariant.0 b.0 (omega (arith, c.in-Some.ensures))
    (λ p. omega (arith, c.in-Some.ensures, c.in_err-v-2.ensures, c.in_ok-checked_mul.ensures, p.1)))

pub loop-x-preserved : goal.loop-x-preserved
loop-x-preserved c =
    let b = rest_byte c.args.s.now (c.args.at + 1) c.loop-x.x-index c.loop-x.e c.loop-x.invariant.1 c.loop-x-test.true in
    let v : c.in_ok-v-2.v ≡ c.loop-x.v * 10 + c.in-Some.d = omega arith in (
      rw v (digit_next c.in-Some.d c.loop-x.invariant.0 b.0 (omega arith) (omega (arith, c.in-Some.ensures)) (omega (arith, c.in-Some.ensures)) (omega arith)),
      omega arith,
    )
