use Rattle.std.proofs.Common.{ℕ, ◌<◌, length, ap, arith}
use Rattle.decimal.proofs.Decimals.{decimal_one, decimal_longer}
use Rattle.decimal.proofs.Puts.{digit_put, digit_behind}
use Rattle.decimal.proofs.number.+put.Goals as goal

pub bounds-out-at : goal.bounds-out-at
bounds-out-at t c = omega (arith, c.requires, ap length (decimal_one _ c.if-n-lt10.true))

pub returns-then-n-lt10 : goal.returns-then-n-lt10
returns-then-n-lt10 t c = digit_put _ _ _ c.if-n-lt10.true (omega (arith, c.requires, ap length (decimal_one _ c.if-n-lt10.true)))

pub put-e-requires : goal.put-e-requires
put-e-requires t c = (omega (arith, c.decreases), omega (arith, c.requires, decimal_longer c.args.n (omega arith) (omega arith)))

-- the byte behind the digits of the tenth is there
room : (t : ℕ) (c : goal.After-slice_known-2-1 t) → c.put-e.result < length c.put-e.new.out
room t c = omega (arith, c.requires, decimal_longer c.args.n (omega arith) (omega arith), c.put-e.ensures.ends, c.put-e.auto.out)

pub bounds-out-e : goal.bounds-out-e
bounds-out-e t c = room t c

pub returns : goal.returns
returns t c = digit_behind c.args.n c.put-e.ensures (omega arith) (omega arith) (room t c)
