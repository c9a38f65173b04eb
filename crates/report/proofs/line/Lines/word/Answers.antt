use Rattle.std.proofs.Common.{refl, ◌≡◌, ℕ, ◌+◌, ◌<◌, ◌≤◌, [], ◌∷◌, length}
use native.Mathlib.Omega.{arith}
use Rattle.decimal.proofs.Decimals.{decimal_below}
use Rattle.decimal.proofs.Puts.{room_for, spaced_same}
use Rattle.decimal.specs.Text.{decimal, spaced}
use Rattle.report.proofs.Binary.{length_binary}
use Rattle.report.proofs.Puts.{spaced_one, word_put}
use Rattle.report.proofs.line.Lines.word.Goals as goal

-- where a number below 100 ends
number_end : (at n e : ℕ) → n < 100 → e ≡ at + length (decimal n) → e ≤ at + 2
number_end at n e h q = omega (arith, decimal_below 1 n (omega arith) (omega arith))

-- and another one after it, with a blank between them
width_end : (at n w d e : ℕ) → n < 100 → w < 100 → d ≡ at + length (decimal n) → e ≡ d + length (spaced (w ∷ [])) → e ≤ at + 5
width_end at n w d e h k q r = omega (arith, number_end at n d h q, spaced_one w, decimal_below 1 w (omega arith) (omega arith))

pub put-self-requires : goal.put-self-requires
put-self-requires c =
    omega (arith, decimal_below 1 c.args.number (omega arith) (omega arith))

pub put_all-self-requires : goal.put_all-self-requires
put_all-self-requires c =
    room_for _ _ _ _ (omega (arith, c.requires, number_end _ _ _ (omega arith) c.put-self.ensures.ends, c.put-self.auto.out))

pub put_bytes-self-requires : goal.put_bytes-self-requires
put_bytes-self-requires c =
    let k = width_end _ _ _ _ _ (omega arith) (omega arith) c.put-self.ensures.ends (spaced_same _ c.put_all-self.ensures.text).ends in
    omega (arith, c.requires, k, c.put-self.auto.out, c.put_all-self.auto.out)

pub put_binary-self-requires : goal.put_binary-self-requires
put_binary-self-requires c =
    let k = width_end _ _ _ _ _ (omega arith) (omega arith) c.put-self.ensures.ends (spaced_same _ c.put_all-self.ensures.text).ends in
    (c.requires.1, omega (arith, k, c.put_bytes-self.ensures.ends, c.put-self.auto.out, c.put_all-self.auto.out, c.put_bytes-self.auto.out))

pub put_bytes-self-requires-2 : goal.put_bytes-self-requires-2
put_bytes-self-requires-2 c =
    let n = length_binary c.args.width c.args.value in
    let k = width_end _ _ _ _ _ (omega arith) (omega arith) c.put-self.ensures.ends (spaced_same _ c.put_all-self.ensures.text).ends in
    let s = c.put_binary-self.auto.out in
    omega (arith, k, c.put_bytes-self.ensures.ends, c.put_binary-self.ensures.ends, c.put_all-self.auto.out, c.put_bytes-self.auto.out, s)

pub returns : goal.returns
returns c =
    let n = length_binary c.args.width c.args.value in
    let p = spaced_same _ c.put_all-self.ensures.text in
    let k = width_end _ _ _ _ _ (omega arith) (omega arith) c.put-self.ensures.ends p.ends in (
      record {
        there = word_put _ _ _ c.put-self.ensures p c.put_bytes-self.ensures c.put_binary-self.ensures c.put_bytes-self-2.ensures;
        same = refl;
      },
      omega (arith, k, c.put_bytes-self.ensures.ends, c.put_binary-self.ensures.ends, c.put_bytes-self-2.ensures.ends),
    )
