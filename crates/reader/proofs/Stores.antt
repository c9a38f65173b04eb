-- The words and rules of a file, stored in front.
use mathlib.Core.Path.{◌≡◌, refl, sym, ap, ◌∙◌}
use mathlib.Core.List.{List, ◌++◌}
use Prim.Native.Nat.{ℕ, ◌+◌, ◌*◌, ◌/◌, ◌%◌, ◌<◌}
use native.Mathlib.Omega.{arith}
use lib.ListN.{length, take, drop}
use lib.Seq.{take_at}
use Rattle.lists.specs.Lists.{at, part, put}
use Rattle.blocks.specs.Bytes.{from_le}
use Rattle.blocks.specs.Edition.{edition1}
use Rattle.blocks.specs.Written.{word_blocks}
use Rattle.blocks.specs.Decode.{slot, words_in, rules_in}
use Rattle.lists.proofs.Series.{series_is}
use Rattle.blocks.proofs.WriteBack.{length_words, length_rules}

-- what stands in front, and the rest as it was
in_front : (a ys xs : List ℕ) (k : ℕ) → ys ≡ xs → length xs ≡ k → ys ++ drop k a ≡ put a 0 xs
in_front a ys xs k e h = let n : k ≡ 0 + length xs = omega arith in rw (e, n) refl

module _ (f : List ℕ) (n : ℕ) where
  are_words : (ys : List ℕ) → length ys ≡ 3 * n → ((k : ℕ) → k < 3 * n → at ys k ≡ from_le (part f (slot k) 8)) → ys ≡ words_in f n
  unfolding words_in
  are_words ys e h = sym (series_is ys (3 * n) (λ k. from_le (part f (slot k) 8)) e (λ k l. sym (h k l)))

  pub words_stored : (a ys : List ℕ) → length ys ≡ 3 * n → ((k : ℕ) → k < 3 * n → at ys k ≡ from_le (part f (slot k) 8))
      → ys ++ drop (3 * n) a ≡ put a 0 (words_in f n)
  words_stored a ys e h = in_front a ys (words_in f n) (3 * n) (are_words ys e h) (length_words f n)

  module _ (m : ℕ) where
    are_rules : (zs : List ℕ) → length zs ≡ 6 * m → ((k : ℕ) → k < 6 * m → at zs k ≡ at f (512 * word_blocks edition1 n + slot (k / 6) + k % 6))
        → zs ≡ rules_in f n m
    unfolding rules_in
    are_rules zs e h = sym (series_is zs (6 * m) (λ k. at f (512 * word_blocks edition1 n + slot (k / 6) + k % 6)) e (λ k l. sym (h k l)))

    pub rules_stored : (b zs : List ℕ) → length zs ≡ 6 * m → ((k : ℕ) → k < 6 * m → at zs k ≡ at f (512 * word_blocks edition1 n + slot (k / 6) + k % 6))
        → zs ++ drop (6 * m) b ≡ put b 0 (rules_in f n m)
    rules_stored b zs e h = in_front b zs (rules_in f n m) (6 * m) (are_rules zs e h) (length_rules f n m)

-- what was put in front, taken again
pub taken : (a y xs : List ℕ) (k : ℕ) → length xs ≡ k → y ≡ put a 0 xs → take k y ≡ xs
taken a y xs k h e = ap (take k) e ∙ take_at xs (drop (0 + length xs) a) k h
