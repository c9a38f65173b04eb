-- A block's bytes are bytes: each is below 256.
use Rattle.std.proofs.Common.{ℕ, zero, suc, ◌-◌, ◌/◌, ◌%◌, ◌<◌, List, length, set, arith}
use Rattle.lists.proofs.Unders.{under_none, under_cons, under_append, under_zeros}
use Rattle.lists.specs.Lists.{zeros, Under}
use Rattle.lists.proofs.Sets.{set_all}
use Rattle.blocks.specs.Bytes.{le}
use Rattle.blocks.specs.Edition.{Edition}
use Rattle.blocks.specs.Written.{seal, headed, block}
use Rattle.blocks.proofs.Seal.{checked}

pub under_le : (k x : ℕ) → Under 256 (le k x)
unfolding le
under_le zero x = under_none 256 (omega arith)
under_le (suc k) x = under_cons 256 (x % 256) (le k (x / 256)) (omega arith) (under_le k (x / 256))

under_checked : (b : List ℕ) (x y : ℕ) → x < 256 → y < 256 → Under 256 b → Under 256 (checked b x y)
under_checked b x y p q u = record { each = set_all (λ i v. v < 256) (set b 6 x) 7 y q (set_all (λ i v. v < 256) b 6 x p u.each) }

under_seal : (b : List ℕ) → Under 256 b → Under 256 (seal b)
unfolding seal
under_seal b u = under_checked b _ _ (omega arith) (omega arith) u

pub under_block : (E : Edition) (kind i c : ℕ) (t : List ℕ) → E.number < 256 → kind < 256 → Under 256 t → Under 256 (block E kind i c t)
unfolding block headed
under_block E kind i c t e h u =
    let body = under_append 256 t (zeros (504 - length t)) u (under_zeros 256 _ (omega arith)) in
    let counted = under_append 256 (le 2 c) _ (under_le 2 c) (under_cons 256 0 _ (omega arith) (under_cons 256 0 _ (omega arith) body)) in
    under_seal _ (under_cons 256 kind _ h (under_cons 256 E.number _ e (under_append 256 (le 2 i) _ (under_le 2 i) counted)))
