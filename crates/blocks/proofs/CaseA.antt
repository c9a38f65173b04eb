-- Case A: the file of no words, no rules and limit 0 is one block.
use Rattle.std.proofs.Common.{◌≡◌, ℕ, ◌≤◌, List, [], ◌∷◌, length, sym, refl, ap, arith}
use Rattle.std.specs.Prelude.{Result, Ok}
use Rattle.checker.specs.declared.refusal.Refusal.{Refusal}
use Rattle.checker.specs.Tests.{sized}
use Rattle.checker.specs.Refusal.{first_of, refusal, refusal_with}
use Rattle.blocks.specs.Bytes.{le}
use Rattle.lists.specs.Lists.{put, zeros, flat, total}
use Rattle.blocks.specs.Edition.{edition1}
use Rattle.blocks.specs.Block.{sum}
use Rattle.blocks.specs.Written.{seal, blocks_for, headed, block, blocks_of, file_of, encode}
use Rattle.blocks.specs.Promise.{Writes}
use Rattle.blocks.proofs.Promise.{write_once}

pub case_A : encode edition1 0 [] [] ≡ 3 ∷ 1 ∷ 0 ∷ 0 ∷ 0 ∷ 0 ∷ 252 ∷ 254 ∷ zeros 504
unfolding encode file_of blocks_of blocks_for flat block headed seal sum total le zeros
case_A = refl

-- and so it is written, wherever there is room
pub case_A_written : {f g : List ℕ} {r : Result ℕ Refusal} → 512 ≤ length f → Writes edition1 0 [] [] f g r
    → (r ≡ Ok 512) × (g ≡ put f 0 (3 ∷ 1 ∷ 0 ∷ 0 ∷ 0 ∷ 0 ∷ 252 ∷ 254 ∷ zeros 504))
unfolding refusal_with refusal first_of sized zeros
case_A_written {f} h w =
    let e = case_A in
    let long : length (encode edition1 0 [] []) ≡ 512 = ap length e in
    write_once w (Writes.ok (omega arith) refl (sym long) (ap (put f 0) (sym e)))
