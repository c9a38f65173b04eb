-- A problem that passes its check fits a file.
use Rattle.std.proofs.Common.{◌≡◌, ℕ, ◌*◌, ◌<◌, List, arith}
use native.Mathlib.Decide.{dec_lt}
use lib.ListN.{get_or-eq_default}
use Rattle.std.specs.Prelude.{Ok}
use Rattle.problem.specs.Lent.{word_count, width_at}
use Rattle.checker.specs.Refusal.{refusal_with}
use Rattle.checker.specs.Promise.{Fine}
use Rattle.lists.proofs.Series.{length_series}
use Rattle.problem.proofs.Lents.{width_at_lem}
use Rattle.checker.proofs.Right.{ok_fine}
use Rattle.blocks.specs.Written.{Storable, Slices}

pub passed : {limit : ℕ} {ws bs : List ℕ} → Slices ws bs → refusal_with limit ws bs ≡ Ok tt → Storable limit ws bs
passed {limit} {ws} {bs} u e = from (ok_fine limit ws bs e)
  where
    width : Fine limit ws bs → (i : ℕ) → Dec (i < word_count ws) → width_at ws i < 256
    width f i (yes h) =
        let w = (f.problem.table.width i (rw length_series h)).high in
        omega (arith, w, width_at_lem ws f.sized.whole_words i)
    width f i (no h) = rw (get_or-eq_default ws 0 {n = 3 * i} (omega (arith, f.sized.whole_words))) (omega arith)

    from : Fine limit ws bs → Storable limit ws bs
    from f = record {
      sized = f.sized;
      width = λ i. width f i (dec_lt i (word_count ws));
      words = u.words;
      rules = u.rules;
      guesses = omega (arith, f.guesses);
    }
