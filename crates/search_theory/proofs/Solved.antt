-- The search of a problem, computed from the definitions by going through every fit: slow, and for every proper table right.
use mathlib.Core.List.{List}
use Prim.Native.Nat.{ℕ, suc, ◌^◌, ◌≤◌, ◌<◌}
use native.Mathlib.Nat.{lt_of_lt_of_le}
use native.Mathlib.Omega.{arith}
use native.Mathlib.Decide.{dec_lt}
use lib.ListN.{length, get_or-eq_default}
use lib.Count.{count_leading_zeros}
use lib.Pow.{pow_mono}
use Rattle.words.specs.Word.{top_open}
use Rattle.words.specs.Table.{Table, with0, with1}
use Rattle.lists.specs.Lists.{at}
use Rattle.words.proofs.Guessing.{pick}
use Rattle.rules.specs.Tight.{Rule, Tight}
use Rattle.rules.specs.Proper.{Proper}
use Rattle.rules.proofs.Propers.{proper_inside, proper_narrower, bits_below, open_bits}
use Rattle.rules.proofs.Steps.{tightened}
use Rattle.rules.proofs.Widest.{tightened_right}
use Rattle.search_theory.specs.Search.{Outcome, Search}
use Rattle.search_theory.proofs.Run.{Engine, run, run_right}

-- widths are at most 64, and past the last word 0
pub width_most : {w : List ℕ} {t : Table} → Proper w t → (i : ℕ) → at w i ≤ 64
width_most {w} ok i = go (dec_lt i (length w))
  where
    go : Dec (i < length w) → at w i ≤ 64
    go (yes l) = (ok.width i l).high
    go (no n) =
        let past : length w ≤ i = omega arith in
        rw (get_or-eq_default w 0 past) (omega arith)

-- bounds of a proper table are numbers of 64 bits
pub proper_short : {w : List ℕ} {t : Table} → Proper w t → (i : ℕ) → at t.hi i < 2 ^ 64
proper_short ok i = lt_of_lt_of_le (ok.bounded i).below (pow_mono (width_most ok i))

-- going through all fits is a tightening that is right on proper tables
pub fits_engine : (w : List ℕ) (rs : List Rule) → Engine (Tight w rs) (Proper w) (tightened w rs)
fits_engine w rs = record {
  right = tightened_right w rs;
  whole = λ t ok. proper_inside ok;
  short = λ t ok. proper_short ok;
  inner = λ t u ok p. proper_narrower ok p;
}

-- the search of a problem, computed from the definitions
unfoldable pub solved : List ℕ → List Rule → ℕ → Table → Outcome
unfolding run tightened pick top_open count_leading_zeros with0 with1
solved w rs limit t = run (tightened w rs) limit (suc (bits_below (length w) w)) t 0

pub solved_right : (w : List ℕ) (rs : List Rule) (t : Table) → Proper w t → (limit : ℕ) → Search (Tight w rs) limit t 0 (solved w rs limit t)
unfolding solved
solved_right w rs t proper limit =
    run_right (Tight w rs) (Proper w) (tightened w rs) (fits_engine w rs) limit (length w) (suc (bits_below (length w) w)) t 0 proper
    (omega (arith, proper.los)) (omega (arith, open_bits proper (length w)))
