-- What the search of a problem comes to, as the report on it.
use mathlib.Core.Path.{◌≡◌, refl, ap, ◌∙◌}
use mathlib.Core.List.{List, [], ◌∷◌, ◌++◌}
use Prim.Native.Nat.{ℕ, ◌<◌}
use native.Mathlib.Omega.{arith}
use lib.ListN.{length}
use Rattle.checker.proofs.Firsts.{refused_not_ok}
use Rattle.lists.specs.Lists.{at}
use Rattle.problem.specs.Lent.{word_count, width_at, widths_of}
use Rattle.checker.proofs.Right.{ok_fine}
use Rattle.lists.proofs.Series.{length_series, series_at}
use Rattle.tighten.specs.Memory.{Cleared}
use Rattle.search_theory.specs.Search.{none}
use Rattle.std.specs.Prelude.{Result, Ok, IsOk}
use Rattle.checker.specs.declared.refusal.Refusal.{Refusal}
use Rattle.solve.specs.declared.Solved.{Solved}
use Rattle.solve.specs.declared.Solved.TheVariants as solved
use Rattle.solve.specs.Promise.{Comes, Solving}
use Rattle.solve.proofs.Calling.{nothing_refused}
use Rattle.decimal.specs.Text.{decimal}
use Rattle.lists.proofs.Pieces.{flat_same}
use Rattle.report.specs.Text.{line, SAT, word_line, word_lines, Report, sat, unknown, text_of}
use Rattle.report.specs.Printed.{Printed, Valued}
use Rattle.report.specs.Promise.{found_first, gave_up_at, ToReport, Told, told}

printed_same : {x y : Report} {l m : List ℕ} {e : ℕ} → text_of x ≡ text_of y → Printed x l m e → Printed y l m e
printed_same q p = record { ends = rw q at p.ends; text = rw q at p.text }

-- values beyond the words are not printed
sat_same : (g : ℕ) (widths u v : List ℕ) → ((i : ℕ) → i < length widths → at u i ≡ at v i) → text_of (sat g widths u) ≡ text_of (sat g widths v)
unfolding text_of word_lines
sat_same g widths u v q =
    ap (λ t. line SAT (decimal g ∷ []) ++ t)
    (flat_same (length widths) (λ i. word_line i (at widths i) (at u i)) (λ i. word_line i (at widths i) (at v i))
    (λ j h. ap (word_line j (at widths j)) (q j h)))

-- the words of a problem without refusals can be printed
pub valued : {limit : ℕ} {ws bs l k : List ℕ} (m : List ℕ) → length m ≡ 32 → ToReport limit ws bs l k → Valued ws m
valued {limit} {ws} {bs} m size asked =
    let f = ok_fine limit ws bs asked.fine in record {
      few = f.sized.words;
      narrow = λ i h. rw (series_at 0 (word_count ws) i (width_at ws) h) at (f.problem.table.width i (rw (length_series (word_count ws) (width_at ws)) h)).high;
      there = omega (arith, f.sized.words);
    }

pub told_after : {limit e : ℕ} {ws bs l k n l' n' : List ℕ} → Cleared k n → Told limit ws bs l n e l' n' → Told limit ws bs l k e l' n'
told_after c (told a p d) = told a p (record { size = d.size ∙ c.size; zeros = d.zeros })

-- ---- the search

module _ {limit : ℕ} {ws bs m k : List ℕ} where
  found_at : {g : ℕ} {l l' m' n : List ℕ} {e : ℕ} → Solving limit ws bs m k (Ok (solved.Found g)) m' n → Printed (sat g (widths_of ws) m') l l' e
      → Told limit ws bs l k e l' n
  found_at {g} {m' = m'} (Solving.found_first {v = v} given s st c) p =
      let same = sat_same g (widths_of ws) m' v (λ i h. st.each i (rw (length_series (word_count ws) (width_at ws)) at h)) in
      told (found_first s) (printed_same same p) c

  none_at : {g : ℕ} {m' n : List ℕ} → Solving limit ws bs m k (Ok (solved.Nothing g)) m' n → Comes limit ws bs (none g) × Cleared k n
  none_at (Solving.found_none given s c) = (s, c)

  gave_up_after : {g : ℕ} {l l' m' n : List ℕ} {e : ℕ} → Solving limit ws bs m k (Ok (solved.GaveUp g)) m' n → Printed (unknown g) l l' e
      → Told limit ws bs l k e l' n
  gave_up_after (Solving.gave_up_at given s c) p = told (gave_up_at s) p c

  -- a problem without refusals is not refused
  pub solve_ok : {x : Result Solved Refusal} {l m' n : List ℕ} → Solving limit ws bs m k x m' n → ToReport limit ws bs l k → length m ≡ 32 → IsOk x
  solve_ok (Solving.refused e) asked size =
      let work = asked.lent.memory in
      absurd (refused_not_ok e (nothing_refused limit ws bs m k (omega arith) (valued m size asked).there asked.fine).passed)
  solve_ok (Solving.found_first given s st c) asked size = refl
  solve_ok (Solving.found_none given s c) asked size = refl
  solve_ok (Solving.gave_up_at given s c) asked size = refl

  module _ {r : Solved} {m' n : List ℕ} (s : Solving limit ws bs m k (Ok r) m' n) where
    pub found_told : {g : ℕ} {l l' : List ℕ} {e : ℕ} → r ≡ solved.Found g → Printed (sat g (widths_of ws) m') l l' e → Told limit ws bs l k e l' n
    found_told q p = found_at (rw q at s) p

    pub none_comes : {g : ℕ} → r ≡ solved.Nothing g → Comes limit ws bs (none g) × Cleared k n
    none_comes q = none_at (rw q at s)

    pub gave_up_told : {g : ℕ} {l l' : List ℕ} {e : ℕ} → r ≡ solved.GaveUp g → Printed (unknown g) l l' e → Told limit ws bs l k e l' n
    gave_up_told q p = gave_up_after (rw q at s) p
