-- The ceiling of a problem: there is one, no search makes more guesses, a limit that reaches it never gives up, and rules added never raise it.
use mathlib.Core.Path.{◌≡◌}
use mathlib.Core.Logic.{◌≢◌}
use mathlib.Core.List.{List}
use Prim.Native.Nat.{ℕ, ◌^◌, ◌≤◌, ◌-◌}
use native.Mathlib.Nat.{le_antisymm, le_trans}
use native.Mathlib.Omega.{arith}
use lib.Count.{ones}
use lib.Pow.{pow_pos, pow_mono}
use Rattle.words.specs.Table.{Table}
use Rattle.words.specs.Word.{open_in}
use Rattle.words.specs.Count.{open_below}
use Rattle.words.proofs.Counting.{fewer_words}
use Rattle.rules.specs.Tight.{Rule, Tight, RulesIn}
use Rattle.rules.specs.Proper.{Proper}
use Rattle.rules.specs.Tightening.{Widest}
use Rattle.rules.proofs.Propers.{proper_inside}
use Rattle.rules.proofs.LeastInputs.{least_inputs}
use Rattle.search_theory.specs.Search.{Outcome, gave_up, Search, AnswerIs}
use Rattle.search_theory.specs.Ceiling.{Ceiling}
use Rattle.search_theory.proofs.Inputs.{inputs_stay, open_no_more}
use Rattle.search_theory.proofs.Problem.{count_below, limit_reached}

pub one_ceiling : {rs : List Rule} {t u : Table} {c d : ℕ} → Ceiling rs t u c → Ceiling rs t u d → c ≡ d
one_ceiling {u = u} {c} {d} x y =
    let e : x.words ≡ y.words = le_antisymm (x.least y.words y.inputs) (y.least x.words x.inputs) in
    let f : 2 ^ open_below x.words u ≡ 2 ^ open_below y.words u = cc in
    omega (arith, x.number, y.number)

module _ (w : List ℕ) (rs : List Rule) (t : Table) (proper : Proper w t) where
  unfoldable pub some_ceiling : (u : Table) → (c : ℕ) × Ceiling rs t u c
  unfolding least_inputs open_below open_in ones
  some_ceiling u =
      let (m, h, l) = least_inputs rs t (proper_inside proper) in
      (2 ^ open_below m u - 1, record { words = m; inputs = h; least = l; number = omega (arith, pow_pos (open_below m u)) })

  module _ (u : Table) (tight : Widest (Tight w rs) t u) (c : ℕ) (top : Ceiling rs t u c) where
    -- no more guesses than the ceiling
    pub count_ceiling : (limit n : ℕ) (o : Outcome) → Search (Tight w rs) limit t 0 o → AnswerIs o n → n ≤ c
    count_ceiling limit n o s a = omega (arith, top.number, count_below w rs t proper top.words top.inputs u tight limit n o s a)

    -- a limit that reaches the ceiling never gives up
    pub ceiling_reached : (limit : ℕ) (o : Outcome) → c ≤ limit → Search (Tight w rs) limit t 0 o → o ≢ gave_up
    ceiling_reached limit o l s = limit_reached w rs t proper top.words top.inputs u tight limit o (omega (arith, top.number)) s

    -- rules added never raise the ceiling
    pub ceiling_falls : (rs' : List Rule) → RulesIn rs rs' → (u' : Table) → Widest (Tight w rs') t u' → (d : ℕ) → Ceiling rs' t u' d → d ≤ c
    ceiling_falls rs' e u' tight' d top' =
        let fewer = top'.least top.words (inputs_stay e top.inputs) in
        let less : open_below top'.words u' ≤ open_below top.words u = le_trans (fewer_words u' _ _ fewer) (open_no_more e tight tight' top.words) in
        omega (arith, pow_mono less, top.number, top'.number)
