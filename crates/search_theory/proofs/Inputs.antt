-- Where the later words follow from the inputs, the guess falls on an input; and with rules added, the inputs stay inputs and have no more open bits.
use mathlib.Core.Logic.{◌⊎◌, inl, inr}
use mathlib.Core.List.{List}
use Prim.Native.Nat.{ℕ, ◌≤◌, ◌<◌}
use native.Mathlib.Omega.{arith}
use native.Mathlib.Decide.{dec_lt}
use Rattle.words.specs.Table.{Table, Inside, Open, Guess}
use Rattle.lists.specs.Lists.{at}
use Rattle.words.specs.Count.{open_below}
use Rattle.words.proofs.Order.{bit_lt}
use Rattle.words.proofs.Tables.{in_reach, word_closed, self}
use Rattle.words.proofs.Falls.{open_less}
use Rattle.rules.specs.Tight.{Rule, Tight, RulesIn}
use Rattle.rules.specs.Tightening.{Widest}
use Rattle.rules.specs.Inputs.{Computed, Inputs}
use Rattle.rules.proofs.Tight.{result_fixed}
use Rattle.rules.proofs.OneWidest.{widest_narrower}
use Rattle.rules.proofs.Agree.{tight_listed}
use Rattle.search_theory.proofs.Ceiling.{Driven}

open_wider : {s t : Table} {i j : ℕ} → Inside s t → Open s i j → Open t i j
open_wider {s} {t} {i} {j} p o = record {
  off = omega (arith, (p.low i).bits j, o.off);
  on = omega (arith, (p.top i).bits j, o.on, bit_lt (at t.hi i) j);
}

pub inputs_drive : (w : List ℕ) (rs : List Rule) (t : Table) (m : ℕ) → Inputs rs t m → Driven (Tight w rs) t m
inputs_drive w rs t m inputs = record { drives = λ u i j tu p g. go u i j tu p g (dec_lt i m) }
  where
    no_guess : (u : Table) (i j : ℕ) → Tight w rs u → Inside u t → Guess u i j → ((b : ℕ) → ¬ Open t i b) ⊎ Computed rs i → ⊥
    no_guess u i j tu p g (inl n) = n j (open_wider p g.here)
    no_guess u i j tu p g (inr c) =
        result_fixed (tu.each c.number c.listed) c.computes.computing
        (λ q v d. word_closed _ p (λ b. g.lowest _ b (c.computes.below q v d))) j (rw c.computes.result g.here)

    go : (u : Table) (i j : ℕ) → Tight w rs u → Inside u t → Guess u i j → Dec (i < m) → i < m
    go u i j tu p g (yes l) = l
    go u i j tu p g (no n) =
        absurd (no_guess u i j tu p g (inputs.follows i (omega arith) (omega (arith, in_reach u.hi i j g.here.on, p.his))))

module _ {rs rs' : List Rule} (e : RulesIn rs rs') where
  computed_listed : {i : ℕ} → Computed rs i → Computed rs' i
  computed_listed c = record {
    number = e.number c.number c.listed;
    listed = e.reached c.number c.listed;
    computes = rw (e.equal c.number c.listed) c.computes;
  }

  -- rules added leave inputs what they are
  pub inputs_stay : {t : Table} {m : ℕ} → Inputs rs t m → Inputs rs' t m
  inputs_stay inputs = record { follows = λ i l k. go (inputs.follows i l k) }
    where
      go : {A : Type 0} {i : ℕ} → A ⊎ Computed rs i → A ⊎ Computed rs' i
      go (inl n) = inl n
      go (inr c) = inr (computed_listed c)

  -- and the open bits of the first words, after the first tightening, are no more
  pub open_no_more : {w : List ℕ} {t u u' : Table} → Widest (Tight w rs) t u → Widest (Tight w rs') t u' → (m : ℕ) → open_below m u' ≤ open_below m u
  open_no_more x y m = open_less (self x.inside) (widest_narrower (tight_listed e) x y) m
