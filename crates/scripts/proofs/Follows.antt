-- The declared words stay inputs with a rule more, with a fixed word more, and with a computed word more.
use mathlib.Core.Path.{◌≡◌, sym}
use mathlib.Core.Logic.{◌⊎◌, inl, inr}
use mathlib.Core.List.{List, [], ◌∷◌, ◌++◌}
use Prim.Native.Nat.{ℕ, ◌≤◌, ◌<◌}
use native.Mathlib.Omega.{arith}
use native.Mathlib.Decide.{dec_lt}
use lib.ListN.{length}
use Rattle.words.specs.Bits.{bit}
use Rattle.words.specs.Table.{Table, Open}
use Rattle.rules.specs.Tight.{Rule, none_rule, RulesIn}
use Rattle.rules.specs.Inputs.{Computed, Inputs}
use Rattle.search_theory.proofs.Inputs.{inputs_stay}
use Rattle.scripts.specs.Draft.{Draft, more_word}
use Rattle.lists.proofs.Snoc.{length_more, at_low, at_new}
use Rattle.scripts.proofs.ProperDraft.{ProperDraft}

listed_more : (rs : List Rule) (ρ : Rule) → RulesIn rs (rs ++ (ρ ∷ []))
listed_more rs ρ = record {
  number = λ n l. n;
  reached = λ n l. omega (arith, length_more rs ρ);
  equal = λ n l. at_low rs ρ none_rule n l;
}

-- with a rule more
pub inputs_rule : {rs : List Rule} {t : Table} {m : ℕ} (ρ : Rule) → Inputs rs t m → Inputs (rs ++ (ρ ∷ [])) t m
inputs_rule {rs} ρ h = inputs_stay (listed_more rs ρ) h

-- with a word more that is fixed or computed
pub inputs_word : {p : Draft} {m : ℕ} (rs : List Rule) (w lo hi : ℕ) → ProperDraft p → Inputs rs p.table m
    → ((j : ℕ) → ¬ Open (more_word w lo hi p).table (length p.widths) j) ⊎ Computed rs (length p.widths)
    → Inputs rs (more_word w lo hi p).table m
unfolding more_word
inputs_word {p} {m} rs w lo hi s h new = record { follows = λ i l k. go i l k (dec_lt i (length p.table.lo)) }
  where
    old : (i : ℕ) → i < length p.table.lo → ((j : ℕ) → ¬ Open p.table i j) ⊎ Computed rs i
        → ((j : ℕ) → ¬ Open (more_word w lo hi p).table i j) ⊎ Computed rs i
    old i a (inl n) =
        inl (λ j o. n j (record {
          off = rw (at_low p.table.lo lo 0 i a) at o.off;
          on = rw (at_low p.table.hi hi 0 i (omega (arith, s.table.los, s.table.his))) at o.on;
        }))
    old i a (inr c) = inr c

    go : (i : ℕ) → m ≤ i → i < length (p.table.lo ++ (lo ∷ [])) → Dec (i < length p.table.lo)
        → ((j : ℕ) → ¬ Open (more_word w lo hi p).table i j) ⊎ Computed rs i
    go i l k (yes a) = old i a (h.follows i l a)
    go i l k (no a) =
        let e : i ≡ length p.widths = omega (arith, length_more p.table.lo lo, s.table.los) in
        rw e new

-- a word whose bounds are one number has no open bit
pub fixed_closed : {p : Draft} (w v : ℕ) → ProperDraft p → (j : ℕ) → ¬ Open (more_word w v v p).table (length p.widths) j
unfolding more_word
fixed_closed {p} w v s j o =
    let a : bit v j ≡ 0 = rw (at_new p.table.lo v 0 (length p.widths) (sym s.table.los)) at o.off in
    let b : bit v j ≡ 1 = rw (at_new p.table.hi v 0 (length p.widths) (sym s.table.his)) at o.on in
    omega arith
