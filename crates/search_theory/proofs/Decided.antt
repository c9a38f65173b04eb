-- Where the first m words are inputs, their values decide the settings.
use mathlib.Core.Path.{◌≡◌, sym, ◌∙◌}
use mathlib.Core.Logic.{◌⊎◌, inl, inr}
use mathlib.Core.List.{List}
use Prim.Native.Nat.{ℕ, zero, suc, ◌<◌}
use native.Mathlib.Omega.{arith}
use native.Mathlib.Decide.{dec_lt, ℕ_discrete}
use lib.ListN.{length, get_or-eq_default}
use lib.Seq.{ext_get_or}
use Rattle.words.specs.Table.{Table, Inside, Open}
use Rattle.lists.specs.Lists.{at}
use Rattle.words.proofs.Order.{⊑_antisym}
use Rattle.words.proofs.Tables.{word_closed}
use Rattle.rules.specs.Kinds.{R, kind_of}
use Rattle.rules.specs.Tight.{Rule, word, rule, AllHold}
use Rattle.rules.specs.Inputs.{Computed, Inputs}
use Rattle.rules.proofs.Used.{computed}
use Rattle.search_theory.specs.Settings.{Settings}

module _ (w : List ℕ) (rs : List Rule) (t : Table) (m : ℕ) (ok : Inside t t) (inputs : Inputs rs t m)
    (v v' : List ℕ) (s : Settings (AllHold w rs) t v) (s' : Settings (AllHold w rs) t v') (e : (i : ℕ) → i < m → at v i ≡ at v' i) where
  -- a word that follows, where lower-numbered words are the same
  follows : (i : ℕ) → ((k : ℕ) → k < i → at v k ≡ at v' k) → ((j : ℕ) → ¬ Open t i j) ⊎ Computed rs i → at v i ≡ at v' i
  follows i below (inl n) =
      let c : at t.lo i ≡ at t.hi i = word_closed i ok n in
      ⊑_antisym (rw (← c) at (s.keeps.to i)) (s.keeps.from i)
      ∙ ⊑_antisym (s'.keeps.from i) (rw (← c) at (s'.keeps.to i))
  follows i below (inr c) =
      let ρ : Rule = rule rs c.number in
      let same : at v (word ρ R) ≡ at v' (word ρ R) =
      computed (kind_of ρ.kind) (λ p. at w (word ρ p)) ρ.k (λ p. at v (word ρ p)) (λ p. at v' (word ρ p)) c.computes.computing
      (λ p u d. below (word ρ p) (c.computes.below p u d)) (s.holds.each c.number c.listed) (s'.holds.each c.number c.listed)
      in
      rw c.computes.result at same

  same_below : (n i : ℕ) → i < n → at v i ≡ at v' i
  same_below zero i l = absurd (omega arith)
  same_below (suc n) i l = go (ℕ_discrete i n) (dec_lt n m) (dec_lt n (length t.lo)) (same_below n)
    where
      go : Dec (i ≡ n) → Dec (n < m) → Dec (n < length t.lo) → ((k : ℕ) → k < n → at v k ≡ at v' k) → at v i ≡ at v' i
      go (no d) x y below = below i (omega arith)
      go (yes d) (yes x) y below = e i (omega arith)
      go (yes d) (no x) (yes y) below = rw d (follows n below (inputs.follows n (omega arith) y))
      go (yes d) (no x) (no y) below =
          get_or-eq_default v 0 (omega (arith, s.keeps.size)) ∙ sym (get_or-eq_default v' 0 (omega (arith, s'.keeps.size)))

  pub inputs_decide : v ≡ v'
  inputs_decide = ext_get_or 0 v v' (s.keeps.size ∙ sym s'.keeps.size) (λ i l. same_below (length v) i l)
