-- Notions of tight that say the same give the same search; so the order of the rules, and a rule listed twice, change no tight table and no search.
use mathlib.Core.List.{List}
use Prim.Native.Nat.{ℕ}
use Rattle.words.specs.Table.{Table}
use Rattle.rules.specs.Tight.{Rule, Tight, RulesIn}
use Rattle.rules.specs.Tightening.{Widest}
use Rattle.rules.proofs.OneWidest.{widest_same, conflict_more}
use Rattle.rules.proofs.Agree.{tight_listed}
use Rattle.search_theory.specs.Search.{Outcome, Search, conflict, settled, stopped, first, second}

module _ {P Q : Table → Type 0} (to : (t : Table) → P t → Q t) (from : (t : Table) → Q t → P t) where
  pub search_same : {limit : ℕ} {t : Table} {g : ℕ} {o : Outcome} → Search P limit t g o → Search Q limit t g o
  search_same (conflict c) = conflict (conflict_more from c)
  search_same (settled w d) = settled (widest_same to from w) d
  search_same (stopped w h l) = stopped (widest_same to from w) h l
  search_same (first w h l s e) = first (widest_same to from w) h l (search_same s) e
  search_same (second w h l s r) = second (widest_same to from w) h l (search_same s) (search_same r)

pub tight_reordered : {w : List ℕ} {rs rs' : List Rule} {t u : Table} → RulesIn rs rs' → RulesIn rs' rs → Widest (Tight w rs) t u → Widest (Tight w rs') t u
tight_reordered e e' x = widest_same (tight_listed e') (tight_listed e) x

pub search_reordered : {w : List ℕ} {rs rs' : List Rule} {limit : ℕ} {t : Table} {g : ℕ} {o : Outcome} → RulesIn rs rs' → RulesIn rs' rs
    → Search (Tight w rs) limit t g o → Search (Tight w rs') limit t g o
search_reordered e e' s = search_same (tight_listed e') (tight_listed e) s
