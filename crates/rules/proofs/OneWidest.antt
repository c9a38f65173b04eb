-- The widest tight table is one, and is not there in a conflict; a notion of tight that says the same gives the same. For any notion of tight.
use mathlib.Core.Path.{◌≡◌}
use Rattle.words.specs.Table.{Table, Inside}
use Rattle.words.proofs.Tables.{inside_antisym}
use Rattle.rules.specs.Tightening.{Widest, Conflict}

module _ (Tight : Table → Type 0) where
  pub one_widest : (t u u' : Table) → Widest Tight t u → Widest Tight t u' → u ≡ u'
  one_widest t u u' w w' = inside_antisym u u' (w'.widest u w.tight w.inside) (w.widest u' w'.tight w'.inside)

  pub not_both : {t u : Table} → Widest Tight t u → Conflict Tight t → ⊥
  not_both {t} {u} w c = c.nothing u w.tight w.inside

  pub widest_whole : {t u : Table} → Widest Tight t u → Inside u u
  widest_whole {t} {u} w = w.widest u w.tight w.inside

-- more asked of a tight table: its widest lies inside, and a conflict stays one
module _ {P Q : Table → Type 0} (less : (t : Table) → Q t → P t) where
  pub widest_narrower : {t u v : Table} → Widest P t u → Widest Q t v → Inside v u
  widest_narrower {v = v} x y = x.widest v (less v y.tight) y.inside

  pub conflict_more : {t : Table} → Conflict P t → Conflict Q t
  conflict_more c = record { nothing = λ s q. c.nothing s (less s q) }

module _ {P Q : Table → Type 0} (to : (t : Table) → P t → Q t) (from : (t : Table) → Q t → P t) where
  pub widest_same : {t u : Table} → Widest P t u → Widest Q t u
  widest_same {u = u} w = record { tight = to u w.tight; inside = w.inside; widest = λ s q. w.widest s (from s q) }
