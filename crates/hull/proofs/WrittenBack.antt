-- Bounds that every tight table inside a table keeps to at a word, met with the bounds of that word on the way: no tight table is lost, and where
-- they cross there is none.
use Rattle.std.proofs.Common.{ℕ}
use lib.Bits.{bit_and, bit_or}
use Rattle.words.specs.Bits.{◌⊑◌}
use Rattle.words.specs.Table.{Table, Inside}
use Rattle.lists.specs.Lists.{at}
use Rattle.words.proofs.Order.{⊑_trans}
use Rattle.words.proofs.Meets.{⊑_or_l, or_⊑, and_⊑_l, ⊑_and}
use Rattle.words.proofs.Tables.{self, inside_trans}
use Rattle.rules.specs.Tightening.{Conflict}
use Rattle.rules.proofs.Narrowed.{narrowed}
use Rattle.rules.proofs.Held.{Held, held_trans, held_narrowed}

module _ {P : Table → Type 0} {t u : Table} (i l h : ℕ) (held : Held P t u)
    (kept : (s : Table) → P s → Inside s t → (l ⊑ at s.lo i) × (at s.hi i ⊑ h)) where
  abbrev l' : ℕ
  l' = bit_or (at u.lo i) l

  abbrev h' : ℕ
  h' = bit_and (at u.hi i) h

  met_low : (s : Table) → P s → Inside s t → l' ⊑ at s.lo i
  met_low s q p = or_⊑ ((held.all s q p).low i) (kept s q p).0

  met_high : (s : Table) → P s → Inside s t → at s.hi i ⊑ h'
  met_high s q p = ⊑_and ((held.all s q p).top i) (kept s q p).1

  pub met_held : l' ⊑ h' → Held P t (narrowed u i l' h')
  met_held c =
      held_trans held
      (held_narrowed i l' h' (self held.inside) (⊑_or_l _ _) c (and_⊑_l _ _)
      (λ s q p. met_low s q (inside_trans p held.inside)) (λ s q p. met_high s q (inside_trans p held.inside)))

  pub met_crossed : ¬ (l' ⊑ h') → Conflict P t
  met_crossed n = record { nothing = λ s q p. n (⊑_trans (met_low s q p) (⊑_trans (p.mid i) (met_high s q p))) }
