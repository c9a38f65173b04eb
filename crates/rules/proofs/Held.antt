-- What a narrowing may do on the way to the widest tight table: it loses no tight table.
use mathlib.Core.Path.{sym, ◌∙◌}
use mathlib.Core.List.{List}
use Prim.Native.Nat.{ℕ}
use lib.ListN.{length-set}
use Rattle.words.specs.Bits.{◌⊑◌}
use Rattle.words.specs.Table.{Table, Inside}
use Rattle.lists.specs.Lists.{at}
use Rattle.words.proofs.Order.{⊑_trans}
use Rattle.words.proofs.Tables.{self, inside_trans}
use Rattle.lists.proofs.Sets.{set_all}
use Rattle.rules.specs.Kinds.{Place}
use Rattle.rules.specs.Fits.{Uses, Fit, Hull}
use Rattle.rules.specs.Tight.{Rule, word, shape, span, TightAt}
use Rattle.rules.specs.Tightening.{Widest, Conflict}
use Rattle.rules.proofs.Narrowed.{narrowed, narrowed_inside}
use Rattle.rules.proofs.Hulls.{hull_from, hull_to}
use Rattle.rules.proofs.Tight.{fit_inside, tight_from, tight_to}

-- tightening has come from t to u: no tight table was lost
pub record Held (P : Table → Type 0) (t u : Table) : Type 0 where
  pub inside : Inside u t
  pub all : (s : Table) → P s → Inside s t → Inside s u

module _ {P : Table → Type 0} where
  pub held_start : {t : Table} → Inside t t → Held P t t
  held_start h = record { inside = h; all = λ s q p. p }

  pub held_trans : {s t u : Table} → Held P s t → Held P t u → Held P s u
  held_trans h k = record { inside = inside_trans k.inside h.inside; all = λ r q p. k.all r q (h.all r q p) }

  pub held_tight : {t u : Table} → Held P t u → P u → Widest P t u
  held_tight h q = record { tight = q; inside = h.inside; widest = h.all }

  pub held_widest : {s t u : Table} → Held P s t → Widest P t u → Widest P s u
  held_widest h x = record { tight = x.tight; inside = inside_trans x.inside h.inside; widest = λ r q p. x.widest r q (h.all r q p) }

  pub held_conflict : {t u : Table} → Held P t u → Conflict P u → Conflict P t
  held_conflict h c = record { nothing = λ s q p. c.nothing s q (h.all s q p) }

-- the bounds of word i narrowed to what every table with P keeps to
pub held_narrowed : {P : Table → Type 0} {t : Table} (i l h : ℕ) → Inside t t → at t.lo i ⊑ l → l ⊑ h → h ⊑ at t.hi i
    → ((s : Table) → P s → Inside s t → l ⊑ at s.lo i) → ((s : Table) → P s → Inside s t → at s.hi i ⊑ h) → Held P t (narrowed t i l h)
unfolding narrowed
held_narrowed {P} {t} i l h ok a b c from to = record { inside = narrowed_inside i l h ok a b c; all = keep }
  where
    keep : (s : Table) → P s → Inside s t → Inside s (narrowed t i l h)
    keep s q x = record {
      los = x.los ∙ sym (length-set t.lo i l);
      his = x.his ∙ sym (length-set t.lo i l);
      low = set_all (λ k y. y ⊑ at s.lo k) t.lo i l (from s q x) x.low;
      mid = x.mid;
      top = set_all (λ k y. at s.hi k ⊑ y) t.hi i h (to s q x) x.top;
    }

-- for a rule for which every table with P is tight
module _ {P : Table → Type 0} {w : List ℕ} {ρ : Rule} (told : (s : Table) → P s → TightAt w s ρ) where
  -- a rule without a fit is a conflict
  pub no_fit : {t : Table} → ((f : Place → ℕ) → ¬ Fit (shape w ρ) (span t ρ) f) → Conflict P t
  no_fit h = record { nothing = λ s q p. let (f, fit) = (told s q).some in h f (fit_inside ρ p fit) }

  -- the bounds of a place's word may be narrowed to what every fit keeps to
  pub narrow : {t : Table} (p : Place) (l h : ℕ) → Uses (shape w ρ) p → Inside t t
      → at t.lo (word ρ p) ⊑ l → l ⊑ h → h ⊑ at t.hi (word ρ p)
      → ((f : Place → ℕ) → Fit (shape w ρ) (span t ρ) f → l ⊑ f p) → ((f : Place → ℕ) → Fit (shape w ρ) (span t ρ) f → f p ⊑ h)
      → Held P t (narrowed t (word ρ p) l h)
  narrow {t} p l h u ok a b c from to =
      held_narrowed (word ρ p) l h ok a b c (λ s q x. tight_from (told s q) (self x) p u l x from) (λ s q x. tight_to (told s q) (self x) p u h x to)

  -- so a word may be narrowed to the hull of a place where it stands, where the rule has a fit
  pub narrow_hull : {t : Table} {p : Place} {l h : ℕ} {f : Place → ℕ} → Uses (shape w ρ) p → Inside t t
      → Fit (shape w ρ) (span t ρ) f → Hull (shape w ρ) (span t ρ) p l h → Held P t (narrowed t (word ρ p) l h)
  narrow_hull {p = p} {l = l} {h = h} {f = f} u ok fit x =
      narrow p l h u ok (hull_from x u) (⊑_trans (x.from f fit) (x.to f fit)) (hull_to x u) x.from x.to
