-- The three laws by which a rule is known above: an emptied bound is a conflict, narrowing loses no tight table, and what no narrowing changes is tight.
use Rattle.std.proofs.Common.{◌≡◌, ℕ, Bool, true, false, List, None, refl}
use lib.Bits.{bit_and, bit_or}
use Rattle.words.specs.Bits.{◌⊑◌}
use Rattle.words.specs.Table.{Table, Inside}
use Rattle.lists.specs.Lists.{at}
use Rattle.words.proofs.Order.{⊑_antisym}
use Rattle.words.proofs.Meets.{⊑_or_r, and_⊑_r}
use Rattle.words.proofs.Tables.{self}
use Rattle.rules.specs.Kinds.{Place, kind_of}
use Rattle.rules.specs.Rows.{uses}
use Rattle.rules.specs.Fits.{Uses}
use Rattle.rules.specs.Tight.{Rule, word, shape, span, TightAt}
use Rattle.rules.specs.Tightening.{Conflict}
use Rattle.rules.proofs.Hulls.{hull_from, hull_to}
use Rattle.rules.proofs.Tight.{tight_from, tight_to, hull_tight}
use Rattle.rules.proofs.Narrowed.{narrowed}
use Rattle.rules.proofs.Held.{Held, no_fit}
use Rattle.problem.specs.Places.{Bounds, lo_of, hi_of}
use Rattle.hull.specs.Narrowing.{Leaves, Narrows}
use Rattle.hull.proofs.WrittenBack.{met_held, met_crossed}

-- for a rule for which every table with P is tight
module _ {P : Table → Type 0} (w : List ℕ) (t : Table) (ρ : Rule) (told : (s : Table) → P s → TightAt w s ρ) where
  -- a rule without a fit is a conflict
  pub unfit_conflict : Narrows (shape w ρ) (span t ρ) None → Conflict P t
  unfit_conflict x = no_fit told x

  -- for what its narrowing in t leaves
  module _ (o : Bounds) (x : Leaves (shape w ρ) (span t ρ) o) where
    -- each tight table inside t keeps to what is left at each place
    pub left_keeps : (p : Place) (s : Table) → P s → Inside s t → (lo_of o p ⊑ at s.lo (word ρ p)) × (at s.hi (word ρ p) ⊑ hi_of o p)
    left_keeps p s q i = go (uses (kind_of ρ.kind) p) refl
      where
        go : (u : Bool) → uses (kind_of ρ.kind) p ≡ u → (lo_of o p ⊑ at s.lo (word ρ p)) × (at s.hi (word ρ p) ⊑ hi_of o p)
        go true d =
            let used : Uses (shape w ρ) p = rw d tt in
            let h = x.hull p used in
            (tight_from (told s q) (self i) p used _ i h.from, tight_to (told s q) (self i) p used _ i h.to)
        go false d =
            let (l, h) = x.rest p (λ v. rw d at v) in
            (rw l (i.low (word ρ p)), rw h (i.top (word ρ p)))

    -- so what is left may be written back by meet, one place after the other, and no tight table is lost; where it crosses there is a conflict
    module _ {u : Table} (held : Held P t u) (p : Place) where
      abbrev i : ℕ
      i = word ρ p

      abbrev l : ℕ
      l = bit_or (at u.lo i) (lo_of o p)

      abbrev h : ℕ
      h = bit_and (at u.hi i) (hi_of o p)

      pub written_held : l ⊑ h → Held P t (narrowed u i l h)
      written_held = met_held i (lo_of o p) (hi_of o p) held (left_keeps p)

      pub crossed_conflict : ¬ (l ⊑ h) → Conflict P t
      crossed_conflict = met_crossed i (lo_of o p) (hi_of o p) held (left_keeps p)

-- a table that has what is left at each place is tight for the rule
pub same_tight : (w : List ℕ) (t : Table) (ρ : Rule) (o : Bounds) → Leaves (shape w ρ) (span t ρ) o
    → ((p : Place) → Uses (shape w ρ) p → (lo_of o p ≡ at t.lo (word ρ p)) × (hi_of o p ≡ at t.hi (word ρ p))) → TightAt w t ρ
same_tight w t ρ o x same = hull_tight x.some.1 (λ p used. rw ((same p used).0, (same p used).1) at (x.hull p used))

-- so is one in which writing back changes nothing
pub unchanged_tight : (w : List ℕ) (t : Table) (ρ : Rule) (o : Bounds) → Leaves (shape w ρ) (span t ρ) o
    → ((p : Place) → Uses (shape w ρ) p
    → (bit_or (at t.lo (word ρ p)) (lo_of o p) ≡ at t.lo (word ρ p)) × (bit_and (at t.hi (word ρ p)) (hi_of o p) ≡ at t.hi (word ρ p)))
    → TightAt w t ρ
unchanged_tight w t ρ o x unchanged = same_tight w t ρ o x same
  where
    same : (p : Place) → Uses (shape w ρ) p → (lo_of o p ≡ at t.lo (word ρ p)) × (hi_of o p ≡ at t.hi (word ρ p))
    same p used =
        let h = x.hull p used in
        let (el, eh) = unchanged p used in (
          ⊑_antisym (rw el at (⊑_or_r (at t.lo (word ρ p)) (lo_of o p))) (hull_from h used),
          ⊑_antisym (hull_to h used) (rw eh at (and_⊑_r (at t.hi (word ρ p)) (hi_of o p))),
        )
