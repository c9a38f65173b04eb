-- What stays in lent memory while a table is searched: the list of rules, the copy, the trail.
use mathlib.Core.Path.{◌≡◌, ap, ◌∙◌}
use mathlib.Core.Logic.{inl, inr}
use mathlib.Core.List.{List}
use Prim.Native.Nat.{ℕ, ◌+◌, ◌*◌, ◌≤◌, ◌<◌, ◌-◌}
use native.Mathlib.Omega.{arith}
use native.Mathlib.Decide.{dec_lt}
use lib.ListN.{length}
use Rattle.lists.specs.Lists.{at}
use Rattle.rules.specs.Tight.{Rule, rule}
use Rattle.tighten.specs.Memory.{table_in, chosen, Outside}
use Rattle.tighten.specs.Ready.{Listed}
use Rattle.lists.proofs.Series.{series_same}
use Rattle.trail.specs.Trail.{copied, undone, RolledBack}
use Rattle.trail.proofs.Undoing.{undone_same}
use Rattle.search.specs.Guessing.{copy_in}
use Rattle.search.specs.Searching.{Frame}
use Rattle.search.proofs.Tables.{table_same, copy_same}

pub frame_trans : {b : ℕ} {k l m : List ℕ} → Frame b k l → Frame b l m → Frame b k m
frame_trans p q = record { size = q.size ∙ p.size; same = λ i h g. q.same i h g ∙ p.same i h g }

-- where nothing behind the table has changed
pub frame_behind : (b : ℕ) (l m : List ℕ) → length m ≡ length l → ((i : ℕ) → 64 ≤ i → at m i ≡ at l i) → Frame b l m
frame_behind b l m size rest = record { size = size; same = λ i h g. rest i h }

pub frame_outside : {n : ℕ} {l m : List ℕ} (b : ℕ) → n ≤ 32 → Outside n l m → Frame b l m
frame_outside b most o = record { size = o.size; same = λ i h g. o.rest i (omega arith) (inr (omega arith)) }

-- ---- the list

module _ (l m : List ℕ) (c : ℕ) (few : c ≤ 252) (list : (q : ℕ) → 64 ≤ q → q < 316 → at m q ≡ at l q) where
  pub chosen_kept : (rs : List Rule) → chosen rs m c ≡ chosen rs l c
  unfolding chosen
  chosen_kept rs = series_same c _ _ (λ j h. ap (rule rs) (list (64 + j) (omega arith) (omega arith)))

  pub listed_kept : (bs : List ℕ) → length m ≡ length l → Listed bs l c → Listed bs m c
  listed_kept bs size x = record {
    room = omega (arith, x.room, size);
    each = λ j h. rw (list (64 + j) (omega arith) (omega arith)) (x.each j h);
  }

-- ---- the copy

pub frame_copy : (n : ℕ) {b : ℕ} {l m : List ℕ} → n ≤ 32 → 380 ≤ length l → Frame b l m → copy_in n m ≡ copy_in n l
frame_copy n {b} {l} {m} most room f = copy_same n m most (omega (arith, f.size)) l f.size (λ i h. f.same (316 + i) (omega arith) (omega arith))

-- ---- the way back

-- the entries from b to e of memory m take its copy back to that of l; so they do in x, and then all is as in l
pub frame_back : {b e : ℕ} {l m x y : List ℕ} → b ≤ e → length m ≡ length l → ((q : ℕ) → 64 ≤ q → q < 316 → at m q ≡ at l q)
    → ((q : ℕ) → 380 ≤ q → q < 380 + 2 * b → at m q ≡ at l q) → ((q : ℕ) → q < 64 → undone m b (e - b) (copied m) q ≡ copied l q)
    → Frame e m x → RolledBack b e x y → Frame b l y
frame_back {b} {e} {l} {m} {x} {y} order size list trail back f r = record {
  size = r.frame.size ∙ f.size ∙ size;
  same = λ q h g. go q h g (dec_lt q 316) (dec_lt q 380);
}
  where
    -- number q of the copy
    copy : (q : ℕ) → q < 64 → copied y q ≡ copied l q
    copy q h =
        r.copy q h
        ∙ undone_same (e - b) b x m (copied x) (copied m) (λ i p s. f.same i (omega arith) (omega arith))
        (λ i s. f.same (316 + i) (omega arith) (omega arith)) q h
        ∙ back q h

    go : (q : ℕ) → 64 ≤ q → q < 380 + 2 * b → Dec (q < 316) → Dec (q < 380) → at y q ≡ at l q
    go q h g (yes a) d = r.frame.rest q (inl a) ∙ f.same q h (omega arith) ∙ list q h a
    go q h g (no a) (yes d) =
        let s : 316 + (q - 316) ≡ q = omega arith in
        rw s at (copy (q - 316) (omega arith))
    go q h g (no a) (no d) = r.frame.rest q (inr (omega arith)) ∙ f.same q h (omega arith) ∙ trail q (omega arith) g

-- and the table stays
pub table_back : (n : ℕ) {b e : ℕ} {x y : List ℕ} → n ≤ 32 → 64 ≤ length x → RolledBack b e x y → table_in n y ≡ table_in n x
table_back n {b} {e} {x} {y} most room r = table_same n x y most room r.frame.size (λ i h. r.frame.rest i (inl (omega arith)))
