-- Lines put one after the other into lent bytes.
use mathlib.Core.Path.{◌≡◌, refl, sym, ap, ◌∙◌, subst}
use mathlib.Core.List.{List, [], ◌∷◌, ◌++◌, map, append_assoc, append-nil}
use Prim.Native.Nat.{ℕ, ◌+◌, ◌*◌, ◌≤◌, ◌<◌}
use native.Mathlib.Nat.{zero-add}
use native.Mathlib.Numerals.{add-one}
use native.Mathlib.Omega.{arith}
use lib.ListN.{length, drop, get_or}
use Rattle.decimal.specs.Text.{decimal, spaced}
use Rattle.decimal.specs.Putting.{Appended, RoomFor}
use Rattle.decimal.proofs.Appends.{appended_none, appended_both}
use Rattle.decimal.proofs.Decimals.{decimal_below}
use Rattle.decimal.proofs.Puts.{spaced_long, room_for_same}
use Rattle.lists.specs.Lists.{flat}
use Rattle.lists.proofs.Pieces.{flat_none, flat_more}
use Rattle.report.specs.Text.{items, line, Report, text_of, binary, word_line}
use Rattle.report.specs.Printed.{Printed}

-- numbers after blanks are items
pub spaced_items : (ns : List ℕ) → spaced ns ≡ items (map decimal ns)
unfolding spaced items
spaced_items [] = refl
spaced_items (n ∷ ns) = rw (spaced_items ns)

-- a name, numbers and the end of the line
pub line_put : {l p q m : List ℕ} {at a e r : ℕ} (name ns : List ℕ) → Appended l at name p a → Appended p a (spaced ns) q e → Appended q e (10 ∷ []) m r
    → Appended l at (line name (map decimal ns)) m r
unfolding line
line_put name ns f g h = rw (spaced_items ns) at (appended_both f (appended_both g h))

-- numbers below 65,536, which have five digits at most
entries_long : (ns : List ℕ) → ((i : ℕ) → get_or ns i 0 < 65536) → length (spaced ns) ≤ 6 * length ns
entries_long ns h = spaced_long 5 ns (λ i. decimal_below 4 (get_or ns i 0) (omega (arith, h i)) (omega (arith, h i)))

pub entries_room : (l : List ℕ) (at : ℕ) (ns : List ℕ) → ((i : ℕ) → get_or ns i 0 < 65536) → at + 6 * length ns ≤ length l → RoomFor (λ x y. y ≡ x) l at ns
entries_room l at ns h room = room_for_same l at ns (omega (arith, entries_long ns h))

pub entries_end : {l m : List ℕ} {at e : ℕ} (ns : List ℕ) → ((i : ℕ) → get_or ns i 0 < 65536) → Appended l at (spaced ns) m e → e ≤ at + 6 * length ns
entries_end ns h f = omega (arith, f.ends, entries_long ns h)

pub spaced_one : (n : ℕ) → length (spaced (n ∷ [])) ≡ length (decimal n) + 1
unfolding spaced
spaced_one n = rw (append-nil (decimal n)) (omega arith)

-- number, width, value
word_line_lem : (i w v : ℕ) → decimal i ++ (spaced (w ∷ []) ++ ((32 ∷ []) ++ (binary w v ++ (10 ∷ [])))) ≡ word_line i w v
unfolding line items spaced
word_line_lem i w v = simp (append_assoc, append-nil) (ap (λ t. decimal i ++ (32 ∷ t)) (sym (append_assoc (decimal w) (32 ∷ binary w v) (10 ∷ []))))

pub word_put : {l p q s t m : List ℕ} {at a b c e r : ℕ} (i w v : ℕ) → Appended l at (decimal i) p a → Appended p a (spaced (w ∷ [])) q b
    → Appended q b (32 ∷ []) s c → Appended s c (binary w v) t e → Appended t e (10 ∷ []) m r → Appended l at (word_line i w v) m r
word_put i w v f g h k n = rw (word_line_lem i w v) at (appended_both f (appended_both g (appended_both h (appended_both k n))))

-- ---- pieces one after the other

pub pieces_start : (l : List ℕ) (at : ℕ) (f : ℕ → List ℕ) → at ≤ length l → Appended l at (flat 0 f) l at
pieces_start l at f h = rw (flat_none f) (appended_none l at h)

pub pieces_turn : {l m n : List ℕ} {at e r : ℕ} (i : ℕ) (f : ℕ → List ℕ) → Appended l at (flat i f) m e → Appended m e (f i) n r
    → Appended l at (flat (i + 1) f) n r
pieces_turn i f g h = rw (add-one i, flat_more i f) (appended_both g h)

pub pieces_end : {l m : List ℕ} {at e : ℕ} (i n : ℕ) (f : ℕ → List ℕ) → Appended l at (flat i f) m e → i ≤ n → n ≤ i → Appended l at (flat n f) m e
pieces_end {l} {m} {at} {e} i n f g p q = let z : i ≡ n = omega arith in subst (λ k. Appended l at (flat k f) m e) z g

-- ---- the whole report

pub printed : {l m : List ℕ} {e : ℕ} (x : Report) → Appended l 0 (text_of x) m e → Printed x l m e
printed {l} x f =
    let none = zero-add (length (text_of x)) in
    record { ends = f.ends ∙ none; text = f.text ∙ ap (λ k. text_of x ++ drop k l) none }

-- the lent bytes are at the end what the lines in them are
pub at_end : {x : Report} {l m n : List ℕ} {e : ℕ} → Printed x l m e → n ≡ m → Printed x l n e
at_end {x} {l} {m} {n} {e} p same = subst (λ t. Printed x l t e) (sym same) p
