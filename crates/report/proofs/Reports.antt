-- The lines of each report, put one after the other, are the report.
use mathlib.Core.Path.{◌≡◌, sym, ap, ◌∙◌}
use mathlib.Core.List.{List, [], ◌∷◌, ◌++◌, map, append_assoc, append-nil}
use Prim.Native.Nat.{ℕ, ◌≤◌}
use Rattle.lists.specs.Lists.{at, flat}
use Rattle.problem.specs.Lent.{word_count, width_at, widths_of}
use Rattle.lists.proofs.Series.{length_series, series_at}
use Rattle.decimal.specs.Text.{decimal, spaced}
use Rattle.decimal.specs.Putting.{Appended}
use Rattle.decimal.proofs.Appends.{appended_both}
use Rattle.lists.proofs.Pieces.{flat_same}
use Rattle.report.specs.Text.{items, line, SAT, UNSAT, UNKNOWN, CAUSE_WORD, REFUSED, word_line, cause_line, word_lines, text_of, ToldCause, named, unnamed}
use Rattle.report.specs.Text.{sat, unsat, unknown, refused}
use Rattle.report.specs.Printed.{Printed}
use Rattle.report.proofs.Puts.{spaced_items, pieces_end, printed}

-- ---- the lines of words

-- the line of a lent word
abbrev pub lent_line : List ℕ → List ℕ → ℕ → List ℕ
lent_line ws values i = word_line i (width_at ws i) (at values i)

lent_lines : (ws values : List ℕ) → flat (word_count ws) (lent_line ws values) ≡ word_lines (widths_of ws) values
unfolding word_lines
lent_lines ws values =
    flat_same (word_count ws) (lent_line ws values) (λ i. word_line i (at (widths_of ws) i) (at values i))
    (λ j h. ap (λ w. word_line j w (at values j)) (sym (series_at 0 (word_count ws) j (width_at ws) h)))
    ∙ ap (λ n. flat n (λ i. word_line i (at (widths_of ws) i) (at values i))) (sym (length_series (word_count ws) (width_at ws)))

pub words_end : {l m : List ℕ} {a e : ℕ} (ws values : List ℕ) (i : ℕ) → Appended l a (flat i (lent_line ws values)) m e → i ≤ word_count ws → word_count ws ≤ i
    → Appended l a (word_lines (widths_of ws) values) m e
words_end ws values i f p q = rw (lent_lines ws values) at (pieces_end i (word_count ws) (lent_line ws values) f p q)

-- ---- the line of a cause

items_more : (x : List ℕ) (xs : List (List ℕ)) → items (x ∷ []) ++ (items xs ++ (10 ∷ [])) ≡ items (x ∷ xs) ++ (10 ∷ [])
unfolding items
items_more x xs = ap (λ t. 32 ∷ t) (rw (append-nil x) (sym (append_assoc x (items xs) (10 ∷ []))))

cause_line_lem : (sum : ℕ) (rules : List ℕ) → CAUSE_WORD ++ (spaced (sum ∷ []) ++ (spaced rules ++ (10 ∷ []))) ≡ cause_line (named sum rules)
unfolding cause_line line
cause_line_lem sum rules = rw (spaced_items (sum ∷ []), spaced_items rules) (ap (λ t. CAUSE_WORD ++ t) (items_more (decimal sum) (map decimal rules)))

pub cause_put : {l p q s m : List ℕ} {at a b e r : ℕ} (sum : ℕ) (rules : List ℕ) → Appended l at CAUSE_WORD p a → Appended p a (spaced (sum ∷ [])) q b
    → Appended q b (spaced rules) s e → Appended s e (10 ∷ []) m r → Appended l at (cause_line (named sum rules)) m r
cause_put sum rules f g h k = rw (cause_line_lem sum rules) at (appended_both f (appended_both g (appended_both h k)))

-- ---- whole reports

pub sat_put : {l p m : List ℕ} {e r : ℕ} (count : ℕ) (widths values : List ℕ) → Appended l 0 (line SAT (map decimal (count ∷ []))) p e
    → Appended p e (word_lines widths values) m r → Printed (sat count widths values) l m r
unfolding text_of
sat_put count widths values f g = printed (sat count widths values) (appended_both f g)

pub unsat_put : {l p m : List ℕ} {e r : ℕ} (count : ℕ) (cause : ToldCause) → Appended l 0 (line UNSAT (map decimal (count ∷ []))) p e
    → Appended p e (cause_line cause) m r → Printed (unsat count cause) l m r
unfolding text_of
unsat_put count cause f g = printed (unsat count cause) (appended_both f g)

pub unnamed_put : {l p m : List ℕ} {e r : ℕ} (count sum : ℕ) → Appended l 0 (line UNSAT (map decimal (count ∷ []))) p e
    → Appended p e (line (CAUSE_WORD ++ (32 ∷ UNKNOWN)) (map decimal (sum ∷ []))) m r → Printed (unsat count (unnamed sum)) l m r
unfolding cause_line line items
unnamed_put count sum f g = unsat_put count (unnamed sum) f g

pub unknown_put : {l m : List ℕ} {e : ℕ} (count : ℕ) → Appended l 0 (line UNKNOWN (map decimal (count ∷ []))) m e → Printed (unknown count) l m e
unfolding text_of
unknown_put count f = printed (unknown count) f

pub refused_put : {l m : List ℕ} {e : ℕ} (number place : ℕ) → Appended l 0 (line REFUSED (map decimal (number ∷ place ∷ []))) m e
    → Printed (refused number place) l m e
unfolding text_of
refused_put number place f = printed (refused number place) f
