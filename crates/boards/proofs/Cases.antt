-- The files of boards G and H make `advise` put the lines that the paper has, byte by byte.
use mathlib.Core.Path.{◌≡◌, refl}
use mathlib.Core.Bool.{Bool, true, ◌&&◌}
use mathlib.Core.List.{List, [], ◌∷◌, ◌++◌}
use Prim.Native.Nat.{ℕ, zero, suc, ◌<◌}
use native.Mathlib.Omega.{arith}
use lib.Dec.{T, ltb, ltb→lt}
use lib.ListN.{length, drop, get_or}
use Rattle.words.specs.Bits.{bit}
use Rattle.lists.specs.Every.{All}
use Rattle.lists.proofs.Bools.{both}
use Rattle.std.specs.Prelude.{Result, Ok}
use Rattle.lists.specs.Lists.{series, flat, Under}
use Rattle.tighten.specs.Memory.{Cleared}
use Rattle.decimal.specs.Text.{digits, decimal}
use Rattle.lists.proofs.Unders.{under_none, under_cons}
use Rattle.blocks.specs.Written.{Slices}
use Rattle.blocks.proofs.Passed.{passed}
use Rattle.checker.specs.declared.refusal.Refusal.{Refusal}
use Rattle.report.specs.Text.{items, line, binary, word_lines, cause_line, text_of, Report, sat, unsat, named}
use Rattle.report.specs.Promise.{Lent, ReportOf, found_first, none_named, answered, Advises, size, lines}
use Rattle.report.proofs.Once.{reports_once}
use Rattle.boards.specs.Row.{Problem, lent_words, lent_rules, bytes_of, Row, file, Follows, check_with, Checks}
use Rattle.boards.specs.Boards.{board_g, board_h, boards}
use Rattle.boards.specs.Lines.{lines_g, lines_h, PutFor}
use Rattle.boards.proofs.Boards.{boards_follow, boards_checked}

-- ---- numbers that fit a slice

abbrev all_below : ℕ → List ℕ → Bool
all_below k [] = true
all_below k (x ∷ l) = ltb x k && all_below k l

all_under : (k : ℕ) (l : List ℕ) → 0 < k → T (all_below k l) → Under k l
all_under k [] p t = under_none k p
all_under k (x ∷ l) p t =
    let (a, b) = both (ltb x k) _ t in
    under_cons k x l (ltb→lt x k a) (all_under k l p b)

abbrev fits_slices : Problem → Bool
fits_slices p = all_below 18446744073709551616 (lent_words p.widths p.lo p.hi) && all_below 256 (lent_rules p.rules)

board_slices : (p : Problem) → T (fits_slices p) → Slices (lent_words p.widths p.lo p.hi) (lent_rules p.rules)
board_slices p t =
    let (a, b) = both (all_below 18446744073709551616 (lent_words p.widths p.lo p.hi)) _ t in
    record { words = all_under _ _ (omega arith) a; rules = all_under _ _ (omega arith) b }

-- ---- what is put for a file whose problem is answered

put_for : (p : Problem) (limit : ℕ) (x : Report) → T (fits_slices p) → check_with p limit ≡ Ok tt
    → ReportOf limit (lent_words p.widths p.lo p.hi) (lent_rules p.rules) x → PutFor p limit (text_of x)
put_for p limit x t e a = record { answered = go }
  where
    go : {out work out' work' : List ℕ} {r : Result ℕ Refusal} → Lent out work → Advises (bytes_of p limit) out work r out' work'
        → (r ≡ Ok (length (text_of x))) × (out' ≡ text_of x ++ drop (length (text_of x)) out) × Cleared work work'
    go lent (size h) = absurd (h lent)
    go lent (lines {x = y} g reports put c) =
        let same : y ≡ x = reports_once reports (answered (record { storable = passed (board_slices p t) e; same = refl }) e a) in
        (cc put.ends, cc put.text, c)

-- ---- rows of the table by their numbers, from 0

abbrev board_row : ℕ → Row
board_row n = get_or boards n (file board_g 0 [])

all_row : (P : Row → Type 0) (rs : List Row) (n : ℕ) → All P rs → n < length rs → P (get_or rs n (file board_g 0 []))
all_row P [] n a l = absurd (omega arith)
all_row P (r ∷ rs) zero a l = a.0
all_row P (r ∷ rs) (suc n) a l = all_row P rs n a.1 (omega arith)

board_follows : (n : ℕ) → T (ltb n (length boards)) → Follows (board_row n)
board_follows n t = all_row Follows boards n boards_follow (ltb→lt n (length boards) t)

board_checks : (n : ℕ) → T (ltb n (length boards)) → Checks (board_row n)
board_checks n t = all_row Checks boards n boards_checked (ltb→lt n (length boards) t)

-- ---- the two boards

pub case_G : PutFor board_g 100 lines_g
unfolding series text_of word_lines flat line items decimal digits binary bit
case_G = put_for board_g 100 (sat 2 (2 ∷ 2 ∷ 2 ∷ []) (2 ∷ 1 ∷ 3 ∷ [])) tt (board_checks 11 tt) (found_first (board_follows 11 tt))

pub case_H : PutFor board_h 1000000 lines_h
unfolding series text_of cause_line line items decimal digits
case_H = put_for board_h 1000000 (unsat 0 (named 0 (0 ∷ 3 ∷ []))) tt (board_checks 13 tt) (none_named (board_follows 12 tt) (board_follows 13 tt))
