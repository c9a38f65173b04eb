-- A test that nothing which a row asks is refused.
use mathlib.Core.Path.{◌≡◌, refl}
use mathlib.Core.Bool.{Bool, true, false, ◌&&◌}
use mathlib.Core.List.{List, [], ◌∷◌}
use Prim.Native.Nat.{ℕ}
use lib.Dec.{T, eqb, ltb, eqb→eq, ltb→lt}
use lib.ListN.{length}
use Rattle.words.specs.Bits.{bit}
use Rattle.lists.specs.Lists.{at}
use Rattle.rules.specs.Kinds.{Place, kind_of}
use Rattle.rules.specs.Rows.{uses}
use Rattle.rules.specs.Tight.{rule, word}
use Rattle.lists.specs.Every.{All}
use Rattle.lists.proofs.Bools.{both}
use Rattle.std.specs.Prelude.{Ok, Err}
use Rattle.checker.specs.Refusal.{Checked}
use Rattle.boards.specs.Row.{Problem, Row, solve, ceiling, explain, cause, file, check_with, check_of, AsksOpen, Checks}

abbrev is_ok : Checked → Bool
is_ok (Ok t) = true
is_ok (Err r) = false

ok_is : (x : Checked) → T (is_ok x) → x ≡ Ok tt
ok_is (Ok u) t = refl
ok_is (Err r) t = absurd t

abbrev asksb : Problem → ℕ → Place → ℕ → Bool
asksb p n q j =
    ltb n (length p.rules)
    && (uses (kind_of (rule p.rules n).kind) q
    && (eqb (bit (at p.lo (word (rule p.rules n) q)) j) 0 && eqb (bit (at p.hi (word (rule p.rules n) q)) j) 1))

asks_open : (p : Problem) (n : ℕ) (q : Place) (j : ℕ) → T (asksb p n q j) → AsksOpen p n q j
asks_open p n q j t =
    let (a, t₁) = both (ltb n (length p.rules)) _ t in
    let (b, t₂) = both (uses (kind_of (rule p.rules n).kind) q) _ t₁ in
    let (c, d) = both (eqb (bit (at p.lo (word (rule p.rules n) q)) j) 0) _ t₂ in
    record { there = ltb→lt _ _ a; used = b; open_bit = record { off = eqb→eq _ _ c; on = eqb→eq _ _ d } }

abbrev checksb : Row → Bool
checksb (solve p limit o) = is_ok (check_with p limit)
checksb (ceiling p c) = is_ok (check_of p)
checksb (explain p n q j x out) = is_ok (check_of p) && asksb p n q j
checksb (cause p limit x) = is_ok (check_with p limit)
checksb (file p limit f) = is_ok (check_with p limit)

row_checks : (r : Row) → T (checksb r) → Checks r
row_checks (solve p limit o) t = ok_is (check_with p limit) t
row_checks (ceiling p c) t = ok_is (check_of p) t
row_checks (explain p n q j x out) s =
    let (t, a) = both (is_ok (check_of p)) _ s in
    (ok_is (check_of p) t, asks_open p n q j a)
row_checks (cause p limit x) t = ok_is (check_with p limit) t
row_checks (file p limit f) t = ok_is (check_with p limit) t

abbrev pub all_checked : List Row → Bool
all_checked [] = true
all_checked (r ∷ rs) = checksb r && all_checked rs

pub all_check : (rs : List Row) → T (all_checked rs) → All Checks rs
all_check [] t = tt
all_check (r ∷ rs) t = (row_checks r (both (checksb r) _ t).0, all_check rs (both (checksb r) _ t).1)
