-- The answer of a row, computed from the definitions; a row with its computed answer follows from them.
use mathlib.Core.Path.{refl}
use mathlib.Core.Bool.{Bool, true, false, ◌&&◌}
use mathlib.Core.List.{List, [], ◌∷◌}
use Prim.Native.Nat.{ℕ}
use lib.Dec.{T}
use Rattle.words.specs.Table.{Table}
use Rattle.rules.specs.Kinds.{kind_of}
use Rattle.rules.specs.Rows.{uses}
use Rattle.rules.specs.Tight.{rule, shape, span, Tight}
use Rattle.rules.specs.Proper.{Proper}
use Rattle.rules.specs.Tightening.{Widest, Tightened, TIGHT, CONFLICT, Tightens}
use Rattle.lists.specs.Every.{All}
use Rattle.lists.proofs.Bools.{both}
use Rattle.rules.proofs.Steps.{tightened}
use Rattle.rules.proofs.Widest.{tightened_right}
use Rattle.search_theory.specs.Ceiling.{Ceiling}
use Rattle.search_theory.proofs.Solved.{solved, solved_right}
use Rattle.search_theory.proofs.TheCeiling.{some_ceiling}
use Rattle.reason_theory.proofs.Explained.{explained, explained_right}
use Rattle.cause_theory.proofs.Named.{named, named_right}
use Rattle.boards.specs.Row.{Problem, table, bytes_of, Row, solve, ceiling, explain, cause, file, Follows}
use Rattle.boards.proofs.Sound.{properb, proper_sound, legalb, legal_sound}

abbrev is_tight : Tightened → Bool
is_tight (TIGHT u) = true
is_tight CONFLICT = false

-- the row's problem is proper, its question about a legal rule, and a ceiling is asked for where tightening does not conflict
abbrev pub soundb : Row → Bool
soundb (solve p limit o) = properb p.widths p.lo p.hi
soundb (ceiling p c) = properb p.widths p.lo p.hi && is_tight (tightened p.widths p.rules (table p))
soundb (explain p n q j x out) =
    properb p.widths p.lo p.hi && (legalb p.widths (rule p.rules n) && uses (kind_of (rule p.rules n).kind) q)
soundb (cause p limit x) = properb p.widths p.lo p.hi
soundb (file p limit f) = properb p.widths p.lo p.hi

pub proper : (p : Problem) → T (properb p.widths p.lo p.hi) → Proper p.widths (table p)
proper p t = proper_sound p.widths p.lo p.hi t

-- the ceiling where tightening ends in u; there is none to ask for in a conflict
abbrev pub ceiling_in : (p : Problem) → T (properb p.widths p.lo p.hi) → Tightened → ℕ
ceiling_in p t (TIGHT u) = (some_ceiling p.widths p.rules (table p) (proper p t) u).0
ceiling_in p t CONFLICT = 0

unfoldable pub computed : (r : Row) → T (soundb r) → Row
computed (solve p limit o) t = solve p limit (solved p.widths p.rules limit (table p))
computed (ceiling p c) s =
    ceiling p (ceiling_in p (both (properb p.widths p.lo p.hi) _ s).0 (tightened p.widths p.rules (table p)))
computed (explain p n q j x out) t =
    let e = explained (shape p.widths (rule p.rules n)) (span (table p) (rule p.rules n)) q j in
    explain p n q j e.0 e.1
computed (cause p limit x) t = cause p limit (named (λ rs. solved p.widths rs limit (table p)) p.rules limit)
computed (file p limit f) t = file p limit (bytes_of p limit)

row_follows : (r : Row) (s : T (soundb r)) → Follows (computed r s)
unfolding computed
row_follows (solve p limit o) t = solved_right p.widths p.rules (table p) (proper p t) limit
row_follows (ceiling p c) s =
    let (t, tight) = both (properb p.widths p.lo p.hi) _ s in
    go t (tightened p.widths p.rules (table p)) (tightened_right p.widths p.rules (table p) (proper p t)) tight
  where
    go : (t : T (properb p.widths p.lo p.hi)) (x : Tightened) → Tightens (Tight p.widths p.rules) (table p) x → T (is_tight x)
        → (u : Table) × Widest (Tight p.widths p.rules) (table p) u × Ceiling p.rules (table p) u (ceiling_in p t x)
    go t (TIGHT u) w h = (u, w, (some_ceiling p.widths p.rules (table p) (proper p t) u).1)
    go t CONFLICT w h = absurd h
row_follows (explain p n q j x out) s =
    let (a, t) = both (properb p.widths p.lo p.hi) _ s in
    let (b, c) = both (legalb p.widths (rule p.rules n)) _ t in
    explained_right (legal_sound (rule p.rules n) (proper p a) b) c j
row_follows (cause p limit x) t =
    named_right (λ rs. solved p.widths rs limit (table p)) p.rules limit p.widths (table p)
    (λ rs. solved_right p.widths rs (table p) (proper p t) limit)
row_follows (file p limit f) t = refl

-- all rows of a table
abbrev pub all_sound : List Row → Bool
all_sound [] = true
all_sound (r ∷ rs) = soundb r && all_sound rs

abbrev pub computed_all : (rs : List Row) → T (all_sound rs) → List Row
computed_all [] s = []
computed_all (r ∷ rs) s = computed r (both (soundb r) _ s).0 ∷ computed_all rs (both (soundb r) _ s).1

pub all_follow : (rs : List Row) (s : T (all_sound rs)) → All Follows (computed_all rs s)
all_follow [] s = tt
all_follow (r ∷ rs) s = (row_follows r (both (soundb r) _ s).0, all_follow rs (both (soundb r) _ s).1)
