-- What the trials for a cause come to, as the report on a problem without settings.
use mathlib.Core.Path.{◌≡◌, ◌∙◌}
use mathlib.Core.List.{List}
use Prim.Native.Nat.{ℕ, ◌≤◌}
use native.Mathlib.Omega.{arith}
use lib.ListN.{length, take}
use lib.Seq.{ext_get_or, get_or-take, length-take-le}
use Rattle.checker.proofs.Right.{ok_fine}
use Rattle.words.specs.Table.{Table}
use Rattle.rules.specs.Tight.{Rule}
use Rattle.search_theory.specs.Search.{none}
use Rattle.search_theory.proofs.Outcomes.{found_not_none}
use Rattle.cause_theory.specs.Cause.{EXISTS, Trims, spared, needed, exists, trimmed}
use Rattle.cause_theory.proofs.One.{same}
use Rattle.solve.specs.Promise.{Comes}
use Rattle.std.specs.Prelude.{Ok}
use Rattle.cause.specs.declared.Caused.{Caused}
use Rattle.cause.specs.declared.Caused.TheVariants as caused
use Rattle.cause.specs.Promise.{Named, Entered, Causing, NoneFirst}
use Rattle.cause.proofs.Calling.{nothing_refused}
use Rattle.report.specs.Text.{unsat, named, unnamed}
use Rattle.report.specs.Printed.{Printed}
use Rattle.report.specs.Promise.{none_named, none_unnamed, ToReport, Told, told}

-- a list of 252 entries does for a cause
pub trials_asked : {limit g : ℕ} {ws bs l k : List ℕ} (s : List ℕ) → length s ≡ 252 → ToReport limit ws bs l k → Comes limit ws bs (none g)
    → NoneFirst limit ws bs s k g
trials_asked {limit} {g} {ws} {bs} {l} {k} s size asked comes =
    let f = ok_fine limit ws bs asked.fine in
    record { given = nothing_refused limit ws bs s k asked.lent.memory (omega (arith, f.sized.rules)) asked.fine; nothing = comes }

entered_take : {out s s' : List ℕ} → Entered out s s' → take (length out) s' ≡ out
entered_take {out} {s} {s'} x =
    let n : length (take (length out) s') ≡ length out = length-take-le (length out) s' (omega (arith, x.room, x.size)) in
    ext_get_or 0 (take (length out) s') out n
    (λ i h. get_or-take (length out) s' i 0 (omega arith) ∙ x.each i (omega arith))

-- the trials never come to EXISTS
no_trim : {w : List ℕ} {rs : List Rule} {limit : ℕ} {t : Table} {n c g : ℕ} {kept : List ℕ} → Trims w rs limit t n kept c (EXISTS g) → ⊥
no_trim (spared s r) = no_trim r
no_trim (needed s r) = no_trim r

no_exists : (limit : ℕ) (ws bs : List ℕ) {g h : ℕ} → Named limit ws bs (EXISTS g) → Comes limit ws bs (none h) → ⊥
no_exists limit ws bs (exists s) comes = found_not_none (same s comes)
no_exists limit ws bs (trimmed s r) comes = no_trim r

module _ {limit : ℕ} {ws bs s k : List ℕ} where
  cause_at : {g sum j : ℕ} {l l' s' n : List ℕ} {e : ℕ} → Causing limit ws bs s k (Ok (caused.Cause sum j)) s' n → Comes limit ws bs (none g)
      → Printed (unsat g (named sum (take j s'))) l l' e → Told limit ws bs l k e l' n
  cause_at (Causing.caused_by given x size st c) comes p = told (none_named comes x) (rw (← size, entered_take st) at p) c

  room_at : {sum j : ℕ} {s' n : List ℕ} → Causing limit ws bs s k (Ok (caused.Cause sum j)) s' n → (j ≤ length s) × (length s' ≡ length s)
  room_at (Causing.caused_by given x size st c) = (omega (arith, st.room, size), st.size)

  unnamed_at : {g sum : ℕ} {l l' s' n : List ℕ} {e : ℕ} → Causing limit ws bs s k (Ok (caused.GaveUp sum)) s' n → Comes limit ws bs (none g)
      → Printed (unsat g (unnamed sum)) l l' e → Told limit ws bs l k e l' n
  unnamed_at (Causing.gave_up_at given x c) comes p = told (none_unnamed comes x) p c

  not_exists : {g h : ℕ} {s' n : List ℕ} → Causing limit ws bs s k (Ok (caused.Exists g)) s' n → Comes limit ws bs (none h) → ⊥
  not_exists (Causing.exists_at given x c) comes = no_exists limit ws bs x comes

  module _ {r : Caused} {s' n : List ℕ} (x : Causing limit ws bs s k (Ok r) s' n) where
    pub cause_told : {g sum j : ℕ} {l l' : List ℕ} {e : ℕ} → r ≡ caused.Cause sum j → Comes limit ws bs (none g)
        → Printed (unsat g (named sum (take j s'))) l l' e → Told limit ws bs l k e l' n
    cause_told q comes p = cause_at (rw q at x) comes p

    pub unnamed_told : {g sum : ℕ} {l l' : List ℕ} {e : ℕ} → r ≡ caused.GaveUp sum → Comes limit ws bs (none g) → Printed (unsat g (unnamed sum)) l l' e
        → Told limit ws bs l k e l' n
    unnamed_told q comes p = unnamed_at (rw q at x) comes p

    pub never_exists : {g h : ℕ} → r ≡ caused.Exists g → Comes limit ws bs (none h) → ⊥
    never_exists q comes = not_exists (rw q at x) comes
