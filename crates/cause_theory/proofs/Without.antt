-- The rules of a cause have no settings, and a cause names at least one rule.
use mathlib.Core.Path.{◌≡◌, sym, ap, ◌∙◌, subst}
use mathlib.Core.List.{List, [], ◌∷◌, ◌++◌, map, append-nil, append_assoc}
use Prim.Native.Nat.{ℕ, suc, ◌≤◌, ◌<◌}
use native.Mathlib.Nat.{le_refl}
use native.Mathlib.Omega.{arith}
use lib.ListN.{length, take}
use lib.Seq.{take-length, take-suc}
use Rattle.words.specs.Table.{Table, Inside}
use Rattle.words.proofs.Tables.{keeps_lo}
use Rattle.rules.specs.Tight.{Rule, rule, none_rule, Tight, AllHold}
use Rattle.rules.proofs.Agree.{tight_agree}
use Rattle.search_theory.specs.Settings.{Without}
use Rattle.search_theory.specs.Search.{none}
use Rattle.search_theory.proofs.Right.{right}
use Rattle.cause_theory.specs.Cause.{CAUSE, trial, Tried, Trims, decided, spared, needed, Causes, trimmed}

pub trial_suc : (rs : List Rule) (n : ℕ) (kept : List ℕ) → n < length rs → trial rs (suc n) kept ≡ trial rs n (n ∷ kept)
trial_suc rs n kept l =
    ap (λ (x : List Rule). x ++ map (rule rs) kept) (take-suc rs n none_rule l) ∙ append_assoc (take n rs) (rule rs n ∷ []) (map (rule rs) kept)

pub trial_all : (rs : List Rule) → trial rs (length rs) [] ≡ rs
trial_all rs = append-nil (take (length rs) rs) ∙ take-length rs

none_without : {w : List ℕ} {rs : List Rule} {limit n : ℕ} {t : Table} → Tried w limit t rs (none n) → Without (AllHold w rs) t
none_without {w} {rs} s = right (Tight w rs) (AllHold w rs) (tight_agree w rs) s

module _ {w : List ℕ} {rs : List Rule} {limit : ℕ} {t : Table} where
  trims_without : {n c d : ℕ} {kept out : List ℕ} → Trims w rs limit t n kept c (CAUSE out d) → n ≤ length rs → Without (AllHold w (trial rs n kept)) t
      → Without (AllHold w (map (rule rs) out)) t
  trims_without decided l h = h
  trims_without (spared s r) l h = trims_without r (omega arith) (none_without s)
  trims_without (needed {n = n} {kept = kept} s r) l h =
      trims_without r (omega arith) (subst (λ x. Without (AllHold w x) t) (trial_suc rs n kept l) h)

  -- the rules of a cause have no settings
  pub cause_without : {d : ℕ} {out : List ℕ} → Causes w rs limit t (CAUSE out d) → Without (AllHold w (map (rule rs) out)) t
  cause_without (trimmed s r) =
      trims_without r (le_refl (length rs)) (subst (λ x. Without (AllHold w x) t) (sym (trial_all rs)) (none_without s))

  -- a cause names at least one rule
  pub cause_some : {d : ℕ} → Inside t t → Causes w rs limit t (CAUSE [] d) → ⊥
  cause_some ok c = cause_without c t.lo (record { keeps = keeps_lo ok; holds = record { each = λ n l. absurd (omega arith) } })
