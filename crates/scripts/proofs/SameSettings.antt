-- A script and the problem made of it have the same settings for the declared words.
-- Module parameters: a script s that is well-formed.
use mathlib.Core.Path.{◌≡◌, sym, ap, ◌∙◌}
use mathlib.Core.Logic.{◌↔◌}
use mathlib.Core.List.{List}
use Prim.Native.Nat.{ℕ, ◌≤◌, ◌<◌}
use native.Mathlib.Omega.{arith}
use lib.ListN.{length}
use lib.Seq.{length-take-le, get_or-take, ext_get_or}
use Rattle.lists.specs.Lists.{at}
use Rattle.rules.specs.Proper.{Proper}
use Rattle.rules.specs.ProperProblem.{most_words, most_rules, ProperProblem}
use Rattle.rules.specs.Inputs.{Inputs}
use Rattle.rules.proofs.Propers.{proper_inside}
use Rattle.scripts.specs.Tree.{Script}
use Rattle.scripts.specs.Sizes.{WellFormed}
use Rattle.scripts.specs.Denotes.{AllTrue, Satisfies}
use Rattle.scripts.specs.Draft.{start, SettingsOf}
use Rattle.scripts.specs.Making.{problem_made, declared_in}
use Rattle.scripts.proofs.Terms.{all_same}
use Rattle.scripts.proofs.ProperDraft.{ProperDraft, value_small}
use Rattle.scripts.proofs.Prefix.{prefix_refl}
use Rattle.scripts.proofs.Narrowed.{Narrowed, all_narrowed}
use Rattle.scripts.proofs.Start.{start_ready, start_settings}
use Rattle.search_theory.proofs.Decided.{inputs_decide}

module _ (s : Script) (ok : WellFormed s) where
  narrowed : Narrowed s.sizes (λ v. AllTrue s.sizes v s.asserts) (start s.sizes) (problem_made s)
  unfolding problem_made
  narrowed = all_narrowed s.sizes ok.sizes s.asserts ok.asserts (start s.sizes) (start_ready s.sizes ok.sizes)

  pub problem_draft : ProperDraft (problem_made s)
  problem_draft = narrowed.ready.proper

  pub problem_table : Proper (problem_made s).widths (problem_made s).table
  problem_table = problem_draft.table

  -- the problem made of a script is proper, unless its words or rules run out
  pub problem_proper : length (problem_made s).widths ≤ most_words → length (problem_made s).rules ≤ most_rules
      → ProperProblem (problem_made s).widths (problem_made s).table (problem_made s).rules
  problem_proper m n = record { words = m; rules = n; table = problem_table; each = problem_draft.each }

  -- the declared words are its inputs, so that demand 3's ceiling applies
  pub declared_inputs : Inputs (problem_made s).rules (problem_made s).table (length s.sizes)
  declared_inputs = narrowed.ready.inputs

  -- they come first, with their sizes
  pub declared_first : (length s.sizes ≤ length (problem_made s).widths) × ((i : ℕ) → i < length s.sizes → at (problem_made s).widths i ≡ at s.sizes i)
  unfolding start
  declared_first = (narrowed.begins.words, narrowed.begins.width)

  module _ (v : List ℕ) (h : SettingsOf (problem_made s) v) where
    long : length s.sizes ≤ length v
    long = omega (arith, declared_first.0, h.keeps.size, problem_table.los)

    pub alike : (i : ℕ) → i < length s.sizes → at v i ≡ at (declared_in s v) i
    alike i l = sym (get_or-take (length s.sizes) v i 0 l)

    pub settings_satisfy : Satisfies s (declared_in s v)
    settings_satisfy = record {
      each = length-take-le (length s.sizes) v long;
      small = λ i l. rw (← alike i l, ← declared_first.1 i l) (value_small v problem_draft h i);
      asserts =
          all_same s.sizes v (declared_in s v) alike s.asserts ok.asserts
          (narrowed.says (problem_made s) v problem_draft (prefix_refl (problem_made s)) h);
    }

  pub satisfied_settings : (vs : List ℕ) → Satisfies s vs → (v : List ℕ) × SettingsOf (problem_made s) v × (declared_in s v ≡ vs)
  unfolding start
  satisfied_settings vs h =
      let c = narrowed.on vs (start_settings s.sizes vs h.each h.small) h.asserts in
      let n : length (declared_in s c.values) ≡ length s.sizes = length-take-le (length s.sizes) c.values (long c.values c.settings) in (
        c.values,
        c.settings,
        ext_get_or 0 (declared_in s c.values) vs (n ∙ sym h.each)
            (λ i l. sym (alike c.values c.settings i (omega (arith, n))) ∙ c.same i (omega (arith, n))),
      )

  -- values of the declared words satisfy the script just where they begin settings of the problem
  pub same_settings : (vs : List ℕ) → Satisfies s vs ↔ ((v : List ℕ) × SettingsOf (problem_made s) v × (declared_in s v ≡ vs))
  same_settings vs = (satisfied_settings vs, λ x. rw x.2 at (settings_satisfy x.0 x.1))

  -- and of one settings only
  pub declared_decide : (v v' : List ℕ) → SettingsOf (problem_made s) v → SettingsOf (problem_made s) v'
      → ((i : ℕ) → i < length s.sizes → at v i ≡ at v' i) → v ≡ v'
  declared_decide v v' h h' e =
      inputs_decide (problem_made s).widths (problem_made s).rules (problem_made s).table (length s.sizes) (proper_inside problem_table) declared_inputs
      v v' h h' e

  pub one_settings : (v v' : List ℕ) → SettingsOf (problem_made s) v → SettingsOf (problem_made s) v' → declared_in s v ≡ declared_in s v' → v ≡ v'
  one_settings v v' h h' e =
      declared_decide v v' h h' (λ i l. alike v h i l ∙ ap (λ (x : List ℕ). at x i) e ∙ sym (alike v' h' i l))

  -- values that satisfy the script begin exactly one settings
  pub exactly_one_settings : (vs : List ℕ) → Satisfies s vs
      → (v : List ℕ) × SettingsOf (problem_made s) v × (declared_in s v ≡ vs)
      × ((v' : List ℕ) → SettingsOf (problem_made s) v' → declared_in s v' ≡ vs → v' ≡ v)
  exactly_one_settings vs h =
      let (v, k, e) = satisfied_settings vs h in
      (v, k, e, λ v' k' e'. one_settings v' v k' k (e' ∙ sym e))
