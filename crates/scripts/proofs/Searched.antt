-- What the search of a script's problem says of the script: the theorems about reading a script and solving its problem, together.
use mathlib.Core.Path.{◌≡◌, refl, sym, ap, ◌∙◌}
use mathlib.Core.Logic.{◌≢◌, ◌⊎◌, inl, inr, ◌↔◌}
use mathlib.Core.List.{List}
use Prim.Native.Nat.{ℕ, suc, ◌^◌, ◌≤◌, ◌<◌}
use native.Mathlib.Omega.{arith}
use native.Mathlib.Decide.{dec_lt}
use lib.ListN.{length}
use lib.Pow.{pow_mono}
use Rattle.lists.specs.Lists.{at}
use Rattle.words.specs.Table.{Table, Earlier}
use Rattle.words.specs.Count.{open_below}
use Rattle.words.proofs.Counting.{fewer_words}
use Rattle.rules.specs.Tight.{AllHold}
use Rattle.search_theory.specs.Settings.{First}
use Rattle.search_theory.specs.Search.{Outcome, found, none, gave_up, AnswerIs}
use Rattle.search_theory.specs.Ceiling.{Ceiling}
use Rattle.search_theory.proofs.Problem.{outcome_right, count_below, limit_reached}
use Rattle.scripts.specs.Tree.{Script}
use Rattle.scripts.specs.Sizes.{WellFormed}
use Rattle.scripts.specs.Denotes.{Satisfies, Least}
use Rattle.scripts.specs.Draft.{SettingsOf}
use Rattle.scripts.specs.Making.{problem_made, declared_in}
use Rattle.scripts.specs.Answers.{ScriptSearch, ScriptTightened, ScriptRight}
use Rattle.scripts.proofs.SameSettings.{problem_table, declared_inputs, alike, settings_satisfy, satisfied_settings, declared_decide}

-- two values cannot each come before the other, so that the least is one
not_both_earlier : {v w : List ℕ} → Earlier v w → Earlier w v → ⊥
not_both_earlier e d = go (dec_lt e.word d.word) (dec_lt d.word e.word)
  where
    go : Dec (e.word < d.word) → Dec (d.word < e.word) → ⊥
    go (yes l) k = omega (arith, e.less, d.same e.word l)
    go (no n) (yes l) = omega (arith, d.less, e.same d.word l)
    go (no n) (no m) =
        let same : e.word ≡ d.word = omega arith in
        omega (arith, e.less, rw (← same) at d.less)

pub least_once : (s : Script) (us vs : List ℕ) → Least s us → Least s vs → us ≡ vs
least_once s us vs x y = go (y.before us x.satisfies) (x.before vs y.satisfies)
  where
    go : (us ≡ vs) ⊎ Earlier vs us → (vs ≡ us) ⊎ Earlier us vs → us ≡ vs
    go (inl e) b = e
    go (inr a) (inl e) = sym e
    go (inr a) (inr b) = absurd (not_both_earlier a b)

module _ (s : Script) (ok : WellFormed s) where
  -- of two settings the earlier has the earlier declared words
  declared_order : (v v' : List ℕ) → SettingsOf (problem_made s) v → SettingsOf (problem_made s) v' → Earlier v v'
      → Earlier (declared_in s v) (declared_in s v')
  declared_order v v' h h' e = go (dec_lt e.word (length s.sizes))
    where
      go : Dec (e.word < length s.sizes) → Earlier (declared_in s v) (declared_in s v')
      go (yes l) = record {
        word = e.word;
        same = λ k i. sym (alike s ok v h k (omega arith)) ∙ e.same k i ∙ alike s ok v' h' k (omega arith);
        less = rw (← alike s ok v h e.word l, ← alike s ok v' h' e.word l) e.less;
      }
      go (no n) =
          let d : v ≡ v' = declared_decide s ok v v' h h' (λ i l. e.same i (omega arith)) in
          absurd (omega (arith, e.less, ap (λ (x : List ℕ). at x e.word) d))

  -- the first settings of the problem begin with the least values that satisfy the script
  first_least : (v : List ℕ) → First (AllHold (problem_made s).widths (problem_made s).rules) (problem_made s).table v → Least s (declared_in s v)
  first_least v f = record { satisfies = settings_satisfy s ok v f.settings; before = before }
    where
      before : (us : List ℕ) → Satisfies s us → (us ≡ declared_in s v) ⊎ Earlier (declared_in s v) us
      before us h = go (satisfied_settings s ok us h)
        where
          split : (v' : List ℕ) → SettingsOf (problem_made s) v' → declared_in s v' ≡ us → (v' ≡ v) ⊎ Earlier v v'
              → (us ≡ declared_in s v) ⊎ Earlier (declared_in s v) us
          split v' h' e (inl d) = inl (sym e ∙ ap (declared_in s) d)
          split v' h' e (inr d) = inr (rw e at (declared_order v v' f.settings h' d))

          go : ((v' : List ℕ) × SettingsOf (problem_made s) v' × (declared_in s v' ≡ us)) → (us ≡ declared_in s v) ⊎ Earlier (declared_in s v) us
          go (v', h', e) = split v' h' e (f.before v' h')

  -- what is found begins with the least values that satisfy the script; where none is said no values satisfy it
  pub script_right : (limit : ℕ) (o : Outcome) → ScriptSearch s limit o → ScriptRight s o
  script_right limit (found v n) x =
      first_least v (outcome_right (problem_made s).widths (problem_made s).rules (problem_made s).table (problem_table s ok) limit (found v n) x)
  script_right limit (none n) x = λ vs h.
      let (v, k, e) = satisfied_settings s ok vs h in
      outcome_right (problem_made s).widths (problem_made s).rules (problem_made s).table (problem_table s ok) limit (none n) x v k
  script_right limit gave_up x = tt

  -- where the search does not give up, it finds settings exactly if some values satisfy the script
  pub found_satisfiable : (limit : ℕ) (o : Outcome) → ScriptSearch s limit o → o ≢ gave_up
      → ((vs : List ℕ) × Satisfies s vs) ↔ ((v : List ℕ) × (n : ℕ) × (o ≡ found v n))
  found_satisfiable limit o x answered = go o (script_right limit o x) answered
    where
      go : (r : Outcome) → ScriptRight s r → r ≢ gave_up → ((vs : List ℕ) × Satisfies s vs) ↔ ((v : List ℕ) × (n : ℕ) × (r ≡ found v n))
      go (found v n) h d = (λ y. (v, n, refl), λ y. (declared_in s v, h.satisfies))
      go (none n) h d = (λ y. absurd (h y.0 y.1), λ y. let z : ◌≡◌ {A = ℕ} 0 1 = cc y.2 in absurd (omega arith))
      go gave_up h d = absurd (d refl)

  module _ (u : Table) (tight : ScriptTightened s u) where
    -- at most 2^B - 1 guesses, B being the open bits of the declared words after the first tightening
    pub declared_ceiling : (limit n : ℕ) (o : Outcome) → ScriptSearch s limit o → AnswerIs o n → n < 2 ^ open_below (length s.sizes) u
    declared_ceiling limit n o x a =
        count_below (problem_made s).widths (problem_made s).rules (problem_made s).table (problem_table s ok) (length s.sizes) (declared_inputs s ok)
        u tight limit n o x a

    -- a limit that reaches it never gives up
    pub declared_limit : (limit : ℕ) (o : Outcome) → 2 ^ open_below (length s.sizes) u ≤ suc limit → ScriptSearch s limit o → o ≢ gave_up
    declared_limit limit o l x =
        limit_reached (problem_made s).widths (problem_made s).rules (problem_made s).table (problem_table s ok) (length s.sizes) (declared_inputs s ok)
        u tight limit o l x

    -- and the ceiling of the problem, which is that of the fewest words that may be called inputs, is no higher
    pub ceiling_declared : (c : ℕ) → Ceiling (problem_made s).rules (problem_made s).table u c → c < 2 ^ open_below (length s.sizes) u
    ceiling_declared c top =
        let fewer = top.least (length s.sizes) (declared_inputs s ok) in
        omega (arith, top.number, pow_mono (fewer_words u top.words (length s.sizes) fewer))
