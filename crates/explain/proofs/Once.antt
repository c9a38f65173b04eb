-- Two results that the promise of `explain` allows are equal: the answer with its value, place and count, and every number of the list.
use mathlib.Core.Path.{◌≡◌, refl, sym, ap, ◌∙◌}
use mathlib.Core.List.{List}
use Prim.Native.Nat.{ℕ}
use lib.ListN.{length}
use Rattle.checker.proofs.Firsts.{refused_not_ok}
use Rattle.rules.specs.Kinds.{Place}
use Rattle.rules.specs.Meaning.{Shape}
use Rattle.rules.specs.Fits.{Span}
use Rattle.reason_theory.proofs.One.{one_explanation}
use Rattle.std.specs.Prelude.{Result, Ok}
use Rattle.checker.specs.declared.refusal.Refusal.{Refusal}
use Rattle.explain.specs.declared.Explained.{Explained}
use Rattle.explain.specs.Dropping.{reason_put}
use Rattle.explain.specs.Promise.{given, Explanation, Judged, not_asked, answered, Explaining, refused, judged}

given_once : {σ : Shape} {t : Span} {p : Place} {j : ℕ} {l m k : List ℕ} {x y : Explained} → Explanation σ t p j l x m → Explanation σ t p j l y k
    → (x ≡ y) × (m ≡ k)
given_once {l = l} g h =
    let (e, o) = one_explanation g.explains h.explains in (
      g.told ∙ ap (λ a. given a (length g.out)) e ∙ ap (λ (w : List ℕ). given h.answer (length w)) o ∙ sym h.told,
      g.stands ∙ ap (λ (w : List ℕ). reason_put w l) o ∙ sym h.stands,
    )

module _ {ws bs : List ℕ} {n p j : ℕ} {l : List ℕ} where
  judged_once : {x y : Result Explained Refusal} {m k : List ℕ} → Judged ws bs n p j l x m → Judged ws bs n p j l y k → (x ≡ y) × (m ≡ k)
  judged_once (not_asked a) (not_asked b) = (refl, refl)
  judged_once (not_asked a) (answered b h) = absurd (a b)
  judged_once (answered a g) (not_asked b) = absurd (b a)
  judged_once (answered a g) (answered b h) = let (e, f) = given_once g h in (ap (λ z. Ok z) e, f)

module _ {ws bs : List ℕ} {n p j : ℕ} {l : List ℕ} where
  pub explain_once : {x y : Result Explained Refusal} {m k : List ℕ} → Explaining ws bs n p j l x m → Explaining ws bs n p j l y k → (x ≡ y) × (m ≡ k)
  explain_once (refused a) (refused b) = (cc, refl)
  explain_once (refused a) (judged b d) = absurd (refused_not_ok a b)
  explain_once (judged a d) (refused b) = absurd (refused_not_ok b a)
  explain_once (judged a d) (judged b e) = judged_once d e
