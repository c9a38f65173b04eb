-- The fit of a rule by its class and the widths of its words.
use mathlib.Core.Path.{◌≡◌, refl, fun_ext}
use mathlib.Core.List.{List}
use Prim.Native.Nat.{ℕ}
use Rattle.problem.specs.Reading.{rule_of, widths_of_words, widths_at}
use Rattle.problem.specs.declared.Fields.{Fields}
use Rattle.rules.specs.Kinds.{R, A, B, S, kind_of}
use Rattle.problem.specs.Places.{Widths, width_of}
use Rattle.rules.specs.Rows.{Class, class}
use Rattle.rules.specs.Tight.{word}
use Rattle.problem.specs.Lent.{width_at}
use Rattle.checker.specs.Tests.{fits_as, is_fitting}

words_placed : (ws : List ℕ) (x : Fields) → width_of (widths_at ws x) ≡ (λ p. width_at ws (word (rule_of x) p))
unfolding widths_of_words
words_placed ws x = fun_ext (λ p. elim p as (λ q. width_of (widths_at ws x) q ≡ width_at ws (word (rule_of x) q)) [ R ↦ refl | A ↦ refl | B ↦ refl | S ↦ refl ])

pub fitting : (ws : List ℕ) (x : Fields) (c : Class) (w : Widths) → c ≡ class (kind_of x.kind) → w ≡ widths_at ws x
    → fits_as c (width_of w) x.k ≡ is_fitting ws (rule_of x)
unfolding is_fitting
fitting ws x c w ec ew = rw (ew, words_placed ws x, ec)
