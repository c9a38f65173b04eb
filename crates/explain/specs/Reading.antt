-- Mirrors code: the question about a rule whose fields were read.
use Rattle.std.specs.Prelude.{List, ℕ}
use Rattle.problem.specs.declared.kinds.Kind.{Kind}
use Rattle.problem.specs.declared.kinds.Place.{Place}
use Rattle.problem.specs.Reading.{fields_at, widths_at}
use Rattle.explain.specs.declared.Question.{Question}

unfoldable pub question_in : List ℕ → List ℕ → ℕ → Kind → Place → ℕ → Question
question_in ws bs n κ p j = record { kind = κ; k = (fields_at bs n).k; w = widths_at ws (fields_at bs n); place = p; bit = j }
