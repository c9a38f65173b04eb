-- Only the first bytes that were lent are passed on to `advise`: what it promises of them it promises of all.
use mathlib.Core.Path.{◌≡◌, sym, ap, ◌∙◌}
use mathlib.Core.List.{List, ◌++◌, append_assoc}
use Prim.Native.Nat.{ℕ, min, ◌≤◌}
use native.Mathlib.Omega.{arith}
use lib.ListN.{length, take, drop, length-take, take-append-drop}
use lib.Seq.{drop-append-le}
use Rattle.std.specs.Prelude.{Result}
use Rattle.checker.specs.declared.refusal.Refusal.{Refusal}
use Rattle.report.specs.Text.{Report, text_of}
use Rattle.report.specs.Printed.{most, Printed}
use Rattle.report.specs.Promise.{Lent, Advises, size, lines}
use Rattle.report.proofs.Advising.{lines_within}

module _ (l : List ℕ) (n : ℕ) (is : n ≡ min (length l) most) where
  pub first_length : length (take n l) ≡ n
  first_length = length-take n l ∙ omega arith

  rest_after : (t : List ℕ) → length t ≤ n → (t ++ drop (length t) (take n l)) ++ drop n l ≡ t ++ drop (length t) l
  rest_after t h =
      append_assoc t (drop (length t) (take n l)) (drop n l)
      ∙ ap (λ y. t ++ y) (sym (drop-append-le (length t) (take n l) (drop n l) (omega (arith, first_length))) ∙ ap (drop (length t)) (take-append-drop n l))

  printed_wider : {x : Report} {m : List ℕ} {e : ℕ} → e ≤ n → Printed x (take n l) m e → Printed x l (m ++ drop n l) e
  printed_wider {x} h p = record { ends = p.ends; text = ap (λ y. y ++ drop n l) p.text ∙ rest_after (text_of x) (omega (arith, p.ends)) }

  lent_first : {k : List ℕ} → Lent l k → Lent (take n l) k
  lent_first h = record { bytes = omega (arith, first_length, h.bytes); memory = h.memory }

  lent_all : {k : List ℕ} → Lent (take n l) k → Lent l k
  lent_all h = record { bytes = omega (arith, first_length, h.bytes); memory = h.memory }

  pub advise_wider : {f k m j : List ℕ} {r : Result ℕ Refusal} → length m ≡ n → Advises f (take n l) k r m j → Advises f l k r (m ++ drop n l) j
  advise_wider h (size d) = rw (take-append-drop n l) (size (λ x. d (lent_first x)))
  advise_wider h (lines lent report p c) = lines (lent_all lent) report (printed_wider (omega (arith, h, lines_within (lines lent report p c))) p) c
