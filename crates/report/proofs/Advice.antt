-- Where enough is lent, `advise` always gives lines, and the first bytes that it counts are the advice on the file, of which there is one.
use mathlib.Core.Path.{◌≡◌, refl, sym, ap, ◌∙◌}
use mathlib.Core.List.{List}
use Prim.Native.Nat.{ℕ}
use lib.ListN.{length, take, drop}
use lib.Seq.{take_at}
use Rattle.tighten.specs.Memory.{Cleared}
use Rattle.std.specs.Prelude.{Result, Ok, IsOk}
use Rattle.checker.specs.declared.refusal.Refusal.{Refusal}
use Rattle.report.specs.Text.{text_of}
use Rattle.report.specs.Promise.{Lent, Advises, size, lines}
use Rattle.report.specs.Advice.{Advice}
use Rattle.report.proofs.Once.{reports_once}

-- two advices on one file are equal
pub advice_once : {f a b : List ℕ} → Advice f a → Advice f b → a ≡ b
advice_once x y = x.text ∙ ap text_of (reports_once x.reports y.reports) ∙ sym y.text

-- nothing is refused where enough is lent
pub always_lines : {f out work out' work' : List ℕ} {r : Result ℕ Refusal} → Lent out work → Advises f out work r out' work' → IsOk r
always_lines lent (size h) = absurd (h lent)
always_lines lent (lines g x p c) = refl

pub lines_advice : {f out work out' work' : List ℕ} {r : Result ℕ Refusal} {e : ℕ} → Lent out work → Advises f out work r out' work' → r ≡ Ok e
    → Advice f (take e out') × Cleared work work'
lines_advice lent (size h) q = absurd (h lent)
lines_advice {out = out} {e = e} lent (lines {x = x} {out' = out'} {e = d} g reports p c) q =
    let same : d ≡ e = cc in
    let text : take e out' ≡ text_of x = ap (take e) p.text ∙ take_at (text_of x) (drop (length (text_of x)) out) e (sym p.ends ∙ same) in
    (record { report = x; reports = reports; text = text }, c)
