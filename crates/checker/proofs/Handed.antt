-- What `?` hands on is the refusal that it met.
use mathlib.Core.Path.{◌≡◌, ap, ◌∙◌}
use Rattle.std.specs.Prelude.{Result, Err, IsErrAnd}
use Rattle.std.proofs.lemmas.Result.{err_from_is_err_and}
use Rattle.checker.specs.declared.refusal.Refusal.{Refusal}

pub handed_on : {A : Type 0} (x : Result A Refusal) {r : Refusal} → IsErrAnd x (λ s. s ≡ r) → x ≡ Err r
handed_on x {r} h = let (s, e, q) = err_from_is_err_and x h in e ∙ ap (λ z. Err z) q
