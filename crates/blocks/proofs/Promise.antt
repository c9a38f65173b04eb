-- Two results that a promise allows are equal; and a refusal to write is that of the law for all calls.
use Rattle.std.proofs.Common.{◌≡◌, ℕ, List, length, sym, refl, ◌∙◌, arith}
use Rattle.std.specs.Prelude.{Result, Ok, Err}
use Rattle.checker.specs.declared.refusal.Refusal.{Refusal}
use Rattle.checker.specs.Refusal.{refusal_with, with_room}
use Rattle.checker.proofs.Rooms.{first_short, roomy}
use Rattle.checker.proofs.Firsts.{refused_not_ok}
use Rattle.blocks.specs.declared.Problem.{Problem}
use Rattle.blocks.specs.Edition.{edition1}
use Rattle.blocks.specs.File.{Whole, Fault}
use Rattle.blocks.specs.Written.{IsFile, encode}
use Rattle.blocks.specs.Promise.{Reads, Writes}
use Rattle.blocks.proofs.Fair.{fair1}
use Rattle.blocks.proofs.Faults.{fault_once, proper_whole, proper_faultless}
use Rattle.blocks.proofs.ReadBack.{file_proper, one_problem}

module _ {limit : ℕ} {ws bs f : List ℕ} (is : IsFile edition1 limit ws bs f) where
  pub file_whole : Whole edition1 f
  file_whole = proper_whole fair1 (file_proper is)

  pub file_faultless : {r : Refusal} → Fault edition1 f r → ⊥
  file_faultless x = proper_faultless fair1 (file_proper is) x

pub read_once : {f a b y z y' z' : List ℕ} {r s : Result Problem Refusal} → Reads edition1 f a b y z r → Reads edition1 f a b y' z' s
    → (r ≡ s) × (y ≡ y') × (z ≡ z')
read_once (Reads.size n p q) (Reads.size n' p' q') = (refl, p ∙ sym p', q ∙ sym q')
read_once (Reads.size n p q) (Reads.fault r w x p' q') = absurd (n (r, w))
read_once (Reads.size n p q) (Reads.refused r is j p' q') = absurd (n (r, file_whole is))
read_once (Reads.size n p q) (Reads.ok r is j e p' q') = absurd (n (r, file_whole is))
read_once (Reads.fault r w x p q) (Reads.size n p' q') = absurd (n (r, w))
read_once (Reads.fault r w x p q) (Reads.fault r' w' x' p' q') = let e = fault_once fair1 x x' in (cc, p ∙ sym p', q ∙ sym q')
read_once (Reads.fault r w x p q) (Reads.refused r' is j p' q') = absurd (file_faultless is x)
read_once (Reads.fault r w x p q) (Reads.ok r' is j e p' q') = absurd (file_faultless is x)
read_once (Reads.refused r is j p q) (Reads.size n p' q') = absurd (n (r, file_whole is))
read_once (Reads.refused r is j p q) (Reads.fault r' w x p' q') = absurd (file_faultless is x)
read_once (Reads.refused r is j p q) (Reads.refused r' is' j' p' q') =
    let (l, w, b) = one_problem is is' in
    (cc, p ∙ sym p', q ∙ sym q')
read_once (Reads.refused r is j p q) (Reads.ok r' is' j' e p' q') = let (l, w, b) = one_problem is is' in absurd (refused_not_ok j (cc))
read_once (Reads.ok r is j e p q) (Reads.size n p' q') = absurd (n (r, file_whole is))
read_once (Reads.ok r is j e p q) (Reads.fault r' w x p' q') = absurd (file_faultless is x)
read_once (Reads.ok r is j e p q) (Reads.refused r' is' j' p' q') = let (l, w, b) = one_problem is is' in absurd (refused_not_ok j' (cc))
read_once (Reads.ok r is j e p q) (Reads.ok r' is' j' e' p' q') =
    let (l, w, b) = one_problem is is' in
    (cc, cc, cc)

pub write_once : {limit : ℕ} {ws bs f g g' : List ℕ} {r s : Result ℕ Refusal} → Writes edition1 limit ws bs f g r → Writes edition1 limit ws bs f g' s
    → (r ≡ s) × (g ≡ g')
write_once (Writes.size n p) (Writes.size n' p') = (refl, p ∙ sym p')
write_once (Writes.size n p) (Writes.refused r j p') = absurd (n r)
write_once (Writes.size n p) (Writes.ok r j k p') = absurd (n r)
write_once (Writes.refused r j p) (Writes.size n p') = absurd (n r)
write_once (Writes.refused r j p) (Writes.refused r' j' p') = (cc, p ∙ sym p')
write_once (Writes.refused r j p) (Writes.ok r' j' k p') = absurd (refused_not_ok j j')
write_once (Writes.ok r j k p) (Writes.size n p') = absurd (n r)
write_once (Writes.ok r j k p) (Writes.refused r' j' p') = absurd (refused_not_ok j' j)
write_once (Writes.ok r j k p) (Writes.ok r' j' k' p') = (cc, p ∙ sym p')

-- ---- writing by the law of all calls that are lent a problem: too short, then the first refusal, else given

module _ {limit : ℕ} {ws bs f g : List ℕ} where
  pub write_refusal : {r : Refusal} → Writes edition1 limit ws bs f g (Err r)
      → with_room (length (encode edition1 limit ws bs)) (length f) 0 0 (refusal_with limit ws bs) ≡ Err r
  write_refusal (Writes.size s p) = first_short (length (encode edition1 limit ws bs)) (length f) 0 0 (refusal_with limit ws bs) (omega arith)
  write_refusal (Writes.refused r j p) = roomy (length (encode edition1 limit ws bs)) (length f) 0 0 (refusal_with limit ws bs) r (omega arith) ∙ j

  pub write_given : {k : ℕ} → Writes edition1 limit ws bs f g (Ok k)
      → with_room (length (encode edition1 limit ws bs)) (length f) 0 0 (refusal_with limit ws bs) ≡ Ok tt
  write_given (Writes.ok r j k p) = roomy (length (encode edition1 limit ws bs)) (length f) 0 0 (refusal_with limit ws bs) r (omega arith) ∙ j
