-- What reading a file comes to, as the report on it, and what is lent too short.
use mathlib.Core.Path.{◌≡◌, refl}
use mathlib.Core.List.{List}
use Prim.Native.Nat.{ℕ, ◌*◌, ◌≤◌, ◌<◌}
use native.Mathlib.Omega.{arith}
use lib.ListN.{length, take, drop, length-append}
use Rattle.tighten.specs.Memory.{Cleared}
use Rattle.checker.specs.Refusal.{refusal}
use Rattle.checker.proofs.Right.{problem_ok}
use Rattle.cause.specs.Promise.{cause_work}
use Rattle.blocks.specs.declared.Problem.{Problem}
use Rattle.blocks.specs.Edition.{edition1}
use Rattle.blocks.specs.Promise.{Reads}
use Rattle.blocks.proofs.RoundTrip.{read_kept}
use Rattle.std.specs.Prelude.{Result, Ok, Err}
use Rattle.checker.specs.declared.refusal.Refusal.{Refusal}
use Rattle.checker.specs.declared.refusal.Refusal.TheVariants.{Size}
use Rattle.checker.specs.Refusals.{number_of, place_of}
use Rattle.report.specs.Text.{text_of, refused}
use Rattle.report.specs.Printed.{most, Printed}
use Rattle.report.specs.Promise.{Lent, Told, told, no_words, no_rules, Reports, unread, answered, Advises, size, lines}

pub short_bytes : (f l k : List ℕ) → length l < most → Advises f l k (Err Size) l k
short_bytes f l k h = size (λ x. omega (arith, x.bytes))

pub short_work : (f l k : List ℕ) → length k < cause_work → Advises f l k (Err Size) l k
short_work f l k h = size (λ x. omega (arith, x.memory))

module _ {f y z : List ℕ} where
  refused_so : {r : Refusal} → Reads edition1 f no_words no_rules y z (Err r) → Reports f (refused (number_of r) (place_of r))
  refused_so (Reads.size h p q) = unread (Reads.size h refl refl)
  refused_so (Reads.fault r w x p q) = unread (Reads.fault r w x refl refl)
  refused_so (Reads.refused r is j p q) = unread (Reads.refused r is j refl refl)

  few_at : {x : Problem} → Reads edition1 f no_words no_rules y z (Ok x) → (x.words ≤ 32) × (x.rules ≤ 252)
  few_at {x} (Reads.ok r is j e p q) = let s = is.storable.sized in (rw e s.words, rw e s.rules)

  module _ {r : Result Problem Refusal} (reads : Reads edition1 f no_words no_rules y z r) where
    pub unread_lines : {x : Refusal} {e : ℕ} {l k l' k' : List ℕ} → r ≡ Err x → Lent l k → Printed (refused (number_of x) (place_of x)) l l' e → Cleared k k'
        → Advises f l k (Ok e) l' k'
    unread_lines q lent p c = lines lent (refused_so (rw q at reads)) p c

    pub few : {x : Problem} → r ≡ Ok x → (x.words ≤ 32) × (x.rules ≤ 252)
    few q = few_at (rw q at reads)

    pub read_proper : {x : Problem} → r ≡ Ok x → refusal (take (3 * x.words) y) (take (6 * x.rules) z) ≡ Ok tt
    read_proper {x} q = problem_ok x.limit _ _ (read_kept (rw q at reads)).fine

    pub told_lines : {x : Problem} {e : ℕ} {l k l' k' : List ℕ} → r ≡ Ok x → Lent l k
        → Told x.limit (take (3 * x.words) y) (take (6 * x.rules) z) l k e l' k' → Advises f l k (Ok e) l' k'
    told_lines q lent (told a p c) = let kept = read_kept (rw q at reads) in lines lent (answered kept.is kept.fine a) p c

-- the lines are within the lent bytes
pub lines_within : {f l k m n : List ℕ} {e : ℕ} → Advises f l k (Ok e) m n → e ≤ length m
lines_within {l = l} (lines {x = x} lent report p c) =
    rw p.text (omega (arith, p.ends, length-append (text_of x) (drop (length (text_of x)) l)))
