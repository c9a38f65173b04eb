-- To be believed: what comes back from a check: the first refusal, going through sizes, words, rules and limit in order, or OK.
use Rattle.std.specs.Prelude.{Bool, true, false, List, ℕ, zero, suc, leb, Result, Ok, Err}
use Rattle.words.specs.Word.{bounded}
use Rattle.checker.specs.declared.refusal.Refusal.{Refusal}
use Rattle.problem.specs.Lent.{word_count, width_at, lo_at, hi_at, rule_count, rule_at}
use Rattle.checker.specs.Demands.{Demand, SIZE, WIDTH, TABLE, KIND, FIELD, FIT, LIMIT, most_guesses}
use Rattle.checker.specs.Refusals.{refusal_of}
use Rattle.checker.specs.Tests.{sized, is_width, is_kind, are_fields, is_fitting}

-- nothing refused, or a refusal
abbrev pub Checked : Type 0
Checked = Result (Unit {0}) Refusal

-- a demand whose test fails is refused
abbrev pub asks : Demand → Bool → Checked
asks d true = Ok tt
asks d false = Err (refusal_of d)

-- the second is looked at only where the first is OK
infixr 30 ◌then◌
abbrev pub ◌then◌ : Checked → Checked → Checked
Ok t then y = y
Err r then y = Err r

-- the first refusal among f 0, f 1, .. f (n - 1)
unfoldable pub first_of : ℕ → (ℕ → Checked) → Checked
first_of zero f = Ok tt
first_of (suc n) f = first_of n f then f n

unfoldable pub word_refusal : List ℕ → ℕ → Checked
word_refusal ws i = asks (WIDTH i) (is_width (width_at ws i)) then asks (TABLE i) (bounded (width_at ws i) (lo_at ws i) (hi_at ws i))

unfoldable pub rule_refusal : List ℕ → List ℕ → ℕ → Checked
rule_refusal ws bs n =
    asks (KIND n) (is_kind (rule_at bs n).kind)
    then asks (FIELD n) (are_fields (word_count ws) (rule_at bs n))
    then asks (FIT n) (is_fitting ws (rule_at bs n))

-- of a call that takes no limit
unfoldable pub refusal : List ℕ → List ℕ → Checked
refusal ws bs = asks SIZE (sized ws bs) then first_of (word_count ws) (word_refusal ws) then first_of (rule_count bs) (rule_refusal ws bs)

abbrev pub limit_refusal : ℕ → Checked
limit_refusal limit = asks LIMIT (leb limit most_guesses)

unfoldable pub refusal_with : ℕ → List ℕ → List ℕ → Checked
refusal_with limit ws bs = refusal ws bs then limit_refusal limit

-- SIZE where fewer than a are lent, being x, or fewer than b, being y; then the rest. A call that lends one buffer only asks for 0 of 0
unfoldable pub with_room : ℕ → ℕ → ℕ → ℕ → Checked → Checked
with_room a x b y z = asks SIZE (leb a x) then asks SIZE (leb b y) then z
