-- The order of the demands: what comes before one of a word, of a rule or of the limit, and that two of which neither comes first have one number and place.
use mathlib.Core.Path.{◌≡◌}
use mathlib.Core.Logic.{◌⊎◌, inl, inr}
use Prim.Native.Nat.{◌≤◌, ◌<◌}
use native.Mathlib.Omega.{arith}
use Rattle.checker.specs.Demands.{Demand, SIZE, WIDTH, TABLE, KIND, FIELD, FIT, LIMIT, number, place, phase, Before, by_phase, by_place, by_number}

pub phase_le : {d e : Demand} → Before d e → phase d ≤ phase e
phase_le (by_phase l) = omega arith
phase_le (by_place p l) = omega arith
phase_le (by_number p q l) = omega arith

pub same_phase : {d e : Demand} → Before d e → phase d ≡ phase e → (place d < place e) ⊎ ((place d ≡ place e) × (number d < number e))
same_phase (by_phase l) p = absurd (omega arith)
same_phase (by_place q l) p = inl l
same_phase (by_number q r l) p = inr (r, l)

pub not_self : (d : Demand) → ¬ Before d d
not_self d (by_phase l) = omega arith
not_self d (by_place p l) = omega arith
not_self d (by_number p q l) = omega arith

number_pos : (d : Demand) → 1 ≤ number d
number_pos SIZE = omega arith
number_pos (WIDTH i) = omega arith
number_pos (TABLE i) = omega arith
number_pos (KIND n) = omega arith
number_pos (FIELD n) = omega arith
number_pos (FIT n) = omega arith
number_pos LIMIT = omega arith

pub size_first : (d : Demand) → ¬ Before d SIZE
size_first d (by_phase l) = omega arith
size_first d (by_place p l) = omega arith
size_first d (by_number p q l) = omega (arith, number_pos d)

pub same_key : {d e : Demand} → ¬ Before d e → ¬ Before e d → (number d ≡ number e) × (place d ≡ place e)
same_key {d} {e} m n =
    let a : ¬ (phase d < phase e) = λ l. m (by_phase l) in
    let b : ¬ (phase e < phase d) = λ l. n (by_phase l) in
    let p : phase d ≡ phase e = omega arith in
    let p' : phase e ≡ phase d = omega arith in
    let a₁ : ¬ (place d < place e) = λ l. m (by_place p l) in
    let b₁ : ¬ (place e < place d) = λ l. n (by_place p' l) in
    let q : place d ≡ place e = omega arith in
    let q' : place e ≡ place d = omega arith in
    let a₂ : ¬ (number d < number e) = λ l. m (by_number p q l) in
    let b₂ : ¬ (number e < number d) = λ l. n (by_number p' q' l) in
    (omega arith, q)
