-- AND, OR, XOR, ADD and ITE: a run from state q means that r is what the kind computes of a and b; the state is the carry of ADD and the s of ITE.
use Rattle.std.proofs.Common.{◌≡◌, ℕ, suc, ◌+◌, ◌*◌, ◌/◌, ◌%◌, ◌^◌, min, max, Bool, true, false}
use Rattle.std.proofs.Common.{◌&&◌, ◌||◌, eqb, ◌↔◌, refl, ap, ◌∙◌, ap₂, pow-suc, arith, lit<, eqb→eq, pow_pos}
use native.Mathlib.Nat.{mod-one}
use lib.Bits.{bit_and, bit_or, bit_xor, differ, and_step, or_step, xor_step}
use lib.Arith.{mod-mul}
use Rattle.words.specs.Bits.{one}
use Rattle.rules.specs.Kinds.{AND, OR, XOR, ADD, ITE, op}
use Rattle.hull.specs.Columns.{odd}
use Rattle.hull.specs.Runs.{Lane, lane_r, lane_a, lane_b, ends, pick, Runs}
use Rattle.hull.specs.Automata.{auto_of}
use Rattle.lists.proofs.Bools.{at1, at3}
use Rattle.hull.proofs.LowBit.{split, low_one, one_lt}
use Rattle.hull.proofs.Table.{machine, xor, carry}
use Rattle.hull.proofs.Meaning.{Under, computes}

-- ---- one bit

one_and : (x y : Bool) → min (one x) (one y) ≡ one (x && y)
one_and x y = eqb→eq _ _ (at3 (λ q x y. eqb (min (one x) (one y)) (one (x && y))) tt true x y)

one_or : (x y : Bool) → max (one x) (one y) ≡ one (x || y)
one_or x y = eqb→eq _ _ (at3 (λ q x y. eqb (max (one x) (one y)) (one (x || y))) tt true x y)

one_xor : (x y : Bool) → differ (one x) (one y) ≡ one (xor x y)
one_xor x y = eqb→eq _ _ (at3 (λ q x y. eqb (differ (one x) (one y)) (one (xor x y))) tt true x y)

one_sum : (q y z : Bool) → one (carry q y z) * 2 + one (xor q (xor y z)) ≡ one y + one z + one q
one_sum q y z =
    eqb→eq _ _ (at3 (λ q y z. eqb (one (carry q y z) * 2 + one (xor q (xor y z))) (one y + one z + one q)) tt q y z)

-- ---- the rest

sum_step : (n : ℕ) (q : Bool) (a b : ℕ)
    → (a + b + one q) % 2 ^ suc n ≡ (a / 2 + b / 2 + one (carry q (odd a) (odd b))) % 2 ^ n * 2 + one (xor q (xor (odd a) (odd b)))
sum_step n q a b =
    let e = one_sum q (odd a) (odd b) in
    let ea = split a in
    let eb = split b in
    let l = one_lt (xor q (xor (odd a) (odd b))) in
    let half : (a + b + one q) / 2 ≡ a / 2 + b / 2 + one (carry q (odd a) (odd b)) = omega arith in
    let low : (a + b + one q) % 2 ≡ one (xor q (xor (odd a) (odd b))) = omega arith in
    let k : (a + b + one q) % 2 ^ suc n ≡ (a + b + one q) / 2 % 2 ^ n * 2 + (a + b + one q) % 2 = rw (pow-suc 2 n) (mod-mul _ (pow_pos n) (lit< tt)) in
    k ∙ rw (half, low)

pick_step : (q : Bool) (a b : ℕ) → pick q b a ≡ pick q (b / 2) (a / 2) * 2 + one (pick q (odd b) (odd a))
pick_step true a b = split a
pick_step false a b = split b

-- ---- the five kinds

pub ands : (n : ℕ) (q : Bool) (v : Lane → ℕ) → Under n v → Runs (auto_of (op AND)) n q v ↔ (v lane_r ≡ bit_and (v lane_a) (v lane_b))
unfolding auto_of machine
ands =
    computes (op AND) (λ n q a b. bit_and a b) (λ q y z. y && z) (λ q x y z. refl) (at1 (λ q. ends (auto_of (op AND)) q) tt) (λ q. refl)
    (λ n q a b. omega (arith, and_step a b, low_one a, low_one b, one_and (odd a) (odd b)))

pub ors : (n : ℕ) (q : Bool) (v : Lane → ℕ) → Under n v → Runs (auto_of (op OR)) n q v ↔ (v lane_r ≡ bit_or (v lane_a) (v lane_b))
unfolding auto_of machine
ors =
    computes (op OR) (λ n q a b. bit_or a b) (λ q y z. y || z) (λ q x y z. refl) (at1 (λ q. ends (auto_of (op OR)) q) tt) (λ q. refl)
    (λ n q a b. omega (arith, or_step a b, low_one a, low_one b, one_or (odd a) (odd b)))

pub xors : (n : ℕ) (q : Bool) (v : Lane → ℕ) → Under n v → Runs (auto_of (op XOR)) n q v ↔ (v lane_r ≡ bit_xor (v lane_a) (v lane_b))
unfolding auto_of machine
xors =
    computes (op XOR) (λ n q a b. bit_xor a b) (λ q y z. xor y z) (λ q x y z. refl) (at1 (λ q. ends (auto_of (op XOR)) q) tt) (λ q. refl)
    (λ n q a b. xor_step a b ∙ ap (λ (d : ℕ). bit_xor (a / 2) (b / 2) * 2 + d) (ap₂ differ (low_one a) (low_one b) ∙ one_xor (odd a) (odd b)))

pub sums : (n : ℕ) (q : Bool) (v : Lane → ℕ) → Under n v → Runs (auto_of (op ADD)) n q v ↔ (v lane_r ≡ (v lane_a + v lane_b + one q) % 2 ^ n)
unfolding auto_of machine
sums =
    computes (op ADD) (λ n q a b. (a + b + one q) % 2 ^ n) (λ q y z. xor q (xor y z)) (λ q x y z. refl) (at1 (λ q. ends (auto_of (op ADD)) q) tt)
    (λ q. mod-one (0 + 0 + one q)) sum_step

pub choices : (n : ℕ) (q : Bool) (v : Lane → ℕ) → Under n v → Runs (auto_of (op ITE)) n q v ↔ (v lane_r ≡ pick q (v lane_b) (v lane_a))
unfolding auto_of machine
choices =
    computes (op ITE) (λ n q a b. pick q b a) (λ q y z. pick q z y) (λ q x y z. refl) (at1 (λ q. ends (auto_of (op ITE)) q) tt)
    (λ q. same q) (λ n q a b. pick_step q a b)
  where
    same : (q : Bool) → pick {A = ℕ} q 0 0 ≡ 0
    same true = refl
    same false = refl
