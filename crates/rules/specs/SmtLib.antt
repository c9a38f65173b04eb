-- To be believed: SMT-LIB's own definitions of what the kinds compute and compare, each quoted above its definition as SMT-LIB publishes it in the theories
-- FixedSizeBitVectors and Core and in the logic QF_BV. `[[t]]` is what the term t denotes.
use Rattle.std.specs.Prelude.{◌≡◌, ◌⊎◌, Bool, true, false, ℕ, zero, suc, ◌+◌, ◌*◌, ◌/◌, ◌%◌, ◌^◌, ◌<◌, ◌-◌, eqb, ltb, if◌then◌else◌}
use Rattle.words.specs.Bits.{bit}
use Rattle.rules.specs.Kinds.{Place, R, B, Op, COPY, NOT, AND, OR, XOR, ADD, ITE, SLICE, JOIN, SHL, SHR, Rel, ULE, ULT, NE}

-- "a bit-vector of size m is a function from [0, m) to {0, 1}": here a function that is read below m only
abbrev pub Vector : Type 0
Vector = ℕ → ℕ

-- b is a bit-vector of size m
abbrev pub OfSize : ℕ → Vector → Type 0
OfSize m b = (x : ℕ) → x < m → b x < 2

-- bv2nat(b) := b(m-1)*2^{m-1} + b(m-2)*2^{m-2} + ⋯ + b(0)*2^0
unfoldable pub bv2nat : ℕ → Vector → ℕ
bv2nat zero b = 0
bv2nat (suc m) b = b m * 2 ^ m + bv2nat m b

-- nat2bv[m](n) := the unique bit-vector b of size m such that bv2nat(b) = n rem 2^m
abbrev pub nat2bv : ℕ → ℕ → Vector
nat2bv m n = λ x. bit (n % 2 ^ m) x

-- [[(concat s t)]] := λx:[0, n+m). if (x < m) then [[t]](x) else [[s]](x - m), where s is of size n and t of size m
abbrev pub concat : ℕ → Vector → Vector → Vector
concat m s t = λ x. if ltb x m then t x else s (x - m)

-- [[((_ extract i j) s)]] := λx:[0, i-j+1). [[s]](j + x)
abbrev pub extract : ℕ → Vector → Vector
extract j s = λ x. s (j + x)

-- [[(bvnot s)]] := λx:[0, m). if [[s]](x) = 0 then 1 else 0
abbrev pub bvnot : Vector → Vector
bvnot s = λ x. if eqb (s x) 0 then 1 else 0

-- [[(bvand s t)]] := λx:[0, m). if [[s]](x) = 0 then 0 else [[t]](x)
abbrev pub bvand : Vector → Vector → Vector
bvand s t = λ x. if eqb (s x) 0 then 0 else t x

-- [[(bvor s t)]] := λx:[0, m). if [[s]](x) = 1 then 1 else [[t]](x)
abbrev pub bvor : Vector → Vector → Vector
bvor s t = λ x. if eqb (s x) 1 then 1 else t x

-- (bvxor s t) abbreviates (bvor (bvand s (bvnot t)) (bvand (bvnot s) t))
abbrev pub bvxor : Vector → Vector → Vector
bvxor s t = bvor (bvand s (bvnot t)) (bvand (bvnot s) t)

-- [[(bvadd s t)]] := nat2bv[m](bv2nat([[s]]) + bv2nat([[t]]))
abbrev pub bvadd : ℕ → Vector → Vector → Vector
bvadd m s t = nat2bv m (bv2nat m s + bv2nat m t)

-- [[(bvshl s t)]] := nat2bv[m](bv2nat([[s]]) * 2^(bv2nat([[t]]))); here bv2nat([[t]]) is the rule's number k
abbrev pub bvshl : ℕ → Vector → ℕ → Vector
bvshl m s k = nat2bv m (bv2nat m s * 2 ^ k)

-- [[(bvlshr s t)]] := nat2bv[m](bv2nat([[s]]) div 2^(bv2nat([[t]]))); here bv2nat([[t]]) is the rule's number k
abbrev pub bvlshr : ℕ → Vector → ℕ → Vector
bvlshr m s k = nat2bv m (bv2nat m s / 2 ^ k)

-- (ite c t1 t2) returns its second argument or its third depending on whether its first argument is true or not;
-- here c is (= s #b1), where s is of size 1 and [[#b1]] := λx:[0, 1). 1
abbrev pub ite : Vector → Vector → Vector → Vector
ite s t1 t2 = λ x. if eqb (s 0) 1 then t1 x else t2 x

-- (= s t) returns true iff its two arguments are identical: for size m, the same bit at each place below m
abbrev pub Equal : ℕ → Vector → Vector → Type 0
Equal m s t = (x : ℕ) → x < m → s x ≡ t x

-- (bvult s t) is true iff bv2nat([[s]]) < bv2nat([[t]])
abbrev pub Bvult : ℕ → Vector → Vector → Type 0
Bvult m s t = bv2nat m s < bv2nat m t

-- what each computing kind denotes, of size w R; COPY is the vector itself
abbrev pub denoted : Op → (Place → ℕ) → ℕ → Vector → Vector → Vector → Vector
denoted COPY w k a b s = a
denoted NOT w k a b s = bvnot a
denoted AND w k a b s = bvand a b
denoted OR w k a b s = bvor a b
denoted XOR w k a b s = bvxor a b
denoted ADD w k a b s = bvadd (w R) a b
denoted ITE w k a b s = ite s a b
denoted SLICE w k a b s = extract k a
denoted JOIN w k a b s = concat (w B) a b
denoted SHL w k a b s = bvshl (w R) a k
denoted SHR w k a b s = bvlshr (w R) a k

-- (bvule s t) abbreviates (or (bvult s t) (= s t)); (distinct s t) returns true iff its two arguments are not identical
abbrev pub Denoted : Rel → ℕ → Vector → Vector → Type 0
Denoted ULE m s t = Bvult m s t ⊎ Equal m s t
Denoted ULT m s t = Bvult m s t
Denoted NE m s t = ¬ Equal m s t
