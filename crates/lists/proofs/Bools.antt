-- Tests of Bools: two in one, one of two, and a test tried at each Bool, whose proof is `tt`.
use mathlib.Core.Path.{◌≡◌, refl}
use mathlib.Core.Bool.{Bool, true, false, ◌&&◌, ◌||◌, beq}
use lib.Dec.{T}

-- a test that holds at both Bools holds at each
abbrev pub all1 : (Bool → Bool) → Bool
all1 f = f true && f false

pub and_left : (a b : Bool) → T (a && b) → T a
and_left true b t = tt
and_left false b t = t

pub and_right : (a b : Bool) → T (a && b) → T b
and_right true b t = t
and_right false b t = absurd t

pub at1 : (f : Bool → Bool) → T (all1 f) → (b : Bool) → T (f b)
at1 f t true = and_left (f true) (f false) t
at1 f t false = and_right (f true) (f false) t

abbrev pub all3 : (Bool → Bool → Bool → Bool) → Bool
all3 f = all1 (λ x. all1 (λ y. all1 (λ z. f x y z)))

pub at3 : (f : Bool → Bool → Bool → Bool) → T (all3 f) → (x y z : Bool) → T (f x y z)
at3 f t x y z = at1 (λ z. f x y z) (at1 (λ y. all1 (λ z. f x y z)) (at1 (λ x. all1 (λ y. all1 (λ z. f x y z))) t x) y) z

pub at4 : (f : Bool → Bool → Bool → Bool → Bool) → T (all1 (λ b. all3 (f b))) → (b x y z : Bool) → T (f b x y z)
at4 f t b = at3 (f b) (at1 (λ b. all3 (f b)) t b)

pub at5 : (f : Bool → Bool → Bool → Bool → Bool → Bool) → T (all1 (λ a. all1 (λ b. all3 (f a b)))) → (a b x y z : Bool) → T (f a b x y z)
at5 f t a = at4 (f a) (at1 (λ a. all1 (λ b. all3 (f a b))) t a)

pub beq_eq : (a b : Bool) → T (beq a b) → a ≡ b
beq_eq true true t = refl
beq_eq true false t = absurd t
beq_eq false true t = absurd t
beq_eq false false t = refl

pub beq_refl : (a : Bool) → T (beq a a)
beq_refl true = tt
beq_refl false = tt

pub and_both : (a b : Bool) → T a → T b → T (a && b)
and_both true b s t = t
and_both false b s t = s

pub or_left : (a b : Bool) → T a → T (a || b)
or_left true b t = tt
or_left false b t = absurd t

pub or_right : (a b : Bool) → T b → T (a || b)
or_right true b t = tt
or_right false b t = t

-- two tests in one
pub both : (a b : Bool) → T (a && b) → T a × T b
both true b h = (tt, h)
both false b h = absurd h
