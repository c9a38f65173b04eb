-- Some element of a list, every element of a list, and the lists that an enumeration is made of.
use mathlib.Core.Bool.{Bool, true, false}
use mathlib.Core.List.{List, [], ◌∷◌, ◌++◌, map}
use lib.Dec.{T}
use Rattle.lists.specs.Every.{Any, here, there, All}

-- what a function gives at each element, one list after another
abbrev pub each : {A B : Type 0} → List A → (A → List B) → List B
each [] k = []
each (x ∷ l) k = k x ++ each l k

-- the elements that pass a test
abbrev pub cons_if : {A : Type 0} → Bool → A → List A → List A
cons_if true x l = x ∷ l
cons_if false x l = l

abbrev pub sift : {A : Type 0} → (A → Bool) → List A → List A
sift f [] = []
sift f (x ∷ l) = cons_if (f x) x (sift f l)

module _ {A : Type 0} where
  pub any_left : {P : A → Type 0} {l : List A} (m : List A) → Any P l → Any P (l ++ m)
  any_left m (here p) = here p
  any_left m (there a) = there (any_left m a)

  pub any_right : {P : A → Type 0} (l : List A) {m : List A} → Any P m → Any P (l ++ m)
  any_right [] a = a
  any_right (x ∷ l) a = there (any_right l a)

  pub any_none : {P : A → Type 0} → Any P [] → ⊥
  any_none a = elim a [ ]

  pub any_imp : {P Q : A → Type 0} → ((x : A) → P x → Q x) → {l : List A} → Any P l → Any Q l
  any_imp h (here {x = x} p) = here (h x p)
  any_imp h (there a) = there (any_imp h a)

  pub any_some : {P : A → Type 0} {l : List A} → Any P l → (x : A) × P x
  any_some (here {x = x} p) = (x, p)
  any_some (there a) = any_some a

  -- an element with one property, where all have another
  pub any_all : {P Q : A → Type 0} {l : List A} → Any P l → All Q l → (x : A) × P x × Q x
  any_all (here {x = x} p) q = (x, p, q.0)
  any_all (there a) q = any_all a q.1

  pub any_sift : {P : A → Type 0} (f : A → Bool) → ((x : A) → P x → T (f x)) → {l : List A} → Any P l → Any P (sift f l)
  any_sift {P} f h (here {x = x} {l = l} p) = go (f x) (h x p)
    where
      go : (b : Bool) → T b → Any P (cons_if b x (sift f l))
      go true t = here p
      go false t = absurd t
  any_sift {P} f h (there {x = x} {l = l} a) = go (f x) (any_sift f h a)
    where
      go : (b : Bool) → Any P (sift f l) → Any P (cons_if b x (sift f l))
      go true a' = there a'
      go false a' = a'

  pub all_sift : (P : A → Type 0) (f : A → Bool) → ((x : A) → T (f x) → P x) → (l : List A) → All P (sift f l)
  all_sift P f h [] = tt
  all_sift P f h (x ∷ l) = go (f x) (h x) (all_sift P f h l)
    where
      go : (b : Bool) → (T b → P x) → All P (sift f l) → All P (cons_if b x (sift f l))
      go true p r = (p tt, r)
      go false p r = r

module _ {A B : Type 0} where
  pub any_map : {P : B → Type 0} {Q : A → Type 0} (f : A → B) → ((x : A) → Q x → P (f x)) → {l : List A} → Any Q l → Any P (map f l)
  any_map f h (here {x = x} q) = here (h x q)
  any_map f h (there a) = there (any_map f h a)

  pub any_each : {P : B → Type 0} {Q : A → Type 0} (k : A → List B) → ((x : A) → Q x → Any P (k x)) → {l : List A} → Any Q l → Any P (each l k)
  any_each k h (here {x = x} {l = l} q) = any_left (each l k) (h x q)
  any_each k h (there {x = x} a) = any_right (k x) (any_each k h a)
