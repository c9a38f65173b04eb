-- Each test says its demand: a word or rule passes just where it meets what is asked of it.
use mathlib.Core.Path.{◌≡◌, refl}
use mathlib.Core.Bool.{Bool, true, false, ◌||◌}
use mathlib.Core.List.{List}
use Prim.Native.Nat.{ℕ, ◌%◌, ◌≤◌, ◌<◌}
use lib.Dec.{T, eqb, leb, eqb→eq, eqb_refl, leb→le, le→leb, ltb→lt, lt→ltb}
use lib.ListN.{length}
use Rattle.words.specs.Word.{Width}
use Rattle.rules.specs.Kinds.{Place, R, A, B, S, kind_of}
use Rattle.rules.specs.Rows.{Class, equal_r_a, equal_r_a_b, chosen, part, joined, equal_a_b, class, uses, FitsAs, Fitting}
use Rattle.rules.specs.Tight.{Rule, word}
use Rattle.rules.specs.ProperProblem.{uses_k, kinds, KindNumber, Fields, most_words}
use Rattle.lists.proofs.Bools.{both}
use Rattle.rules.proofs.FitTest.{pair}
use Rattle.problem.specs.Lent.{stride, fields, word_count, width_at}
use Rattle.checker.specs.Demands.{Sized}
use Rattle.checker.specs.Tests.{sized, one_to, is_width, is_kind, is_field, are_fields, fits_as, is_fitting}

eq_test : (m n : ℕ) → m ≡ n → T (eqb m n)
eq_test m n e = rw e (eqb_refl n)

-- ---- sizes

module _ (ws bs : List ℕ) where
  pub sized_met : T (sized ws bs) → Sized ws bs
  unfolding sized
  sized_met t =
      let (a, t₁) = both (eqb (length ws % stride) 0) _ t in
      let (b, t₂) = both (eqb (length bs % fields) 0) _ t₁ in
      let (c, d) = both (leb (word_count ws) most_words) _ t₂ in
      record { whole_words = eqb→eq _ _ a; whole_rules = eqb→eq _ _ b; words = leb→le _ _ c; rules = leb→le _ _ d }

  pub met_sized : Sized ws bs → T (sized ws bs)
  unfolding sized
  met_sized h =
      pair (eqb (length ws % stride) 0) _ (eq_test _ _ h.whole_words)
      (pair (eqb (length bs % fields) 0) _ (eq_test _ _ h.whole_rules)
      (pair (leb (word_count ws) most_words) _ (le→leb _ _ h.words) (le→leb _ _ h.rules)))

-- ---- widths and kinds

one_to_lem : (m x : ℕ) → T (one_to m x) → (1 ≤ x) × (x ≤ m)
one_to_lem m x t = let (l, h) = both (leb 1 x) (leb x m) t in (leb→le 1 x l, leb→le x m h)

to_one : (m x : ℕ) → 1 ≤ x → x ≤ m → T (one_to m x)
to_one m x l h = pair (leb 1 x) (leb x m) (le→leb 1 x l) (le→leb x m h)

pub width_met : (w : ℕ) → T (is_width w) → Width w
width_met w t = let (l, h) = one_to_lem 64 w t in record { low = l; high = h }

pub met_width : (w : ℕ) → Width w → T (is_width w)
met_width w h = to_one 64 w h.low h.high

pub kind_met : (κ : ℕ) → T (is_kind κ) → KindNumber κ
kind_met κ t = let (l, h) = one_to_lem kinds κ t in record { low = l; high = h }

pub met_kind : (κ : ℕ) → KindNumber κ → T (is_kind κ)
met_kind κ h = to_one kinds κ h.low h.high

pub kind_passes : (κ : ℕ) → KindNumber κ → is_kind κ ≡ true
kind_passes κ h = passed (is_kind κ) (met_kind κ h)
  where
    passed : (b : Bool) → T b → b ≡ true
    passed true t = refl
    passed false t = absurd t

pub kind_fails : (κ : ℕ) → ¬ KindNumber κ → is_kind κ ≡ false
kind_fails κ n = failed (is_kind κ) (λ t. n (kind_met κ t))
  where
    failed : (b : Bool) → ¬ T b → b ≡ false
    failed true t = absurd (t tt)
    failed false t = refl

-- ---- fields

field_used : (b : Bool) (n x : ℕ) → T (is_field b n x) → T b → x < n
field_used true n x t u = ltb→lt x n t
field_used false n x t u = absurd u

field_unused : (b : Bool) (n x : ℕ) → T (is_field b n x) → ¬ T b → x ≡ 0
field_unused true n x t u = absurd (u tt)
field_unused false n x t u = eqb→eq x 0 t

field_is : (b : Bool) (n x : ℕ) → (T b → x < n) → (¬ T b → x ≡ 0) → T (is_field b n x)
field_is true n x h k = lt→ltb x n (h tt)
field_is false n x h k = eq_test x 0 (k (λ z. z))

unused_zero : (b : Bool) (x : ℕ) → T (b || eqb x 0) → ¬ T b → x ≡ 0
unused_zero true x t u = absurd (u tt)
unused_zero false x t u = eqb→eq x 0 t

zero_unused : (b : Bool) (x : ℕ) → (¬ T b → x ≡ 0) → T (b || eqb x 0)
zero_unused true x h = tt
zero_unused false x h = eq_test x 0 (h (λ z. z))

module _ (n : ℕ) (ρ : Rule) where
  abbrev at_place : Place → Bool
  at_place p = is_field (uses (kind_of ρ.kind) p) n (word ρ p)

  pub fields_met : T (are_fields n ρ) → Fields n ρ
  unfolding are_fields
  fields_met t =
      let (r, t₁) = both (at_place R) _ t in
      let (a, t₂) = both (at_place A) _ t₁ in
      let (b, t₃) = both (at_place B) _ t₂ in
      let (s, k) = both (at_place S) _ t₃ in
      let each : (p : Place) → T (at_place p) = λ p. elim p as (λ q. T (at_place q)) [ R ↦ r | A ↦ a | B ↦ b | S ↦ s ] in
      record {
        used = λ p. field_used (uses (kind_of ρ.kind) p) n (word ρ p) (each p);
        unused = λ p. field_unused (uses (kind_of ρ.kind) p) n (word ρ p) (each p);
        unused_k = unused_zero (uses_k (kind_of ρ.kind)) ρ.k k;
      }

  pub met_fields : Fields n ρ → T (are_fields n ρ)
  unfolding are_fields
  met_fields h =
      let each : (p : Place) → T (at_place p) = λ p. field_is (uses (kind_of ρ.kind) p) n (word ρ p) (h.used p) (h.unused p) in
      pair (at_place R) _ (each R)
      (pair (at_place A) _ (each A)
      (pair (at_place B) _ (each B)
      (pair (at_place S) _ (each S) (zero_unused (uses_k (kind_of ρ.kind)) ρ.k h.unused_k))))

-- ---- fits

pub fits_met : (x : Class) (w : Place → ℕ) (k : ℕ) → T (fits_as x w k) → FitsAs x w k
fits_met equal_r_a w k t = eqb→eq _ _ t
fits_met equal_r_a_b w k t = let (a, b) = both (eqb (w R) (w A)) _ t in (eqb→eq _ _ a, eqb→eq _ _ b)
fits_met chosen w k t =
    let (a, u) = both (eqb (w R) (w A)) _ t in
    let (b, s) = both (eqb (w R) (w B)) _ u in
    (eqb→eq _ _ a, eqb→eq _ _ b, eqb→eq _ _ s)
fits_met part w k t = leb→le _ _ t
fits_met joined w k t = eqb→eq _ _ t
fits_met equal_a_b w k t = eqb→eq _ _ t

pub met_fits : (x : Class) (w : Place → ℕ) (k : ℕ) → FitsAs x w k → T (fits_as x w k)
met_fits equal_r_a w k h = eq_test _ _ h
met_fits equal_r_a_b w k h = pair (eqb (w R) (w A)) _ (eq_test _ _ h.0) (eq_test _ _ h.1)
met_fits chosen w k h =
    pair (eqb (w R) (w A)) _ (eq_test _ _ h.0) (pair (eqb (w R) (w B)) _ (eq_test _ _ h.1) (eq_test _ _ h.2))
met_fits part w k h = le→leb _ _ h
met_fits joined w k h = eq_test _ _ h
met_fits equal_a_b w k h = eq_test _ _ h

module _ (ws : List ℕ) (ρ : Rule) where
  pub fitting_met : T (is_fitting ws ρ) → Fitting (kind_of ρ.kind) (λ p. width_at ws (word ρ p)) ρ.k
  unfolding is_fitting
  fitting_met t = fits_met (class (kind_of ρ.kind)) _ _ t

  pub met_fitting : Fitting (kind_of ρ.kind) (λ p. width_at ws (word ρ p)) ρ.k → T (is_fitting ws ρ)
  unfolding is_fitting
  met_fitting h = met_fits (class (kind_of ρ.kind)) _ _ h
