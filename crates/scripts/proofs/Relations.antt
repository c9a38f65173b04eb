-- Relations of two terms through their numbers: as SMT-LIB has them, as their rules have them, and negated.
use mathlib.Core.Path.{◌≡◌, refl, sym, ◌∙◌}
use mathlib.Core.Logic.{◌≢◌, ◌⊎◌, inl, inr, ◌↔◌}
use mathlib.Core.List.{List}
use Prim.Native.Nat.{ℕ, ◌/◌, ◌%◌, ◌^◌, ◌≤◌, ◌<◌}
use native.Mathlib.Nat.{mod-eq_of_lt, div-one}
use native.Mathlib.Omega.{arith}
use native.Mathlib.Decide.{dec_lt, ℕ_discrete}
use lib.Dec.{T}
use lib.ListN.{length}
use Rattle.lists.specs.Lists.{at}
use Rattle.rules.specs.Kinds.{R, A, B, S, Rel, ULE, ULT, NE, rel, kind_of}
use Rattle.rules.specs.Rows.{uses}
use Rattle.rules.specs.SmtLib.{Vector, OfSize, Equal, bv2nat}
use Rattle.rules.specs.Tight.{word, HoldsAt}
use Rattle.rules.proofs.KindNumbers.{kind_rel, rel_number_lem}
use Rattle.rules.specs.ProperProblem.{Fields, ProperRule}
use Rattle.rules.proofs.SmtLibNumbers.{bv2nat_equal, nat2bv_unique}
use Rattle.scripts.specs.Tree.{Relation, equals, distinct, bvule, bvult, bvuge, bvugt}
use Rattle.scripts.specs.Denotes.{Related}
use Rattle.scripts.specs.Draft.{relating_rule}
use Rattle.scripts.specs.Making.{relation_rule, opposite}

-- a holds of two numbers
abbrev pub Numbers : Relation → ℕ → ℕ → Type 0
Numbers equals x y = x ≡ y
Numbers distinct x y = x ≢ y
Numbers bvule x y = x ≤ y
Numbers bvult x y = x < y
Numbers bvuge x y = y ≤ x
Numbers bvugt x y = y < x

-- ---- as SMT-LIB has it

module _ (m : ℕ) (a b : Vector) (sa : OfSize m a) (sb : OfSize m b) where
  from_le : (bv2nat m a < bv2nat m b) ⊎ Equal m a b → bv2nat m a ≤ bv2nat m b
  from_le (inl l) = omega arith
  from_le (inr e) = omega (arith, bv2nat_equal m a b e)

  to_le : bv2nat m a ≤ bv2nat m b → Dec (bv2nat m a < bv2nat m b) → (bv2nat m a < bv2nat m b) ⊎ Equal m a b
  to_le l (yes h) = inl h
  to_le l (no h) = inr (nat2bv_unique m a b sa sb (omega arith))

pub related_numbers : (c : Relation) (m : ℕ) (a b : Vector) → OfSize m a → OfSize m b → Related c m a b ↔ Numbers c (bv2nat m a) (bv2nat m b)
related_numbers equals m a b sa sb = (bv2nat_equal m a b, nat2bv_unique m a b sa sb)
related_numbers distinct m a b sa sb = (λ n e. n (nat2bv_unique m a b sa sb e), λ n e. n (bv2nat_equal m a b e))
related_numbers bvule m a b sa sb = (from_le m a b sa sb, λ l. to_le m a b sa sb l (dec_lt (bv2nat m a) (bv2nat m b)))
related_numbers bvult m a b sa sb = (λ l. l, λ l. l)
related_numbers bvuge m a b sa sb = (from_le m b a sb sa, λ l. to_le m b a sb sa l (dec_lt (bv2nat m b) (bv2nat m a)))
related_numbers bvugt m a b sa sb = (λ l. l, λ l. l)

-- ---- negated

pub opposite_numbers : (c : Relation) (x y : ℕ) → (¬ Numbers c x y) ↔ Numbers (opposite c) x y
opposite_numbers equals x y = (λ n. n, λ n. n)
opposite_numbers distinct x y = (λ n. go n (ℕ_discrete x y), λ e n. n e)
  where
    go : ¬ (x ≢ y) → Dec (x ≡ y) → x ≡ y
    go n (yes e) = e
    go n (no d) = absurd (n d)
opposite_numbers bvule x y = omega arith
opposite_numbers bvult x y = omega arith
opposite_numbers bvuge x y = omega arith
opposite_numbers bvugt x y = omega arith

-- ---- as the rule has it

pub rule_numbers : (c : Relation) (w v : List ℕ) (x y : ℕ) → at w x ≡ at w y → at v y < 2 ^ at w y
    → HoldsAt w v (relation_rule c x y) ↔ Numbers c (at v x) (at v y)
unfolding kind_of
rule_numbers equals w v x y e l = (λ h. h ∙ whole, λ h. h ∙ sym whole)
  where
    whole : at v y / 2 ^ 0 % 2 ^ at w x ≡ at v y
    whole = rw (e, div-one (at v y)) (mod-eq_of_lt l)
rule_numbers distinct w v x y e l = (λ h. h, λ h. h)
rule_numbers bvule w v x y e l = (λ h. h, λ h. h)
rule_numbers bvult w v x y e l = (λ h. h, λ h. h)
rule_numbers bvuge w v x y e l = (λ h. h, λ h. h)
rule_numbers bvugt w v x y e l = (λ h. h, λ h. h)

-- ---- and the rule is proper

module _ (w : List ℕ) (x y : ℕ) (lx : x < length w) (ly : y < length w) (e : at w x ≡ at w y) where
  slice_proper : ProperRule w (relation_rule equals x y)
  unfolding kind_of
  slice_proper = record {
    kind = omega arith;
    fields = record {
      used = λ p. elim p as (λ q. T (uses (kind_of (relation_rule equals x y).kind) q) → word (relation_rule equals x y) q < length w)
          [ R ↦ λ u. lx | A ↦ λ u. ly | B ↦ λ u. absurd u | S ↦ λ u. absurd u ];
      unused = λ p. elim p as (λ q. ¬ T (uses (kind_of (relation_rule equals x y).kind) q) → word (relation_rule equals x y) q ≡ 0)
          [ R ↦ λ n. absurd (n tt) | A ↦ λ n. absurd (n tt) | B ↦ λ n. refl | S ↦ λ n. refl ];
      unused_k = λ n. refl;
    };
    fit = omega arith;
  }

relating_fields : (c : Rel) (w : List ℕ) (x y : ℕ) → x < length w → y < length w → Fields (length w) (relating_rule c x y)
relating_fields c w x y lx ly = record {
  used = rw (kind_rel c) (λ p. elim p as (λ q. T (uses (rel c) q) → word (relating_rule c x y) q < length w)
      [ R ↦ λ u. absurd u | A ↦ λ u. lx | B ↦ λ u. ly | S ↦ λ u. absurd u ]);
  unused = rw (kind_rel c) (λ p. elim p as (λ q. ¬ T (uses (rel c) q) → word (relating_rule c x y) q ≡ 0)
      [ R ↦ λ n. refl | A ↦ λ n. absurd (n tt) | B ↦ λ n. absurd (n tt) | S ↦ λ n. refl ]);
  unused_k = λ n. refl;
}

relating_proper : (c : Rel) (w : List ℕ) (x y : ℕ) → x < length w → y < length w → at w x ≡ at w y → ProperRule w (relating_rule c x y)
relating_proper c w x y lx ly e = record { kind = rel_number_lem c; fields = relating_fields c w x y lx ly; fit = rw (kind_rel c) e }

pub relation_proper : (c : Relation) (w : List ℕ) (x y : ℕ) → x < length w → y < length w → at w x ≡ at w y → ProperRule w (relation_rule c x y)
relation_proper equals w x y lx ly e = slice_proper w x y lx ly e
relation_proper distinct w x y lx ly e = relating_proper NE w x y lx ly e
relation_proper bvule w x y lx ly e = relating_proper ULE w x y lx ly e
relation_proper bvult w x y lx ly e = relating_proper ULT w x y lx ly e
relation_proper bvuge w x y lx ly e = relating_proper ULE w y x ly lx (sym e)
relation_proper bvugt w x y lx ly e = relating_proper ULT w y x ly lx (sym e)

pub relation_amount : (c : Relation) (x y : ℕ) → (relation_rule c x y).k < 256
relation_amount equals x y = omega arith
relation_amount distinct x y = omega arith
relation_amount bvule x y = omega arith
relation_amount bvult x y = omega arith
relation_amount bvuge x y = omega arith
relation_amount bvugt x y = omega arith
