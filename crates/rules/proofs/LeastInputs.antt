-- There is a least number of words that are inputs: whether a word follows from those before it can be decided.
use mathlib.Core.Path.{◌≡◌, refl, subst, ap}
use mathlib.Core.Logic.{◌⊎◌, inl, inr}
use mathlib.Core.Bool.{Bool, true, false}
use mathlib.Core.List.{List}
use Prim.Native.Nat.{ℕ, zero, suc, ◌≤◌, ◌<◌}
use native.Mathlib.Omega.{arith}
use native.Mathlib.Decide.{dec_lt, ℕ_discrete}
use lib.Dec.{T}
use lib.ListN.{length}
use Rattle.words.specs.Bits.{bit}
use Rattle.words.specs.Table.{Table, Inside, Open}
use Rattle.lists.specs.Lists.{at}
use Rattle.words.proofs.Between.{open_between}
use Rattle.rules.specs.Kinds.{Place, R, A, B, S, kind_of}
use Rattle.rules.specs.Rows.{uses}
use Rattle.rules.specs.Tight.{Rule, word, rule}
use Rattle.rules.specs.Inputs.{Computes, Computed, Inputs}
use Rattle.rules.proofs.Used.{A≢R, B≢R, S≢R}

-- ---- numbers with a property that can be decided

unfoldable pub some_below : (P : ℕ → Type 0) → ((n : ℕ) → Dec (P n)) → (k : ℕ) → Dec ((n : ℕ) × (n < k) × P n)
some_below P dec zero = no (λ x. absurd (omega (arith, x.1)))
some_below P dec (suc k) = go (dec k) (some_below P dec k)
  where
    go : Dec (P k) → Dec ((n : ℕ) × (n < k) × P n) → Dec ((n : ℕ) × (n < suc k) × P n)
    go (yes p) y = yes (k, omega arith, p)
    go (no n) (yes x) = yes (x.0, omega (arith, x.1), x.2)
    go (no n) (no f) = no (λ x. split x (ℕ_discrete x.0 k))
      where
        split : (x : (n : ℕ) × (n < suc k) × P n) → Dec (x.0 ≡ k) → ⊥
        split x (yes e) = n (subst P e x.2)
        split x (no d) = f (x.0, omega (arith, x.1), x.2)

-- from some m on the property holds as far as n, and from no smaller one
unfoldable pub least_from : (P : ℕ → Type 0) → ((i : ℕ) → Dec (P i)) → (n : ℕ)
    → (m : ℕ) × ((i : ℕ) → m ≤ i → i < n → P i) × ((k : ℕ) → ((i : ℕ) → k ≤ i → i < n → P i) → m ≤ k)
least_from P dec n = down n (omega arith) (λ i l k. absurd (omega arith))
  where
    down : (m : ℕ) → m ≤ n → ((i : ℕ) → m ≤ i → i < n → P i)
        → (m : ℕ) × ((i : ℕ) → m ≤ i → i < n → P i) × ((k : ℕ) → ((i : ℕ) → k ≤ i → i < n → P i) → m ≤ k)
    down zero l h = (0, h, λ k q. omega arith)
    down (suc m) l h = go (dec m) (λ q. down m (omega arith) q)
      where
        go : Dec (P m)
            → (((i : ℕ) → m ≤ i → i < n → P i) → (m : ℕ) × ((i : ℕ) → m ≤ i → i < n → P i) × ((k : ℕ) → ((i : ℕ) → k ≤ i → i < n → P i) → m ≤ k))
            → (m : ℕ) × ((i : ℕ) → m ≤ i → i < n → P i) × ((k : ℕ) → ((i : ℕ) → k ≤ i → i < n → P i) → m ≤ k)
        go (yes p) rest = rest (λ i a b. at_least i a b (ℕ_discrete i m))
          where
            at_least : (i : ℕ) → m ≤ i → i < n → Dec (i ≡ m) → P i
            at_least i a b (yes e) = rw e p
            at_least i a b (no d) = h i (omega arith) b
        go (no f) rest = (suc m, h, λ k q. over k q (dec_lt m k))
          where
            over : (k : ℕ) → ((i : ℕ) → k ≤ i → i < n → P i) → Dec (m < k) → suc m ≤ k
            over k q (yes a) = a
            over k q (no a) = absurd (f (q m (omega arith) l))

-- ---- words that follow

module _ (ρ : Rule) (i : ℕ) where
  unfoldable pub dec_used : (p : Place) → Dec (T (uses (kind_of ρ.kind) p) → word ρ p < i)
  dec_used p = go (uses (kind_of ρ.kind) p) (dec_lt (word ρ p) i)
    where
      go : (b : Bool) → Dec (word ρ p < i) → Dec (T b → word ρ p < i)
      go false x = yes (λ u. absurd u)
      go true (yes l) = yes (λ u. l)
      go true (no n) = no (λ h. n (h tt))

  unfoldable pub dec_computes : Dec (Computes ρ i)
  dec_computes = go (uses (kind_of ρ.kind) R) refl (ℕ_discrete ρ.r i) (dec_used A) (dec_used B) (dec_used S)
    where
      go : (b : Bool) → uses (kind_of ρ.kind) R ≡ b → Dec (ρ.r ≡ i) → Dec (T (uses (kind_of ρ.kind) A) → ρ.a < i)
          → Dec (T (uses (kind_of ρ.kind) B) → ρ.b < i) → Dec (T (uses (kind_of ρ.kind) S) → ρ.s < i) → Dec (Computes ρ i)
      go false e x a b s = no (λ c. subst T e c.computing)
      go true e (no n) a b s = no (λ c. n c.result)
      go true e (yes x) (no n) b s = no (λ c. n (λ u. c.below A u A≢R))
      go true e (yes x) (yes a) (no n) s = no (λ c. n (λ u. c.below B u B≢R))
      go true e (yes x) (yes a) (yes b) (no n) = no (λ c. n (λ u. c.below S u S≢R))
      go true e (yes x) (yes a) (yes b) (yes s) =
          yes (record {
            computing = rw e tt;
            result = x;
            below = λ p. elim p as (λ q. T (uses (kind_of ρ.kind) q) → (q ≡ R → ⊥) → word ρ q < i)
                [ R ↦ λ u d. absurd (d refl) | A ↦ λ u d. a u | B ↦ λ u d. b u | S ↦ λ u d. s u ];
          })

module _ (rs : List Rule) (t : Table) (whole : Inside t t) where
  unfoldable pub dec_computed : (i : ℕ) → Dec (Computed rs i)
  dec_computed i = go (some_below (λ n. Computes (rule rs n) i) (λ n. dec_computes (rule rs n) i) (length rs))
    where
      go : Dec ((n : ℕ) × (n < length rs) × Computes (rule rs n) i) → Dec (Computed rs i)
      go (yes x) = yes (record { number = x.0; listed = x.1; computes = x.2 })
      go (no f) = no (λ c. f (c.number, c.listed, c.computes))

  unfoldable pub dec_follows : (i : ℕ) → Dec (((j : ℕ) → ¬ Open t i j) ⊎ Computed rs i)
  dec_follows i = go (ℕ_discrete (at t.lo i) (at t.hi i)) (dec_computed i)
    where
      go : Dec (at t.lo i ≡ at t.hi i) → Dec (Computed rs i) → Dec (((j : ℕ) → ¬ Open t i j) ⊎ Computed rs i)
      go (yes e) c = yes (inl (λ j o. omega (arith, o.off, o.on, ap (λ (x : ℕ). bit x j) e)))
      go (no d) (yes c) = yes (inr c)
      go (no d) (no n) = no neither
        where
          neither : ((j : ℕ) → ¬ Open t i j) ⊎ Computed rs i → ⊥
          neither (inl f) = let (j, off, on) = open_between (whole.mid i) d in f j (record { off = off; on = on })
          neither (inr c) = n c

  unfoldable pub least_inputs : (m : ℕ) × Inputs rs t m × ((k : ℕ) → Inputs rs t k → m ≤ k)
  unfolding least_from dec_follows dec_computed some_below dec_computes dec_used dec_lt ℕ_discrete kind_of
  least_inputs =
      let (m, h, l) = least_from (λ i. ((j : ℕ) → ¬ Open t i j) ⊎ Computed rs i) dec_follows (length t.lo) in
      (m, record { follows = h }, λ k x. l k x.follows)
