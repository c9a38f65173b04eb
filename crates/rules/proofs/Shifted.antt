-- Shifts of every length. Whatever k is, a shift fits where r and a are of one width, and computes its word r; and r is 0 exactly where k is at or above
-- the width, or the bits of a that stay are all 0.
use mathlib.Core.Path.{◌≡◌, refl, sym, ap, ◌∙◌}
use mathlib.Core.Logic.{◌≢◌, ◌⊎◌, inl, inr, ◌↔◌}
use Prim.Native.Nat.{ℕ, zero, suc, ◌+◌, ◌*◌, ◌^◌, ◌≤◌, ◌<◌, min, ◌-◌}
use native.Mathlib.Nat.{pow-suc}
use native.Mathlib.Omega.{arith}
use native.Mathlib.Decide.{dec_lt}
use lib.Dec.{T}
use lib.Pow.{pow_pos}
use Rattle.words.specs.Bits.{bit}
use Rattle.words.proofs.Order.{bit_high, bit_of_zero, bits_ext}
use Rattle.words.proofs.Ops.{bit_shr, bit_mod_low, bit_mod_high, bit_shl_low, bit_shl_high}
use Rattle.rules.specs.Kinds.{Place, R, A, B, S, SHL, SHR, Kind, op, kind_of}
use Rattle.rules.specs.Rows.{uses, Fitting}
use Rattle.rules.specs.Meaning.{result, Holds}
use Rattle.rules.specs.Tight.{Rule, word}
use Rattle.rules.specs.Inputs.{Computes}
use Rattle.rules.proofs.SmtLibKinds.{shl_out, shr_out}

module _ (w : Place → ℕ) (k : ℕ) where
  pub shl_fits : w R ≡ w A → Fitting (op SHL) w k
  shl_fits e = e

  pub shr_fits : w R ≡ w A → Fitting (op SHR) w k
  shr_fits e = e

  module _ (f : Place → ℕ) where
    -- bit j of a stays where k + j is a bit of r, and comes there
    pub shl_zero : Holds (op SHL) w k f → (f R ≡ 0) ↔ ((w R ≤ k) ⊎ ((j : ℕ) → k + j < w R → bit (f A) j ≡ 0))
    shl_zero h = (to, from)
      where
        moved : (j : ℕ) → k + j < w R → bit (f R) (k + j) ≡ bit (f A) j
        moved j l = ap (λ (n : ℕ). bit n (k + j)) h ∙ bit_mod_low (f A * 2 ^ k) (w R) (k + j) l ∙ bit_shl_high (f A) k j

        to : f R ≡ 0 → (w R ≤ k) ⊎ ((j : ℕ) → k + j < w R → bit (f A) j ≡ 0)
        to z = inr (λ j l. sym (moved j l) ∙ ap (λ (n : ℕ). bit n (k + j)) z ∙ bit_of_zero (k + j))

        stays : ((j : ℕ) → k + j < w R → bit (f A) j ≡ 0) → (i : ℕ) → Dec (i < w R) → Dec (i < k) → bit (f R) i ≡ 0
        stays z i (no n) c = ap (λ (x : ℕ). bit x i) h ∙ bit_mod_high (f A * 2 ^ k) (w R) i (omega arith)
        stays z i (yes l) (yes c) = ap (λ (x : ℕ). bit x i) h ∙ bit_mod_low (f A * 2 ^ k) (w R) i l ∙ bit_shl_low (f A) k i c
        stays z i (yes l) (no c) =
            let e : k + (i - k) ≡ i = omega arith in
            rw e at (moved (i - k) (omega arith) ∙ z (i - k) (omega arith))

        from : (w R ≤ k) ⊎ ((j : ℕ) → k + j < w R → bit (f A) j ≡ 0) → f R ≡ 0
        from (inl l) = h ∙ shl_out w k (f A) (f B) (f S) l
        from (inr z) = bits_ext (f R) 0 (λ i. stays z i (dec_lt i (w R)) (dec_lt i k) ∙ sym (bit_of_zero i))

    -- bit k + j of a stays, and comes to bit j of r
    pub shr_zero : f A < 2 ^ w R → Holds (op SHR) w k f → (f R ≡ 0) ↔ ((w R ≤ k) ⊎ ((j : ℕ) → k + j < w R → bit (f A) (k + j) ≡ 0))
    shr_zero small h = (to, from)
      where
        moved : (j : ℕ) → bit (f R) j ≡ bit (f A) (k + j)
        moved j = ap (λ (n : ℕ). bit n j) h ∙ bit_shr (f A) k j

        to : f R ≡ 0 → (w R ≤ k) ⊎ ((j : ℕ) → k + j < w R → bit (f A) (k + j) ≡ 0)
        to z = inr (λ j l. sym (moved j) ∙ ap (λ (n : ℕ). bit n j) z ∙ bit_of_zero j)

        stays : ((j : ℕ) → k + j < w R → bit (f A) (k + j) ≡ 0) → (j : ℕ) → Dec (k + j < w R) → bit (f A) (k + j) ≡ 0
        stays z j (yes l) = z j l
        stays z j (no n) = bit_high (f A) (w R) (k + j) small (omega arith)

        from : (w R ≤ k) ⊎ ((j : ℕ) → k + j < w R → bit (f A) (k + j) ≡ 0) → f R ≡ 0
        from (inl l) = h ∙ shr_out w k (f A) (f B) (f S) small l
        from (inr z) = bits_ext (f R) 0 (λ j. moved j ∙ stays z j (dec_lt (k + j) (w R)) ∙ sym (bit_of_zero j))

-- ---- a k that no operand of the width can say: the greatest operand gives the same, so each shift is one of SMT-LIB's (`nat2bv_number`)

self_pow : (m : ℕ) → m < 2 ^ m
self_pow zero = omega arith
self_pow (suc m) = omega (arith, self_pow m, pow-suc 2 m)

-- the amount that an operand of size m says
abbrev pub amount : ℕ → ℕ → ℕ
amount m k = min k (2 ^ m - 1)

pub amount_small : (m k : ℕ) → amount m k < 2 ^ m
amount_small m k = omega (arith, pow_pos m)

module _ (w : Place → ℕ) (k a b s : ℕ) where
  -- it is k, or both are the width or more
  said : (amount (w R) k ≡ k) ⊎ ((w R ≤ k) × (w R ≤ amount (w R) k))
  said = go (dec_lt k (2 ^ w R))
    where
      go : Dec (k < 2 ^ w R) → (amount (w R) k ≡ k) ⊎ ((w R ≤ k) × (w R ≤ amount (w R) k))
      go (yes l) = inl (omega arith)
      go (no n) = inr (omega (arith, self_pow (w R)), omega (arith, self_pow (w R)))

  pub shl_amount : result SHL w k a b s ≡ result SHL w (amount (w R) k) a b s
  shl_amount = go said
    where
      go : (amount (w R) k ≡ k) ⊎ ((w R ≤ k) × (w R ≤ amount (w R) k)) → result SHL w k a b s ≡ result SHL w (amount (w R) k) a b s
      go (inl e) = ap (λ (x : ℕ). result SHL w x a b s) (sym e)
      go (inr h) = shl_out w k a b s h.0 ∙ sym (shl_out w (amount (w R) k) a b s h.1)

  pub shr_amount : a < 2 ^ w R → result SHR w k a b s ≡ result SHR w (amount (w R) k) a b s
  shr_amount small = go said
    where
      go : (amount (w R) k ≡ k) ⊎ ((w R ≤ k) × (w R ≤ amount (w R) k)) → result SHR w k a b s ≡ result SHR w (amount (w R) k) a b s
      go (inl e) = ap (λ (x : ℕ). result SHR w x a b s) (sym e)
      go (inr h) = shr_out w k a b s small h.0 ∙ sym (shr_out w (amount (w R) k) a b s small h.1)

-- whatever k is, a shift of a lower-numbered word computes its word r
pub shift_computes : (ρ : Rule) → (kind_of ρ.kind ≡ op SHL) ⊎ (kind_of ρ.kind ≡ op SHR) → ρ.a < ρ.r → Computes ρ ρ.r
shift_computes ρ h l = go h
  where
    below : (u : Place → Type 0) → ¬ u B → ¬ u S → (p : Place) → u p → p ≢ R → word ρ p < ρ.r
    below u b s R x n = absurd (n refl)
    below u b s A x n = l
    below u b s B x n = absurd (b x)
    below u b s S x n = absurd (s x)

    computes : (κ : Kind) → kind_of ρ.kind ≡ κ → T (uses κ R) → ¬ T (uses κ B) → ¬ T (uses κ S) → Computes ρ ρ.r
    computes κ e c b s = record {
      computing = rw e c;
      result = refl;
      below = below (λ p. T (uses (kind_of ρ.kind) p)) (rw e b) (rw e s);
    }

    go : (kind_of ρ.kind ≡ op SHL) ⊎ (kind_of ρ.kind ≡ op SHR) → Computes ρ ρ.r
    go (inl e) = computes (op SHL) e tt (λ x. x) (λ x. x)
    go (inr e) = computes (op SHR) e tt (λ x. x) (λ x. x)
