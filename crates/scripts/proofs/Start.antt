-- The declared words alone: a draft without rules, of which all values within the sizes are settings.
use mathlib.Core.Path.{◌≡◌, sym, ◌∙◌}
use mathlib.Core.List.{List, map}
use Prim.Native.Nat.{ℕ, zero, ◌-◌, ◌^◌, ◌<◌}
use native.Mathlib.Omega.{arith}
use native.Mathlib.Decide.{dec_lt}
use lib.ListN.{length, length-map, get_or-map, get_or-eq_default}
use lib.Pow.{pow_pos}
use Rattle.words.specs.Bits.{◌⊑◌}
use Rattle.words.specs.Word.{Width}
use Rattle.lists.specs.Lists.{at}
use Rattle.scripts.specs.Draft.{start, SettingsOf}
use Rattle.scripts.proofs.Prefix.{prefix_refl}
use Rattle.scripts.proofs.Grown.{Ready}
use Rattle.words.proofs.OpenWord.{zero_⊑, ⊑_mask}

module _ (ws : List ℕ) where
  lowest : (i : ℕ) → at (map (λ w. 0) ws) i ≡ 0
  lowest i = get_or-map (λ (w : ℕ). 0) ws i 0

  highest : (i : ℕ) → at (map (λ w. 2 ^ w - 1) ws) i ≡ 2 ^ at ws i - 1
  highest i = get_or-map (λ (w : ℕ). 2 ^ w - 1) ws i 0

  pub start_ready : ((i : ℕ) → i < length ws → Width (at ws i)) → Ready ws (start ws)
  unfolding start
  start_ready fine = record {
    proper = record {
      table = record {
        los = length-map ws (λ w. 0);
        his = length-map ws (λ w. 2 ^ w - 1);
        width = fine;
        bounded = λ i. rw (lowest i, highest i) (record { under = zero_⊑ (2 ^ at ws i - 1); below = omega (arith, pow_pos (at ws i)) });
      };
      each = λ n l. absurd (omega arith);
      amounts = λ n l. absurd (omega arith);
    };
    inputs = record { follows = λ i l k. absurd (omega (arith, length-map ws (λ (w : ℕ). zero))) };
    begun = prefix_refl (start ws);
  }

  pub start_settings : (vs : List ℕ) → length vs ≡ length ws → ((i : ℕ) → i < length ws → at vs i < 2 ^ at ws i) → SettingsOf (start ws) vs
  unfolding start
  start_settings vs e small = record {
    keeps = record {
      size = e ∙ sym (length-map ws (λ w. 0));
      from = λ i. rw (lowest i) (zero_⊑ (at vs i));
      to = λ i. rw (highest i) (go i (dec_lt i (length ws)));
    };
    holds = record { each = λ n l. absurd (omega arith) };
  }
    where
      go : (i : ℕ) → Dec (i < length ws) → at vs i ⊑ 2 ^ at ws i - 1
      go i (yes l) = ⊑_mask (at ws i) (at vs i) (small i l)
      go i (no n) = rw (get_or-eq_default vs 0 {n = i} (omega arith)) (zero_⊑ (2 ^ at ws i - 1))
