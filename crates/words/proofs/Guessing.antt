-- The guess of a table, computed: the lowest-numbered word whose bounds differ, and its highest open bit; or that no bit is open.
use mathlib.Core.Path.{◌≡◌, refl, ap, ◌∙◌}
use Prim.Native.Nat.{ℕ, zero, suc, ◌+◌, ◌^◌, ◌≤◌, ◌<◌}
use native.Mathlib.Omega.{arith}
use native.Mathlib.Decide.{dec_lt, ℕ_discrete}
use lib.Bits.{bit_xor}
use lib.ListN.{length}
use Rattle.words.specs.Bits.{bit}
use Rattle.words.specs.Word.{top_open}
use Rattle.words.specs.Table.{Table, Inside, Open, Guess, Done}
use Rattle.lists.specs.Lists.{at}
use Rattle.words.proofs.Order.{bit_of_zero, ⊑_le}
use Rattle.words.proofs.Ops.{bit_xor_lem}
use Rattle.words.proofs.Tables.{in_reach}
use Rattle.words.proofs.Single.{top_open_lem}

pub data Pick : Type 0 where
  nothing_open : Pick
  guess : ℕ → ℕ → Pick

-- where word i has differing bounds, its highest open bit; else what is picked later
abbrev pub or_later : ℕ → ℕ → ℕ → Pick → Pick
or_later zero i j later = later
or_later (suc d) i j later = guess i j

-- the guess among n words from word i on
unfoldable pub pick_from : Table → ℕ → ℕ → Pick
pick_from t i zero = nothing_open
pick_from t i (suc n) = or_later (bit_xor (at t.lo i) (at t.hi i)) i (top_open (at t.lo i) (at t.hi i)) (pick_from t (suc i) n)

unfoldable pub pick : Table → Pick
unfolding pick_from
pick t = pick_from t 0 (length t.lo)

abbrev pub Picked : Table → Pick → Type 0
Picked t nothing_open = Done t
Picked t (guess i j) = Guess t i j

module _ (t : Table) (whole : Inside t t) (short : (i : ℕ) → at t.hi i < 2 ^ 64) where
  -- bounds that do not differ leave no bit open
  shut : (i : ℕ) → bit_xor (at t.lo i) (at t.hi i) ≡ 0 → (b : ℕ) → ¬ Open t i b
  shut i e b o =
      let z : bit (bit_xor (at t.lo i) (at t.hi i)) b ≡ 0 = ap (λ (x : ℕ). bit x b) e ∙ bit_of_zero b in
      omega (arith, bit_xor_lem b (at t.lo i) (at t.hi i), o.off, o.on)

  -- the words below i have no open bit, and those from i + n on are not there
  from_right : (i n : ℕ) → ((k b : ℕ) → k < i → ¬ Open t k b) → ((k b : ℕ) → i + n ≤ k → ¬ Open t k b) → Picked t (pick_from t i n)
  unfolding pick_from
  from_right i zero below past = λ k b o. go k b o (dec_lt k i)
    where
      go : (k b : ℕ) → Open t k b → Dec (k < i) → ⊥
      go k b o (yes l) = below k b l o
      go k b o (no n) = past k b (omega arith) o
  from_right i (suc n) below past =
      go (bit_xor (at t.lo i) (at t.hi i)) refl
      (λ here. from_right (suc i) n (λ k b l. below_suc here k b l (ℕ_discrete k i)) (λ k b l. past k b (omega arith)))
    where
      below_suc : ((b : ℕ) → ¬ Open t i b) → (k b : ℕ) → k < suc i → Dec (k ≡ i) → ¬ Open t k b
      below_suc here k b l (yes e) = rw e (here b)
      below_suc here k b l (no d) = below k b (omega arith)

      lo_short : at t.lo i < 2 ^ 64
      lo_short = omega (arith, ⊑_le _ _ (whole.mid i), short i)

      go : (d : ℕ) → bit_xor (at t.lo i) (at t.hi i) ≡ d → (((b : ℕ) → ¬ Open t i b) → Picked t (pick_from t (suc i) n))
          → Picked t (or_later d i (top_open (at t.lo i) (at t.hi i)) (pick_from t (suc i) n))
      go zero e f = f (shut i e)
      go (suc d) e f =
          let (off, on, above) = top_open_lem (at t.lo i) (at t.hi i) (whole.mid i) (short i) lo_short (omega arith) in
          record {
            here = record { off = off; on = on };
            lowest = λ k b l. below k b l;
            highest = λ b l o. omega (arith, above b l, o.off, o.on);
          }

  pub pick_right : Picked t (pick t)
  unfolding pick
  pick_right = from_right 0 (length t.lo) (λ k b l. absurd (omega arith)) (λ k b l o. omega (arith, in_reach t.hi k b o.on, whole.his))
