-- Bytes that are 0, one more a turn; records with their gaps, as they were looked at.
use mathlib.Core.Path.{◌≡◌, sym, subst, ◌∙◌}
use mathlib.Core.List.{List}
use Prim.Native.Nat.{ℕ, ◌+◌, ◌*◌, ◌<◌, ◌≤◌}
use native.Mathlib.Nat.{zero-add}
use native.Mathlib.Decide.{dec_lt}
use native.Mathlib.Omega.{arith}
use lib.ListN.{length}
use Rattle.std.proofs.Common.{Bool, true, false, MatchBool}
use Rattle.std.proofs.lemmas.List.FromFn.{get_or-range_with_len, length-range_with_len}
use Rattle.std.specs.List.{AllWithin, HoldsAt, range_with_len}
use Rattle.lists.specs.Lists.{at}
use Rattle.lists.specs.Tests.{Decides, holds, fails}
use Rattle.lists.proofs.Deciding.{decides_as}
use Rattle.blocks.specs.Block.{Clear, Records}
use Rattle.reader.specs.Tests.{Gaps}

-- bytes that are 0, one more a turn
pub clear_none : (b : List ℕ) (a : ℕ) → Clear b a a
clear_none b a = record { zero_at = λ x h l. absurd (omega arith) }

pub clear_more : (b : List ℕ) (a x : ℕ) → Clear b a x → at b x ≡ 0 → Clear b a (x + 1)
clear_more b a x h e = record { zero_at = λ y p q. go y p q (dec_lt y x) }
  where
    go : (y : ℕ) → a ≤ y → y < x + 1 → Dec (y < x) → at b y ≡ 0
    go y p q (yes l) = h.zero_at y p l
    go y p q (no l) = let z : y ≡ x = omega arith in rw z e

pub clear_all : (b : List ℕ) (a x y : ℕ) → Clear b a x → y ≤ x → Clear b a y
clear_all b a x y h l = record { zero_at = λ z p q. h.zero_at z p (omega arith) }

-- the records that were looked at, all clear or one of them not
pub gaps_decided : (size used c : ℕ) (b : List ℕ) (r : Bool)
    → MatchBool r (AllWithin (λ j. Clear b (8 + size * j + used) (8 + size * j + 8)) (range_with_len 0 c) 0 (length (range_with_len 0 c)))
    ((k : ℕ) × (k < length (range_with_len 0 c)) × HoldsAt (λ j. ¬ Clear b (8 + size * j + used) (8 + size * j + 8)) (range_with_len 0 c) k)
    → Decides (Gaps size used c b) r
gaps_decided size used c b true m =
    let n = length-range_with_len 0 c in
    holds (record {
      clear = λ j h.
          subst (λ i. Clear b (8 + size * i + used) (8 + size * i + 8)) (get_or-range_with_len 0 c j 0 h ∙ zero-add j) (m j 0 (omega arith) (omega arith));
    })
gaps_decided size used c b false (k, p, h) =
    let n = length-range_with_len 0 c in
    let i : k < c = omega arith in
    fails (λ z. h 0 (subst (λ j. Clear b (8 + size * j + used) (8 + size * j + 8)) (sym (get_or-range_with_len 0 c k 0 i ∙ zero-add k)) (z.clear k i)))

-- records are not there where a test before them fails, and else as the last one tells
pub records_fail : (size used most c : ℕ) (b : List ℕ) → (0 < c → c ≤ most → ¬ Gaps size used c b) → Decides (Records size used most c b) false
records_fail size used most c b n = fails (λ r. n r.some r.fits (record { clear = r.gaps }))

pub records_rest : (size used most c : ℕ) (b : List ℕ) {r : Bool} → 0 < c → c ≤ most → Gaps size used c b → Decides (Clear b (8 + size * c) 512) r
    → Decides (Records size used most c b) r
records_rest size used most c b p q g = decides_as (λ z. record { some = p; fits = q; gaps = g.clear; rest = z }) (λ r. r.rest)
