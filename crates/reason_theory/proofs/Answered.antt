-- What a rule says of a bit, computed by going through every fit: every question about a legal rule has an answer.
use mathlib.Core.Path.{◌≡◌, refl, sym, ap, ◌∙◌}
use mathlib.Core.Bool.{Bool}
use mathlib.Core.List.{List, [], ◌∷◌}
use Prim.Native.Nat.{ℕ, zero, suc, ◌^◌, ◌<◌}
use native.Mathlib.Omega.{arith}
use lib.Dec.{T, eqb, eqb→eq, eqb_refl}
use Rattle.words.specs.Bits.{bit}
use Rattle.words.proofs.Order.{bit_lt}
use Rattle.rules.specs.Kinds.{Place}
use Rattle.rules.specs.Meaning.{Shape}
use Rattle.rules.specs.Fits.{Span, Uses, Legal, Fit, Hull}
use Rattle.lists.proofs.Every.{any_none}
use Rattle.rules.proofs.Listing.{fits, fits_sound, fits_complete}
use Rattle.rules.proofs.ListedHull.{meet, join, fits_hull}
use Rattle.reason_theory.specs.Says.{Answer, CONFLICT, FORCED, FREE, Says, says_conflict, says_forced, says_free}
use Rattle.reason_theory.proofs.One.{one_answer}

-- by the bit in what all fits have, and in what any has
abbrev pub by_bits : ℕ → ℕ → Answer
by_bits zero zero = FORCED 0
by_bits zero (suc h) = FREE
by_bits (suc l) h = FORCED 1

abbrev pub by_fits : Place → ℕ → List (Place → ℕ) → Answer
by_fits p j [] = CONFLICT
by_fits p j (f ∷ l) = by_bits (bit (meet p f l) j) (bit (join p f l) j)

unfoldable pub answer_of : Shape → Span → Place → ℕ → Answer
unfolding fits bit
answer_of σ t p j = by_fits p j (fits σ t)

pub answer_right : {σ : Shape} {t : Span} (p : Place) (j : ℕ) → Legal σ t → Uses σ p → Says σ t p j (answer_of σ t p j)
unfolding answer_of
answer_right {σ} {t} p j legal u = go (fits σ t) refl
  where
    widths : (q : Place) → Uses σ q → t.hi q < 2 ^ σ.width q
    widths q v = (legal.bounded q v).below

    by : (f : Place → ℕ) (l : List (Place → ℕ)) → Fit σ t f → Hull σ t p (meet p f l) (join p f l)
        → (x y : ℕ) → bit (meet p f l) j ≡ x → bit (join p f l) j ≡ y → Says σ t p j (by_bits x y)
    by f l fit h zero zero ex ey = says_forced 0 fit (λ g git. omega (arith, (h.to g git).bits j))
    by f l fit h zero (suc y) ex ey =
        let (g, git, e) = h.off j ex in
        let (k, kit, d) = h.on j (omega (arith, bit_lt (join p f l) j)) in
        says_free git kit (omega arith)
    by f l fit h (suc x) y ex ey = says_forced 1 fit (λ g git. omega (arith, (h.from g git).bits j, bit_lt (g p) j))

    go : (fs : List (Place → ℕ)) → fits σ t ≡ fs → Says σ t p j (by_fits p j fs)
    go [] e = says_conflict (λ f h. any_none (rw e at (fits_complete σ t widths f h)))
    go (f ∷ l) e = by f l (rw e at (fits_sound σ t)).0 (fits_hull σ t widths f l e p u) _ _ refl refl

-- and no other answer is allowed
pub answer_only : {σ : Shape} {t : Span} {x : Answer} (p : Place) (j : ℕ) → Legal σ t → Uses σ p → Says σ t p j x → x ≡ answer_of σ t p j
answer_only p j legal u s = one_answer s (answer_right p j legal u)

-- ---- whether two answers are the same

-- answers by numbers, and back
abbrev pub answer_no : Answer → ℕ
answer_no CONFLICT = 0
answer_no FREE = 1
answer_no (FORCED b) = suc (suc b)

numbered : ℕ → Answer
numbered zero = CONFLICT
numbered (suc zero) = FREE
numbered (suc (suc b)) = FORCED b

answer_of_lem : (x : Answer) → numbered (answer_no x) ≡ x
unfolding numbered
answer_of_lem CONFLICT = refl
answer_of_lem FREE = refl
answer_of_lem (FORCED b) = refl

abbrev pub sameb : Answer → Answer → Bool
sameb x y = eqb (answer_no x) (answer_no y)

pub same_sound : (x y : Answer) → T (sameb x y) → x ≡ y
same_sound x y t = sym (answer_of_lem x) ∙ ap numbered (eqb→eq _ _ t) ∙ answer_of_lem y

pub same_refl : (x : Answer) → T (sameb x x)
same_refl x = eqb_refl (answer_no x)
