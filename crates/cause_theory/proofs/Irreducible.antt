-- A cause is irreducible: every list got by leaving out one or more of its rules has settings, whatever a search at this limit would say of it.
use mathlib.Core.Path.{◌≡◌, refl, sym, ap, ◌∙◌, subst}
use mathlib.Core.Logic.{◌≢◌, ◌⊎◌, inl, inr}
use mathlib.Core.List.{List, [], ◌∷◌, map}
use Prim.Native.Nat.{ℕ, zero, suc, ◌+◌, ◌≤◌, ◌<◌}
use native.Mathlib.Nat.{le_refl}
use native.Mathlib.Omega.{arith}
use lib.ListN.{length, take, get_or-append, length-append, length-map}
use lib.Seq.{get_or-take, get_or-append-add, length-take-le}
use Rattle.words.specs.Table.{Table}
use Rattle.rules.specs.Tight.{Rule, rule, none_rule, HoldsAt, Tight, AllHold}
use Rattle.rules.proofs.Agree.{tight_agree}
use Rattle.lists.specs.Every.{here, there, In}
use Rattle.lists.proofs.Every.{any_none}
use Rattle.search_theory.specs.Settings.{Settings}
use Rattle.search_theory.specs.Search.{found}
use Rattle.search_theory.proofs.Right.{right}
use Rattle.cause_theory.specs.Cause.{CAUSE, trial, Tried, Trims, decided, spared, needed, Causes, trimmed}

-- ---- rules by their numbers

-- rules that hold one by one
hold_each : {w v : List ℕ} (rs : List Rule) (xs : List ℕ) → ((k : ℕ) → In k xs → HoldsAt w v (rule rs k)) → AllHold w (map (rule rs) xs) v
hold_each {w} {v} rs xs h = record { each = go xs h }
  where
    go : (ys : List ℕ) → ((k : ℕ) → In k ys → HoldsAt w v (rule rs k)) → (n : ℕ) → n < length (map (rule rs) ys) → HoldsAt w v (rule (map (rule rs) ys) n)
    go [] f n l = absurd (omega arith)
    go (y ∷ ys) f zero l = f y (here refl)
    go (y ∷ ys) f (suc n) l = go ys (λ k i. f k (there i)) n (omega arith)

rule_map : (rs : List Rule) (xs : List ℕ) (k : ℕ) → In k xs → (n : ℕ) × (n < length xs) × (rule (map (rule rs) xs) n ≡ rule rs k)
rule_map rs [] k x' = elim x' [ ]
rule_map rs (x ∷ xs) k (here e) = (0, omega arith, ap (rule rs) (sym e))
rule_map rs (x ∷ xs) k (there i) = let (n, l, e) = rule_map rs xs k i in (suc n, omega arith, e)

module _ {w v : List ℕ} (rs : List Rule) (n : ℕ) (kept : List ℕ) (size : n ≤ length rs) (h : AllHold w (trial rs n kept) v) where
  -- of the rules of a trial, those that were not decided, and those that were kept
  first_hold : (k : ℕ) → k < n → HoldsAt w v (rule rs k)
  first_hold k l =
      let s = length-take-le n rs size in
      let e : rule (trial rs n kept) k ≡ rule rs k =
      get_or-append (take n rs) (map (rule rs) kept) none_rule k (omega arith) ∙ get_or-take n rs k none_rule l in
      subst (HoldsAt w v) e (h.each k (omega (arith, length-append (take n rs) (map (rule rs) kept))))

  kept_hold : (k : ℕ) → In k kept → HoldsAt w v (rule rs k)
  kept_hold k i =
      let (m, l, e) = rule_map rs kept k i in
      subst (HoldsAt w v) (get_or-append-add (take n rs) (map (rule rs) kept) m none_rule ∙ e)
      (h.each (length (take n rs) + m) (omega (arith, length-append (take n rs) (map (rule rs) kept), length-map kept (rule rs))))

-- ---- what the trials leave

-- the trial by which rule k was kept: there are settings for all the other rules of the cause
pub record Kept (w : List ℕ) (rs : List Rule) (limit : ℕ) (t : Table) (out : List ℕ) (k : ℕ) : Type 0 where
  pub kept : List ℕ
  pub values : List ℕ
  pub count : ℕ
  pub size : k ≤ length rs
  pub tried : Tried w limit t (trial rs k kept) (found values count)
  pub others : (j : ℕ) → In j out → j ≢ k → (j < k) ⊎ In j kept

module _ {w : List ℕ} {rs : List Rule} {limit : ℕ} {t : Table} where
  -- the rules of a cause were not decided yet, or kept
  trims_out : {n c d : ℕ} {kept out : List ℕ} → Trims w rs limit t n kept c (CAUSE out d) → (k : ℕ) → In k out → (k < n) ⊎ In k kept
  trims_out decided k i = inr i
  trims_out (spared s r) k i = go (trims_out r k i)
    where
      go : {n : ℕ} {A : Type 0} → (k < n) ⊎ A → (k < suc n) ⊎ A
      go (inl l) = inl (omega arith)
      go (inr a) = inr a
  trims_out (needed {n = n} {kept = kept} s r) k i = go (trims_out r k i)
    where
      go : (k < n) ⊎ In k (n ∷ kept) → (k < suc n) ⊎ In k kept
      go (inl l) = inl (omega arith)
      go (inr (here e)) = inl (omega arith)
      go (inr (there a)) = inr a

  trims_kept : {n c d : ℕ} {kept out : List ℕ} → Trims w rs limit t n kept c (CAUSE out d) → n ≤ length rs → (k : ℕ) → In k out
      → In k kept ⊎ Kept w rs limit t out k
  trims_kept decided l k i = inl i
  trims_kept (spared s r) l k i = trims_kept r (omega arith) k i
  trims_kept {out = out} (needed {n = n} {d = e} {kept = kept} {v = v} s r) l k i = go (trims_kept r (omega arith) k i)
    where
      this : Kept w rs limit t out n
      this = record { kept = kept; values = v; count = e; size = omega arith; tried = s; others = λ j i d. by j d (trims_out r j i) }
        where
          by : (j : ℕ) → j ≢ n → (j < n) ⊎ In j (n ∷ kept) → (j < n) ⊎ In j kept
          by j d (inl m) = inl m
          by j d (inr (here q)) = absurd (d q)
          by j d (inr (there a)) = inr a

      go : In k (n ∷ kept) ⊎ Kept w rs limit t out k → In k kept ⊎ Kept w rs limit t out k
      go (inl (here q)) = inr (rw q this)
      go (inl (there a)) = inl a
      go (inr x) = inr x

  -- without rule k, and perhaps others, there are settings
  pub cause_irreducible : {d : ℕ} {out : List ℕ} → Causes w rs limit t (CAUSE out d) → (k : ℕ) → In k out
      → (xs : List ℕ) → ((j : ℕ) → In j xs → In j out × (j ≢ k)) → (v : List ℕ) × Settings (AllHold w (map (rule rs) xs)) t v
  cause_irreducible {out = out} (trimmed s r) k i xs part = go (trims_kept r (le_refl (length rs)) k i)
    where
      go : In k [] ⊎ Kept w rs limit t out k → (v : List ℕ) × Settings (AllHold w (map (rule rs) xs)) t v
      go (inl a) = absurd (any_none a)
      go (inr x) =
          let first = right (Tight w (trial rs k x.kept)) (AllHold w (trial rs k x.kept)) (tight_agree w (trial rs k x.kept)) x.tried in
          let hold = hold_each rs xs (λ j a. by j (x.others j (part j a).0 (part j a).1) first.settings.holds) in
          (x.values, record { keeps = first.settings.keeps; holds = hold })
        where
          by : (j : ℕ) → (j < k) ⊎ In j x.kept → AllHold w (trial rs k x.kept) x.values → HoldsAt w x.values (rule rs j)
          by j (inl l) h = first_hold rs k x.kept x.size h j l
          by j (inr a) h = kept_hold rs k x.kept x.size h j a
