-- Steps of tightening one after the other: a step for P and then one for Q is a step for both.
use mathlib.Core.Path.{◌≡◌, refl, sym, ap, ap₂, ◌∙◌}
use mathlib.Core.Bool.{Bool, true, false, ◌||◌}
use Prim.Native.Nat.{ℕ, ◌<◌}
use native.Mathlib.Omega.{arith}
use Rattle.std.proofs.Common.{Option, None, Some}
use Rattle.words.specs.Table.{Table, Inside}
use Rattle.words.specs.Count.{open_below}
use Rattle.words.proofs.Tables.{inside_trans}
use Rattle.words.proofs.Falls.{open_less}
use Rattle.rules.specs.Tightening.{Conflict}
use Rattle.tighten.specs.Stepping.{Stepped}

pub true_false : true ≡ false → ⊥
true_false e = let z : ◌≡◌ {A = ℕ} 0 1 = cc in omega arith

pub or_false : (a b : Bool) → a || b ≡ false → (a ≡ false) × (b ≡ false)
or_false true b e = absurd (true_false e)
or_false false b e = (refl, e)

pub none_some : {a : Bool} → None ≡ Some a → ⊥
none_some e = cc

pub some_same : {a b : Bool} → Some a ≡ Some b → a ≡ b
some_same e = cc

module _ {P Q : Table → Type 0} {n : ℕ} {t u v : Table} {c : Bool} (ok : Inside t t) (x : Stepped P n t u (Some c)) where
  -- the second step has no fit
  pub stepped_none : Stepped Q n u v None → Conflict (λ s. P s × Q s) t
  stepped_none y = record { nothing = λ s q p. (y.none refl).nothing s q.1 (x.all refl s q.0 p) }

  pub stepped_then : {d : Bool} → Stepped Q n u v (Some d) → Stepped (λ s. P s × Q s) n t v (Some (c || d))
  stepped_then {d} y = record {
    none = λ e. absurd (true_false e);
    inside = λ e. inside_trans (y.inside refl) (x.inside refl);
    all = λ e s q p. y.all refl s q.1 (x.all refl s q.0 p);
    same = λ e. let (a, b) = neither (some_same e) in y.same b ∙ x.same a;
    tight = λ e. let (a, b) = neither (some_same e) in (x.tight a, rw (x.same a) at (y.tight b));
    less = λ e. falls c d refl refl (some_same e);
  }
    where
      neither : c || d ≡ false → (Some c ≡ Some false) × (Some d ≡ Some false)
      neither f = let (a, b) = or_false c d f in (ap Some a, ap Some b)

      falls : (a b : Bool) → c ≡ a → d ≡ b → c || d ≡ true → open_below n v < open_below n t
      falls true true p q f = omega (arith, x.less (ap Some p), y.less (ap Some q))
      falls true false p q f = omega (arith, x.less (ap Some p), ap (open_below n) (y.same (ap Some q)))
      falls false true p q f = omega (arith, open_less ok (x.inside refl) n, y.less (ap Some q))
      falls false false p q f = absurd (true_false (sym f ∙ ap₂ ◌||◌ p q))

-- another notion that says the same
pub stepped_same : {P Q : Table → Type 0} {n : ℕ} {t u : Table} {r : Option Bool} → ((s : Table) → P s → Q s) → ((s : Table) → Q s → P s)
    → Stepped P n t u r → Stepped Q n t u r
stepped_same {t = t} to from x = record {
  none = λ e. record { nothing = λ s q. (x.none e).nothing s (from s q) };
  inside = x.inside;
  all = λ e s q. x.all e s (from s q);
  same = x.same;
  tight = λ e. to t (x.tight e);
  less = x.less;
}
