-- What holds of a draft on the way through a script, and how it grows.
use mathlib.Core.Path.{◌≡◌, refl, ◌∙◌}
use mathlib.Core.List.{List}
use Prim.Native.Nat.{ℕ, ◌<◌}
use native.Mathlib.Omega.{arith}
use lib.ListN.{length}
use Rattle.lists.specs.Lists.{at}
use Rattle.rules.specs.Inputs.{Inputs}
use Rattle.scripts.specs.Draft.{Draft, start, SettingsOf}
use Rattle.scripts.proofs.ProperDraft.{ProperDraft}
use Rattle.scripts.proofs.Prefix.{Prefix, prefix_refl, prefix_trans}

-- settings of p go on as settings of q
pub record Carried (p q : Draft) (v : List ℕ) : Type 0 where
  pub values : List ℕ
  pub settings : SettingsOf q values
  pub same : (i : ℕ) → i < length p.widths → at values i ≡ at v i

pub carried_refl : {p : Draft} {v : List ℕ} → SettingsOf p v → Carried p p v
carried_refl {p} {v} s = record { values = v; settings = s; same = λ i l. refl }

pub carried_trans : {p q r : Draft} {v : List ℕ} → Prefix p q → (c : Carried p q v) → Carried q r c.values → Carried p r v
carried_trans b c d = record {
  values = d.values;
  settings = d.settings;
  same = λ i l. d.same i (omega (arith, b.words)) ∙ c.same i l;
}

-- the words and rules so far are sound, the declared words are inputs, and stand first
pub record Ready (ws : List ℕ) (p : Draft) : Type 0 where
  pub proper : ProperDraft p
  pub inputs : Inputs p.rules p.table (length ws)
  pub begun : Prefix (start ws) p

-- q is p with more words and rules, and every settings of p go on
pub record Grown (ws : List ℕ) (p q : Draft) : Type 0 where
  pub ready : Ready ws q
  pub begins : Prefix p q
  pub on : (v : List ℕ) → SettingsOf p v → Carried p q v

pub grown_refl : {ws : List ℕ} {p : Draft} → Ready ws p → Grown ws p p
grown_refl {p = p} r = record { ready = r; begins = prefix_refl p; on = λ v s. carried_refl s }

pub grown_trans : {ws : List ℕ} {p q r : Draft} → Grown ws p q → Grown ws q r → Grown ws p r
grown_trans a b = record {
  ready = b.ready;
  begins = prefix_trans a.begins b.begins;
  on = λ v s. let c = a.on v s in carried_trans a.begins c (b.on c.values c.settings);
}
