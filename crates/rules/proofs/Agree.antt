-- A table without open bits is tight just where its values make all rules hold; and tight tables under more rules, or under the same in another order.
use mathlib.Core.List.{List}
use Prim.Native.Nat.{ℕ}
use Rattle.words.specs.Table.{Table, point}
use Rattle.rules.specs.Tight.{Rule, Tight, AllHold, rule, RulesIn}
use Rattle.rules.proofs.Tight.{holds_tight, tight_holds}

-- a fixed table is tight just where the rules hold
pub record Agree (Tight : Table → Type 0) (Holds : List ℕ → Type 0) : Type 0 where
  pub tight_of : (v : List ℕ) → Holds v → Tight (point v)
  pub holds_of : (v : List ℕ) → Tight (point v) → Holds v

pub tight_agree : (w : List ℕ) (rs : List Rule) → Agree (Tight w rs) (AllHold w rs)
tight_agree w rs = record {
  tight_of = λ v h. record { each = λ n l. holds_tight w v (rule rs n) (h.each n l) };
  holds_of = λ v h. record { each = λ n l. tight_holds w v (rule rs n) (h.each n l) };
}

module _ {w : List ℕ} {rs rs' : List Rule} (e : RulesIn rs rs') where
  pub tight_listed : (t : Table) → Tight w rs' t → Tight w rs t
  tight_listed t h = record { each = λ n l. rw (e.equal n l) at (h.each (e.number n l) (e.reached n l)) }
