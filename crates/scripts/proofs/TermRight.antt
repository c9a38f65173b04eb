-- An operator term is made right where its operands are: its word is there, and in all settings it has the number of what the term denotes.
use mathlib.Core.Path.{◌≡◌, ◌∙◌}
use mathlib.Core.List.{List}
use Prim.Native.Nat.{ℕ, ◌<◌}
use native.Mathlib.Omega.{arith}
use lib.ListN.{length}
use Rattle.lists.specs.Lists.{at}
use Rattle.rules.specs.Kinds.{Op}
use Rattle.rules.specs.Meaning.{result}
use Rattle.rules.specs.SmtLib.{bv2nat}
use Rattle.scripts.specs.Tree.{Term}
use Rattle.scripts.specs.Sizes.{size}
use Rattle.scripts.specs.Denotes.{vector}
use Rattle.scripts.specs.Draft.{Draft, SettingsOf}
use Rattle.scripts.specs.Making.{EndedTerm, computed_ends}
use Rattle.scripts.proofs.ProperDraft.{ProperDraft}
use Rattle.scripts.proofs.Prefix.{Prefix, prefix_trans}
use Rattle.scripts.proofs.Grown.{Ready, Grown, grown_trans}
use Rattle.scripts.proofs.Closes.{row_widths, Closes}
use Rattle.scripts.proofs.Closing.{computed_grown, computed_there, computed_width, computed_size, computed_value}

-- word x of p is the word of the term t: in all settings of what p grows into it has the number of what t denotes
pub record WordOf (ws : List ℕ) (t : Term) (x : ℕ) (p : Draft) : Type 0 where
  pub there : x < length p.widths
  pub width : at p.widths x ≡ size ws t
  pub reads : (q : Draft) (v : List ℕ) → ProperDraft q → Prefix p q → SettingsOf q v → at v x ≡ bv2nat (size ws t) (vector ws v t)

pub word_later : {ws : List ℕ} {t : Term} {x : ℕ} {p q : Draft} → Prefix p q → WordOf ws t x p → WordOf ws t x q
word_later {x = x} b h = record {
  there = omega (arith, h.there, b.words);
  width = b.width x h.there ∙ h.width;
  reads = λ r v proper c s. h.reads r v proper (prefix_trans b c) s;
}

-- the term t, made in p, has ended in e
pub record TermRight (ws : List ℕ) (t : Term) (p : Draft) (e : EndedTerm) : Type 0 where
  pub grown : Grown ws p e.draft
  pub width : e.width ≡ size ws t
  pub word : WordOf ws t e.word e.draft

pub right_after : {ws : List ℕ} {t : Term} {p q : Draft} {e : EndedTerm} → Grown ws p q → TermRight ws t q e → TermRight ws t p e
right_after g h = record { grown = grown_trans g h.grown; width = h.width; word = h.word }

-- a term closed by one rule that computes the number of what the term denotes
pub closed_right : {ws : List ℕ} {p : Draft} (t : Term) (o : Op) (k w a b s : ℕ) → Ready ws p → Closes p o k w a b s → w ≡ size ws t
    → ((q : Draft) (v : List ℕ) → ProperDraft q → Prefix p q → SettingsOf q v
    → result o (row_widths p w a b s) k (at v a) (at v b) (at v s) ≡ bv2nat (size ws t) (vector ws v t))
    → TermRight ws t p (computed_ends o k w a b s p)
closed_right {ws} {p} t o k w a b s r c e h =
    let new : Grown ws p (computed_ends o k w a b s p).draft = computed_grown p o k w a b s c r in
    record {
      grown = new;
      width = computed_size p o k w a b s ∙ e;
      word = record {
        there = computed_there p o k w a b s c;
        width = computed_width p o k w a b s c ∙ e;
        reads = λ q v proper later x. computed_value p o k w a b s c q v later x ∙ h q v proper (prefix_trans new.begins later) x;
      };
    }
