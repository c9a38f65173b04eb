-- The problem in a proper file, judged: its refusal, or its words and rules as they are stored.
use mathlib.Core.Path.{◌≡◌, refl, sym, ◌∙◌}
use mathlib.Core.List.{List}
use Prim.Native.Nat.{ℕ}
use Rattle.std.specs.Prelude.{Ok, Err}
use Rattle.checker.specs.declared.refusal.Refusal.{Refusal}
use Rattle.checker.specs.declared.refusal.Refusal.TheVariants.{Size}
use Rattle.checker.specs.Refusal.{Checked, refusal_with}
use Rattle.blocks.specs.declared.Problem.{Problem}
use Rattle.lists.specs.Lists.{put}
use Rattle.blocks.specs.Edition.{edition1}
use Rattle.blocks.specs.File.{ProperFile}
use Rattle.blocks.specs.Decode.{words_in, rules_in}
use Rattle.blocks.specs.Promise.{Room, problem_of, Reads}
use Rattle.blocks.proofs.WriteBack.{count_words, count_rules, proper_written}
use Rattle.reader.specs.Scans.{Scanned}

pub judged : (l : ℕ) (ws bs ws' bs' : List ℕ) {r : Checked} → ws ≡ ws' → bs ≡ bs' → r ≡ refusal_with l ws bs → r ≡ refusal_with l ws' bs'
judged l ws bs ws' bs' e d h = cc

module _ {f a b : List ℕ} {x : Problem} {j : Checked} (room : Room a b) (proper : ProperFile edition1 f x.words x.rules x.limit)
    (told : j ≡ refusal_with x.limit (words_in f x.words) (rules_in f x.words x.rules)) where
  pub kept_refused : {r : Refusal} → j ≡ Err r → Reads edition1 f a b a b (Err r)
  kept_refused e = Reads.refused room (proper_written proper) (sym told ∙ e) refl refl

  counted : x ≡ problem_of x.limit (words_in f x.words) (rules_in f x.words x.rules)
  counted =
      let w = sym (count_words f x.words) in
      let r = sym (count_rules f x.words x.rules) in
      λ i. record { words = w i; rules = r i; limit = x.limit }

  pub kept_ok : {y z : List ℕ} → j ≡ Ok tt → y ≡ put a 0 (words_in f x.words) → z ≡ put b 0 (rules_in f x.words x.rules)
      → Reads edition1 f a b y z (Ok x)
  kept_ok e p q = Reads.ok room (proper_written proper) (sym told ∙ e) counted p q

-- ---- what the scan answered

module _ {f a b : List ℕ} where
  pub scan_refused : {r : Refusal} → Room a b → Scanned f (Err r) → Reads edition1 f a b a b (Err r)
  scan_refused room (Scanned.size n) = Reads.size (λ w. n w.1) refl refl
  scan_refused room (Scanned.fault w x) = Reads.fault room w x refl refl

  pub too_short : ¬ Room a b → Reads edition1 f a b a b (Err Size)
  too_short n = Reads.size (λ w. n w.0) refl refl
