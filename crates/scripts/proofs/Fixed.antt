-- What a constant adds: a fixed word.
use mathlib.Core.Path.{◌≡◌, refl, sym, ◌∙◌}
use mathlib.Core.Logic.{inl}
use mathlib.Core.List.{List, [], ◌∷◌, ◌++◌}
use Prim.Native.Nat.{ℕ, ◌^◌, ◌<◌}
use native.Mathlib.Omega.{arith}
use lib.ListN.{length}
use Rattle.words.specs.Word.{Width}
use Rattle.lists.specs.Lists.{at}
use Rattle.words.proofs.Order.{⊑_refl, ⊑_antisym}
use Rattle.scripts.specs.Draft.{Draft, more_word, SettingsOf}
use Rattle.scripts.specs.Making.{constant_ends}
use Rattle.lists.proofs.Snoc.{length_more, at_low, at_new}
use Rattle.scripts.proofs.ProperDraft.{ProperDraft, proper_word}
use Rattle.scripts.proofs.Prefix.{Prefix, prefix_trans, prefix_word}
use Rattle.scripts.proofs.Carried.{word_carried}
use Rattle.scripts.proofs.Follows.{inputs_word, fixed_closed}
use Rattle.scripts.proofs.Grown.{Ready, Grown}

module _ (p : Draft) (m x : ℕ) where
  pub constant_grown : {ws : List ℕ} → Width m → x < 2 ^ m → Ready ws p → Grown ws p (constant_ends m x p).draft
  unfolding constant_ends more_word
  constant_grown w l r = record {
    ready = record {
      proper = proper_word m x x r.proper w (record { under = ⊑_refl x; below = l });
      inputs = inputs_word p.rules m x x r.proper r.inputs (inl (fixed_closed m x r.proper));
      begun = prefix_trans r.begun (prefix_word m x x r.proper);
    };
    begins = prefix_word m x x r.proper;
    on = λ v s. record {
      values = v ++ (x ∷ []);
      settings = word_carried m x x x r.proper s (⊑_refl x) (⊑_refl x);
      same = λ i h. at_low v x 0 i (omega (arith, s.keeps.size, r.proper.table.los));
    };
  }

  pub constant_there : (constant_ends m x p).word < length (constant_ends m x p).draft.widths
  unfolding constant_ends more_word
  constant_there = omega (arith, length_more p.widths m)

  pub constant_width : at (constant_ends m x p).draft.widths (constant_ends m x p).word ≡ m
  unfolding constant_ends more_word
  constant_width = at_new p.widths m 0 (length p.widths) refl

  -- in settings of all that the draft grows into, the word is the constant
  pub constant_value : ProperDraft p → (q : Draft) (v : List ℕ) → Prefix (constant_ends m x p).draft q → SettingsOf q v → at v (constant_ends m x p).word ≡ x
  unfolding constant_ends more_word
  constant_value h q v f s =
      let n = length p.widths in
      let here : n < length (p.widths ++ (m ∷ [])) = omega (arith, length_more p.widths m) in
      let a : at q.table.lo n ≡ x = f.low n here ∙ at_new p.table.lo x 0 n (sym h.table.los) in
      let b : at q.table.hi n ≡ x = f.top n here ∙ at_new p.table.hi x 0 n (sym h.table.his) in
      ⊑_antisym (rw b at (s.keeps.to n)) (rw a at (s.keeps.from n))
