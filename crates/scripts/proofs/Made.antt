-- Every well-formed term is made right.
use mathlib.Core.Path.{◌≡◌, refl, sym, ◌∙◌}
use mathlib.Core.List.{List}
use Prim.Native.Nat.{ℕ, ◌<◌}
use native.Mathlib.Omega.{arith}
use lib.ListN.{length}
use Rattle.words.specs.Word.{Width}
use Rattle.lists.specs.Lists.{at}
use Rattle.rules.proofs.SmtLibNumbers.{bv2nat_bits, nat2bv_number}
use Rattle.scripts.specs.Tree.{Term, declared, constant, unary, binary, bvsub, ite}
use Rattle.scripts.specs.Sizes.{Formed}
use Rattle.scripts.specs.Draft.{Draft, start}
use Rattle.scripts.specs.Making.{constant_ends, term_ends}
use Rattle.scripts.proofs.ProperDraft.{value_small}
use Rattle.scripts.proofs.Grown.{Ready, grown_refl, grown_trans}
use Rattle.scripts.proofs.Fixed.{constant_grown, constant_there, constant_width, constant_value}
use Rattle.scripts.proofs.TermRight.{WordOf, TermRight, word_later, right_after}
use Rattle.scripts.proofs.Operands.{unary_right, binary_right, bvsub_right, ite_right}

-- a declared word is its own
declared_word : (ws : List ℕ) (i : ℕ) → i < length ws → (p : Draft) → Ready ws p → WordOf ws (declared i) i p
unfolding start
declared_word ws i f p r = record {
  there = omega (arith, r.begun.words);
  width = same;
  reads = λ q v h b s.
      sym (bv2nat_bits (at ws i) (at v i) (rw (b.width i (omega (arith, r.begun.words)) ∙ same) at (value_small v h s i)));
}
  where
    same : at p.widths i ≡ at ws i
    same = r.begun.width i f

constant_right : (ws : List ℕ) (m x : ℕ) → Formed ws (constant m x) → (p : Draft) → Ready ws p → TermRight ws (constant m x) p (constant_ends m x p)
unfolding constant_ends
constant_right ws m x f p r = record {
  grown = constant_grown p m x f.0 f.1 r;
  width = refl;
  word = record {
    there = constant_there p m x;
    width = constant_width p m x;
    reads = λ q v h b s. constant_value p m x r.proper q v b s ∙ sym (nat2bv_number m x f.1);
  };
}

module _ (ws : List ℕ) (fine : (i : ℕ) → i < length ws → Width (at ws i)) where
  pub term_right : (t : Term) → Formed ws t → (p : Draft) → Ready ws p → TermRight ws t p (term_ends t p)
  unfolding term_ends
  term_right (declared i) f p r =
      let w = declared_word ws i f p r in
      record { grown = grown_refl r; width = w.width; word = w }
  term_right (constant m x) f p r = constant_right ws m x f p r
  term_right (unary u t) f p r =
      let a = term_right t f.0 p r in
      right_after a.grown (unary_right ws fine _ a.grown.ready u t _ _ a.width f a.word)
  term_right (binary o s t) f p r =
      let a = term_right s f.0 p r in
      let b = term_right t f.1 (term_ends s p).draft a.grown.ready in
      right_after (grown_trans a.grown b.grown)
      (binary_right ws fine _ b.grown.ready o s t _ _ _ _ a.width b.width f (word_later b.grown.begins a.word) b.word)
  term_right (bvsub s t) f p r =
      let a = term_right s f.0 p r in
      let b = term_right t f.1 (term_ends s p).draft a.grown.ready in
      right_after (grown_trans a.grown b.grown)
      (bvsub_right ws fine _ b.grown.ready s t _ _ f (word_later b.grown.begins a.word) b.word _ a.width)
  term_right (ite c s t) f p r =
      let k = term_right c f.0 p r in
      let a = term_right s f.1 (term_ends c p).draft k.grown.ready in
      let b = term_right t f.2 (term_ends s (term_ends c p).draft).draft a.grown.ready in
      let g = grown_trans a.grown b.grown in
      right_after (grown_trans k.grown g)
      (ite_right ws fine _ b.grown.ready c s t _ _ _ _ a.width f
      (word_later g.begins k.word) (word_later b.grown.begins a.word) b.word)
