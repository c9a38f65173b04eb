-- All demands are met just where the numbers stand for a proper problem.
use mathlib.Core.Path.{◌≡◌, sym, subst, fun_ext}
use mathlib.Core.List.{List}
use Prim.Native.Nat.{ℕ, ◌%◌, ◌<◌}
use native.Mathlib.Decide.{dec_lt}
use native.Mathlib.Omega.{arith}
use lib.ListN.{length}
use Rattle.words.specs.Word.{Bounded}
use Rattle.lists.specs.Lists.{at}
use Rattle.words.proofs.Order.{⊑_refl}
use Rattle.rules.specs.Kinds.{Place, kind_of}
use Rattle.rules.specs.Rows.{Fitting}
use Rattle.rules.specs.Tight.{Rule, word}
use Rattle.rules.specs.ProperProblem.{KindNumber, Fields, ProperRule}
use Rattle.problem.specs.Lent.{stride, word_count, width_at, lo_at, hi_at, rule_count, rule_at, widths_of, table_of}
use Rattle.checker.specs.Demands.{Demand, SIZE, WIDTH, TABLE, KIND, FIELD, FIT, LIMIT, Met}
use Rattle.checker.specs.Promise.{Fine}
use Rattle.lists.proofs.Series.{length_series}
use Rattle.problem.proofs.Lents.{width_at_lem, lo_at_lem, hi_at_lem, past_last, rule_at_lem}

module _ (ws : List ℕ) (whole : length ws % stride ≡ 0) where
  widths_placed : (ρ : Rule) → ◌≡◌ {A = Place → ℕ} (λ p. at (widths_of ws) (word ρ p)) (λ p. width_at ws (word ρ p))
  widths_placed ρ = fun_ext (λ p. width_at_lem ws whole (word ρ p))

  rule_proper : (ρ : Rule) → KindNumber ρ.kind → Fields (word_count ws) ρ → Fitting (kind_of ρ.kind) (λ p. width_at ws (word ρ p)) ρ.k
      → ProperRule (widths_of ws) ρ
  rule_proper ρ k f h = record {
    kind = k;
    fields = rw length_series f;
    fit = subst (λ w. Fitting (kind_of ρ.kind) w ρ.k) (sym (widths_placed ρ)) h;
  }

  proper_fit : (ρ : Rule) → ProperRule (widths_of ws) ρ → Fitting (kind_of ρ.kind) (λ p. width_at ws (word ρ p)) ρ.k
  proper_fit ρ h = subst (λ w. Fitting (kind_of ρ.kind) w ρ.k) (widths_placed ρ) h.fit

  bounded_all : ((i : ℕ) → i < word_count ws → Bounded (width_at ws i) (lo_at ws i) (hi_at ws i)) → (i : ℕ)
      → Bounded (at (widths_of ws) i) (at (table_of ws).lo i) (at (table_of ws).hi i)
  bounded_all h i = rw (width_at_lem ws whole i, lo_at_lem ws whole i, hi_at_lem ws whole i) (go (dec_lt i (word_count ws)))
    where
      go : Dec (i < word_count ws) → Bounded (width_at ws i) (lo_at ws i) (hi_at ws i)
      go (yes l) = h i l
      go (no n) = let (w, l, t) = past_last ws whole i (omega arith) in rw (w, l, t) (record { under = ⊑_refl 0; below = omega arith })

module _ (limit : ℕ) (ws bs : List ℕ) where
  pub met_fine : ((d : Demand) → Met limit ws bs d) → Fine limit ws bs
  met_fine met = record {
    sized = met SIZE;
    problem = record {
      words = rw length_series (met SIZE).words;
      rules = rw length_series (met SIZE).rules;
      table = record {
        los = simp length_series;
        his = simp length_series;
        width = λ i l. rw (width_at_lem ws (met SIZE).whole_words i) (met (WIDTH i) (rw length_series at l));
        bounded = bounded_all ws (met SIZE).whole_words (λ i. met (TABLE i));
      };
      each = λ n l.
          let k : n < rule_count bs = rw length_series at l in
          rw (rule_at_lem bs n k) (rule_proper ws (met SIZE).whole_words (rule_at bs n) (met (KIND n) k) (met (FIELD n) k) (met (FIT n) k));
    };
    guesses = met LIMIT;
  }

  each_rule : Fine limit ws bs → (n : ℕ) → n < rule_count bs → ProperRule (widths_of ws) (rule_at bs n)
  each_rule h n l = rw (rule_at_lem bs n l) at (h.problem.each n (rw length_series l))

  pub fine_met : Fine limit ws bs → (d : Demand) → Met limit ws bs d
  fine_met h SIZE = h.sized
  fine_met h (WIDTH i) = λ l. rw (width_at_lem ws h.sized.whole_words i) at (h.problem.table.width i (rw length_series l))
  fine_met h (TABLE i) = λ l.
      rw (width_at_lem ws h.sized.whole_words i, lo_at_lem ws h.sized.whole_words i, hi_at_lem ws h.sized.whole_words i) at (h.problem.table.bounded i)
  fine_met h (KIND n) = λ l. (each_rule h n l).kind
  fine_met h (FIELD n) = λ l. rw length_series at (each_rule h n l).fields
  fine_met h (FIT n) = λ l. proper_fit ws h.sized.whole_words (rule_at bs n) (each_rule h n l)
  fine_met h LIMIT = h.guesses
