-- Two results that the promise of `tighten` allows are equal: the answer, every number of the words, and every number of work memory.
use mathlib.Core.Path.{◌≡◌, refl, sym, ap, ◌∙◌}
use mathlib.Core.List.{List}
use Prim.Native.Nat.{ℕ, zero, suc, ◌+◌, ◌*◌, ◌/◌, ◌%◌}
use native.Mathlib.Omega.{arith}
use lib.ListN.{length}
use lib.Seq.{ext_get_or}
use Rattle.checker.proofs.Firsts.{refused_not_ok}
use Rattle.words.specs.Table.{Table}
use Rattle.lists.specs.Lists.{at}
use Rattle.rules.specs.Tight.{Tight}
use Rattle.rules.proofs.OneWidest.{one_widest, not_both}
use Rattle.problem.specs.Lent.{stride, width_at, lo_at, hi_at, widths_of, table_of, rules_of}
use Rattle.problem.proofs.Lents.{width_at_lem, lo_at_lem, hi_at_lem}
use Rattle.std.specs.Prelude.{Result, Ok}
use Rattle.checker.specs.declared.refusal.Refusal.{Refusal}
use Rattle.tighten.specs.declared.Answer.{Answer}
use Rattle.tighten.specs.Memory.{Cleared}
use Rattle.tighten.specs.Promise.{WithBounds, TightenEnds, tight, conflict, Tightening, refused, answered}
use Rattle.tighten.proofs.Calling.{here_sized}

pub cleared_once : {l m n : List ℕ} → Cleared l m → Cleared l n → m ≡ n
cleared_once {l} {m} {n} x y = ext_get_or 0 m n (x.size ∙ sym y.size) (λ i h. x.zeros i ∙ sym (y.zeros i))

bounds_once : {ws us vs : List ℕ} {u v : Table} → length ws % stride ≡ 0 → u ≡ v → WithBounds ws us u → WithBounds ws vs v → us ≡ vs
bounds_once {ws} {us} {vs} whole e x y = ext_get_or 0 us vs (x.size ∙ sym y.size) (λ j h. go j (j % stride) refl)
  where
    us_whole : length us % stride ≡ 0
    us_whole = rw x.size whole

    vs_whole : length vs % stride ≡ 0
    vs_whole = rw y.size whole

    tables : table_of us ≡ table_of vs
    tables = x.table ∙ e ∙ sym y.table

    width : (i : ℕ) → width_at us i ≡ width_at vs i
    width i = sym (width_at_lem us us_whole i) ∙ ap (λ l. at l i) (x.widths ∙ sym y.widths) ∙ width_at_lem vs vs_whole i

    low : (i : ℕ) → lo_at us i ≡ lo_at vs i
    low i = sym (lo_at_lem us us_whole i) ∙ ap (λ (t : Table). at t.lo i) tables ∙ lo_at_lem vs vs_whole i

    high : (i : ℕ) → hi_at us i ≡ hi_at vs i
    high i = sym (hi_at_lem us us_whole i) ∙ ap (λ (t : Table). at t.hi i) tables ∙ hi_at_lem vs vs_whole i

    go : (j r : ℕ) → j % stride ≡ r → at us j ≡ at vs j
    go j zero q =
        let s : stride * (j / stride) ≡ j = omega arith in
        rw s at (width (j / stride))
    go j (suc zero) q =
        let s : stride * (j / stride) + 1 ≡ j = omega arith in
        rw s at (low (j / stride))
    go j (suc (suc zero)) q =
        let s : stride * (j / stride) + 2 ≡ j = omega arith in
        rw s at (high (j / stride))
    go j (suc (suc (suc r))) q = absurd (omega arith)

ends_once : {ws bs l : List ℕ} {x y : Answer} {us vs m n : List ℕ} → length ws % stride ≡ 0 → TightenEnds ws bs l x us m → TightenEnds ws bs l y vs n
    → (x ≡ y) × (us ≡ vs) × (m ≡ n)
ends_once {ws} {bs} {l} whole (tight {u = u} w v c) (tight {u = u'} w' v' c') = (
  refl,
  bounds_once whole (one_widest (Tight (widths_of ws) (rules_of bs)) (table_of ws) u u' w w') v v',
  cleared_once c c',
)
ends_once {ws} {bs} whole (tight w v c) (conflict w' c') = absurd (not_both (Tight (widths_of ws) (rules_of bs)) w w')
ends_once {ws} {bs} whole (conflict w c) (tight w' v' c') = absurd (not_both (Tight (widths_of ws) (rules_of bs)) w' w)
ends_once whole (conflict w c) (conflict w' c') = (refl, refl, cleared_once c c')

pub tighten_once : {ws bs l : List ℕ} {x y : Result Answer Refusal} {us vs m n : List ℕ} → Tightening ws bs l x us m → Tightening ws bs l y vs n
    → (x ≡ y) × (us ≡ vs) × (m ≡ n)
tighten_once (refused a) (refused b) = (cc, refl, refl)
tighten_once (refused a) (answered b x) = absurd (refused_not_ok a b)
tighten_once (answered a x) (refused b) = absurd (refused_not_ok b a)
tighten_once {ws} {bs} {l} (answered a x) (answered b y) =
    let (e, f, g) = ends_once (here_sized ws bs l a).whole_words x y in
    (ap (λ z. Ok z) e, f, g)
