-- A file has at most one fault, and a proper file has none.
use Rattle.std.proofs.Common.{◌≡◌, ℕ, suc, ◌+◌, ◌*◌, ◌/◌, ◌<◌, ◌≤◌, List, length, refl, ap, subst, arith}
use native.Mathlib.Decide.{dec_lt}
use Rattle.checker.specs.declared.refusal.Refusal.{Refusal}
use Rattle.checker.specs.declared.refusal.Refusal.TheVariants.{Check, Layout}
use Rattle.blocks.specs.Edition.{Edition}
use Rattle.blocks.specs.Block.{Sound, EndBlock}
use Rattle.blocks.specs.File.{block_at, ProperFile, Begins, Whole, Fault, check, layout, last}
use Rattle.blocks.specs.Fair.{Fair}
use Rattle.blocks.proofs.Machine.{same_part, begins_accepted}
use Rattle.blocks.proofs.Once.{accepted_sound}

-- block i breaks off a proper file
record Edge (E : Edition) (f : List ℕ) (i : ℕ) : Type 0 where
  inside : i < length f / 512
  begins : Begins E f i
  breaks : ¬ Begins E f (suc i)

module _ {E : Edition} (fair : Fair E) {f : List ℕ} where
  pub begins_less : {i j : ℕ} → i ≤ j → Begins E f j → Begins E f i
  begins_less {i} {j} h b = record {
    file = b.file;
    n = b.n;
    m = b.m;
    limit = b.limit;
    proper = b.proper;
    within = omega (arith, b.within);
    same = same_part f b.file (512 * j) 0 (512 * i) b.same (omega arith);
  }

  begins_sound : {i j : ℕ} → i < j → Begins E f j → Sound (block_at f i)
  begins_sound {i} {j} h b = accepted_sound (begins_accepted E fair f b) i h

  unsound_edge : {i : ℕ} → i < length f / 512 → Begins E f i → ¬ Sound (block_at f i) → Edge E f i
  unsound_edge {i} h b n = record { inside = h; begins = b; breaks = λ g. n (begins_sound (omega arith) g) }

  edge_once : {i j : ℕ} → Edge E f i → Edge E f j → i ≡ j
  edge_once {i} {j} a b = go (dec_lt i j) (dec_lt j i)
    where
      go : Dec (i < j) → Dec (j < i) → i ≡ j
      go (yes h) d = absurd (a.breaks (begins_less h b.begins))
      go (no h) (yes g) = absurd (b.breaks (begins_less g a.begins))
      go (no h) (no g) = omega arith

  -- where all blocks begin a proper file none breaks it off
  no_edge : {i k : ℕ} → k ≡ length f / 512 → Begins E f k → Edge E f i → ⊥
  no_edge {i} {k} e b a = a.breaks (begins_less (omega (arith, a.inside)) b)

  pub fault_once : {r s : Refusal} → Fault E f r → Fault E f s → r ≡ s
  fault_once (check h b s) (check h' b' s') = ap (λ i. Check i) (edge_once (unsound_edge h b s) (unsound_edge h' b' s'))
  fault_once (check h b s) (layout h' b' s' n') =
      let e = edge_once (unsound_edge h b s) (record { inside = h'; begins = b'; breaks = n' }) in
      absurd (s (rw e s'))
  fault_once (check h b s) (last h' b' n') = absurd (no_edge h' b' (unsound_edge h b s))
  fault_once (layout h b s n) (check h' b' s') =
      let e = edge_once (record { inside = h; begins = b; breaks = n }) (unsound_edge h' b' s') in
      absurd (s' (rw e at s))
  fault_once (layout h b s n) (layout h' b' s' n') =
      ap (λ i. Layout i) (edge_once (record { inside = h; begins = b; breaks = n }) (record { inside = h'; begins = b'; breaks = n' }))
  fault_once (layout h b s n) (last h' b' n') = absurd (no_edge h' b' (record { inside = h; begins = b; breaks = n }))
  fault_once (last h b n) (check h' b' s') = absurd (no_edge h b (unsound_edge h' b' s'))
  fault_once (last h b n) (layout h' b' s' n') = absurd (no_edge h b (record { inside = h'; begins = b'; breaks = n' }))
  fault_once (last {i = i} h b n) (last {i = j} h' b' n') = let e : i ≡ j = omega arith in ap (λ i. Layout i) e

  -- ---- proper files

  all_begins : {n m l : ℕ} (a : ProperFile E f n m l) → Begins E f (suc (a.p + a.q))
  all_begins {n} {m} {l} a = record { file = f; n = n; m = m; limit = l; proper = a; within = omega (arith, a.long); same = refl }

  pub proper_whole : {n m l : ℕ} → ProperFile E f n m l → Whole E f
  proper_whole a = record { whole = omega (arith, a.long); some = omega (arith, a.long); most = omega (arith, a.long, a.blocks) }

  pub proper_faultless : {n m l : ℕ} {r : Refusal} → ProperFile E f n m l → Fault E f r → ⊥
  proper_faultless a (check h b s) = no_edge (omega (arith, a.long)) (all_begins a) (unsound_edge h b s)
  proper_faultless a (layout h b s n) = no_edge (omega (arith, a.long)) (all_begins a) (record { inside = h; begins = b; breaks = n })
  proper_faultless {l = l} a (last {i = i} h b n) =
      let e : a.p + a.q ≡ i = omega (arith, a.long) in
      n l (subst (λ k. EndBlock E k l (block_at f k)) e a.end)
