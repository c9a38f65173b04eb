-- What an outcome says of the settings: what is found is the first of them, and where none is said there are none.
use mathlib.Core.Path.{◌≡◌}
use mathlib.Core.Logic.{◌⊎◌, inl, inr, ◌↔◌}
use mathlib.Core.List.{List}
use Prim.Native.Nat.{ℕ}
use Rattle.words.specs.Table.{Table, Inside, Keeps, Guess, Done, Earlier, point, with0, with1}
use Rattle.words.proofs.Tables.{inside_trans, keeps_inside, inside_keeps, keeps_wider, done_point, done_only, keeps_lo}
use Rattle.words.proofs.Fixing.{inside0, inside1, sides, guess_order}
use Rattle.rules.specs.Tightening.{Widest, Conflict}
use Rattle.rules.proofs.OneWidest.{widest_whole}
use Rattle.rules.proofs.Agree.{Agree}
use Rattle.search_theory.specs.Settings.{Settings, First, Without}
use Rattle.search_theory.specs.Search.{Outcome, found, none, gave_up, Ends, Search, conflict, settled, stopped, first, second, OutcomeRight}

module _ (Tight : Table → Type 0) (Holds : List ℕ → Type 0) (agree : Agree Tight Holds) where
  -- settings survive tightening
  pub settings_survive : {t u : Table} {v : List ℕ} → Widest Tight t u → Settings Holds t v → Settings Holds u v
  settings_survive {v = v} w s =
      record { keeps = inside_keeps (w.widest (point v) (agree.tight_of v s.holds) (keeps_inside s.keeps)); holds = s.holds }

  pub settings_wider : {t u : Table} {v : List ℕ} → Inside u t → Settings Holds u v → Settings Holds t v
  settings_wider p s = record { keeps = keeps_wider p s.keeps; holds = s.holds }

  -- a conflict means no settings
  pub conflict_without : {t : Table} → Conflict Tight t → Without Holds t
  conflict_without c v s = c.nothing (point v) (agree.tight_of v s.holds) (keeps_inside s.keeps)

  -- a table without open bits is tight just where its values are settings
  pub done_settings : {t : Table} → Inside t t → Done t → Tight t ↔ Settings Holds t t.lo
  done_settings {t} ok d = (
    λ h. record { keeps = keeps_lo ok; holds = agree.holds_of t.lo (rw (done_point ok d) at h) },
    λ s. rw (done_point ok d) (agree.tight_of t.lo s.holds),
  )

  done_first : {t u : Table} → Widest Tight t u → Done u → First Holds t u.lo
  done_first {t} {u} w d = record {
    settings = record {
      keeps = keeps_wider w.inside (keeps_lo w.inside);
      holds = agree.holds_of u.lo (rw (done_point w.inside d) at w.tight);
    };
    before = λ v s. inl (done_only v w.inside d (settings_survive w s).keeps);
  }

  module _ {t u : Table} {i j : ℕ} (w : Widest Tight t u) (g : Guess u i j) where
    split : (v : List ℕ) → Settings Holds t v → Settings Holds (with0 u i j) v ⊎ Settings Holds (with1 u i j) v
    split v s = go (sides u i j (widest_whole Tight w) g.here v (settings_survive w s).keeps)
      where
        go : Keeps (with0 u i j) v ⊎ Keeps (with1 u i j) v → Settings Holds (with0 u i j) v ⊎ Settings Holds (with1 u i j) v
        go (inl k) = inl (record { keeps = k; holds = s.holds })
        go (inr k) = inr (record { keeps = k; holds = s.holds })

    in0 : Inside (with0 u i j) t
    in0 = inside_trans (inside0 u i j (widest_whole Tight w) g.here) w.inside

    in1 : Inside (with1 u i j) t
    in1 = inside_trans (inside1 u i j (widest_whole Tight w) g.here) w.inside

    from0 : (o : Outcome) → Ends o → OutcomeRight Holds (with0 u i j) o → OutcomeRight Holds t o
    from0 (found v n) e f = record { settings = settings_wider in0 f.settings; before = λ x s. go x (split x s) }
      where
        go : (x : List ℕ) → Settings Holds (with0 u i j) x ⊎ Settings Holds (with1 u i j) x → (x ≡ v) ⊎ Earlier v x
        go x (inl s) = f.before x s
        go x (inr s) = inr (guess_order u i j (widest_whole Tight w) g v x f.settings.keeps s.keeps)
    from0 (none n) e f = elim e [ ]
    from0 gave_up e f = tt

    from1 : (o : Outcome) → Without Holds (with0 u i j) → OutcomeRight Holds (with1 u i j) o → OutcomeRight Holds t o
    from1 (found v n) no0 f = record { settings = settings_wider in1 f.settings; before = λ x s. go x (split x s) }
      where
        go : (x : List ℕ) → Settings Holds (with0 u i j) x ⊎ Settings Holds (with1 u i j) x → (x ≡ v) ⊎ Earlier v x
        go x (inl s) = absurd (no0 x s)
        go x (inr s) = f.before x s
    from1 (none n) no0 f = λ x s. go x (split x s)
      where
        go : (x : List ℕ) → Settings Holds (with0 u i j) x ⊎ Settings Holds (with1 u i j) x → ⊥
        go x (inl s) = no0 x s
        go x (inr s) = f x s
    from1 gave_up no0 f = tt

  -- every outcome of the search is right
  pub right : {limit : ℕ} {t : Table} {g : ℕ} {o : Outcome} → Search Tight limit t g o → OutcomeRight Holds t o
  right (conflict c) = conflict_without c
  right (settled w d) = done_first w d
  right (stopped w h l) = tt
  right (first {o = o} w h l s n) = from0 w h o n (right s)
  right (second {o = o} w h l s r) = from1 w h o (right s) (right r)
