-- The lent numbers of a draft: one entry more at the end for a word more and for a rule more, what has been stored stays, and each entry where it stands.
use mathlib.Core.Path.{◌≡◌, refl, sym, ap, ◌∙◌}
use mathlib.Core.List.{List, [], ◌∷◌, ◌++◌, append-nil}
use Prim.Native.Nat.{ℕ, ◌+◌, ◌-◌, ◌*◌, ◌≤◌, ◌<◌}
use native.Mathlib.Nat.{le_refl}
use native.Mathlib.Omega.{arith}
use lib.ListN.{length, take}
use lib.Seq.{take-length, take-append-le}
use Rattle.lists.specs.Lists.{at, part, flat}
use Rattle.lists.proofs.Parts.{at_part}
use Rattle.lists.proofs.Pieces.{flat_more, flat_same, length_flat, part_flat, flat_add}
use Rattle.lists.proofs.Snoc.{length_more, at_low, at_new}
use Rattle.rules.specs.Tight.{Rule, rule, none_rule}
use Rattle.problem.specs.Lent.{stride, fields}
use Rattle.scripts.specs.Draft.{Draft, more_word, more_rule}
use Rattle.scripts.specs.Stored.{word_entry, rule_entry, stored_words, stored_rules}
use Rattle.scripts.proofs.ProperDraft.{ProperDraft}
use Rattle.scripts.proofs.Prefix.{Prefix}

-- ---- pieces of one length

-- number j of piece i
flat_at : (k n : ℕ) (f : ℕ → List ℕ) → ((i : ℕ) → length (f i) ≡ k) → (i j : ℕ) → i < n → j < k → at (flat n f) (k * i + j) ≡ at (f i) j
flat_at k n f e i j l h =
    sym (at_part (flat n f) (k * i) k j h)
    ∙ ap (λ (x : List ℕ). at (part x (k * i) k) j) (sym (append-nil (flat n f)))
    ∙ ap (λ (x : List ℕ). at x j) (part_flat n k f [] (λ m q. e m) i l)

-- the first n pieces of more
flat_begins : (n m : ℕ) (f g : ℕ → List ℕ) → n ≤ m → ((i : ℕ) → i < n → g i ≡ f i) → take (length (flat n f)) (flat m g) ≡ flat n f
flat_begins n m f g l e =
    let same : flat n g ≡ flat n f = flat_same n g f e in
    let more : m ≡ n + (m - n) = omega arith in
    let cut : flat m g ≡ flat n f ++ flat (m - n) (λ x. g (n + x)) =
    ap (λ (k : ℕ). flat k g) more ∙ flat_add n (m - n) g ∙ ap (λ (x : List ℕ). x ++ flat (m - n) (λ x. g (n + x))) same
    in
    ap (take (length (flat n f))) cut
    ∙ take-append-le (length (flat n f)) (flat n f) (flat (m - n) (λ x. g (n + x))) (le_refl (length (flat n f)))
    ∙ take-length (flat n f)

-- ---- one more

pub words_more : (p : Draft) (w lo hi : ℕ) → ProperDraft p → stored_words (more_word w lo hi p) ≡ stored_words p ++ word_entry w lo hi
unfolding stored_words more_word
words_more p w lo hi h =
    ap (λ (n : ℕ). flat n new) (length_more p.widths w)
    ∙ flat_more (length p.widths) new
    ∙ cc (flat_same (length p.widths) new old (λ i l. earlier i l), last)
  where
    old : ℕ → List ℕ
    old i = word_entry (at p.widths i) (at p.table.lo i) (at p.table.hi i)

    new : ℕ → List ℕ
    new i = word_entry (at (p.widths ++ (w ∷ [])) i) (at (p.table.lo ++ (lo ∷ [])) i) (at (p.table.hi ++ (hi ∷ [])) i)

    earlier : (i : ℕ) → i < length p.widths → new i ≡ old i
    earlier i l =
        cc (
          at_low p.widths w 0 i l,
          at_low p.table.lo lo 0 i (omega (arith, h.table.los)),
          at_low p.table.hi hi 0 i (omega (arith, h.table.his)),
        )

    last : new (length p.widths) ≡ word_entry w lo hi
    last =
        cc (
          at_new p.widths w 0 (length p.widths) refl,
          at_new p.table.lo lo 0 (length p.widths) (sym h.table.los),
          at_new p.table.hi hi 0 (length p.widths) (sym h.table.his),
        )

pub rules_more : (p : Draft) (ρ : Rule) → stored_rules (more_rule ρ p) ≡ stored_rules p ++ rule_entry ρ
unfolding stored_rules more_rule
rules_more p ρ =
    ap (λ (n : ℕ). flat n new) (length_more p.rules ρ)
    ∙ flat_more (length p.rules) new
    ∙ cc (
      flat_same (length p.rules) new old (λ i l. ap rule_entry (at_low p.rules ρ none_rule i l)),
      ap rule_entry (at_new p.rules ρ none_rule (length p.rules) refl),
    )
  where
    old : ℕ → List ℕ
    old i = rule_entry (rule p.rules i)

    new : ℕ → List ℕ
    new i = rule_entry (rule (p.rules ++ (ρ ∷ [])) i)

-- ---- what has been stored stays

pub words_stay : {p q : Draft} → Prefix p q → take (length (stored_words p)) (stored_words q) ≡ stored_words p
unfolding stored_words
words_stay {p} {q} b =
    flat_begins (length p.widths) (length q.widths) _ _ b.words (λ i l. cc (b.width i l, b.low i l, b.top i l))

pub rules_stay : {p q : Draft} → Prefix p q → take (length (stored_rules p)) (stored_rules q) ≡ stored_rules p
unfolding stored_rules
rules_stay {p} {q} b = flat_begins (length p.rules) (length q.rules) _ _ b.rules (λ n l. ap rule_entry (b.listed n l))

-- ---- each entry where it stands

module _ (p : Draft) where
  pub words_length : length (stored_words p) ≡ stride * length p.widths
  unfolding stored_words
  words_length = length_flat (length p.widths) stride _ (λ i l. refl)

  pub rules_length : length (stored_rules p) ≡ fields * length p.rules
  unfolding stored_rules
  rules_length = length_flat (length p.rules) fields _ (λ n l. refl)

  pub words_at : (i j : ℕ) → i < length p.widths → j < stride
      → at (stored_words p) (stride * i + j) ≡ at (word_entry (at p.widths i) (at p.table.lo i) (at p.table.hi i)) j
  unfolding stored_words
  words_at i j l h = flat_at stride (length p.widths) _ (λ k. refl) i j l h

  pub rules_at : (n j : ℕ) → n < length p.rules → j < fields → at (stored_rules p) (fields * n + j) ≡ at (rule_entry (rule p.rules n)) j
  unfolding stored_rules
  rules_at n j l h = flat_at fields (length p.rules) _ (λ k. refl) n j l h
