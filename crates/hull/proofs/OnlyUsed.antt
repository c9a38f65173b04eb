-- A value that is there only if its place is used: what the frame of a kind and the bounds that are left have at r and s.
use Rattle.std.proofs.Common.{◌≡◌, ℕ, Bool, true, false, T, refl, pow_pos}
use Rattle.words.specs.Bits.{one, ◌⊑◌}
use Rattle.words.specs.Word.{Bounded}
use Rattle.words.proofs.Order.{⊑_refl}
use Rattle.rules.specs.Kinds.{Place}
use Rattle.rules.specs.Meaning.{Shape}
use Rattle.rules.specs.Fits.{Span, Hull}
use Rattle.hull.specs.Columns.{keep_if}
use Rattle.hull.specs.Runs.{pick}
use Rattle.hull.proofs.LowBit.{one_lt}

pub kept : (b : Bool) (x : ℕ) → T b → keep_if b x ≡ x
kept true x t = refl
kept false x t = absurd t

pub picked : (b : Bool) (x y : ℕ) → T b → pick b x y ≡ y
picked true x y t = refl
picked false x y t = absurd t

pub unpicked : (b : Bool) (x y : ℕ) → ¬ T b → pick b x y ≡ x
unpicked true x y n = absurd (n tt)
unpicked false x y n = refl

pub keep_in : {x y : ℕ} (b : Bool) → (T b → x ⊑ y) → keep_if b x ⊑ keep_if b y
keep_in true h = h tt
keep_in false h = ⊑_refl 0

pub pick_in : {x y : ℕ} (b : Bool) (z : ℕ) → (T b → x ⊑ y) → pick b z x ⊑ pick b z y
pick_in true z h = h tt
pick_in false z h = ⊑_refl z

pub keep_bounded : {n x y : ℕ} (b : Bool) → (T b → Bounded n x y) → Bounded n (keep_if b x) (keep_if b y)
keep_bounded true h = h tt
keep_bounded {n} false h = record { under = ⊑_refl 0; below = pow_pos n }

pub pick_bounded : {x y : ℕ} (b q : Bool) → (T b → Bounded 1 x y) → Bounded 1 (pick b (one q) x) (pick b (one q) y)
pick_bounded true q h = h tt
pick_bounded false q h = record { under = ⊑_refl _; below = one_lt q }

pub hull_picked : {σ : Shape} {t : Span} {p : Place} {l h : ℕ} (b : Bool) (x y : ℕ) → T b → Hull σ t p l h → Hull σ t p (pick b x l) (pick b y h)
hull_picked true x y t h = h
hull_picked false x y t h = absurd t
