-- The first numbers of the list given back.
use mathlib.Core.Path.{◌≡◌, ap, ◌∙◌}
use mathlib.Core.List.{List, ◌++◌}
use Prim.Native.Nat.{ℕ, ◌+◌, ◌≤◌, ◌<◌, ◌-◌}
use native.Mathlib.Omega.{arith}
use Rattle.std.proofs.lemmas.List.{get_or-append_right, get_or-drop, length-append, length-drop}
use lib.ListN.{length, drop, get_or-append}
use Rattle.lists.specs.Lists.{at}
use Rattle.cause.specs.Listing.{Held}

pub held_put : (k : ℕ) (l s xs : List ℕ) → k ≤ length s → length xs ≡ k → ((q : ℕ) → q < k → at xs q ≡ at l (64 + q)) → Held k l s (xs ++ drop k s)
held_put k l s xs room n each = record {
  size = simp (length-append, length-drop) (omega arith);
  each = λ q h. get_or-append xs (drop k s) 0 q (omega arith) ∙ each q h;
  rest = λ q h. let e : k + (q - k) ≡ q = omega arith in get_or-append_right xs (drop k s) k q 0 n h ∙ get_or-drop k s (q - k) 0 ∙ ap (at s) e;
}
