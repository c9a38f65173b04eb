-- To be believed: the starred boards of the product's paper, A to K, as one table. Where the paper names no limit, it is the greatest, 1,000,000.
use Rattle.std.specs.Prelude.{List, [], ◌∷◌, ℕ, ◌^◌, ◌-◌}
use Rattle.rules.specs.Kinds.{A, B, R}
use Rattle.rules.specs.Tight.{Rule}
use Rattle.search_theory.specs.Search.{found, none, gave_up}
use Rattle.reason_theory.specs.Says.{FORCED, FREE}
use Rattle.cause_theory.specs.Cause.{CAUSE}
use Rattle.lists.specs.Lists.{zeros}
use Rattle.boards.specs.Row.{Problem, Row, solve, ceiling, explain, cause, file}

abbrev problem : List ℕ → List ℕ → List ℕ → List Rule → Problem
problem w lo hi rs = record { widths = w; lo = lo; hi = hi; rules = rs }

-- a rule of kind κ over the words r, a and b
abbrev over : ℕ → ℕ → ℕ → ℕ → Rule
over κ r a b = record { kind = κ; r = r; a = a; b = b; s = 0; k = 0 }

abbrev and : ℕ → ℕ → ℕ → Rule
and r a b = over 3 r a b

abbrev add : ℕ → ℕ → ℕ → Rule
add r a b = over 6 r a b

abbrev ule : ℕ → ℕ → Rule
ule a b = over 12 0 a b

abbrev ult : ℕ → ℕ → Rule
ult a b = over 13 0 a b

abbrev ne : ℕ → ℕ → Rule
ne a b = over 14 0 a b

abbrev top : ℕ
top = 2 ^ 64 - 1

-- A: no words, no rules
abbrev board_a : Problem
board_a = problem [] [] [] []

-- B: one open word of width 1
abbrev board_b : Problem
board_b = problem (1 ∷ []) (0 ∷ []) (1 ∷ []) []

-- C: width 4, r = a + b with a = 15, b = 1, r open
abbrev board_c : Problem
board_c = problem (4 ∷ 4 ∷ 4 ∷ []) (0 ∷ 15 ∷ 1 ∷ []) (15 ∷ 15 ∷ 1 ∷ []) (add 0 1 2 ∷ [])

-- C: the same at width 64 with a = 2^64 - 1
abbrev board_c64 : Problem
board_c64 = problem (64 ∷ 64 ∷ 64 ∷ []) (0 ∷ top ∷ 1 ∷ []) (top ∷ top ∷ 1 ∷ []) (add 0 1 2 ∷ [])

-- D: width 1, word 0 open, NE of word 0 with itself
abbrev board_d : Problem
board_d = problem (1 ∷ []) (0 ∷ []) (1 ∷ []) (ne 0 0 ∷ [])

-- E: width 2, word 0 open, word 1 fixed 0, NE
abbrev board_e : Problem
board_e = problem (2 ∷ 2 ∷ []) (0 ∷ 0 ∷ []) (3 ∷ 0 ∷ []) (ne 0 1 ∷ [])

-- F: words 0 and 1 of width 2 open, word 2 fixed 3, word 2 = word 0 + word 1
abbrev board_f : Problem
board_f = problem (2 ∷ 2 ∷ 2 ∷ []) (0 ∷ 0 ∷ 3 ∷ []) (3 ∷ 3 ∷ 3 ∷ []) (add 2 0 1 ∷ [])

-- G: F with word 1 at most word 0
abbrev pub board_g : Problem
board_g = problem (2 ∷ 2 ∷ 2 ∷ []) (0 ∷ 0 ∷ 3 ∷ []) (3 ∷ 3 ∷ 3 ∷ []) (add 2 0 1 ∷ ule 1 0 ∷ [])

-- H: width 1, words 0 and 1 open, four rules
abbrev pub board_h : Problem
board_h = problem (1 ∷ 1 ∷ []) (0 ∷ 0 ∷ []) (1 ∷ 1 ∷ []) (ult 0 1 ∷ ult 0 1 ∷ ne 0 1 ∷ ult 1 0 ∷ [])

-- I: width 4, a lo 8 hi 15, b open, a at most b
abbrev board_i : Problem
board_i = problem (4 ∷ 4 ∷ []) (8 ∷ 0 ∷ []) (15 ∷ 15 ∷ []) (ule 0 1 ∷ [])

-- J: width 3, a = 5, b lo 5 hi 7, NE
abbrev board_j : Problem
board_j = problem (3 ∷ 3 ∷ []) (5 ∷ 5 ∷ []) (5 ∷ 7 ∷ []) (ne 0 1 ∷ [])

-- K: width 1, r = 0, b = 1, a open, r = a and b
abbrev board_k : Problem
board_k = problem (1 ∷ 1 ∷ 1 ∷ []) (0 ∷ 0 ∷ 1 ∷ []) (0 ∷ 1 ∷ 1 ∷ []) (and 0 1 2 ∷ [])

abbrev pub boards : List Row
boards =
    solve board_a 0 (found [] 0)
    ∷ file board_a 0 (3 ∷ 1 ∷ 0 ∷ 0 ∷ 0 ∷ 0 ∷ 252 ∷ 254 ∷ zeros 504)
    ∷ solve board_b 0 gave_up
    ∷ solve board_b 1 (found (0 ∷ []) 1)
    ∷ solve board_c 1000000 (found (0 ∷ 15 ∷ 1 ∷ []) 0)
    ∷ solve board_c64 1000000 (found (0 ∷ top ∷ 1 ∷ []) 0)
    ∷ solve board_d 1000000 (none 1)
    ∷ solve board_d 0 gave_up
    ∷ solve board_e 1000000 (found (1 ∷ 0 ∷ []) 1)
    ∷ solve board_f 1000000 (found (0 ∷ 3 ∷ 3 ∷ []) 2)
    ∷ ceiling board_f 15
    ∷ solve board_g 100 (found (2 ∷ 1 ∷ 3 ∷ []) 2)
    ∷ solve board_h 1000000 (none 0)
    ∷ cause board_h 1000000 (CAUSE (0 ∷ 3 ∷ []) 0)
    ∷ explain board_i 0 B 3 (FORCED 1) (67 ∷ [])
    ∷ explain board_j 0 B 1 (FORCED 1) (64 ∷ 65 ∷ 66 ∷ 128 ∷ 130 ∷ [])
    ∷ explain board_k 0 A 0 (FORCED 0) (0 ∷ 128 ∷ [])
    ∷ []

-- one open word of width 2 takes 2 guesses, and with "it is not itself" 3; the ceiling stays
abbrev two_bits : List Rule → Problem
two_bits rs = problem (2 ∷ []) (0 ∷ []) (3 ∷ []) rs

abbrev pub rises : List Row
rises =
    solve (two_bits []) 1000000 (found (0 ∷ []) 2)
    ∷ ceiling (two_bits []) 3
    ∷ solve (two_bits (ne 0 0 ∷ [])) 1000000 (none 3)
    ∷ ceiling (two_bits (ne 0 0 ∷ [])) 3
    ∷ []

-- ---- shifts as long as the word

abbrev shift : ℕ → ℕ → ℕ → ℕ → Rule
shift κ r a k = record { kind = κ; r = r; a = a; b = 0; s = 0; k = k }

-- width 4, SHL of word 0 by k
abbrev board_l : ℕ → Problem
board_l k = record { widths = 4 ∷ 4 ∷ []; lo = 0 ∷ 0 ∷ []; hi = 15 ∷ 15 ∷ []; rules = shift 10 1 0 k ∷ [] }

-- width 2, all words open: word 1 is word 0 inverted, word 2 is word 1 shifted up by 2, word 3 is word 1 shifted down by 255.
-- If a shift did not compute its word, word 1 would be among the inputs, and the ceiling would be 15.
abbrev chain : Problem
chain = record {
  widths = 2 ∷ 2 ∷ 2 ∷ 2 ∷ [];
  lo = 0 ∷ 0 ∷ 0 ∷ 0 ∷ [];
  hi = 3 ∷ 3 ∷ 3 ∷ 3 ∷ [];
  rules = shift 2 1 0 0 ∷ shift 10 2 1 2 ∷ shift 11 3 1 255 ∷ [];
}

abbrev pub long_shifts : List Row
long_shifts =
    solve (board_l 4) 1000000 (found (0 ∷ 0 ∷ []) 4)
    ∷ solve (board_l 255) 1000000 (found (0 ∷ 0 ∷ []) 4)
    ∷ explain (board_l 4) 0 R 3 (FORCED 0) []
    ∷ explain (board_l 4) 0 A 0 FREE []
    ∷ solve chain 1000000 (found (0 ∷ 3 ∷ 0 ∷ 0 ∷ []) 2)
    ∷ ceiling chain 3
    ∷ []
