-- To be believed: what the adviser program prints, as bytes: the lines of each answer. Items on a line are parted by one blank, numbers are decimal, and each
-- line ends with byte 10.
use Rattle.std.specs.Prelude.{List, [], ◌∷◌, ◌++◌, map, ℕ, zero, suc, ◌+◌, length}
use Rattle.words.specs.Bits.{bit}
use Rattle.lists.specs.Lists.{at, flat}
use Rattle.decimal.specs.Text.{decimal}

-- each item after a blank
unfoldable pub items : List (List ℕ) → List ℕ
items [] = []
items (x ∷ xs) = (32 ∷ x) ++ items xs

-- a line: its first item, each other one after a blank, and byte 10
unfoldable pub line : List ℕ → List (List ℕ) → List ℕ
line x xs = x ++ (items xs ++ (10 ∷ []))

-- the words with which a line begins: sat, unsat, unknown, cause, refused
abbrev pub SAT : List ℕ
SAT = 115 ∷ 97 ∷ 116 ∷ []

abbrev pub UNSAT : List ℕ
UNSAT = 117 ∷ 110 ∷ SAT

abbrev pub UNKNOWN : List ℕ
UNKNOWN = 117 ∷ 110 ∷ 107 ∷ 110 ∷ 111 ∷ 119 ∷ 110 ∷ []

abbrev pub CAUSE_WORD : List ℕ
CAUSE_WORD = 99 ∷ 97 ∷ 117 ∷ 115 ∷ 101 ∷ []

abbrev pub REFUSED : List ℕ
REFUSED = 114 ∷ 101 ∷ 102 ∷ 117 ∷ 115 ∷ 101 ∷ 100 ∷ []

-- a value in binary with exactly w digits, the highest bit first; digit 0 is byte 48
unfoldable pub binary : ℕ → ℕ → List ℕ
binary zero v = []
binary (suc w) v = (48 + bit v w) ∷ binary w v

-- the line of word i: number, width, value
abbrev pub word_line : ℕ → ℕ → ℕ → List ℕ
word_line i w v = line (decimal i) (decimal w ∷ binary w v ∷ [])

-- the cause: the summed count and the rule numbers; or unknown, with the sum
pub data ToldCause : Type 0 where
  named : ℕ → List ℕ → ToldCause
  unnamed : ℕ → ToldCause

-- an answer, with what is printed of it: the guess count, widths and values; the guess count and the cause; the guess count; number and place
pub data Report : Type 0 where
  sat : ℕ → List ℕ → List ℕ → Report
  unsat : ℕ → ToldCause → Report
  unknown : ℕ → Report
  refused : ℕ → ℕ → Report

unfoldable pub cause_line : ToldCause → List ℕ
cause_line (named sum rules) = line CAUSE_WORD (decimal sum ∷ map decimal rules)
cause_line (unnamed sum) = line CAUSE_WORD (UNKNOWN ∷ decimal sum ∷ [])

unfoldable pub word_lines : List ℕ → List ℕ → List ℕ
word_lines widths values = flat (length widths) (λ i. word_line i (at widths i) (at values i))

-- the lines, one after the other
unfoldable pub text_of : Report → List ℕ
text_of (sat count widths values) = line SAT (decimal count ∷ []) ++ word_lines widths values
text_of (unsat count cause) = line UNSAT (decimal count ∷ []) ++ cause_line cause
text_of (unknown count) = line UNKNOWN (decimal count ∷ [])
text_of (refused number place) = line REFUSED (decimal number ∷ decimal place ∷ [])
