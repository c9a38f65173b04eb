-- To be believed: the problem made of a script, in one pass from left to right: what each closing bracket adds to the words and the rules so far.
use Rattle.std.specs.Prelude.{List, [], ◌∷◌, ℕ, ◌-◌, ◌^◌, min, length, take}
use Rattle.lists.specs.Lists.{at}
use Rattle.rules.specs.Kinds.{Op, NOT, AND, OR, XOR, ADD, ITE, SLICE, JOIN, SHL, SHR, ULE, ULT, NE}
use Rattle.rules.specs.Tight.{Rule}
use Rattle.scripts.specs.Tree.{Unary, bvnot, extract, bvshl, bvlshr, Binary, bvand, bvor, bvxor, bvadd, concat}
use Rattle.scripts.specs.Tree.{Term, declared, constant, unary, binary, bvsub, ite}
use Rattle.scripts.specs.Tree.{Relation, equals, distinct, bvule, bvult, bvuge, bvugt, Assert, relation, not, and, Script}
use Rattle.scripts.specs.Sizes.{unary_size, binary_size}
use Rattle.scripts.specs.Draft.{Draft, more_word, more_rule, computing_rule, relating_rule, start}

-- a term that has ended: the number and the width of its word, and the draft
pub record EndedTerm : Type 0 where
  pub word : ℕ
  pub width : ℕ
  pub draft : Draft

-- a constant's word is fixed
unfoldable pub constant_ends : ℕ → ℕ → Draft → EndedTerm
constant_ends m v d = record { word = length d.widths; width = m; draft = more_word m v v d }

-- a computed word of width w is open, and a rule computes it
unfoldable pub computed_ends : Op → ℕ → ℕ → ℕ → ℕ → ℕ → Draft → EndedTerm
computed_ends o k w a b s d = record {
  word = length d.widths;
  width = w;
  draft = more_rule (computing_rule o k (length d.widths) a b s) (more_word w 0 (2 ^ w - 1) d);
}

-- the kind of an operator, and its number k: a shift above 255 counts as 255
abbrev pub unary_op : Unary → Op
unary_op bvnot = NOT
unary_op (extract i j) = SLICE
unary_op (bvshl n v) = SHL
unary_op (bvlshr n v) = SHR

abbrev pub unary_k : Unary → ℕ
unary_k bvnot = 0
unary_k (extract i j) = j
unary_k (bvshl n v) = min v 255
unary_k (bvlshr n v) = min v 255

abbrev pub binary_op : Binary → Op
binary_op bvand = AND
binary_op bvor = OR
binary_op bvxor = XOR
binary_op bvadd = ADD
binary_op concat = JOIN

-- what the closing bracket of an operator term adds, where its operands' words are x and y, of widths m and n, and an ite's condition is word z
abbrev pub unary_ends : Unary → ℕ → ℕ → Draft → EndedTerm
unary_ends u x m d = computed_ends (unary_op u) (unary_k u) (unary_size u m) x 0 0 d

abbrev pub binary_ends : Binary → ℕ → ℕ → ℕ → ℕ → Draft → EndedTerm
binary_ends o x m y n d = computed_ends (binary_op o) 0 (binary_size o m n) x y 0 d

abbrev pub ite_ends : ℕ → ℕ → ℕ → ℕ → Draft → EndedTerm
ite_ends z x m y d = computed_ends ITE 0 m x y z d

-- what follows a term that has ended
abbrev pub after : EndedTerm → (ℕ → ℕ → Draft → EndedTerm) → EndedTerm
after e next = next e.word e.width e.draft

-- x bvsub y is NOT(NOT x + y), three words: NOT i of x, ADD j of i and y, NOT of j
abbrev pub bvsub_ends : ℕ → ℕ → ℕ → Draft → EndedTerm
bvsub_ends x m y d = after (computed_ends NOT 0 m x 0 0 d) λ i w d₁. after (computed_ends ADD 0 m i y 0 d₁) λ j l d₂. computed_ends NOT 0 m j 0 0 d₂

-- a term from left to right: the words of its operands come before its own
unfoldable pub term_ends : Term → Draft → EndedTerm
term_ends (declared i) d = record { word = i; width = at d.widths i; draft = d }
term_ends (constant m v) d = constant_ends m v d
term_ends (unary u t) d = after (term_ends t d) (unary_ends u)
term_ends (binary o s t) d = after (term_ends s d) λ x m d₁. after (term_ends t d₁) (binary_ends o x m)
term_ends (bvsub s t) d = after (term_ends s d) λ x m d₁. after (term_ends t d₁) λ y n. bvsub_ends x m y
term_ends (ite c s t) d = after (term_ends c d) λ z l d₁. after (term_ends s d₁) λ x m d₂. after (term_ends t d₂) λ y n. ite_ends z x m y

-- the rule of a relation of words x and y: = is SLICE with k = 0 and its left side as r; bvuge and bvugt are turned round
abbrev pub relation_rule : Relation → ℕ → ℕ → Rule
relation_rule equals x y = computing_rule SLICE 0 x y 0 0
relation_rule distinct x y = relating_rule NE x y
relation_rule bvule x y = relating_rule ULE x y
relation_rule bvult x y = relating_rule ULT x y
relation_rule bvuge x y = relating_rule ULE y x
relation_rule bvugt x y = relating_rule ULT y x

-- what `not` makes of a relation
abbrev pub opposite : Relation → Relation
opposite equals = distinct
opposite distinct = equals
opposite bvule = bvugt
opposite bvult = bvuge
opposite bvuge = bvult
opposite bvugt = bvule

-- what the closing bracket of a relation adds, after its first term has ended and then its second: one rule
abbrev pub relation_ends : Relation → EndedTerm → (Draft → EndedTerm) → Draft
relation_ends c x second = more_rule (relation_rule c x.word (second x.draft).word) (second x.draft).draft

-- an assert, and all of them, from left to right
unfoldable pub assert_ends : Assert → Draft → Draft
assert_ends (relation c s t) d = relation_ends c (term_ends s d) (term_ends t)
assert_ends (not c s t) d = relation_ends (opposite c) (term_ends s d) (term_ends t)
assert_ends (and a b) d = assert_ends b (assert_ends a d)

unfoldable pub asserts_end : List Assert → Draft → Draft
asserts_end [] d = d
asserts_end (a ∷ as') d = asserts_end as' (assert_ends a d)

-- the problem made of a script: the declared words first, then what the asserts add
unfoldable pub problem_made : Script → Draft
problem_made s = asserts_end s.asserts (start s.sizes)

-- the values of the declared words
abbrev pub declared_in : Script → List ℕ → List ℕ
declared_in s v = take (length s.sizes) v
