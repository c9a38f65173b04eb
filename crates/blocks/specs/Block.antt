-- To be believed: a block by itself: its sum, its edition, its number, its count and its zeros.
use Rattle.std.specs.Prelude.{◌≡◌, ℕ, ◌+◌, ◌*◌, ◌%◌, ◌<◌, ◌≤◌, List}
use Rattle.lists.specs.Lists.{at, part, total}
use Rattle.blocks.specs.Bytes.{from_le}
use Rattle.blocks.specs.Edition.{Form, Edition}

-- the sixteen-bit number j of a block
abbrev pub sixteen : List ℕ → ℕ → ℕ
sixteen b j = at b (2 * j) + 256 * at b (2 * j + 1)

-- the 256 sixteen-bit numbers of a block, added
unfoldable pub sum : List ℕ → ℕ
sum b = total 256 (sixteen b)

-- with wrapping at 65,536 they make 65,535
pub record Sound (b : List ℕ) : Type 0 where
  pub makes : sum b % 65536 ≡ 65535

-- the bytes from one place up to another are 0
pub record Clear (b : List ℕ) (from to : ℕ) : Type 0 where
  pub zero_at : (x : ℕ) → from ≤ x → x < to → at b x ≡ 0

-- c records of so many bytes, one or more and at most a full block's, after the eight bytes of the header; in each, the bytes from `used` to the eighth
-- are 0, and so are all bytes after the last record
pub record Records (size used most c : ℕ) (b : List ℕ) : Type 0 where
  pub some : 0 < c
  pub fits : c ≤ most
  pub gaps : (j : ℕ) → j < c → Clear b (8 + size * j + used) (8 + size * j + 8)
  pub rest : Clear b (8 + size * c) 512

module _ (E : Edition) where
  -- byte 0 is the kind, byte 1 the edition, bytes 2 and 3 the block number, bytes 4 and 5 the record count, and the sum is right
  pub record Header (kind i c : ℕ) (b : List ℕ) : Type 0 where
    pub kind_is : at b 0 ≡ kind
    pub edition_is : at b 1 ≡ E.number
    pub number_is : sixteen b 1 ≡ i
    pub count_is : sixteen b 2 ≡ c
    pub sound : Sound b

  -- a block of c records of one form
  pub record RecordBlock (kind : ℕ) (F : Form) (i c : ℕ) (b : List ℕ) : Type 0 where
    pub header : Header kind i c b
    pub records : Records F.size F.used F.most c b

  -- kind 1
  abbrev pub WordsBlock : ℕ → ℕ → List ℕ → Type 0
  WordsBlock i c b = RecordBlock 1 E.words i c b

  -- kind 2
  abbrev pub RulesBlock : ℕ → ℕ → List ℕ → Type 0
  RulesBlock i c b = RecordBlock 2 E.rules i c b

  -- kind 3: count 0, the limit in the first four record bytes, and zeros
  pub record EndBlock (i limit : ℕ) (b : List ℕ) : Type 0 where
    pub header : Header 3 i 0 b
    pub limit_is : from_le (part b 8 4) ≡ limit
    pub rest : Clear b 12 512
