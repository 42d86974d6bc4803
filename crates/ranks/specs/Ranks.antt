-- Ranks: marks of slots, a bit each, and the sums of marks in blocks of 32, 1,024 and 32,768 slots.
use Rattle.std.specs.Prelude.{◌≡◌, cond, List, ℕ, zero, suc, ◌+◌, ◌*◌, ◌/◌, ◌%◌, ◌^◌, ◌≤◌, eqb, ltb, length}
use Rattle.links.specs.Words.{word, Within}

-- A bit of a word.
abbrev pub bit : ℕ → ℕ → ℕ
bit word i = word / 2 ^ i % 2

-- The sum of the first so many.
unfoldable pub below : (ℕ → ℕ) → ℕ → ℕ
below f zero = 0
below f (suc i) = below f i + f i

-- ------------------------------------------------------------ where they stand, for so many slots

-- A region of words; 0 past its end.
abbrev pub region : List ℕ → ℕ → ℕ → ℕ → ℕ
region words at size i = cond (ltb i size) (word words at i) 0

abbrev pub sums32_at : ℕ → ℕ
sums32_at slots = slots / 32 + 1

abbrev pub sums1024_at : ℕ → ℕ
sums1024_at slots = sums32_at slots + (slots / 32 + 1)

abbrev pub sums32768_at : ℕ → ℕ
sums32768_at slots = sums1024_at slots + (slots / 1024 + 1)

-- The words of marks and sums.
abbrev pub size_for : ℕ → ℕ
size_for slots = sums32768_at slots + (slots / 32768 + 1)

-- Each word has the marks of 32 slots, the lowest bit that of the first.
unfoldable pub marks : List ℕ → ℕ → ℕ → ℕ → ℕ
marks words at slots i = cond (ltb i slots) (bit (word words at (i / 32)) (i % 32)) 0

unfoldable pub sums32 : List ℕ → ℕ → ℕ → ℕ → ℕ
sums32 words at slots = region words (at + sums32_at slots) (slots / 32 + 1)

unfoldable pub sums1024 : List ℕ → ℕ → ℕ → ℕ → ℕ
sums1024 words at slots = region words (at + sums1024_at slots) (slots / 1024 + 1)

unfoldable pub sums32768 : List ℕ → ℕ → ℕ → ℕ → ℕ
sums32768 words at slots = region words (at + sums32768_at slots) (slots / 32768 + 1)

-- ------------------------------------------------------------ what they say

-- Each of one list of numbers is the sum of 32 of another.
abbrev pub SumsOf : (ℕ → ℕ) → (ℕ → ℕ) → Type 0
SumsOf lower upper = (j : ℕ) → below upper j ≡ below lower (32 * j)

pub record Ranks (words : List ℕ) (at slots : ℕ) : Type 0 where
  pub within : at + size_for slots ≤ length words
  pub few : slots ≤ 1048576
  pub small : (i : ℕ) → marks words at slots i ≤ 1
  pub by32 : SumsOf (marks words at slots) (sums32 words at slots)
  pub by1024 : SumsOf (sums32 words at slots) (sums1024 words at slots)
  pub by32768 : SumsOf (sums1024 words at slots) (sums32768 words at slots)

-- One slot has another mark, and nothing outside the region has changed.
pub record Marked (at slots slot mark : ℕ) (was now : List ℕ) : Type 0 where
  pub ranks : Ranks now at slots
  pub marked : (i : ℕ) → marks now at slots i ≡ cond (eqb i slot) mark (marks was at slots i)
  pub within : Within at (size_for slots) was now

-- No slot is marked.
pub record Blank (at slots : ℕ) (was now : List ℕ) : Type 0 where
  pub ranks : Ranks now at slots
  pub none : (i : ℕ) → marks now at slots i ≡ 0
  pub within : Within at (size_for slots) was now
