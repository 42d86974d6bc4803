-- Words that a caller lends: a region, and what is outside it.
use Rattle.std.specs.Prelude.{◌≡◌, List, ℕ, ◌+◌, ◌<◌, length, get_or}

-- The words from a place on.
abbrev pub word : List ℕ → ℕ → ℕ → ℕ
word words at i = get_or words (at + i) 0

-- Not among so many words from a place on.
abbrev pub Outside : ℕ → ℕ → ℕ → Type 0
Outside at size x = x < at + size → x < at

-- Of all words only so many from a place on may have changed.
pub record Within (at size : ℕ) (was now : List ℕ) : Type 0 where
  pub long : length now ≡ length was
  pub same : (x : ℕ) → Outside at size x → get_or now x 0 ≡ get_or was x 0

-- And those are 0.
pub record Cleared (at size : ℕ) (was now : List ℕ) : Type 0 where
  pub within : Within at size was now
  pub zero : (i : ℕ) → i < size → word now at i ≡ 0
