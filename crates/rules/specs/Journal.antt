-- The journal's bytes, and its replay on a list. Document 01, "Journal".
use Rattle.std.specs.Prelude.{List, [], ◌∷◌, ◌++◌, ℕ, zero, suc, ◌+◌, ◌/◌, length}
use Rattle.gates.specs.Words.{word_at, bytes_of}
use Rattle.rules.specs.Steps.{Cell, Step, try, act}

-- "Each record is four 32-bit words: step kind, first position, last position, 0."
unfoldable pub step_at : List ℕ → ℕ → Step
step_at bytes at =
    record {
      kind = word_at bytes at;
      first = word_at bytes (at + 4);
      last = word_at bytes (at + 8);
      fourth = word_at bytes (at + 12);
    }

-- So many steps, from a byte on.
unfoldable pub steps_from : List ℕ → ℕ → ℕ → List Step
steps_from bytes at zero = []
steps_from bytes at (suc n) = step_at bytes at ∷ steps_from bytes (at + 16) n

-- The steps of a journal, whose bytes are a multiple of 16 (13).
abbrev pub steps_of : List ℕ → List Step
steps_of bytes = steps_from bytes 0 (length bytes / 16)

unfoldable pub step_bytes : Step → List ℕ
step_bytes s = bytes_of s.kind ++ (bytes_of s.first ++ (bytes_of s.last ++ bytes_of s.fourth))

unfoldable pub journal_bytes : List Step → List ℕ
journal_bytes [] = []
journal_bytes (s ∷ ss) = step_bytes s ++ journal_bytes ss

-- What a replay comes to: a list, or the index of the first step that is not allowed.
pub data Replayed (A : Type 0) : Type 0 where
  replayed : List (Cell A) → Replayed A
  refused_at : ℕ → Replayed A

module _ {A : Type 0} (kinds : List ℕ) where
  -- The steps from an index on. Number 14, "a step isn't allowed (checker)", has the step as its place.
  unfoldable pub replay_from : ℕ → List Step → List (Cell A) → Replayed A
  replay_from i [] l = replayed l
  replay_from i (s ∷ ss) l = try (act kinds s l) (refused_at i) (replay_from (suc i) ss)

  abbrev pub replay : List Step → List (Cell A) → Replayed A
  replay ss l = replay_from 0 ss l

  -- The replay of any journal bytes.
  abbrev pub replay_bytes : List ℕ → List (Cell A) → Replayed A
  replay_bytes bytes l = replay (steps_of bytes) l
