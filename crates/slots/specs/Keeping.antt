-- A change that keeps a list loaded.
use Rattle.std.specs.Prelude.{◌≡◌, List, ℕ, ◌≤◌, ◌<◌, length, get_or}
use Rattle.slots.specs.declared.Extent.{Extent}
use Rattle.slots.specs.Live.{words_for, nodes_for, pairs_at}

-- Links back and ranks are as they were, and so is what lies past the room.
pub record KeepsLoaded (k : Extent) (was now : List ℕ) : Type 0 where
  pub long : length now ≡ length was
  pub inside : (x : ℕ) → nodes_for k ≤ x → x < pairs_at k → get_or now x 0 ≡ get_or was x 0
  pub past : (x : ℕ) → words_for k ≤ x → get_or now x 0 ≡ get_or was x 0
