-- Loading: a whole list, and how far links forward are filled in.
use Rattle.std.specs.Prelude.{◌≡◌, true, List, ℕ, suc, ◌-◌, ◌≤◌, ◌<◌}
use Rattle.links.specs.Words.{word}
use Rattle.links.specs.Seek.{earliest, node_at}
use Rattle.slots.specs.declared.Extent.{Extent}
use Rattle.rules.specs.Steps.{Cell}
use Rattle.slots.specs.Slots.{gate_at, cells_from}
use Rattle.slots.specs.Live.{node_on, end_of, on_wire}

-- The slots from one on are linked forward.
pub record FilledTo (bytes words : List ℕ) (k : Extent) (from : ℕ) : Type 0 where
  pub each : (w : ℕ) → w < k.wires → (i : ℕ) → from ≤ i → i < k.gates → on_wire bytes words k w i ≡ true →
      word words 0 (node_on bytes w i)
      ≡ node_at (node_on bytes w) (end_of k w) (earliest (on_wire bytes words k w) (suc i) (k.gates - suc i))
  pub first : (w : ℕ) → w < k.wires →
      word words 0 (end_of k w) ≡ node_at (node_on bytes w) (end_of k w) (earliest (on_wire bytes words k w) from (k.gates - from))

-- All gates of a list of so many records, the slot of each its place.
abbrev pub whole_list : List ℕ → ℕ → List (Cell ℕ)
whole_list list count = cells_from (λ i. true) (gate_at list) 0 count
