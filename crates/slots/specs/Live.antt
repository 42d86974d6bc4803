-- The live list: what the records and the lent words of a call hold. For g gates on n wires the words are, in this order,
-- links to the next node and to the one before, ranks, links between equal pairs, two lists and a table.
use Rattle.std.specs.Prelude.{◌≡◌, Bool, true, cond, ◌&&◌, List, [], ◌∷◌, ℕ, suc, ◌+◌, ◌*◌, ◌-◌, ◌≤◌, ◌<◌, eqb, length}
use Rattle.gates.specs.Gates.{wires_of, touches}
use Rattle.gates.specs.Records.{record_at}
use Rattle.rules.specs.Equal.{equal, is_pair}
use Rattle.rules.specs.Steps.{Cell}
use Rattle.links.specs.Words.{word}
use Rattle.links.specs.Seek.{latest, earliest, node_at, LinkedBack, LinkedOn}
use Rattle.ranks.specs.Ranks.{Ranks, marks, size_for}
use Rattle.slots.specs.declared.Extent.{Extent}
use Rattle.slots.specs.Slots.{gate_at, Sound, cells_from, cells_below}

-- ------------------------------------------------------------ where things stand

-- As many gates and wires as document 01 allows a call.
abbrev pub InLimits : Extent → Type 0
InLimits k = (k.gates ≤ 1048576) × (k.wires ≤ 65536)

-- "16g + 4n 32-bit words"
abbrev pub words_for : Extent → ℕ
words_for k = 16 * k.gates + 4 * k.wires

-- Nodes: a gate's operands have 3 * slot and the numbers after it, and a wire's end has 3g + wire.
abbrev pub nodes_for : Extent → ℕ
nodes_for k = 3 * k.gates + k.wires

abbrev pub prev_at : Extent → ℕ
prev_at k = nodes_for k

abbrev pub ranks_at : Extent → ℕ
ranks_at k = 2 * nodes_for k

abbrev pub pairs_at : Extent → ℕ
pairs_at k = ranks_at k + size_for k.gates

abbrev pub pair_prev_at : Extent → ℕ
pair_prev_at k = pairs_at k + (k.gates + 1)

-- The words after the links: two lists of one word a slot and a table of two a wire, for whoever needs them for a while.
abbrev pub spare_at : Extent → ℕ
spare_at k = pair_prev_at k + (k.gates + 1)

-- ------------------------------------------------------------ the list that is held

unfoldable pub is_live : List ℕ → Extent → ℕ → Bool
is_live words k slot = eqb (marks words (ranks_at k) k.gates slot) 1

abbrev pub held : List ℕ → List ℕ → Extent → List (Cell ℕ)
held bytes words k = cells_from (is_live words k) (gate_at bytes) 0 k.gates

-- What is held below a slot, the latest first; and past it.
abbrev pub earlier : List ℕ → List ℕ → Extent → ℕ → List (Cell ℕ)
earlier bytes words k slot = cells_below (is_live words k) (gate_at bytes) slot

abbrev pub later : List ℕ → List ℕ → Extent → ℕ → List (Cell ℕ)
later bytes words k slot = cells_from (is_live words k) (gate_at bytes) (suc slot) (k.gates - suc slot)

-- ------------------------------------------------------------ what the links say

-- Which of its operands a gate has on a wire.
unfoldable pub operand_of : ℕ → List ℕ → ℕ
operand_of w [] = 0
operand_of w (v ∷ vs) = cond (eqb w v) 0 (suc (operand_of w vs))

abbrev pub node_on : List ℕ → ℕ → ℕ → ℕ
node_on bytes w slot = 3 * slot + operand_of w (wires_of (gate_at bytes slot))

abbrev pub end_of : Extent → ℕ → ℕ
end_of k w = 3 * k.gates + w

abbrev pub on_wire : List ℕ → List ℕ → Extent → ℕ → ℕ → Bool
on_wire bytes words k w slot = is_live words k slot && touches w (gate_at bytes slot)

abbrev pub equal_to : List ℕ → List ℕ → Extent → ℕ → ℕ → Bool
equal_to bytes words k slot other = is_live words k other && equal (gate_at bytes slot) (gate_at bytes other)

-- A list as it is loaded: on each wire every gate is linked to the one before it, and the end to the last.
pub record Loaded (bytes words : List ℕ) (k : Extent) : Type 0 where
  pub few : k.gates ≤ 1048576
  pub narrow : k.wires ≤ 65536
  pub long : 16 * k.gates ≤ length bytes
  pub room : words_for k ≤ length words
  pub ranks : 0 < k.gates → Ranks words (ranks_at k) k.gates
  pub sound : (i : ℕ) → is_live words k i ≡ true → Sound k.wires (record_at bytes i)
  pub back : (w : ℕ) → w < k.wires →
      LinkedBack (word words (prev_at k)) (node_on bytes w) (end_of k w) (on_wire bytes words k w) k.gates
  pub last : (w : ℕ) → w < k.wires →
      word words (prev_at k) (end_of k w) ≡ node_at (node_on bytes w) (end_of k w) (latest (on_wire bytes words k w) k.gates)

-- On each wire every gate is linked to the one after it, and the end to the first: the wire is a ring.
pub record Forward (bytes words : List ℕ) (k : Extent) : Type 0 where
  pub each : (w : ℕ) → w < k.wires →
      LinkedOn (word words 0) (node_on bytes w) (end_of k w) (on_wire bytes words k w) k.gates
  pub first : (w : ℕ) → w < k.wires →
      word words 0 (end_of k w) ≡ node_at (node_on bytes w) (end_of k w) (earliest (on_wire bytes words k w) 0 k.gates)

-- Each cnot, cz, ccx and ccz is linked to those before and after it that are equal to it.
pub record Partners (bytes words : List ℕ) (k : Extent) : Type 0 where
  pub back : (i : ℕ) → is_live words k i ≡ true → is_pair (gate_at bytes i) ≡ true →
      word words (pair_prev_at k) (suc i) ≡ node_at suc 0 (latest (equal_to bytes words k i) i)
  pub on : (i : ℕ) → is_live words k i ≡ true → is_pair (gate_at bytes i) ≡ true →
      word words (pairs_at k) (suc i) ≡ node_at suc 0 (earliest (equal_to bytes words k i) (suc i) (k.gates - suc i))

-- A list that is loaded and linked.
pub record Live (bytes words : List ℕ) (k : Extent) : Type 0 where
  pub loaded : Loaded bytes words k
  pub forward : Forward bytes words k
  pub partners : Partners bytes words k
