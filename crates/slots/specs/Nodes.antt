-- What the functions on nodes do to the words, and what they ask.
use Rattle.std.specs.Prelude.{◌≡◌, cond, List, [], ◌∷◌, ℕ, zero, suc, ◌+◌, ◌*◌, ◌/◌, ◌≤◌, ◌<◌, ltb, length, set}
use Rattle.std.proofs.Math.Option.{Option, some, none}
use Rattle.gates.specs.declared.records.Record.{Record}
use Rattle.gates.specs.Gates.{All}
use Rattle.gates.specs.Records.{operand_words}
use Rattle.links.specs.Words.{word, Within}
use Rattle.slots.specs.declared.Extent.{Extent}
use Rattle.slots.specs.Live.{nodes_for, end_of}

-- Each wire is empty on a side: its end is linked to itself.
pub record Closed (side : ℕ) (k : Extent) (was now : List ℕ) : Type 0 where
  pub each : (w : ℕ) → w < k.wires → word now side (end_of k w) ≡ end_of k w
  pub within : Within (side + 3 * k.gates) k.wires was now

-- A node, and those after it, are put on the stacks of wires: each takes what its wire's end held, and the end takes the node.
unfoldable pub hung : ℕ → ℕ → ℕ → List ℕ → List ℕ → List ℕ
hung side ends node [] words = words
hung side ends node (w ∷ ws) words =
    hung side ends (suc node) ws (set (set words (side + node) (word words (side + ends) w)) (side + ends + w) node)

-- They are taken off: each wire's end takes what the node held.
unfoldable pub taken_off : ℕ → ℕ → ℕ → List ℕ → List ℕ → List ℕ
taken_off side ends node [] words = words
taken_off side ends node (w ∷ ws) words =
    taken_off side ends (suc node) ws (set words (side + ends + w) (word words side node))

-- A record whose wires are below n, for a slot with room for its nodes on a side.
pub record InRoom (words : List ℕ) (side : ℕ) (k : Extent) (slot : ℕ) (r : Record) : Type 0 where
  pub within : side + nodes_for k ≤ length words
  pub few : k.gates ≤ 1048576
  pub narrow : k.wires ≤ 65536
  pub inside : slot < k.gates
  pub kind : r.kind < 27
  pub wires : All (λ w. w < k.wires) (operand_words r)

-- A node is passed by: the node before it and the one after it are joined.
abbrev pub joined_past : ℕ → ℕ → ℕ → List ℕ → List ℕ
joined_past next prev node words =
    set (set words (next + word words prev node) (word words next node)) (prev + word words next node) (word words prev node)

abbrev pub CanPass : ℕ → ℕ → ℕ → List ℕ → Type 0
CanPass next prev node words =
    (next + node < length words) × (prev + node < length words) × (next + word words prev node < length words) ×
    (prev + word words next node < length words)

-- So many nodes, one after another.
unfoldable pub passed_by : ℕ → ℕ → ℕ → List ℕ → List ℕ
passed_by prev node zero words = words
passed_by prev node (suc count) words = passed_by prev (suc node) count (joined_past 0 prev node words)

unfoldable pub CanPassAll : ℕ → ℕ → ℕ → List ℕ → Type 0
CanPassAll prev node zero words = Unit {0}
CanPassAll prev node (suc count) words =
    CanPass 0 prev node words × CanPassAll prev (suc node) count (joined_past 0 prev node words)

-- The slot of a node, which is none at the end of a wire.
abbrev pub slot_in : ℕ → ℕ → Option ℕ
slot_in ends node = cond (ltb node ends) (some (node / 3)) none
