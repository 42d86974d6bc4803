-- Slots: the records that a list works on, and the gate in each.
use Rattle.std.specs.Prelude.{Option as Answer, Some, None, Result, Ok, Err, ◌≡◌, Bool, true, false, cond, List, [], ◌∷◌, ℕ, zero, suc, ◌<◌, eqb, ltb}
use Rattle.std.proofs.Math.Option.{Option, some, none}
use Rattle.gates.specs.declared.Gate.{Gate}
use Rattle.gates.specs.declared.Gate.TheVariants.{X}
use Rattle.gates.specs.declared.records.Record.{Record}
use Rattle.gates.specs.declared.records.NoGate.{NoGate}
use Rattle.gates.specs.Gates.{wire, wires_of, touches, twice}
use Rattle.gates.specs.Records.{record_at, gate_of}
use Rattle.rules.specs.Steps.{Cell, Cut}
use Rattle.slots.specs.declared.Slot.{Slot}

-- The gate of a record; of bytes that are none, which no slot in use has, some gate.
abbrev pub gate_in : Result Gate NoGate → Gate
gate_in (Ok g) = g
gate_in (Err why) = X (wire 0)

unfoldable pub gate_at : List ℕ → ℕ → Gate
gate_at bytes slot = gate_in (gate_of (record_at bytes slot))

-- A record of a gate whose wires are below n, none twice.
pub record Sound (n : ℕ) (r : Record) : Type 0 where
  pub reads : gate_of r ≡ Ok (gate_in (gate_of r))
  pub below : (w : ℕ) → touches w (gate_in (gate_of r)) ≡ true → w < n
  pub distinct : twice (wires_of (gate_in (gate_of r))) ≡ false

-- ------------------------------------------------------------ the list of cells

-- A slot's cell: its gate, and beside it the slot.
abbrev pub cell_of : (ℕ → Gate) → ℕ → Cell ℕ
cell_of gates i = record { gate = gates i; beside = i }

-- The cells of the live slots: of so many from i on, in order; and of those below i, the latest first.
unfoldable pub cells_from : (ℕ → Bool) → (ℕ → Gate) → ℕ → ℕ → List (Cell ℕ)
cells_from live gates i zero = []
cells_from live gates i (suc count) =
    let later = cells_from live gates (suc i) count in cond (live i) (cell_of gates i ∷ later) later

unfoldable pub cells_below : (ℕ → Bool) → (ℕ → Gate) → ℕ → List (Cell ℕ)
cells_below live gates zero = []
cells_below live gates (suc i) =
    let earlier = cells_below live gates i in cond (live i) (cell_of gates i ∷ earlier) earlier

-- The slot at which a list is parted.
abbrev pub slot_of : Option (Cut ℕ) → Option ℕ
slot_of none = none
slot_of (some c) = some c.here.beside

-- ------------------------------------------------------------ changes of the list

-- All cells but a slot's.
unfoldable pub left_out : ℕ → List (Cell ℕ) → List (Cell ℕ)
left_out slot [] = []
left_out slot (e ∷ l) = cond (eqb e.beside slot) (left_out slot l) (e ∷ left_out slot l)

-- The cells with another gate in a slot's.
unfoldable pub rewritten : ℕ → Gate → List (Cell ℕ) → List (Cell ℕ)
rewritten slot g [] = []
rewritten slot g (e ∷ l) =
    cond (eqb e.beside slot) (record { gate = g; beside = e.beside }) e ∷ rewritten slot g l

-- ------------------------------------------------------------ answers

abbrev pub slot_as : ℕ → Slot
slot_as i = record { 0 = i }

abbrev pub found : Option ℕ → Answer Slot
found none = None
found (some i) = Some (slot_as i)

-- The later of two.
abbrev pub later_of : Answer Slot → Answer Slot → Answer Slot
later_of None b = b
later_of (Some i) None = Some i
later_of (Some i) (Some j) = cond (ltb i.0 j.0) (Some j) (Some i)
