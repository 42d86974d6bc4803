use mathlib.Core.Path.{◌≡◌}
use Rattle.gates.specs.Gates.{wires_of}
use Rattle.slots.specs.Slots.{gate_at}
use Rattle.slots.specs.Live.{is_live}
use Rattle.asking.proofs.BlockerLaws.{latest_on}
use Rattle.asking.proofs.loaded.LoadedList.blocker.Given as goal

abbrev pub invariant-loop-op : goal.invariant-loop-op
invariant-loop-op l =
    let list = l.self in
    let g = gate_at list.records.now l.slot.0 in
    l.best ≡ latest_on (is_live list.work.now list.extent) (gate_at list.records.now) l.slot.0 (wires_of g) l.op
