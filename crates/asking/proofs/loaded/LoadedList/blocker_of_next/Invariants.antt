use mathlib.Core.Path.{◌≡◌}
use Rattle.gates.specs.Records.{operand_words}
use Rattle.slots.specs.Slots.{gate_at}
use Rattle.slots.specs.Live.{is_live}
use Rattle.asking.proofs.BlockerLaws.{latest_on}
use Rattle.asking.proofs.loaded.LoadedList.blocker_of_next.Given as goal

abbrev pub invariant-loop-op : goal.invariant-loop-op
invariant-loop-op l =
    let list = l.self in
    l.best ≡ latest_on (is_live list.work.now list.extent) (gate_at list.records.now) list.extent.gates (operand_words l.r) l.op
