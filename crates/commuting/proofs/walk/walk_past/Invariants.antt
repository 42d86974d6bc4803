use Prim.Native.Nat.{◌*◌, ◌-◌}
use Rattle.commuting.proofs.LoopLaws.{Begun, Round}
use Rattle.commuting.proofs.walk.walk_past.Given as goal

abbrev pub invariant-walk : goal.invariant-walk
invariant-walk l =
    Begun l.records l.work l.list.extent l.fn.slot.0 l.partner.0 l.fn.pair l.past l.count l.at l.open l.looks l.ending

abbrev pub decreases-walk : goal.decreases-walk
decreases-walk l = 3 * l.list.extent.gates - l.looks

abbrev pub invariant-loop-op : goal.invariant-loop-op
invariant-loop-op l =
    Round l.records l.work l.list.extent l.fn.slot.0 l.partner.0 l.fn.pair l.past l.count l.initial.looks l.at l.open l.looks l.ending l.op

abbrev pub decreases-loop-op : goal.decreases-loop-op
decreases-loop-op l = l.count - l.op
