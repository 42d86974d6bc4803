use Prim.Native.Nat.{◌*◌, ◌-◌, ◌≤◌}
use Rattle.gates.specs.Records.{operand_words}
use Rattle.slots.proofs.NodeLaws.{Taken}
use Rattle.slots.proofs.nodes.take_off.Given as goal

abbrev pub invariant-loop-op : goal.invariant-loop-op
invariant-loop-op l = (l.op ≤ l.count) × Taken l.side l.ends (3 * l.slot) l.op (operand_words l.r) l.initial.work l.work

abbrev pub decreases-loop-op : goal.decreases-loop-op
decreases-loop-op l = l.count - l.op
