use Prim.Native.Nat.{◌-◌, ◌≤◌}
use Rattle.slots.proofs.NodeLaws.{Passed}
use Rattle.slots.proofs.nodes.pass_by.Given as goal

abbrev pub invariant-loop-op : goal.invariant-loop-op
invariant-loop-op l = (l.op ≤ l.count) × Passed l.prev l.node l.count l.op l.initial.work l.work

abbrev pub decreases-loop-op : goal.decreases-loop-op
decreases-loop-op l = l.count - l.op
