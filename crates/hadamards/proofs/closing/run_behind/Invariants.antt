use Prim.Native.Nat.{◌-◌}
use Rattle.hadamards.proofs.OpensLaws.{Running}
use Rattle.hadamards.proofs.closing.run_behind.Given as goal

abbrev pub invariant-loop-next : goal.invariant-loop-next
invariant-loop-next l = Running l.list.records.now l.list.work.now l.list.extent l.fn.on.0 l.fn.slot.0 l.at.0 l.sum

abbrev pub decreases-loop-next : goal.decreases-loop-next
decreases-loop-next l = l.list.extent.gates - l.at.0
