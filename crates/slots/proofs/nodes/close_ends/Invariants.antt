use Prim.Native.Nat.{◌-◌, ◌≤◌}
use Rattle.slots.proofs.NodeLaws.{ClosedFirst}
use Rattle.slots.proofs.nodes.close_ends.Given as goal

abbrev pub invariant-loop-w : goal.invariant-loop-w
invariant-loop-w l = (l.w ≤ l.w-end) × ClosedFirst l.side l.ends l.w l.initial.work l.work

abbrev pub decreases-loop-w : goal.decreases-loop-w
decreases-loop-w l = l.w-end - l.w
