use Prim.Native.Nat.{◌-◌}
use Rattle.live.proofs.FinishLaws.{Moved}
use Rattle.live.proofs.finish.finish.Given as goal

abbrev pub invariant-loop-slot : goal.invariant-loop-slot
invariant-loop-slot l = Moved l.initial.records l.work l.k l.slot l.records l.kept

abbrev pub decreases-loop-slot : goal.decreases-loop-slot
decreases-loop-slot l = l.k.gates - l.slot
