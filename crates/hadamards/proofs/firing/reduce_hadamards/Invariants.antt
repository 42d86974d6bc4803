use Prim.Native.Nat.{◌-◌}
use Rattle.hadamards.proofs.SweptLaws.{SweptTo}
use Rattle.hadamards.proofs.firing.reduce_hadamards.Given as goal

-- `work₀` is what the scan left: its own change of the words is added at the end.
abbrev pub invariant-loop-w : goal.invariant-loop-w
invariant-loop-w l =
    SweptTo l.initial.records l.initial.work l.initial.journal l.k l.steps l.records l.work l.journal l.s l.w
