use Prim.Native.Nat.{◌-◌}
use Rattle.live.proofs.TrialLaws.{LoadedTo}
use Rattle.live.proofs.load.load_all.Given as goal

-- `work₀` is what `begin` left: its own change of the words is added at the end.
abbrev pub invariant-loop-i : goal.invariant-loop-i
invariant-loop-i l = LoadedTo l.list l.initial.records l.initial.work l.k l.i l.records l.work

abbrev pub decreases-loop-i : goal.decreases-loop-i
decreases-loop-i l = l.k.gates - l.i
