use Prim.Native.Nat.{◌-◌}
use lib.ListN.{length}
use Rattle.hadamards.proofs.WireLaws.{WireTo}
use Rattle.hadamards.proofs.firing.fire_wire.Given as goal

abbrev pub invariant-loop-link : goal.invariant-loop-link
invariant-loop-link l =
    WireTo l.initial.records l.initial.work l.initial.journal l.k l.on.0 l.steps l.records l.work l.journal l.s l.link

abbrev pub decreases-loop-link : goal.decreases-loop-link
decreases-loop-link l = length l.initial.journal - l.s
