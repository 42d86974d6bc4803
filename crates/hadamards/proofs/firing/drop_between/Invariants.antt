use lib.ListN.{length, get_or}
use Rattle.gates.specs.Gates.{wires_of}
use Rattle.slots.specs.Slots.{gate_at}
use Rattle.slots.specs.Live.{held}
use Rattle.hadamards.proofs.PlacingLaws.{Dropping}
use Rattle.hadamards.proofs.firing.drop_between.Given as goal

abbrev pub invariant-loop-to : goal.invariant-loop-to
invariant-loop-to l = Dropping l.records l.k (get_or (wires_of (gate_at l.records l.from.0)) 0 0) l.from.0 l.to.0 l.initial.work l.work

abbrev pub decreases-loop-to : goal.decreases-loop-to
decreases-loop-to l = length (held l.records l.work l.k)
