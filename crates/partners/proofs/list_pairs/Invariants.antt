use Prim.Native.Nat.{◌-◌, ◌≤◌}
use Rattle.slots.specs.Keeping.{KeepsLoaded}
use Rattle.partners.specs.Pairs.{ListedTo}
use Rattle.partners.proofs.list_pairs.Given as goal

abbrev pub invariant-loop-slot : goal.invariant-loop-slot
invariant-loop-slot l =
    (l.slot ≤ l.k.gates) × ListedTo l.records l.work l.k l.slot l.count × KeepsLoaded l.k l.initial.work l.work

abbrev pub decreases-loop-slot : goal.decreases-loop-slot
decreases-loop-slot l = l.k.gates - l.slot
