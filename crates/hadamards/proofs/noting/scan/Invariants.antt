use Prim.Native.Nat.{◌-◌, ◌≤◌}
use Rattle.hadamards.proofs.ScanLaws.{ScannedTo}
use Rattle.hadamards.proofs.noting.scan.Given as goal

abbrev pub invariant-loop-i : goal.invariant-loop-i
invariant-loop-i l = (l.i ≤ l.k.gates) × ScannedTo l.records l.initial.work l.work l.k l.i
