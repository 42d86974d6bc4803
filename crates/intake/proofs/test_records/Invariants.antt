use Prim.Native.Nat.{◌-◌}
use mathlib.Core.Path.{◌≡◌}
use lib.ListN.{length}
use Rattle.intake.specs.Tests.{records_in, first_failing, records_tests, list_tests}
use Rattle.intake.proofs.test_records.Given as goal

abbrev pub invariant-loop-i : goal.invariant-loop-i
invariant-loop-i l = first_failing (list_tests l.wires l.bits l.list) ≡ first_failing (records_tests l.wires l.bits l.list l.i (records_in (length l.list) - l.i))
