-- What can be wrong with an input: document 01, "Numbers a call can come back with".
use Rattle.std.specs.Prelude.{ℕ}
use Rattle.gates.specs.declared.Position.{Position}
use Rattle.gates.specs.declared.records.NoGate.{NoGate}
use Rattle.intake.specs.declared.faults.Fault.{Fault}
use Rattle.intake.specs.declared.faults.Refusal.{Refusal}

abbrev pub number_in : Fault → ℕ
number_in Fault.TooWide = 1
number_in Fault.NotWhole = 2
number_in Fault.TooLong = 3
number_in Fault.OutputShort = 4
number_in Fault.WorkShort = 5
number_in Fault.JournalShort = 6
number_in Fault.Angle = 7
number_in Fault.UnknownKind = 8
number_in Fault.NotZero = 9
number_in Fault.WireOver = 10
number_in Fault.WireTwice = 11
number_in Fault.BitOver = 12

-- The fault of a list with a record that is no gate.
abbrev pub fault_of : NoGate → Fault
fault_of NoGate.Angle = Fault.Angle
fault_of NoGate.Unknown = Fault.UnknownKind
fault_of NoGate.NotZero = Fault.NotZero

abbrev pub refusal : Fault → Position → Refusal
refusal fault place = record { fault = fault; place = place }
