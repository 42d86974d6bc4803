-- The tests of input: document 01, "Numbers a call can come back with". Let n be wires, g records.
use Rattle.std.specs.Prelude.{Result, Ok, Err, Option, Some, None, Bool, false, cond, not, ◌&&◌, ◌||◌, List, [], ◌∷◌, ◌++◌, ℕ, zero, suc, ◌+◌, ◌*◌, ◌/◌, ◌%◌, eqb, leb, ltb, length}
use Rattle.gates.specs.declared.Position.{Position}
use Rattle.gates.specs.declared.records.Record.{Record}
use Rattle.gates.specs.Kinds.{shape_of, has_angle}
use Rattle.gates.specs.Gates.{twice}
use Rattle.gates.specs.Records.{record_at, operand_words, unused_of, all_zero}
use Rattle.intake.specs.declared.Sizes.{Sizes}
use Rattle.intake.specs.declared.faults.Fault.{Fault}
use Rattle.intake.specs.declared.faults.Refusal.{Refusal}
use Rattle.intake.specs.Faults.{number_in, refusal}

-- A test: whether it fails, and the fault and the place that are then given.
pub record Test : Type 0 where
  pub fails : Bool
  pub fault : Fault
  pub place : ℕ

abbrev pub test : Fault → ℕ → Bool → Test
test fault place fails = record { fails = fails; fault = fault; place = place }

abbrev pub position : ℕ → Position
position n = record { 0 = n }

-- "Checks run in this order": the first that fails is given.
unfoldable pub first_failing : List Test → Result Unit Refusal
first_failing [] = Ok tt
first_failing (t ∷ ts) = cond t.fails (Err (refusal t.fault (position t.place))) (first_failing ts)

-- "Success and acceptance are number 0, place 0"
abbrev pub number_of : Result Unit Refusal → ℕ
number_of (Ok _) = 0
number_of (Err r) = number_in r.fault

abbrev pub place_of : Result Unit Refusal → ℕ
place_of (Ok _) = 0
place_of (Err r) = r.place.0

-- ------------------------------------------------------------ sizes

abbrev pub records_in : ℕ → ℕ
records_in bytes = bytes / 16

-- 1: wires or classical bits over 65,536. 2: list bytes no multiple of 16. 3: g over 1,048,576.
-- 4: output (checker: replay) buffer shorter than the list. 5: work room under 16g + 4n 32-bit words.
unfoldable pub size_tests : ℕ → Sizes → List Test
size_tests bytes s =
    test Fault.TooWide 0 (ltb 65536 s.wires || ltb 65536 s.bits) ∷
    test Fault.NotWhole 0 (not (eqb (bytes % 16) 0)) ∷
    test Fault.TooLong 0 (ltb 1048576 (records_in bytes)) ∷
    test Fault.OutputShort 0 (ltb s.output bytes) ∷
    test Fault.WorkShort 0 (ltb s.work (16 * records_in bytes + 4 * s.wires)) ∷
    []

-- 6: journal room under 24g bytes (pass only).
unfoldable pub journal_tests : ℕ → Option ℕ → List Test
journal_tests bytes None = []
journal_tests bytes (Some room) = test Fault.JournalShort 0 (ltb room (24 * records_in bytes)) ∷ []

-- ------------------------------------------------------------ records

unfoldable pub any_over : ℕ → List ℕ → Bool
any_over n [] = false
any_over n (w ∷ ws) = leb n w || any_over n ws

-- 10: a wire at or over n. 11: a wire twice in one gate. 12: classical bit at or over their number.
unfoldable pub operand_tests : ℕ → ℕ → ℕ → Record → List Test
operand_tests n bits place r =
    test Fault.WireOver place (any_over n (operand_words r)) ∷
    test Fault.WireTwice place (twice (operand_words r)) ∷
    test Fault.BitOver place (eqb r.kind 12 && leb bits r.second) ∷
    []

-- 7: kind carries an angle. 8: code 27 to 255. 9: byte 1 to 3 or an unused word not zero.
unfoldable pub record_tests : ℕ → ℕ → ℕ → Record → List Test
record_tests n bits place r =
    test Fault.Angle place (has_angle (shape_of r.kind)) ∷
    test Fault.UnknownKind place (leb 27 r.kind) ∷
    test Fault.NotZero place (not (all_zero (unused_of r))) ∷
    operand_tests n bits place r

-- "of bad records the earliest is named, with its first failing check of 7 to 12": the records from a place on
unfoldable pub records_tests : ℕ → ℕ → List ℕ → ℕ → ℕ → List Test
records_tests n bits list place zero = []
records_tests n bits list place (suc more) =
    record_tests n bits place (record_at list place) ++ records_tests n bits list (suc place) more

abbrev pub list_tests : ℕ → ℕ → List ℕ → List Test
list_tests n bits list = records_tests n bits list 0 (records_in (length list))

-- ------------------------------------------------------------ all of them

-- The tests of a call's input, in their order.
abbrev pub input_tests : List ℕ → Sizes → Option ℕ → List Test
input_tests list s journal = size_tests (length list) s ++ (journal_tests (length list) journal ++ list_tests s.wires s.bits list)
