-- The tests of a record, by what the record decodes to.
use Rattle.std.specs.Prelude.{Result, Ok, Err}
use mathlib.Core.Path.{◌≡◌, refl, ap, sym, ◌∙◌}
use mathlib.Core.Bool.{Bool, true, false}
use Prim.Native.Nat.{ℕ, ◌<◌}
use lib.Dec.{T, leb}
use borrow.Author.Tests.{leb-true, leb-false}
use Rattle.gates.specs.declared.Gate.{Gate}
use Rattle.gates.specs.declared.records.Record.{Record}
use Rattle.gates.specs.declared.records.NoGate.{NoGate}
use Rattle.gates.specs.Kinds.{Shape, on1, on2, on3, on_bit, angled, unknown, shape_of}
use Rattle.gates.specs.Records.{unused_of, all_zero, named_by, gate_of}
use Rattle.gates.proofs.KindLaws.{unknown-from}
use Rattle.gates.proofs.RecordLaws.{is_known, known-below-27, known-kind}
use Rattle.intake.specs.declared.faults.Refusal.{Refusal}
use Rattle.intake.specs.Faults.{fault_of, refusal}
use Rattle.intake.specs.Tests.{position, first_failing, operand_tests, record_tests}

-- 7, 8 and 9 are what a record is refused for before its operands are looked at
abbrev pub by_decoded : ℕ → ℕ → ℕ → Record → Result Gate NoGate → Result Unit Refusal
by_decoded n bits place r (Ok g) = first_failing (operand_tests n bits place r)
by_decoded n bits place r (Err why) = Err (refusal (fault_of why) (position place))

module _ (n bits place : ℕ) (r : Record) where
  -- a known kind: its shape, and whether what is unused is zero, decide
  by_shape : (s : Shape) → shape_of r.kind ≡ s → T (is_known s) → leb 27 r.kind ≡ false
      → (clean : Bool) → all_zero (unused_of r) ≡ clean
      → by_decoded n bits place r (gate_of r) ≡ first_failing (record_tests n bits place r)
  unfolding gate_of named_by first_failing record_tests
  by_shape (on1 f) e k low true z = rw (e, low, z)
  by_shape (on1 f) e k low false z = rw (e, low, z)
  by_shape (on2 f) e k low true z = rw (e, low, z)
  by_shape (on2 f) e k low false z = rw (e, low, z)
  by_shape (on3 f) e k low true z = rw (e, low, z)
  by_shape (on3 f) e k low false z = rw (e, low, z)
  by_shape (on_bit f) e k low true z = rw (e, low, z)
  by_shape (on_bit f) e k low false z = rw (e, low, z)
  by_shape (angled m) e k low clean z = rw e
  by_shape unknown e k low clean z = absurd k

  past-26 : shape_of r.kind ≡ unknown → leb 27 r.kind ≡ true
      → by_decoded n bits place r (gate_of r) ≡ first_failing (record_tests n bits place r)
  unfolding gate_of named_by first_failing record_tests
  past-26 e high = rw (e, high)

  pub tested : by_decoded n bits place r (gate_of r) ≡ first_failing (record_tests n bits place r)
  tested = go (leb 27 r.kind) refl
    where
      go : (b : Bool) → leb 27 r.kind ≡ b → by_decoded n bits place r (gate_of r) ≡ first_failing (record_tests n bits place r)
      go true h = past-26 (unknown-from r.kind (leb-true 27 r.kind h)) h
      go false h =
          by_shape (shape_of r.kind) refl (known-below-27 r.kind (leb-false 27 r.kind h)) h (all_zero (unused_of r)) refl

-- the same as the code has it: a record of a gate by its operands, another by why it is none
pub gate_tested : (n bits place : ℕ) (r : Record) (g : Gate) → gate_of r ≡ Ok g
    → first_failing (operand_tests n bits place r) ≡ first_failing (record_tests n bits place r)
gate_tested n bits place r g e = ap (by_decoded n bits place r) (sym e) ∙ tested n bits place r

pub refused_tested : (n bits place : ℕ) (r : Record) (why : NoGate) → gate_of r ≡ Err why
    → first_failing (record_tests n bits place r) ≡ Err (refusal (fault_of why) (position place))
refused_tested n bits place r why e = sym (tested n bits place r) ∙ ap (by_decoded n bits place r) e

-- `known-kind` under a name that the attribute of a function can have
pub kind_of_gate : (r : Record) (g : Gate) → gate_of r ≡ Ok g → r.kind < 27
kind_of_gate r g e = known-kind r g e
