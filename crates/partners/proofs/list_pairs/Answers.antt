use native.Mathlib.Omega.{arith}
use Rattle.slots.proofs.StateLaws.{keeps-loaded, keeps-none}
use Rattle.partners.proofs.ListedLaws.{none-listed}
use Rattle.partners.proofs.list_pairs.Goals as goal

pub loop-slot-init : goal.loop-slot-init
loop-slot-init c = (omega arith, none-listed _ _ _, keeps-none _ _)

pub list_slot-count-requires : goal.list_slot-count-requires
list_slot-count-requires c = record {
  loaded = keeps-loaded _ _ _ _ c.loop-slot.invariant.2 c.requires.loaded;
  slot_lt_gates = (c.loop-slot-test.true, c.requires.gates_nonzero.1, c.loop-slot.invariant.1);
}
