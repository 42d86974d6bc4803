use mathlib.Core.Path.{sym, ◌∙◌}
use Prim.Native.Nat.{◌-◌}
use native.Mathlib.Omega.{arith}
use Rattle.ranks.proofs.BitLaws.{bit-off, bit-rests}
use Rattle.ranks.proofs.RegionLaws.{mark-in}
use Rattle.ranks.proofs.MarkLaws.{room32, room1024, room32768, marked}
use Rattle.ranks.proofs.take_out.Goals as goal

pub without_bit-requires : goal.without_bit-requires
without_bit-requires c =
    (omega arith, sym (mark-in _ _ _ c.args.slot c.requires.slot_lt_slots.0) ∙ c.requires.slot_lt_slots.1)

pub overflow_sub-words : goal.overflow_sub-words
overflow_sub-words c =
    omega (arith, room32 (λ x. x - 1) c.without_bit.result _ _ _ c.args.slot c.requires.ranks c.requires.slot_lt_slots.0, c.requires.slot_lt_slots.1)

pub overflow_sub-words-2 : goal.overflow_sub-words-2
overflow_sub-words-2 c =
    omega (arith, room1024 (λ x. x - 1) c.without_bit.result _ _ _ c.args.slot c.requires.ranks c.requires.slot_lt_slots.0, c.requires.slot_lt_slots.1)

pub overflow_sub-words-3 : goal.overflow_sub-words-3
overflow_sub-words-3 c =
    omega (arith, room32768 (λ x. x - 1) c.without_bit.result _ _ _ c.args.slot c.requires.ranks c.requires.slot_lt_slots.0, c.requires.slot_lt_slots.1)

pub returns : goal.returns
returns c =
    let call = c.without_bit in
    let on = sym (mark-in _ _ _ c.args.slot c.requires.slot_lt_slots.0) ∙ c.requires.slot_lt_slots.1 in
    marked (λ x. x - 1) call.result _ _ _ c.args.slot c.requires.ranks c.requires.slot_lt_slots.0 0 0 1
    (record {
      here = rw call.ensures (bit-off _ _ on);
      other = λ j ne. rw call.ensures (bit-rests _ _ j on ne);
    })
    (omega (arith, c.requires.slot_lt_slots.1)) (omega (arith, c.requires.slot_lt_slots.1)) (λ x l. omega arith) (omega arith)
