use mathlib.Core.Path.{sym, ◌∙◌}
use Prim.Native.Nat.{◌+◌}
use native.Mathlib.Omega.{arith}
use Rattle.ranks.proofs.BitLaws.{bit-on, bit-stays}
use Rattle.ranks.proofs.RegionLaws.{mark-in}
use Rattle.ranks.proofs.MarkLaws.{room32, room1024, room32768, marked}
use Rattle.ranks.proofs.put_in.Goals as goal

pub with_bit-requires : goal.with_bit-requires
with_bit-requires c =
    (omega arith, sym (mark-in _ _ _ c.args.slot c.requires.slot_lt_slots.0) ∙ c.requires.slot_lt_slots.1)

pub overflow_add-words-3 : goal.overflow_add-words-3
overflow_add-words-3 c =
    omega (arith, room32 (λ x. x + 1) c.with_bit.result _ _ _ c.args.slot c.requires.ranks c.requires.slot_lt_slots.0, c.requires.slot_lt_slots.1)

pub overflow_add-words-5 : goal.overflow_add-words-5
overflow_add-words-5 c =
    omega (arith, room1024 (λ x. x + 1) c.with_bit.result _ _ _ c.args.slot c.requires.ranks c.requires.slot_lt_slots.0, c.requires.slot_lt_slots.1)

pub overflow_add-words-7 : goal.overflow_add-words-7
overflow_add-words-7 c =
    omega (arith, room32768 (λ x. x + 1) c.with_bit.result _ _ _ c.args.slot c.requires.ranks c.requires.slot_lt_slots.0, c.requires.slot_lt_slots.1)

pub returns : goal.returns
returns c =
    let call = c.with_bit in
    let off = sym (mark-in _ _ _ c.args.slot c.requires.slot_lt_slots.0) ∙ c.requires.slot_lt_slots.1 in
    marked (λ x. x + 1) call.result _ _ _ c.args.slot c.requires.ranks c.requires.slot_lt_slots.0 1 1 0
    (record {
      here = rw call.ensures (bit-on _ _ off);
      other = λ j ne. rw call.ensures (bit-stays _ _ j off ne);
    })
    (omega (arith, c.requires.slot_lt_slots.1)) (omega (arith, c.requires.slot_lt_slots.1)) (λ x l. omega arith) (omega arith)
