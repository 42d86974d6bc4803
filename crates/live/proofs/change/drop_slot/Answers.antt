use native.Mathlib.Omega.{arith}
use Rattle.slots.proofs.StateLaws.{live_below}
use Rattle.asking.proofs.BlockerLaws.{read_known}
use Rattle.live.proofs.LoadCodeLaws.{record-inside}
use Rattle.live.proofs.DroppedLaws.{drop-can, unpair-can, take-can, dropped}
use Rattle.live.proofs.change.drop_slot.Goals as goal

pub record-r-requires : goal.record-r-requires
record-r-requires c = record-inside _ _ _ _ c.requires.live.loaded c.requires.slot_live

pub overflow_mul-slot : goal.overflow_mul-slot
overflow_mul-slot c = omega (arith, record-inside _ _ _ _ c.requires.live.loaded c.requires.slot_live)

-- A live slot has a sound record, so its kind is known.
pub operand_count-requires : goal.operand_count-requires
operand_count-requires c =
    read_known _ _ _ (c.requires.live.loaded.sound _ c.requires.slot_live) _ c.record-r.ensures

-- The calls change the words step by step: each law is told what the code has read and what the calls before it did.
pub pass_by-requires : goal.pass_by-requires
pass_by-requires c =
    let inside = live_below _ _ _ c.requires.slot_live in
    rw c.prev_at.ensures (
      drop-can _ _ _ _ c.requires.slot_live c.requires.live _ c.record-r.ensures _ c.operand_count.ensures.0,
      omega (arith, inside, c.operand_count.ensures.1, c.requires.live.loaded.room),
    )

pub unpair-requires-clause-slot_there : goal.unpair-requires-clause-slot_there
unpair-requires-clause-slot_there c = live_below _ _ _ c.requires.slot_live

pub unpair-requires-clause-can_pass : goal.unpair-requires-clause-can_pass
unpair-requires-clause-can_pass c =
    let passed = rw c.prev_at.ensures at c.pass_by.ensures in
    unpair-can _ _ _ _ c.requires.slot_live c.requires.live _ c.record-r.ensures _ c.operand_count.ensures.0 _ passed

pub take_out-requires : goal.take_out-requires
take_out-requires c =
    let passed = rw c.prev_at.ensures at c.pass_by.ensures in
    let whole = take-can _ _ _ _ c.requires.slot_live c.requires.live _ c.record-r.ensures _ c.operand_count.ensures.0 _ passed
    _ c.unpair.ensures in
    rw c.ranks_at.ensures (record { ranks = whole.0; slot_lt_slots = whole.1 })

pub returns : goal.returns
returns c =
    let passed = rw c.prev_at.ensures at c.pass_by.ensures in
    let taken = rw c.ranks_at.ensures at c.take_out.ensures in
    let whole = dropped _ _ _ _ c.requires.slot_live c.requires.live _ c.record-r.ensures _ c.operand_count.ensures.0 _ passed
    _ c.unpair.ensures _ taken in
    record { live = whole.0; dropped = whole.1.0; within = whole.1.1 }
