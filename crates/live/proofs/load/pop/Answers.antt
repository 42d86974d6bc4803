use native.Mathlib.Omega.{arith}
use Rattle.slots.proofs.StateLaws.{live_below}
use Rattle.live.proofs.LoadCodeLaws.{record-inside, off-at, in-room, pop-marked, popped}
use Rattle.live.proofs.load.pop.Goals as goal

pub record-requires : goal.record-requires
record-requires c = record-inside _ _ _ _ c.requires.loaded c.requires.slot_live

pub take_off-requires : goal.take_off-requires
take_off-requires c =
    in-room _ _ _ _ _ _ _ _ c.requires.loaded (omega (arith, c.prev_at-prev.ensures)) (live_below _ _ _ c.requires.slot_live)
    (c.requires.loaded.sound _ c.requires.slot_live) c.record.ensures

pub take_out-requires : goal.take_out-requires
take_out-requires c =
    let taken = off-at c.args.k _ _ _ _ _ c.take_off.ensures (omega (arith, c.prev_at-prev.ensures)) in
    let whole = pop-marked _ _ _ _ _ _ c.requires.loaded c.requires.slot_live c.record.ensures taken in
    rw c.ranks_at.ensures (record { ranks = whole.0; slot_lt_slots = whole.1 })

pub returns : goal.returns
returns c =
    let taken = off-at c.args.k _ _ _ _ _ c.take_off.ensures (omega (arith, c.prev_at-prev.ensures)) in
    let gone = rw c.ranks_at.ensures at c.take_out.ensures in
    let whole = popped _ _ _ _ _ _ c.requires.loaded c.requires.slot_live c.record.ensures taken _ c.requires.last_on_all gone in
    record { loaded = whole.0; popped = whole.1.0; within = whole.1.1 }
