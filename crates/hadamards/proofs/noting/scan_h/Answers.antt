use Rattle.slots.proofs.StateLaws.{live_below}
use Rattle.hadamards.proofs.ScanLaws.{h-wide, h-room, h-tail-inside, h-closer-inside, h-tail-within, h-fires, h-idle, h-closed}
use Rattle.hadamards.proofs.noting.scan_h.Goals as goal

pub bounds-work-tails : goal.bounds-work-tails
bounds-work-tails c =
    h-tail-inside _ _ _ c.args.on.0 c.args.slot.0 c.requires.live c.requires.slot_live.0 c.requires.slot_live.1 c.requires.noted _
    c.spare_at.ensures

pub note-requires-clause-room : goal.note-requires-clause-room
note-requires-clause-room c =
    let list = c.requires.live in
    let live = c.requires.slot_live.0 in
    let h = c.requires.slot_live.1 in
    let noted = c.requires.noted in (
      h-wide _ _ _ c.args.on.0 c.args.slot.0 list live h noted _ c.spare_at.ensures,
      live_below _ _ _ live,
      h-closer-inside _ _ _ c.args.on.0 c.args.slot.0 list live h noted _ c.spare_at.ensures _ c.opens.ensures _ c.in-Some.ensures,
      h-room _ _ _ c.args.on.0 c.args.slot.0 list live h noted _ c.spare_at.ensures,
    )

pub note-requires-clause-tail_bound : goal.note-requires-clause-tail_bound
note-requires-clause-tail_bound c =
    h-tail-within _ _ _ c.args.on.0 c.args.slot.0 c.requires.live c.requires.slot_live.0 c.requires.slot_live.1 c.requires.noted _
    c.spare_at.ensures

pub returns-in-Some : goal.returns-in-Some
returns-in-Some c =
    let whole = h-fires _ _ _ c.args.on.0 c.args.slot.0 c.requires.live c.requires.slot_live.0 c.requires.slot_live.1 c.requires.noted _
    c.spare_at.ensures _ c.opens.ensures _ c.in-Some.ensures c.if-work-tails.true _ c.note.ensures in
    record { noted = whole.0; within = whole.1 }

pub returns-in_default-clause-noted : goal.returns-in_default-clause-noted
returns-in_default-clause-noted c =
    (h-idle _ _ _ c.args.on.0 c.args.slot.0 c.requires.live c.requires.slot_live.0 c.requires.slot_live.1 c.requires.noted _
    c.spare_at.ensures _ c.opens.ensures c.if-work-tails.true c.in_default.ensures).0

pub returns-else-work-tails-clause-noted : goal.returns-else-work-tails-clause-noted
returns-else-work-tails-clause-noted c =
    (h-closed _ _ _ c.args.on.0 c.args.slot.0 c.requires.live c.requires.slot_live.0 c.requires.slot_live.1 c.requires.noted _
    c.spare_at.ensures c.if-work-tails.false).0
