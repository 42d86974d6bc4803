use native.Mathlib.Omega.{arith}
use Rattle.live.proofs.FinishLaws.{padding-small}
use Rattle.live.proofs.LoadCodeLaws.{hung-at, in-room, push-free, pushed}
use Rattle.live.proofs.load.push.Goals as goal

pub put_record-requires : goal.put_record-requires
put_record-requires c = (
  omega arith,
  padding-small _ _ _ (λ i. omega (arith, c.type_inv.list i)) c.record_at-r.ensures,
)

pub hang-requires : goal.hang-requires
hang-requires c =
    in-room _ _ _ _ _ _ _ _ c.requires.loaded (omega (arith, c.prev_at-prev.ensures)) c.requires.slot_past_all.0 c.requires.sound.1
    c.record_at-r.ensures

pub put_in-requires : goal.put_in-requires
put_in-requires c =
    let hung = hung-at c.args.k _ _ _ _ _ c.hang.ensures (omega (arith, c.prev_at-prev.ensures)) in
    let whole = push-free _ _ _ _ _ _ _ _ c.requires.loaded c.requires.slot_past_all.0 c.requires.slot_past_all.1 c.requires.sound.1 c.record_at-r.ensures hung in
    rw c.ranks_at.ensures (record { ranks = whole.0; slot_lt_slots = whole.1 })

pub returns : goal.returns
returns c =
    let hung = hung-at c.args.k _ _ _ _ _ c.hang.ensures (omega (arith, c.prev_at-prev.ensures)) in
    let marked = rw c.ranks_at.ensures at c.put_in.ensures in
    let whole = pushed _ _ _ _ _ _ _ _ c.requires.loaded c.requires.slot_past_all.0 c.requires.slot_past_all.1 c.requires.sound.1 c.record_at-r.ensures hung
    _ _ (λ i. omega (arith, c.type_inv.list i)) c.put_record.ensures marked in
    record { loaded = whole.0; pushed = whole.1.0; «record» = whole.1.1.0; within = whole.1.1.1 }
