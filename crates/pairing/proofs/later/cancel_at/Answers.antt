use mathlib.Core.Path.{sym}
use Rattle.pairing.proofs.LaterLaws.{turn-skips, turn-keeps, pair-live, pair-room, turn-takes}
use Rattle.pairing.proofs.later.cancel_at.Goals as goal

pub take_pair-requires : goal.take_pair-requires
take_pair-requires c = record {
  live = c.requires.live;
  both_live = pair-live _ _ _ _ c.args.steps c.args.journal.now c.requires.room.0 (sym c.if-is_live.ensures) _ c.in-Some.ensures;
  room = pair-room _ _ _ _ c.args.steps c.args.journal.now c.requires.room.0 (sym c.if-is_live.ensures) _ c.in-Some.ensures c.requires.room.1;
}

pub returns-in-Some-clause-went : goal.returns-in-Some-clause-went
returns-in-Some-clause-went c =
    turn-takes _ _ _ _ _ _ c.requires.room.0 (sym c.if-is_live.ensures) _ c.in-Some.ensures
    _ _ _ c.number-kind.ensures c.take_pair.ensures.taken c.take_pair.ensures.journal

pub returns-in_default-clause-went : goal.returns-in_default-clause-went
returns-in_default-clause-went c = turn-keeps _ _ _ _ _ _ c.requires.room.0 (sym c.if-is_live.ensures) c.in_default.ensures

pub returns-else-is_live-clause-went : goal.returns-else-is_live-clause-went
returns-else-is_live-clause-went c = turn-skips _ _ _ _ _ _ c.requires.room.0 (sym c.if-is_live.ensures)
