-- What drops a gate keeps to the links and the ranks, which are in the room.
use native.Mathlib.Omega.{arith}
use Rattle.slots.proofs.StateLaws.{live_below, links-in-room}
use Rattle.workbench.proofs.live_drop.Goals as goal

pub returns-clause-within : goal.returns-clause-within
returns-clause-within c =
    links-in-room _ _ _ (omega (arith, live_below _ _ _ c.requires.slot_live)) c.drop_slot.ensures.within
