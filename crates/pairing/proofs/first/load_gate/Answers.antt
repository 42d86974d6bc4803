use Rattle.pairing.proofs.FirstLaws.{load-went, load-counts, load_past, pop-live, pop-inside, pop-final, pop-room, pop-went, pop-counts}
use Rattle.pairing.proofs.first.load_gate.Goals as goal

pub position-first-requires : goal.position-first-requires
position-first-requires c = pop-inside _ _ _ _ _ c.args.steps c.requires.sound.0 _ c.in-Some.ensures

pub put_step-requires : goal.put_step-requires
put_step-requires c = pop-room _ _ _ _ _ _ c.requires.sound.0 _ c.in-Some.ensures _ c.requires.room

pub pop-requires-clause-slot_live : goal.pop-requires-clause-slot_live
pop-requires-clause-slot_live c = pop-live _ _ _ _ _ c.args.steps c.requires.sound.0 _ c.in-Some.ensures

pub pop-requires-clause-last_on_all : goal.pop-requires-clause-last_on_all
pop-requires-clause-last_on_all c = pop-final _ _ _ _ _ c.args.steps c.requires.sound.0 _ c.in-Some.ensures

pub returns-in-Some-clause-below : goal.returns-in-Some-clause-below
returns-in-Some-clause-below c = pop-counts _ _ _ _ _ _ c.requires.sound.0 _ c.in-Some.ensures _ c.pop.ensures.popped c.requires.below

pub returns-in-Some-clause-went : goal.returns-in-Some-clause-went
returns-in-Some-clause-went c =
    pop-went _ _ _ _ _ _ c.requires.sound.0 _ c.in-Some.ensures _ c.pop.ensures.popped c.requires.below
    _ _ _ _ c.number.ensures c.position-first.ensures c.put_step.ensures

pub returns-clause-below : goal.returns-clause-below
returns-clause-below c = load-counts _ _ _ _ _ _ c.requires.sound.0 c.in_default.ensures _ _ c.push.ensures.pushed c.requires.below

pub returns-clause-went : goal.returns-clause-went
returns-clause-went c = load-went _ _ _ _ _ _ c.requires.sound.0 c.in_default.ensures _ _ c.push.ensures.pushed _

pub returns-clause-past : goal.returns-clause-past
returns-clause-past c = load_past _ _ _ _ _ c.requires.sound.0 c.push.ensures.«record»
