use mathlib.Core.Path.{◌∙◌}
use native.Mathlib.Omega.{arith}
use Rattle.cancel.proofs.RoundLaws.{first_few, first-looks, second_fits, second-looks, third-fits, round-did, round-looked}
use Rattle.cancel.proofs.rounds.RoundSweeps.sweep.Goals as goal

pub repeat-reduced-requires-clause-room : goal.repeat-reduced-requires-clause-room
repeat-reduced-requires-clause-room c = omega (arith, first_few)

pub repeat-reduced-requires-clause-few_looks : goal.repeat-reduced-requires-clause-few_looks
repeat-reduced-requires-clause-few_looks c = omega (arith, first-looks)

pub repeat-swept-requires-clause-room : goal.repeat-swept-requires-clause-room
repeat-swept-requires-clause-room c = (c.requires.room.0, second_fits _ _ c.repeat-reduced.ensures.did c.requires.room.1)

pub repeat-swept-requires-clause-few_looks : goal.repeat-swept-requires-clause-few_looks
repeat-swept-requires-clause-few_looks c = omega (arith, second-looks c.args.k.wires _ c.repeat-reduced.ensures.did)

pub cancel_pairs-requires-clause-room : goal.cancel_pairs-requires-clause-room
cancel_pairs-requires-clause-room c = third-fits _ _ c.repeat-reduced.ensures.did c.repeat-swept.ensures.did c.requires.room.1

pub returns-clause-did : goal.returns-clause-did
returns-clause-did c = round-did _ _ c.repeat-reduced.ensures.did c.repeat-swept.ensures.did c.cancel_pairs.ensures.did

pub returns-clause-looked : goal.returns-clause-looked
returns-clause-looked c = c.repeat-swept.ensures.looked ∙ round-looked _ _ c.repeat-reduced.ensures.did c.repeat-swept.ensures.did
