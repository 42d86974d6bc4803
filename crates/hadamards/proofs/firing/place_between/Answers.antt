use Rattle.links.proofs.WordLaws.{within-then}
use Rattle.hadamards.proofs.PlacingLaws.{some-wire, NextOn}
use Rattle.hadamards.proofs.BetweenLaws.{gap-asked, dropped-between, put-one-wire, first-one-wire, rest-asked, placed-between, opener-next, opener-alone}
use Rattle.hadamards.proofs.firing.place_between.Goals as goal
use Rattle.hadamards.proofs.firing.place_between.Goals.{In-Some-after_on}

pub drop_between-requires-clause-on_one_wire : goal.drop_between-requires-clause-on_one_wire
drop_between-requires-clause-on_one_wire c = gap-asked _ _ _ _ _ c.requires.allowed

pub after_on-requires-clause-of_gate : goal.after_on-requires-clause-of_gate
after_on-requires-clause-of_gate c = some-wire _

next-is : (c : In-Some-after_on) → NextOn c.args.records.now c.args.work.now c.args.k c.args.on.0 c.args.opener.0 c.in-Some-after_on.next.0
next-is c = opener-next _ _ _ _ _ c.requires.allowed _ c.in-Some-after_on.ensures

pub place-requires-clause-slot_live : goal.place-requires-clause-slot_live
place-requires-clause-slot_live c =
    let next = next-is (goal.at.place-requires-clause-slot_live c).In-Some-after_on in
    (next.live, first-one-wire _ _ _ _ _ c.requires.allowed _ _ c.in-Some.is c.requires.first_of_rewrite _ next)

pub place-requires-clause-one_wire : goal.place-requires-clause-one_wire
place-requires-clause-one_wire c = put-one-wire _ _ _ _ _ c.requires.allowed _ _ c.in-Some.is c.requires.first_of_rewrite

pub drop_between-requires-in-Some-after_on-clause-on_one_wire : goal.drop_between-requires-in-Some-after_on-clause-on_one_wire
drop_between-requires-in-Some-after_on-clause-on_one_wire c =
    let next = next-is (goal.at.drop_between-requires-in-Some-after_on-clause-on_one_wire c).In-Some-after_on in
    rest-asked _ _ _ _ _ c.requires.allowed _ _ c.in-Some.is c.requires.first_of_rewrite _ next _ _ c.place.ensures.placed

pub returns-in-None-clause-placed : goal.returns-in-None-clause-placed
returns-in-None-clause-placed c = dropped-between _ _ _ _ _ c.requires.allowed _ c.in-None.is _ c.drop_between.ensures.dropped

pub returns-in-Some-after_on-clause-placed : goal.returns-in-Some-after_on-clause-placed
returns-in-Some-after_on-clause-placed c =
    let next = next-is (goal.at.returns-in-Some-after_on-clause-placed c).In-Some-after_on in
    placed-between _ _ _ _ _ c.requires.allowed _ _ c.in-Some.is c.requires.first_of_rewrite _ next _ _ c.place.ensures.placed
    _ c.drop_between-in-Some-after_on.ensures.dropped

pub returns-in-Some-after_on-clause-within : goal.returns-in-Some-after_on-clause-within
returns-in-Some-after_on-clause-within c = within-then _ _ _ _ _ c.place.ensures.within c.drop_between-in-Some-after_on.ensures.within

pub returns-in_default-clause-placed : goal.returns-in_default-clause-placed
returns-in_default-clause-placed c = absurd (opener-alone _ _ _ _ _ c.requires.allowed c.in_default.ensures)
