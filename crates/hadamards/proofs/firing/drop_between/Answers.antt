use mathlib.Core.Path.{◌≡◌, sym, ◌∙◌}
use mathlib.Core.Bool.{true, false}
use Prim.Native.Nat.{◌<◌}
use native.Mathlib.Omega.{arith}
use lib.ListN.{get_or}
use Rattle.std.proofs.lemmas.Bool.Decides.{nat_tests}
use Rattle.gates.specs.Gates.{wires_of}
use Rattle.slots.specs.Slots.{gate_at}
use Rattle.slots.specs.Live.{is_live}
use Rattle.slots.proofs.StateLaws.{live_below}
use Rattle.hadamards.proofs.PlacingLaws.{some-wire, NextOn, dropping_keeps, dropping-more, dropping-all, next-on, next-there, next-first, held-less}
use Rattle.hadamards.proofs.firing.drop_between.Goals as goal
use Rattle.hadamards.proofs.firing.drop_between.Goals.{After-after_on, In-Some}

pub after_on-requires-clause-of_gate : goal.after_on-requires-clause-of_gate
after_on-requires-clause-of_gate c = some-wire _

next-is : (c : In-Some) → NextOn c.args.records.now c.loop-to.work c.args.k (get_or (wires_of (gate_at c.args.records.now c.args.from.0)) 0 0) c.args.from.0 c.in-Some.next.0
next-is c = next-on _ _ _ _ _ (live_below _ _ _ c.requires.on_one_wire.0) _ c.in-Some.ensures

to-live : (c : After-after_on) → is_live c.loop-to.work c.args.k c.args.to.0 ≡ true
to-live c = dropping_keeps _ _ _ _ _ _ _ c.loop-to.invariant _ c.requires.on_one_wire.1 (λ a b. omega (arith, b))

pub drop_slot-requires-clause-slot_live : goal.drop_slot-requires-clause-slot_live
drop_slot-requires-clause-slot_live c = (next-is (goal.at.drop_slot-requires-clause-slot_live c).In-Some).live

pub loop-to-smaller : goal.loop-to-smaller
loop-to-smaller c = held-less _ _ _ _ _ (next-is (goal.at.loop-to-smaller c).In-Some).live c.drop_slot.ensures.dropped

pub loop-to-preserved : goal.loop-to-preserved
loop-to-preserved c =
    let at = goal.at.loop-to-preserved c in
    let next = next-is at.In-Some in
    let first = next-first _ _ _ _ _ _ _ (to-live at.After-after_on) c.requires.on_one_wire.3 c.requires.on_one_wire.2 next in
    let below : c.in-Some.next.0 < c.args.to.0 = grind (arith, nat_tests, first, c.if-ne.ensures) in
    dropping-more _ _ _ _ _ _ _ c.loop-to.invariant _ _ next below c.drop_slot.ensures.live c.drop_slot.ensures.dropped c.drop_slot.ensures.within

pub returns-in_default-clause-dropped : goal.returns-in_default-clause-dropped
returns-in_default-clause-dropped c =
    let is : c.in-Some.next.0 ≡ c.args.to.0 = grind (arith, nat_tests, c.if-ne.ensures) in
    dropping-all _ _ _ _ _ _ _ c.loop-to.invariant _ is (next-is (goal.at.returns-in_default-clause-dropped c).In-Some)

pub returns-in_default-2-clause-dropped : goal.returns-in_default-2-clause-dropped
returns-in_default-2-clause-dropped c =
    absurd
    (next-there _ _ _ _ _ _ (to-live (goal.at.returns-in_default-2-clause-dropped c).After-after_on) c.requires.on_one_wire.3 c.requires.on_one_wire.2
    (sym c.in_default.is ∙ c.after_on.ensures))
