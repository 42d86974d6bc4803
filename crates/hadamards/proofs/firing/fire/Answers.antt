use mathlib.Core.Path.{◌≡◌, sym, ap, ◌∙◌}
use mathlib.Core.Option.{some}
use Rattle.gates.specs.declared.Gate.{Gate}
use Rattle.rules.specs.Runs.{Rewrite}
use Rattle.links.proofs.WordLaws.{within-then}
use Rattle.slots.specs.Live.{later}
use Rattle.slots.proofs.StateLaws.{live_below}
use Rattle.hadamards.specs.Firings.{closing_of}
use Rattle.hadamards.specs.Closings.{put_as, as_rewrite}
use Rattle.hadamards.specs.Placing.{OneWire}
use Rattle.hadamards.proofs.FiredLaws.{closing-ends, forms-are, opener-ready, closer-ready, fired-all}
use Rattle.hadamards.proofs.firing.fire.Goals as goal
use Rattle.hadamards.proofs.firing.fire.Goals.{After-forms_of-forms}

pub position-from-requires : goal.position-from-requires
position-from-requires c = rw c.loaded-loaded.ensures.2 (live_below _ _ _ c.requires.allowed.opener-live)

pub position-to-requires : goal.position-to-requires
position-to-requires c = rw c.loaded-loaded.ensures.2 (live_below _ _ _ c.requires.allowed.closer-live)

-- What the code found to put in place of the gates is what the step puts there.
found-is : (c : After-forms_of-forms) (r : Rewrite) →
    closing_of c.args.on.0 (later c.args.records.now c.args.work.now c.args.k c.args.opener.0) ≡ some (record { closer = c.args.closer.0; rewrite = r }) →
    as_rewrite c.forms_of-forms.result ≡ r
found-is c r e = forms-are _ _ _ _ _ c.opens.ensures c.forms_of-forms.ensures e

ends-are : (c : After-forms_of-forms) (g : Gate) → put_as c.forms_of-forms.result.ends ≡ some g → OneWire c.args.on.0 g
ends-are c g e =
    let may = c.requires.allowed in
    closing-ends _ _ _ _ _ _ _ may.closes g (sym (ap (λ (x : Rewrite). x.ends) (found-is c _ may.closes)) ∙ e)

pub place-requires-clause-slot_live : goal.place-requires-clause-slot_live
place-requires-clause-slot_live c = opener-ready _ _ _ _ _ _ _ _ c.requires.allowed c.place_between.ensures.placed

pub place-requires-clause-one_wire : goal.place-requires-clause-one_wire
place-requires-clause-one_wire c = ends-are (goal.at.place-requires-clause-one_wire c).After-forms_of-forms

pub place-requires-2-clause-slot_live : goal.place-requires-2-clause-slot_live
place-requires-2-clause-slot_live c =
    closer-ready _ _ _ _ _ _ _ _ c.requires.allowed c.place_between.ensures.placed _ _ _ c.place.ensures.placed

pub place-requires-2-clause-one_wire : goal.place-requires-2-clause-one_wire
place-requires-2-clause-one_wire c = ends-are (goal.at.place-requires-2-clause-one_wire c).After-forms_of-forms

pub returns-clause-fired : goal.returns-clause-fired
returns-clause-fired c r e =
    let form = found-is (goal.at.returns-clause-fired c).After-forms_of-forms r e in
    fired-all _ _ _ r _ _ _ _ _ _ _ _ _ _ (ap (λ (x : Rewrite). x.first) form) (ap (λ (x : Rewrite). x.ends) form) c.requires.allowed e
    c.place_between.ensures.placed c.place.ensures.placed c.place-2.ensures.placed

pub returns-clause-within : goal.returns-clause-within
returns-clause-within c =
    within-then _ _ _ _ _ (within-then _ _ _ _ _ c.place_between.ensures.within c.place.ensures.within) c.place-2.ensures.within
