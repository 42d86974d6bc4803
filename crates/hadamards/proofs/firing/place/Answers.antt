use mathlib.Core.Path.{◌≡◌, ap}
use lib.ListN.{length}
use Rattle.gates.specs.Gates.{wires_of}
use Rattle.gates.specs.Records.{record_at, record_of, kind_of, of_kind}
use Rattle.slots.specs.Slots.{gate_at}
use Rattle.hadamards.specs.Closings.{put_as}
use Rattle.hadamards.proofs.PlacingLaws.{one-wire-record, placed-none, placed-some, past_same}
use Rattle.hadamards.proofs.firing.place.Goals as goal
use Rattle.hadamards.proofs.firing.place.Goals.{In-Some}

same-record : (c : In-Some) → let g = c.in-Some.g in let there = c.args.records.now in (length (wires_of g) ≡ 1)
    × (length (wires_of (gate_at there c.args.slot.0)) ≡ 1) × (record_of g ≡ of_kind (kind_of g) (record_at there c.args.slot.0))
same-record c =
    one-wire-record _ _ _ _ _ (c.requires.live.loaded.sound _ c.requires.slot_live.0) c.requires.slot_live.1
    (c.requires.one_wire _ (ap put_as c.in-Some.is))

pub rewrite-requires-clause-one_wire : goal.rewrite-requires-clause-one_wire
rewrite-requires-clause-one_wire c = same-record (goal.at.rewrite-requires-clause-one_wire c).In-Some

pub returns-in-None-clause-placed : goal.returns-in-None-clause-placed
returns-in-None-clause-placed c = placed-none _ _ _ _ _ _ c.in-None.is c.drop_slot.ensures.dropped

pub returns-in-Some-clause-placed : goal.returns-in-Some-clause-placed
returns-in-Some-clause-placed c =
    placed-some _ _ _ _ _ _ _ c.in-Some.is c.requires.live c.requires.slot_live.0
    (same-record (goal.at.returns-in-Some-clause-placed c).In-Some).2 c.rewrite.ensures.«record»

pub returns-in-Some-clause-past : goal.returns-in-Some-clause-past
returns-in-Some-clause-past c = past_same _ _ _ _ _ _ c.requires.slot_live.0 c.rewrite.ensures.«record»
