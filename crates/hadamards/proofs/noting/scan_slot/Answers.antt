use Rattle.std.specs.Prelude.{Ok}
use mathlib.Core.Path.{◌≡◌, sym, ◌∙◌}
use Rattle.gates.specs.Records.{record_at, gate_of}
use Rattle.slots.specs.Slots.{gate_at}
use Rattle.slots.proofs.StateLaws.{reads-gate}
use Rattle.hadamards.proofs.ScanLaws.{h-first, slot-other, slot-dead}
use Rattle.hadamards.proofs.noting.scan_slot.Goals as goal
use Rattle.hadamards.proofs.noting.scan_slot.Goals.{Then-is_live}

reads : (c : Then-is_live) → gate_of (record_at c.args.records.now c.args.slot.0) ≡ Ok (gate_at c.args.records.now c.args.slot.0)
reads c = reads-gate _ _ _ (c.requires.live.loaded.sound _ (sym c.if-is_live.ensures))

pub kind_at-requires-clause-a_gate : goal.kind_at-requires-clause-a_gate
kind_at-requires-clause-a_gate c = reads (goal.at.kind_at-requires-clause-a_gate c).Then-is_live

pub wire_at-requires-clause-a_gate : goal.wire_at-requires-clause-a_gate
wire_at-requires-clause-a_gate c = reads (goal.at.wire_at-requires-clause-a_gate c).Then-is_live

pub scan_h-requires-clause-slot_live : goal.scan_h-requires-clause-slot_live
scan_h-requires-clause-slot_live c = (sym c.if-is_live.ensures, h-first _ _ (sym c.kind_at.ensures ∙ c.if-kind_at-eq1.true) c.wire_at.ensures)

pub returns-else-kind_at-eq1-clause-noted : goal.returns-else-kind_at-eq1-clause-noted
returns-else-kind_at-eq1-clause-noted c =
    (slot-other _ _ _ _ c.requires.live c.requires.slot_there c.requires.noted (sym c.if-is_live.ensures) _ c.kind_at.ensures c.if-kind_at-eq1.false).0

pub returns-else-is_live-clause-noted : goal.returns-else-is_live-clause-noted
returns-else-is_live-clause-noted c =
    (slot-dead _ _ _ _ c.requires.live c.requires.slot_there c.requires.noted (sym c.if-is_live.ensures)).0
