use mathlib.Core.Path.{◌≡◌, refl, ◌∙◌}
use Prim.Native.Nat.{◌<◌}
use native.Mathlib.Omega.{arith}
use Rattle.std.proofs.Common.{rules}
use Rattle.slots.specs.Slots.{later_of}
use Rattle.slots.proofs.StateLaws.{live_below}
use Rattle.asking.proofs.BlockerLaws.{on_none, on-more, on-all, read_known, count-wires}
use Rattle.asking.proofs.loaded.LoadedList.blocker.Goals as goal
use Rattle.asking.proofs.loaded.LoadedList.blocker.Goals.{After-max-best}

pub record-requires : goal.record-requires
record-requires c =
    let inside : c.args.slot.0 < c.args.self.now.extent.gates = live_below _ _ _ c.requires in
    let list = c.args.self.now.loaded in
    (omega (arith, inside, list.long), omega (arith, inside, list.few))

pub operand_count-count-requires : goal.operand_count-count-requires
operand_count-count-requires c =
    read_known _ _ _ (c.args.self.now.loaded.sound _ c.requires) _ c.record.ensures

pub before_on-requires : goal.before_on-requires
before_on-requires c =
    let counted = count-wires _ _ _ (c.args.self.now.loaded.sound _ c.requires) _ c.record.ensures _ c.operand_count-count.ensures.0 in
    record {
      slot_live = c.requires;
      of_gate = omega (arith, counted, c.loop-op-test.true);
    }

pub loop-op-init : goal.loop-op-init
loop-op-init c = on_none _ _ _ _

later-is : (c : After-max-best) → c.max-best.result ≡ later_of c.loop-op.best c.before_on.result
later-is c = search rules

pub loop-op-preserved : goal.loop-op-preserved
loop-op-preserved c =
    let counted = count-wires _ _ _ (c.args.self.now.loaded.sound _ c.requires) _ c.record.ensures _ c.operand_count-count.ensures.0 in
    later-is c
    ∙ on-more _ _ _ _ _ _ _ _ (omega (arith, counted, c.loop-op-test.true)) refl c.loop-op.invariant
    c.before_on.ensures

pub returns : goal.returns
returns c =
    let counted = count-wires _ _ _ (c.args.self.now.loaded.sound _ c.requires) _ c.record.ensures _ c.operand_count-count.ensures.0 in
    c.loop-op.invariant ∙ on-all _ _ _ _ _ (omega (arith, counted, c.loop-op-test.false))
