use mathlib.Core.Path.{◌≡◌, ◌∙◌}
use native.Mathlib.Omega.{arith}
use Rattle.std.proofs.Common.{rules}
use Rattle.slots.specs.Slots.{later_of}
use Rattle.slots.proofs.NodeLaws.{IsOperand, operand_at}
use Rattle.asking.proofs.BlockerLaws.{on_none, on-more, on-all, read_known, read_small, read-wires}
use Rattle.asking.proofs.loaded.LoadedList.blocker_of_next.Goals as goal
use Rattle.asking.proofs.loaded.LoadedList.blocker_of_next.Goals.{After-operand, After-max-best}

pub operand_count-count-requires : goal.operand_count-count-requires
operand_count-count-requires c =
    read_known _ _ _ c.requires.sound _ c.record_at-r.ensures

pub loop-op-init : goal.loop-op-init
loop-op-init c = on_none _ _ _ _

at-hand : (c : After-operand) → IsOperand c.args.self.now.extent.wires c.record_at-r.result c.loop-op.op c.operand.result
at-hand c =
    let sound = c.requires.sound in
    let read = c.record_at-r.ensures in
    operand_at _ _ _ _ _ (read_known _ _ _ sound _ read) (read_small _ _ _ sound _ read)
    c.operand_count-count.ensures.0 c.loop-op-test.true c.operand.ensures

pub last_on-requires : goal.last_on-requires
last_on-requires c = (at-hand (goal.at.last_on-requires c).After-operand).below

later-is : (c : After-max-best) → c.max-best.result ≡ later_of c.loop-op.best c.last_on.result
later-is c = search rules

pub loop-op-preserved : goal.loop-op-preserved
loop-op-preserved c =
    let hand = at-hand (goal.at.loop-op-preserved c).After-operand in
    later-is c
    ∙ on-more _ _ _ _ _ _ _ _ hand.inside hand.which c.loop-op.invariant c.last_on.ensures

pub returns : goal.returns
returns c =
    let read = read-wires _ _ _ c.requires.sound _ c.record_at-r.ensures in
    c.loop-op.invariant ∙ on-all _ _ _ _ _ (omega (arith, c.operand_count-count.ensures.0, c.loop-op-test.false)) ∙ rw read
