use mathlib.Core.Path.{refl}
use native.Mathlib.Omega.{arith}
use Rattle.slots.proofs.NodeLaws.{IsOperand, operand_at, taken_more, taken-all}
use Rattle.slots.proofs.nodes.take_off.Goals as goal

pub loop-op-preserved : goal.loop-op-preserved
loop-op-preserved c =
    let at-hand : IsOperand c.args.k.wires c.args.r c.loop-op.op c.operand-w.result = operand_at c.args.k.wires c.args.r _ c.loop-op.op _ c.requires.kind c.requires.wires
    c.operand_count-count.ensures.0 c.loop-op-test.true c.operand-w.ensures in (
      omega arith,
      taken_more _ _ _ _ _ _ _ _ (at-hand).inside (at-hand).which c.loop-op.invariant.1,
    )

pub returns : goal.returns
returns c = taken-all _ _ _ _ _ _ _ _ refl (omega (arith, c.operand_count-count.ensures.0)) c.loop-op.invariant.1
