use native.Mathlib.Omega.{arith}
use Rattle.slots.proofs.NodeLaws.{passed-next, passed-more, passed-all}
use Rattle.slots.proofs.nodes.pass_by.Goals as goal

pub unlink-requires : goal.unlink-requires
unlink-requires c =
    let can = passed-next _ _ _ _ _ _ c.loop-op-test.true c.loop-op.invariant.1 in record {
      node_in_bounds = (can.0, can.1);
      beside_in_bounds = (can.2, can.3);
    }

pub loop-op-preserved : goal.loop-op-preserved
loop-op-preserved c =
    (omega arith, passed-more _ _ _ _ _ _ _ c.loop-op-test.true c.unlink.ensures c.loop-op.invariant.1)

pub returns : goal.returns
returns c = passed-all _ _ _ _ _ _ c.loop-op-test.false c.loop-op.invariant.1
