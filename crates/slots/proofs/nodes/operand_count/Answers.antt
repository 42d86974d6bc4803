use Rattle.slots.proofs.NodeLaws.{operands-counted}
use Rattle.slots.proofs.nodes.operand_count.Goals as goal

pub returns : goal.returns
returns c = operands-counted c.args.r _ c.row_of.ensures c.requires
