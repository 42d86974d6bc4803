use lib.ListN.{get_or-map}
use Rattle.gates.specs.Kinds.{unknown, shapes, shape_of, row_in}
use Rattle.gates.proofs.kinds.row_of.Goals as goal

pub returns : goal.returns
unfolding shapes shape_of
returns c = get_or-map row_in shapes c.args.kind unknown
