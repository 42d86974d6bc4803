use Rattle.std.proofs.Common.{rules}
use Rattle.commuting.specs.Walking.{node_of}
use Rattle.commuting.proofs.walk.node_after.Goals as goal

pub returns-then-r-wire : goal.returns-then-r-wire
unfolding node_of
returns-then-r-wire c = search rules

pub returns-then-r-wire-2 : goal.returns-then-r-wire-2
unfolding node_of
returns-then-r-wire-2 c = search rules

pub returns-else-r-wire-2 : goal.returns-else-r-wire-2
unfolding node_of
returns-else-r-wire-2 c = search rules
