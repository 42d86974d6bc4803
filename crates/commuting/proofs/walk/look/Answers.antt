use Rattle.std.proofs.Common.{rules}
use Rattle.commuting.specs.Walking.{look_at}
use Rattle.commuting.proofs.walk.look.Goals as goal

pub returns-then-eq : goal.returns-then-eq
unfolding look_at
returns-then-eq c = search rules

pub returns-then-may_pass : goal.returns-then-may_pass
unfolding look_at
returns-then-may_pass c = search rules

pub returns-else-may_pass : goal.returns-else-may_pass
unfolding look_at
returns-else-may_pass c = search rules
