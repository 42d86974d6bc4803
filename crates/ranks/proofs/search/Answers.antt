use native.Mathlib.Omega.{arith}
use Rattle.ranks.proofs.SumLaws.{below_next}
use Rattle.ranks.proofs.search.Goals as goal

pub loop-i-preserved : goal.loop-i-preserved
loop-i-preserved c = grind (arith, below_next)
