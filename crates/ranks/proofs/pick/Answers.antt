use native.Mathlib.Omega.{arith}
use Rattle.ranks.proofs.BitLaws.{shift_none, shift-next}
use Rattle.ranks.proofs.SumLaws.{below_none, below_next}
use Rattle.ranks.proofs.pick.Goals as goal

pub loop-i-init : goal.loop-i-init
loop-i-init c = grind (arith, shift_none, below_none)

pub loop-i-preserved : goal.loop-i-preserved
loop-i-preserved c = grind (arith, shift-next, below_next)
