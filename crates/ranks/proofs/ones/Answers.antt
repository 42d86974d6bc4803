use native.Mathlib.Omega.{arith}
use Rattle.ranks.proofs.BitLaws.{one_shifted, ones_below}
use Rattle.ranks.proofs.ones.Goals as goal

pub returns : goal.returns
returns c = grind (arith, one_shifted, ones_below)
