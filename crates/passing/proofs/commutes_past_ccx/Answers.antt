use native.Mathlib.Omega.{arith}
use Rattle.std.proofs.lemmas.Grind.{common_steps}
use Rattle.rules.specs.MayPass.{class_of, past}
use Rattle.passing.proofs.PassingLaws.{ccx-shares}
use Rattle.passing.proofs.commutes_past_ccx.Goals as goal

pub returns-in_default : goal.returns-in_default
unfolding class_of past
returns-in_default c = grind (arith, common_steps, ccx-shares)
