-- What a gate is worth is told by its kind, and is less than a whole turn.
use mathlib.Core.Path.{◌≡◌}
use mathlib.Core.Option.{some}
use Prim.Native.Nat.{ℕ, ◌<◌}
use native.Mathlib.Omega.{arith}
use Rattle.std.proofs.lemmas.Grind.{common_steps}
use Rattle.gates.specs.declared.Gate.{Gate}
use Rattle.gates.specs.Records.{kind_of, record_of}
use Rattle.rules.specs.Runs.{worth}
use Rattle.leaves.specs.Answers.{worth_by}

pub worth-by : (g : Gate) → worth g ≡ worth_by (kind_of g)
unfolding worth worth_by record_of
worth-by g = grind (arith, common_steps)

-- a worth is less than a whole turn
pub worth-small : (kind j : ℕ) → worth_by kind ≡ some j → j < 8
unfolding worth_by
worth-small kind j e = grind (arith, common_steps)
