-- "Steps": the kind of each, by the sweep that writes it.
use Rattle.std.specs.Prelude.{ℕ}
use Rattle.journal.specs.declared.StepKind.{StepKind}

abbrev pub number_in : StepKind → ℕ
number_in StepKind.Pair = 1
number_in StepKind.Commuting = 2
number_in StepKind.Hadamard = 3
