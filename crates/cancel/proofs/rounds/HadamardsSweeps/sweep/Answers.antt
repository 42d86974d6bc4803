use mathlib.Core.Path.{sym}
use Rattle.rules.specs.Equal.{seven}
use Rattle.rules.proofs.Looks.{hadamard-none}
use Rattle.cancel.proofs.rounds.HadamardsSweeps.sweep.Goals as goal

pub returns-clause-looked : goal.returns-clause-looked
returns-clause-looked c = sym (hadamard-none seven c.args.k.wires _)
