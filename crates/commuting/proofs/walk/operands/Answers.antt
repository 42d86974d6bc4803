use Rattle.std.proofs.Common.{rules}
use Rattle.gates.specs.Gates.{wires_of}
use Rattle.leaves.specs.Answers.{as_gate}
use Rattle.commuting.proofs.walk.operands.Goals as goal

pub returns-in-Cnot : goal.returns-in-Cnot
unfolding wires_of as_gate
returns-in-Cnot c = search rules

pub returns-in-Ccx : goal.returns-in-Ccx
unfolding wires_of as_gate
returns-in-Ccx c = search rules
