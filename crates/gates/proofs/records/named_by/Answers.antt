use native.Mathlib.Omega.{arith}
use mathlib.Core.Path.{sym}
use Rattle.gates.proofs.KindLaws.{unknown_named}
use Rattle.gates.proofs.records.named_by.Goals as goal

pub returns-in-27-to-255 : goal.returns-in-27-to-255
returns-in-27-to-255 c = sym (unknown_named _ _ _ _ (omega arith))
