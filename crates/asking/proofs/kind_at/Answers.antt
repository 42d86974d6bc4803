use Rattle.asking.proofs.AskLaws.{kind-read}
use Rattle.asking.proofs.kind_at.Goals as goal

pub returns : goal.returns
returns c = kind-read _ _ c.requires.a_gate
