use mathlib.Core.Path.{◌∙◌}
use Rattle.asking.proofs.AskLaws.{wire-read}
use Rattle.asking.proofs.wire_at.Goals as goal

pub returns : goal.returns
returns c = c.word_at.ensures ∙ wire-read _ _ c.requires.a_gate
