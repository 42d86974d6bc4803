use mathlib.Core.Path.{ap, ◌∙◌}
use Rattle.slots.specs.Slots.{found}
use Rattle.asking.proofs.AskLaws.{first-is}
use Rattle.asking.proofs.linked.LiveList.first_on.Goals as goal

pub returns : goal.returns
returns c =
    c.beside.ensures ∙ ap found (first-is _ _ _ _ c.requires c.args.self.now.live.forward)
