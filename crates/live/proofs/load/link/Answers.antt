use Rattle.slots.proofs.StateLaws.{keeps-loaded}
use Rattle.live.proofs.LoadCodeLaws.{linked}
use Rattle.live.proofs.load.link.Goals as goal

pub fill-requires : goal.fill-requires
fill-requires c =
    keeps-loaded _ _ _ _ c.pair_up.ensures.kept c.requires

pub returns : goal.returns
returns c =
    let whole = linked _ _ _ _ _ c.requires c.pair_up.ensures.paired c.pair_up.ensures.kept c.fill.ensures.rings c.fill.ensures.within in
    record { live = whole.0; held = whole.1.0; within = whole.1.1 }
