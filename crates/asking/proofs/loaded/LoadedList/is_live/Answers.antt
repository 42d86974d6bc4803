use Rattle.slots.proofs.StateLaws.{live-is}
use Rattle.asking.proofs.loaded.LoadedList.is_live.Goals as goal

pub returns : goal.returns
returns c = cc (c.is_marked.ensures, c.ranks_at.ensures, live-is c.args.self.now.work.now c.args.self.now.extent c.args.slot.0)
