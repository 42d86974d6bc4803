use native.Mathlib.Omega.{arith}
use Rattle.asking.proofs.AskLaws.{position-is}
use Rattle.asking.proofs.loaded.LoadedList.position.Goals as goal

pub returns : goal.returns
returns c =
    let list = c.args.self.now in
    cc (c.position.ensures, c.ranks_at.ensures, position-is list.records.now _ _ (list.loaded.ranks (omega arith)) c.args.slot.0)
