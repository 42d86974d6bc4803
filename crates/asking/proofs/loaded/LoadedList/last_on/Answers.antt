use native.Mathlib.Omega.{arith}
use Rattle.asking.proofs.AskLaws.{beside-at, last-is}
use Rattle.asking.proofs.loaded.LoadedList.last_on.Goals as goal

pub returns : goal.returns
returns c =
    let list = c.args.self.now in
    beside-at list.extent _ _ _ _ _ c.beside.ensures (last-is list.records.now _ _ _ c.requires list.loaded) (omega (arith, c.prev_at.ensures))
