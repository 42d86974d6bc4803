use mathlib.Core.Path.{sym}
use native.Mathlib.Omega.{arith}
use Rattle.asking.proofs.AskLaws.{count-is, held_none}
use Rattle.asking.proofs.loaded.LoadedList.live_count.Goals as goal

pub returns-then-k-eq0 : goal.returns-then-k-eq0
returns-then-k-eq0 c = sym (held_none _ _ _ c.if-k-eq0.true)

pub returns : goal.returns
returns c =
    let list = c.args.self.now in
    cc (c.position.ensures, c.ranks_at.ensures, count-is list.records.now _ _ (list.loaded.ranks (omega arith)))
