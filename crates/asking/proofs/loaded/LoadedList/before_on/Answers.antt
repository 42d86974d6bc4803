use native.Mathlib.Omega.{arith}
use Rattle.asking.proofs.AskLaws.{beside-at, node-inside, before-is}
use Rattle.asking.proofs.loaded.LoadedList.before_on.Goals as goal

pub overflow_mul-slot : goal.overflow_mul-slot
overflow_mul-slot c =
    omega (arith, node-inside _ _ _ c.args.self.now.loaded _ _ c.requires.slot_live c.requires.of_gate)

pub overflow_add-slot : goal.overflow_add-slot
overflow_add-slot c =
    omega (arith, node-inside _ _ _ c.args.self.now.loaded _ _ c.requires.slot_live c.requires.of_gate)

pub beside-requires : goal.beside-requires
beside-requires c =
    let inside = node-inside _ _ _ c.args.self.now.loaded _ _ c.requires.slot_live c.requires.of_gate in
    (omega (arith, inside, c.prev_at.ensures, c.args.self.now.loaded.room), omega arith)

pub returns : goal.returns
returns c =
    let list = c.args.self.now in
    beside-at list.extent _ _ _ _ _ c.beside.ensures (before-is _ _ _ list.loaded _ _ c.requires.slot_live c.requires.of_gate)
    (omega (arith, c.prev_at.ensures))
