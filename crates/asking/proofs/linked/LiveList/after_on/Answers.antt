use native.Mathlib.Omega.{arith}
use Rattle.asking.proofs.AskLaws.{node-inside, after_is}
use Rattle.asking.proofs.linked.LiveList.after_on.Goals as goal

pub overflow_mul-slot : goal.overflow_mul-slot
overflow_mul-slot c =
    omega (arith, node-inside _ _ _ c.args.self.now.live.loaded _ _ c.requires.slot_live c.requires.of_gate)

pub overflow_add-slot : goal.overflow_add-slot
overflow_add-slot c =
    omega (arith, node-inside _ _ _ c.args.self.now.live.loaded _ _ c.requires.slot_live c.requires.of_gate)

pub beside-requires : goal.beside-requires
beside-requires c =
    let inside = node-inside _ _ _ c.args.self.now.live.loaded _ _ c.requires.slot_live c.requires.of_gate in
    (omega (arith, inside, c.args.self.now.live.loaded.room), omega arith)

pub returns : goal.returns
returns c =
    let list = c.args.self.now in
    cc (c.beside.ensures, after_is _ _ _ list.live.loaded _ _ c.requires.slot_live c.requires.of_gate list.live.forward)
