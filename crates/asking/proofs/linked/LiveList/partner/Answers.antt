use mathlib.Core.Path.{sym, ap, ◌∙◌}
use Prim.Native.Nat.{ℕ, ◌+◌}
use native.Mathlib.Omega.{arith}
use lib.ListN.{get_or}
use Rattle.slots.proofs.StateLaws.{live_below, room-enough}
use Rattle.asking.proofs.AskLaws.{partner-none, partner-some}
use Rattle.asking.proofs.linked.LiveList.partner.Goals as goal

pub overflow_add-node : goal.overflow_add-node
overflow_add-node c =
    let list = c.args.self.now in
    let low = live_below _ _ _ c.requires.slot_live in
    omega (arith, low, c.pairs_at.ensures, room-enough list.extent (omega (arith, low)), list.live.loaded.room)

pub overflow_add-node-2 : goal.overflow_add-node-2
overflow_add-node-2 c =
    let list = c.args.self.now in
    let low = live_below _ _ _ c.requires.slot_live in
    omega (arith, low, c.pairs_at.ensures, room-enough list.extent (omega (arith, low)), list.live.loaded.room)

pub offset_bounds-self-pairs_at : goal.offset_bounds-self-pairs_at
offset_bounds-self-pairs_at c =
    let list = c.args.self.now in
    let low = live_below _ _ _ c.requires.slot_live in
    omega (arith, low, c.pairs_at.ensures, room-enough list.extent (omega (arith, low)), list.live.loaded.room)

pub bounds-self-pairs_at : goal.bounds-self-pairs_at
bounds-self-pairs_at c =
    let list = c.args.self.now in
    let low = live_below _ _ _ c.requires.slot_live in
    omega (arith, low, c.pairs_at.ensures, room-enough list.extent (omega (arith, low)), list.live.loaded.room)

pub returns-then-node-eq0 : goal.returns-then-node-eq0
returns-then-node-eq0 c =
    let there = ap (λ (at : ℕ). get_or c.args.self.now.work.now (at + c.args.slot.0 + 1) 0) (sym c.pairs_at.ensures) in
    partner-none _ _ _ _ c.requires.slot_live c.requires.a_pair c.args.self.now.live.partners (there ∙ c.if-node-eq0.true)

pub returns-else-node-eq0 : goal.returns-else-node-eq0
returns-else-node-eq0 c =
    let there = ap (λ (at : ℕ). get_or c.args.self.now.work.now (at + c.args.slot.0 + 1) 0) (sym c.pairs_at.ensures) in
    cc (there, partner-some _ _ _ _ c.requires.slot_live c.requires.a_pair c.args.self.now.live.partners (λ e. c.if-node-eq0.false (sym there ∙ e)))
