use mathlib.Core.Path.{◌∙◌}
use Prim.Native.Nat.{◌<◌}
use native.Mathlib.Omega.{arith}
use Rattle.slots.proofs.StateLaws.{live_below}
use Rattle.pairing.proofs.FoundLaws.{kind-stays, free-stays, blocker-reads, equal-goes, unequal-stays}
use Rattle.pairing.proofs.later.equal_blocker.Goals as goal

pub record-r-requires : goal.record-r-requires
record-r-requires c =
    let inside : c.args.slot.0 < c.args.loaded.now.extent.gates = live_below _ _ _ c.requires in
    let list = c.args.loaded.now.loaded in
    (omega (arith, inside, list.long), omega (arith, inside, list.few))

pub record-requires : goal.record-requires
record-requires c =
    let list = c.args.loaded.now.loaded in
    blocker-reads _ _ _ _ _ _ _ list (list.sound _ c.requires) c.record-r.ensures _ c.in_ok-blocker.ensures

pub returns-then-records_equal : goal.returns-then-records_equal
returns-then-records_equal c =
    let list = c.args.loaded.now.loaded in
    equal-goes _ _ _ _ _ _ _ list (list.sound _ c.requires) c.record-r.ensures _ c.in_ok-blocker.ensures
    _ _ c.record.ensures c.records_equal.ensures c.if-records_equal.true

pub returns-else-records_equal : goal.returns-else-records_equal
returns-else-records_equal c =
    let list = c.args.loaded.now.loaded in
    unequal-stays _ _ _ _ _ _ _ list (list.sound _ c.requires) c.record-r.ensures _ c.in_ok-blocker.ensures
    _ _ c.record.ensures c.records_equal.ensures c.if-records_equal.false

pub returns-in_err-blocker : goal.returns-in_err-blocker
returns-in_err-blocker c =
    let list = c.args.loaded.now.loaded in
    c.from_residual.ensures ∙ free-stays _ _ _ _ _ _ _ list (list.sound _ c.requires) c.record-r.ensures c.in_err-blocker.ensures

pub returns-else-kind_cancels : goal.returns-else-kind_cancels
returns-else-kind_cancels c =
    let list = c.args.loaded.now.loaded in
    kind-stays _ _ _ _ _ _ _ list (list.sound _ c.requires) c.record-r.ensures _ c.kind_cancels.ensures c.if-kind_cancels.false
