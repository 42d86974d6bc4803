use mathlib.Core.Path.{◌∙◌}
use Rattle.pairing.proofs.FoundLaws.{kind-stays, free-stays, blocker-reads, equal-goes, unequal-stays}
use Rattle.pairing.proofs.first.equal_last.Goals as goal

pub record-requires : goal.record-requires
record-requires c =
    blocker-reads _ _ _ _ _ _ _ c.args.loaded.now.loaded c.requires.1 c.record_at-r.ensures _ c.in_ok-blocker.ensures

pub returns-then-records_equal : goal.returns-then-records_equal
returns-then-records_equal c =
    equal-goes _ _ _ _ _ _ _ c.args.loaded.now.loaded c.requires.1 c.record_at-r.ensures _ c.in_ok-blocker.ensures
    _ _ c.record.ensures c.records_equal.ensures c.if-records_equal.true

pub returns-else-records_equal : goal.returns-else-records_equal
returns-else-records_equal c =
    unequal-stays _ _ _ _ _ _ _ c.args.loaded.now.loaded c.requires.1 c.record_at-r.ensures _ c.in_ok-blocker.ensures
    _ _ c.record.ensures c.records_equal.ensures c.if-records_equal.false

pub returns-in_err-blocker : goal.returns-in_err-blocker
returns-in_err-blocker c =
    c.from_residual.ensures
    ∙ free-stays _ _ _ _ _ _ _ c.args.loaded.now.loaded c.requires.1 c.record_at-r.ensures c.in_err-blocker.ensures

pub returns-else-kind_cancels : goal.returns-else-kind_cancels
returns-else-kind_cancels c =
    kind-stays _ _ _ _ _ _ _ c.args.loaded.now.loaded c.requires.1 c.record_at-r.ensures
    _ c.kind_cancels.ensures c.if-kind_cancels.false
