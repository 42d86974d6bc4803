use native.Mathlib.Omega.{arith}
use Rattle.live.proofs.FinishLaws.{moved-next, moved-count, moved-filled, cleared-zeroed}
use Rattle.live.proofs.finish.finish.Goals as goal

pub loop-slot-preserved : goal.loop-slot-preserved
loop-slot-preserved c =
    moved-next _ _ _ c.requires _ _ _ _ _ c.loop-slot-test.true c.loop-slot.invariant
    c.keep_slot-kept.ensures.moved c.keep_slot-kept.ensures.counted

pub returns-clause-left : goal.returns-clause-left
returns-clause-left c = moved-count _ _ _ _ _ _ c.loop-slot-test.false c.loop-slot.invariant

pub returns-clause-records : goal.returns-clause-records
returns-clause-records c =
    moved-filled _ _ _ _ _ _ c.loop-slot-test.false c.loop-slot.invariant _ _ c.requires.long (omega arith) (c.fill.ensures.after (λ y e. e))

pub returns-clause-work : goal.returns-clause-work
returns-clause-work c = cleared-zeroed _ _ _ _ (omega (arith, c.requires.room)) c.clear.ensures
