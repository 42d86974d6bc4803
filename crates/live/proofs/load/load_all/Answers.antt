use Rattle.live.proofs.TrialLaws.{loaded-none, next_past, loaded-more}
use Rattle.live.proofs.load.load_all.Goals as goal

pub loop-i-init : goal.loop-i-init
loop-i-init c = loaded-none _ _ _ _ c.begin.ensures.loaded c.begin.ensures.empty

pub push-requires-clause-slot_past_all : goal.push-requires-clause-slot_past_all
push-requires-clause-slot_past_all c = (c.loop-i-test.true, next_past _ _ _ _ _ _ _ c.loop-i.invariant)

pub loop-i-preserved : goal.loop-i-preserved
loop-i-preserved c =
    loaded-more _ _ _ _ _ _ _ c.loop-i.invariant _ _ c.loop-i-test.true c.push.ensures.loaded c.push.ensures.pushed c.push.ensures.«record» c.push.ensures.within
