use Rattle.pairing.proofs.FirstLaws.{paired_none, paired-more, paired-all}
use Rattle.pairing.proofs.first.load_pairs.Goals as goal

pub loop-i-init : goal.loop-i-init
loop-i-init c = paired_none _ _ _ _ _ c.begin.ensures.loaded c.begin.ensures.empty

pub loop-i-preserved : goal.loop-i-preserved
loop-i-preserved c =
    let turn = c.load_gate-steps.ensures in
    paired-more _ _ _ _ _ _ _ _ _ _ c.loop-i.invariant _ _ _ _ c.loop-i-test.true c.load_gate-steps.auto.records
    turn.loaded turn.below turn.went turn.within turn.past

pub returns-clause-did : goal.returns-clause-did
returns-clause-did c = paired-all _ _ _ _ _ _ _ _ _ _ c.loop-i.invariant c.loop-i-test.false
