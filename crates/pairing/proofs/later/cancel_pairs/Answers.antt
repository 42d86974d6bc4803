use Rattle.pairing.proofs.LaterLaws.{swept_none, swept-more, swept_all}
use Rattle.pairing.proofs.later.cancel_pairs.Goals as goal

pub loop-i-init : goal.loop-i-init
loop-i-init c = swept_none _ _ _ _ _ c.requires.live

pub loop-i-preserved : goal.loop-i-preserved
loop-i-preserved c =
    let turn = c.cancel_at-s.ensures in
    swept-more _ _ _ _ _ _ _ _ _ c.loop-i.invariant _ _ _ c.loop-i-test.true turn.live turn.went turn.within

pub returns-clause-did : goal.returns-clause-did
returns-clause-did c = swept_all _ _ _ _ _ _ _ _ _ c.loop-i.invariant c.loop-i-test.false
