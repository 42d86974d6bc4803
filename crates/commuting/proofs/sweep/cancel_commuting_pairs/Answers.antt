use Rattle.commuting.proofs.SweptLaws.{swept_none, swept-more, swept_all, swept-counted}
use Rattle.commuting.proofs.sweep.cancel_commuting_pairs.Goals as goal

pub loop-i-init : goal.loop-i-init
loop-i-init c = swept_none _ _ _ _ _ c.requires.live

pub loop-i-preserved : goal.loop-i-preserved
loop-i-preserved c =
    let turn = c.cancel_at-swept.ensures in
    swept-more c.loop-i.invariant c.loop-i-test.true turn.live turn.went turn.more turn.within

pub returns-clause-did : goal.returns-clause-did
returns-clause-did c = swept_all c.loop-i.invariant c.loop-i-test.false

pub returns-clause-looked : goal.returns-clause-looked
returns-clause-looked c = swept-counted c.loop-i.invariant c.loop-i-test.false
