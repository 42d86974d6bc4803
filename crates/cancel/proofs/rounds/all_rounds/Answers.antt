use mathlib.Core.Path.{◌≡◌}
use Rattle.journal.proofs.SweepingLaws.{did_none}
use Rattle.cancel.proofs.EmptyLaws.{rounds-nothing}
use Rattle.cancel.proofs.rounds.all_rounds.Goals as goal

pub returns-then-k-eq0-clause-did : goal.returns-then-k-eq0-clause-did
returns-then-k-eq0-clause-did c = let none : c.args.k.gates ≡ 0 = c.if-k-eq0.true in rw rounds-nothing (did_none _ _ _)

pub returns-then-k-eq0-clause-looked : goal.returns-then-k-eq0-clause-looked
returns-then-k-eq0-clause-looked c = let none : c.args.k.gates ≡ 0 = c.if-k-eq0.true in rw rounds-nothing
