use Rattle.pairing.proofs.LaterLaws.{SweptTo}
use Rattle.pairing.proofs.later.cancel_pairs.Given as goal

abbrev pub invariant-loop-i : goal.invariant-loop-i
invariant-loop-i l = SweptTo l.records l.initial.work l.initial.journal l.k l.steps l.i l.work l.journal l.s
