use Rattle.pairing.proofs.FirstLaws.{PairedTo}
use Rattle.pairing.proofs.first.load_pairs.Given as goal

-- `work₀` is what `begin` left: its own change of the words is added at the end.
abbrev pub invariant-loop-i : goal.invariant-loop-i
invariant-loop-i l =
    PairedTo l.list l.initial.records l.initial.work l.initial.journal l.k l.i l.records l.work l.journal l.steps
