use Rattle.links.specs.Words.{Within}
use Rattle.slots.specs.Live.{nodes_for}
use Rattle.live.specs.Filling.{FilledTo}
use Rattle.live.proofs.load.fill.Given as goal

abbrev pub invariant-loop-slot : goal.invariant-loop-slot
invariant-loop-slot l = FilledTo l.records l.work l.k l.slot × Within 0 (nodes_for l.k) l.initial.work l.work
