use mathlib.Core.Bool.{cond}
use Prim.Native.Nat.{◌*◌}
use Rattle.rules.specs.Loop.{size}
use Rattle.slots.specs.Live.{held}
use Rattle.cancel.proofs.AgainLaws.{SoFar}
use Rattle.cancel.proofs.rounds.repeat.Given as goal

abbrev pub invariant-loop-s : goal.invariant-loop-s
invariant-loop-s g l = SoFar (g.S.Sweeps.does l.k.wires) l.k (cond g.S.Sweeps.only_reads 0 (16 * l.k.gates)) l.initial.records l.initial.work l.initial.journal l.steps l.records l.work l.journal l.s l.looks

abbrev pub decreases-loop-s : goal.decreases-loop-s
decreases-loop-s g l = size (held l.records l.work l.k)
