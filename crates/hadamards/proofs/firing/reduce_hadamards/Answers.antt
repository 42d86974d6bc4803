use mathlib.Core.Path.{sym, subst}
use mathlib.Core.List.{List}
use Prim.Native.Nat.{ℕ, ◌+◌, ◌*◌, ◌≤◌}
use lib.ListN.{length}
use borrow.Author.Rules.{rules}
use Rattle.rules.specs.Steps.{Cell}
use Rattle.rules.specs.Sweeps.{hadamard_sweep}
use Rattle.slots.proofs.SpareLaws.{spare-held, spare-live}
use Rattle.hadamards.proofs.SweptLaws.{swept_none, swept-room, swept-more, swept_all}
use Rattle.hadamards.proofs.firing.reduce_hadamards.Goals as goal

pub loop-w-init : goal.loop-w-init
loop-w-init c =
    swept_none _ _ _ _ _ (spare-live _ _ _ _ _ c.scan.ensures.within c.requires.live) c.scan.ensures.noted

pub fire_wire-s-requires-clause-room : goal.fire_wire-s-requires-clause-room
fire_wire-s-requires-clause-room c =
    swept-room _ _ _ _ _ _ _ _ _ _ c.loop-w.invariant c.loop-w-test.true
    (subst (λ (l : List (Cell ℕ)). 16 * (c.args.steps + length (hadamard_sweep c.args.k.wires l).steps) ≤ length c.args.journal.now)
    (sym (spare-held _ _ _ _ _ c.scan.ensures.within)) c.requires.room.1)

pub loop-w-preserved : goal.loop-w-preserved
loop-w-preserved c =
    swept-more _ _ _ _ _ _ _ _ _ _ c.loop-w.invariant _ _ _ _ c.loop-w-test.true c.fire_wire-s.ensures.live c.fire_wire-s.ensures.did
    c.fire_wire-s.ensures.others c.fire_wire-s.ensures.within (search rules) c.fire_wire-s.ensures.past

pub returns-clause-did : goal.returns-clause-did
returns-clause-did c = swept_all _ _ _ _ _ _ _ _ _ _ c.loop-w.invariant _ c.loop-w-test.false (spare-held _ _ _ _ _ c.scan.ensures.within)
