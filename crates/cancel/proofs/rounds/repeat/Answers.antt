use mathlib.Core.Bool.{cond}
use Prim.Native.Nat.{◌*◌}
use native.Mathlib.Omega.{arith}
use Rattle.std.proofs.Common.{rules}
use Rattle.cancel.proofs.AgainLaws.{Once, so-far-none, next_fits, next-looks, one_more, smaller, all_done, all-looked}
use Rattle.cancel.proofs.rounds.repeat.Given.{Over}
use Rattle.cancel.proofs.rounds.repeat.Goals as goal
use Rattle.cancel.proofs.rounds.repeat.Goals.{After-sweep-swept}

pub loop-s-init : goal.loop-s-init
loop-s-init g c = so-far-none _ _ _ _ _ _ _ c.requires.live

pub sweep-swept-requires-clause-room : goal.sweep-swept-requires-clause-room
sweep-swept-requires-clause-room g c = (c.requires.room.0, next_fits c.loop-s.invariant (g.met.S.Sweeps.replays _) c.requires.room.1)

pub sweep-swept-requires-clause-few_looks : goal.sweep-swept-requires-clause-few_looks
sweep-swept-requires-clause-few_looks g c = omega (arith, next-looks c.loop-s.invariant (g.met.S.Sweeps.replays _))

pub overflow_add-looks : goal.overflow_add-looks
overflow_add-looks g c = omega (arith, next-looks c.loop-s.invariant (g.met.S.Sweeps.replays _), c.sweep-swept.ensures.looked)

once : (g : Over) (c : After-sweep-swept g) →
    let swept = c.sweep-swept in
    Once (g.S.Sweeps.does c.args.k.wires) c.args.k (cond g.S.Sweeps.only_reads 0 (16 * c.args.k.gates)) c.loop-s.records c.loop-s.work c.loop-s.journal swept.new.records swept.new.work swept.new.journal
    c.loop-s.s swept.result.steps
once g c = search rules

pub returns-then-swept-s-clause-did : goal.returns-then-swept-s-clause-did
returns-then-swept-s-clause-did g c =
    all_done c.loop-s.invariant (g.met.S.Sweeps.replays _) (once g (goal.at.returns-then-swept-s-clause-did g c).After-sweep-swept) c.if-swept-s.true

pub returns-then-swept-s-clause-looked : goal.returns-then-swept-s-clause-looked
returns-then-swept-s-clause-looked g c =
    let one = once g (goal.at.returns-then-swept-s-clause-looked g c).After-sweep-swept in
    cc (c.sweep-swept.ensures.looked, all-looked c.loop-s.invariant (g.met.S.Sweeps.replays _) one c.if-swept-s.true)

pub loop-s-smaller : goal.loop-s-smaller
loop-s-smaller g c =
    smaller c.loop-s.invariant (g.met.S.Sweeps.replays _) (once g (goal.at.loop-s-smaller g c).After-sweep-swept) c.if-swept-s.false

pub loop-s-preserved : goal.loop-s-preserved
loop-s-preserved g c =
    one_more c.loop-s.invariant (g.met.S.Sweeps.replays _) (once g (goal.at.loop-s-preserved g c).After-sweep-swept) c.if-swept-s.false _ (cc)
