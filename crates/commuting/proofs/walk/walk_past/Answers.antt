use mathlib.Core.Path.{refl, sym, ap, ◌∙◌}
use Prim.Native.Nat.{◌<◌}
use native.Mathlib.Omega.{arith}
use Rattle.std.proofs.Common.{rules}
use Rattle.leaves.specs.Answers.{as_gate}
use Rattle.slots.proofs.WireLaws.{at-most-three}
use Rattle.slots.proofs.StateLaws.{live_below}
use Rattle.commuting.specs.Walking.{ends_as}
use Rattle.commuting.proofs.WalkLaws.{Meant, ended}
use Rattle.commuting.proofs.StartLaws.{started}
use Rattle.commuting.proofs.LoopLaws.{round-skips, round-open, round-looks, round-reaches, round-passes, round-blocks, round-ends, round-looked}
use Rattle.commuting.proofs.walk.walk_past.Goals as goal
use Rattle.commuting.proofs.walk.walk_past.Goals.{then-node-ne0+in-Partner, then-node-ne0+in-Passed, else-node-ne0}

pub record-r-requires : goal.record-r-requires
record-r-requires c =
    let inside : c.args.slot.0 < c.args.list.now.extent.gates = live_below _ _ _ c.requires.both_live.0 in search rules

pub starts-at-requires : goal.starts-at-requires
starts-at-requires c =
    let inside : c.args.slot.0 < c.args.list.now.extent.gates = live_below _ _ _ c.requires.both_live.0 in search rules

pub walk-init : goal.walk-init
walk-init c =
    let meant : Meant c.args.list.now.records.now c.args.list.now.work.now c.args.list.now.extent c.args.slot.0 c.args.partner.0 c.args.pair = record {
      live = c.args.list.now.live;
      here = c.requires.both_live.0;
      there = c.requires.both_live.1;
      before = c.requires.both_live.2;
      is = c.requires.partners.0;
      alike = c.requires.partners.1;
    } in record {
      its = record {
        meant = meant;
        passing = c.past_of-past.ensures;
        counted = c.operands-count.ensures;
        narrow = omega (arith, c.operands-count.ensures, at-most-three (as_gate c.args.pair));
      };
      not_yet = refl;
      walking = started _ _ _ _ _ _ meant _ c.record-r.ensures _ c.operands-count.ensures _ c.starts-at.ensures;
    }

pub walk-smaller : goal.walk-smaller
walk-smaller c = omega (arith, round-looked c.loop-op.invariant (omega arith))

pub walk-preserved : goal.walk-preserved
walk-preserved c = round-ends c.loop-op.invariant (omega arith)

pub look-seen-requires : goal.look-seen-requires
look-seen-requires c = round-looks c.loop-op.invariant c.loop-op-test.true c.if-node-ne0.true

pub overflow_sub-open : goal.overflow_sub-open
overflow_sub-open c = omega (arith, round-open c.loop-op.invariant c.loop-op-test.true c.if-node-ne0.true)

pub loop-op-preserved : goal.loop-op-preserved
loop-op-preserved c =
    let r = c.loop-op.invariant in
    let here = c.loop-op-test.true in
    elim c.if-node-ne0.branch [
      | then-node-ne0+in-Partner w ↦
          rw (w.at-is, w.open-is, w.looks-is) (round-reaches r here w.if-node-ne0.true _ w.look-seen.ensures w.in-Partner.is)
      | then-node-ne0+in-Passed w ↦
          rw (w.at-is, w.open-is, w.looks-is) (round-passes r here w.if-node-ne0.true _ w.look-seen.ensures _ w.in-Passed.is)
      | else-node-ne0 w ↦ rw (w.at-is, w.open-is, w.looks-is) (round-skips r here w.if-node-ne0.false)
    ]

pub returns-after-walk-clause-walked : goal.returns-after-walk-clause-walked
returns-after-walk-clause-walked c =
    let b = c.walk.invariant in
    ap (λ e. ends_as e c.walk.looks) b.not_yet ∙ sym (ended _ _ _ _ _ _ b.its.meant _ _ _ b.walking (omega (arith, c.walk-test.false)))

pub returns-in-Blocker : goal.returns-in-Blocker
returns-in-Blocker c =
    let blocks = round-blocks c.loop-op.invariant c.loop-op-test.true c.if-node-ne0.true _ c.look-seen.ensures c.in-Blocker.is in
    record { walked = blocks.0; few = blocks.1 }
