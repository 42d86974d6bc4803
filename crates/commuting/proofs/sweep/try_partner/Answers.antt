use Rattle.std.proofs.Common.{rules}
use mathlib.Core.Path.{sym, ap, ◌∙◌}
use Prim.Native.Nat.{◌<◌}
use native.Mathlib.Omega.{arith}
use Rattle.leaves.specs.Answers.{pair_of}
use Rattle.slots.proofs.StateLaws.{live_below, links-in-room}
use Rattle.commuting.proofs.TurnLaws.{other-no-pair, turn-other, turn_alone, Partnered, partner-live, partner-equal, turn-blocked, looks-to-come, step_room, turn-reached}
use Rattle.commuting.proofs.sweep.try_partner.Goals as goal
use Rattle.commuting.proofs.sweep.try_partner.Goals.{In-Some-partner}

pub gate_at-requires : goal.gate_at-requires
gate_at-requires c = let inside : c.args.slot.0 < c.args.k.gates = live_below _ _ _ c.requires.live_pair.0 in search rules

pub returns-in_default-clause-went : goal.returns-in_default-clause-went
returns-in_default-clause-went c =
    turn-other _ _ _ _ c.requires.live_pair.0
    (other-no-pair _ (sym (ap pair_of c.gate_at.ensures) ∙ sym c.in_default.ensures)) _ _ _ (omega arith)

pub returns-in_default-partner-clause-went : goal.returns-in_default-partner-clause-went
returns-in_default-partner-clause-went c =
    turn_alone _ _ _ _ c.requires.live_pair.0 c.requires.live_pair.1 c.in_default-partner.ensures _ _ _ (omega arith)

found : (c : In-Some-partner) → Partnered c.args.records.now c.args.work.now c.args.k c.args.slot.0 c.in-Some-partner.other
found c = record { alive = c.requires.live_pair.0; pair = c.requires.live_pair.1; said = c.in-Some-partner.ensures }

pub walk_past-walked-requires : goal.walk_past-walked-requires
walk_past-walked-requires c =
    let t = found (goal.at.walk_past-walked-requires c).In-Some-partner in record {
      both_live = partner-live t;
      partners = (sym (ap pair_of c.gate_at.ensures) ∙ sym c.in-Some.ensures, partner-equal t);
    }

pub overflow_add-looks : goal.overflow_add-looks
overflow_add-looks c =
    omega (
      arith,
      looks-to-come (found (goal.at.overflow_add-looks c).In-Some-partner) _ c.walk_past-walked.ensures.walked,
      c.requires.few_looks,
    )

pub take_pair-requires : goal.take_pair-requires
take_pair-requires c =
    let t = found (goal.at.take_pair-requires c).In-Some-partner in record {
      live = c.requires.live;
      both_live = partner-live t;
      room = step_room t _ c.walk_past-walked.ensures.walked c.in-Reached.is _ _ c.requires.room;
    }

pub returns-in-Blocked-clause-went : goal.returns-in-Blocked-clause-went
returns-in-Blocked-clause-went c =
    turn-blocked (found (goal.at.returns-in-Blocked-clause-went c).In-Some-partner) _ c.walk_past-walked.ensures.walked c.in-Blocked.is
    _ _ _ (omega arith)

pub returns-in-Reached-clause-went : goal.returns-in-Reached-clause-went
returns-in-Reached-clause-went c =
    turn-reached (found (goal.at.returns-in-Reached-clause-went c).In-Some-partner) _ c.walk_past-walked.ensures.walked c.in-Reached.is
    _ c.take_pair.ensures.taken _ c.number-kind.ensures _ _ _ _ c.take_pair.ensures.journal (omega arith)

pub returns-in-Reached-clause-within : goal.returns-in-Reached-clause-within
returns-in-Reached-clause-within c =
    links-in-room _ _ _ (omega (arith, live_below _ _ _ c.requires.live_pair.0)) c.take_pair.ensures.within
