use mathlib.Core.Path.{ap₂, ◌∙◌}
use Prim.Native.Nat.{◌*◌}
use native.Mathlib.Omega.{arith}
use lib.Seq.{sets}
use Rattle.rules.specs.Steps.{step}
use Rattle.rules.specs.Journal.{step_bytes}
use Rattle.links.proofs.WordLaws.{within-then}
use Rattle.slots.proofs.StateLaws.{live_below}
use Rattle.journal.proofs.TakenLaws.{still-live, both_out}
use Rattle.journal.proofs.take_pair.Goals as goal

pub position-from-requires : goal.position-from-requires
position-from-requires c = live_below _ _ _ c.requires.both_live.0

pub position-to-requires : goal.position-to-requires
position-to-requires c = live_below _ _ _ c.requires.both_live.1

pub drop_slot-requires-2 : goal.drop_slot-requires-2
drop_slot-requires-2 c = record {
  live = c.drop_slot.ensures.live;
  slot_live = still-live _ _ _ _ _ _ _ c.drop_slot.ensures.dropped c.requires.both_live.1 (λ e. omega (arith, e, c.requires.both_live.2));
}

pub returns : goal.returns
returns c = record {
  live = c.drop_slot-2.ensures.live;
  taken = both_out _ _ _ _ _ _ _ c.drop_slot.ensures.dropped c.drop_slot-2.ensures.dropped;
  within = within-then _ _ _ _ _ c.drop_slot.ensures.within c.drop_slot-2.ensures.within;
  journal = c.put_step.ensures ∙ ap₂ (λ x y. sets c.args.journal.now (16 * c.args.others) (step_bytes (step c.args.kind x y))) c.position-from.ensures c.position-to.ensures;
}
