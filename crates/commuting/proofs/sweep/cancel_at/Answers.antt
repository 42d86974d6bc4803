use mathlib.Core.Path.{sym, ◌∙◌}
use native.Mathlib.Omega.{arith}
use Rattle.slots.proofs.StateLaws.{reads-gate}
use Rattle.partners.proofs.PairTestLaws.{between_is}
use Rattle.commuting.proofs.TurnLaws.{turn-dead, turn-other}
use Rattle.commuting.proofs.sweep.cancel_at.Goals as goal

pub kind_at-kind-requires-clause-a_gate : goal.kind_at-kind-requires-clause-a_gate
kind_at-kind-requires-clause-a_gate c =
    reads-gate _ _ _ (c.requires.live.loaded.sound _ (sym c.is_live.ensures ∙ c.if-is_live.true))

pub try_partner-requires-clause-live_pair : goal.try_partner-requires-clause-live_pair
try_partner-requires-clause-live_pair c = (sym c.is_live.ensures ∙ c.if-is_live.true, cc (between_is c.kind_at-kind.result))

pub returns-else-kind-clause-went : goal.returns-else-kind-clause-went
returns-else-kind-clause-went c =
    turn-other c.args.records.now _ _ c.args.slot.0 (sym c.is_live.ensures ∙ c.if-is_live.true) (cc (between_is c.kind_at-kind.result))
    _ _ _ (omega arith)

pub returns-else-is_live-clause-went : goal.returns-else-is_live-clause-went
returns-else-is_live-clause-went c =
    turn-dead _ _ _ _ c.requires.slot_there (sym c.is_live.ensures ∙ c.if-is_live.false) _ _ _ (omega arith)
