use mathlib.Core.Path.{sym, ◌∙◌}
use Rattle.slots.proofs.StateLaws.{live-at, keeps-none}
use Rattle.partners.proofs.PairTestLaws.{tested-is, keys-ask, keys-are}
use Rattle.partners.proofs.ListedLaws.{none_more, one_more}
use Rattle.partners.proofs.list_slot.Goals as goal

pub keys_of-requires : goal.keys_of-requires
keys_of-requires c =
    let whole = keys-ask _ _ _ _ _ c.requires.loaded _ (c.is_marked-live.ensures ∙ live-at _ _ _ _ c.ranks_at.ensures) c.record-r.ensures c.if-live-r.true in
    record { le_kind = whole.0; all = whole.1 }

pub returns-then-live-r : goal.returns-then-live-r
returns-then-live-r c =
    let live = c.is_marked-live.ensures ∙ live-at _ _ _ _ c.ranks_at.ensures in
    let is-pair = tested-is _ _ _ _ _ c.requires.loaded _ live c.record-r.ensures in
    let gates-keys = keys-are _ _ _ _ _ c.requires.loaded _ live c.record-r.ensures c.if-live-r.true in
    let whole = one_more _ _ _ _ _ _ _ _ c.requires.loaded c.requires.slot_lt_gates.0 c.requires.slot_lt_gates.1 c.requires.slot_lt_gates.2 (sym is-pair ∙ c.if-live-r.true)
    (c.keys_of.ensures ∙ gates-keys) c.put_keys.ensures in
    record { listed = whole.0; kept = whole.1 }

pub returns-else-live-r : goal.returns-else-live-r
returns-else-live-r c =
    let is-pair = tested-is _ _ _ _ _ c.requires.loaded _ (c.is_marked-live.ensures ∙ live-at _ _ _ _ c.ranks_at.ensures) c.record-r.ensures in record {
      listed = none_more _ _ _ _ _ (sym is-pair ∙ c.if-live-r.false) c.requires.slot_lt_gates.2;
      kept = keeps-none _ _;
    }
