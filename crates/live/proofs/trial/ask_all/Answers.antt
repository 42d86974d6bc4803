use mathlib.Core.Path.{◌≡◌, sym, ◌∙◌}
use Rattle.live.proofs.LoadCodeLaws.{record-inside}
use Rattle.live.proofs.TrialLaws.{partner_if, has-wire, first_small, pair_read, partner-asked, partner-none, answers-are}
use Rattle.live.proofs.trial.ask_all.Goals as goal
use Rattle.live.proofs.trial.ask_all.Goals.{then-r, else-r}

pub record-r-requires : goal.record-r-requires
record-r-requires c = record-inside _ _ _ _ c.args.list.now.live.loaded c.requires

-- The list as it is loaded is the same, by other names.
pub before_on-requires-clause-of_gate : goal.before_on-requires-clause-of_gate
before_on-requires-clause-of_gate c =
    rw c.loaded-loaded.ensures.0 (has-wire _ _ _ _ _ c.args.list.now.live.loaded c.requires c.record-r.ensures)

pub after_on-requires-clause-of_gate : goal.after_on-requires-clause-of_gate
after_on-requires-clause-of_gate c = has-wire _ _ _ _ _ c.args.list.now.live.loaded c.requires c.record-r.ensures

pub partner-requires-clause-a_pair : goal.partner-requires-clause-a_pair
partner-requires-clause-a_pair c =
    sym (pair_read _ _ _ _ _ c.args.list.now.live.loaded c.requires c.record-r.ensures) ∙ c.if-r.true

pub first_on-requires : goal.first_on-requires
first_on-requires c = first_small _ _ _ _ _ c.args.list.now.live.loaded c.requires c.record-r.ensures

pub last_on-requires : goal.last_on-requires
last_on-requires c =
    rw c.loaded-loaded.ensures.2 (first_small _ _ _ _ _ c.args.list.now.live.loaded c.requires c.record-r.ensures)

pub returns : goal.returns
returns c =
    let list = c.args.list.now in
    let same = c.loaded-loaded.ensures in
    let partnered : c.if-r.result ≡ partner_if list.records.now list.work.now list.extent c.args.slot.0 = elim c.if-r.branch [
      | then-r w ↦ partner-asked _ _ _ _ _ list.live.loaded c.requires c.record-r.ensures _ _ w.if-r.true w.partner.ensures w.result-is
      | else-r w ↦ partner-none _ _ _ _ _ list.live.loaded c.requires c.record-r.ensures _ w.if-r.false w.result-is
    ] in
    answers-are _ _ _ _ _ list.live.loaded c.requires c.record-r.ensures _ _ _ _ _ _
    (rw (same.0, same.1, same.2) at c.before_on.ensures) c.after_on.ensures (rw (same.0, same.1, same.2) at c.blocker.ensures)
    partnered c.first_on.ensures (rw (same.0, same.1, same.2) at c.last_on.ensures)
