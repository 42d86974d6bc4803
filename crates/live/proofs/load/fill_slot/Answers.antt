use mathlib.Core.Path.{◌≡◌, sym, ◌∙◌}
use mathlib.Core.Bool.{true}
use native.Mathlib.Omega.{arith}
use Rattle.links.proofs.WordLaws.{within_none}
use Rattle.slots.specs.Live.{is_live}
use Rattle.slots.proofs.StateLaws.{live-at}
use Rattle.live.proofs.ForwardLaws.{filled-past}
use Rattle.live.proofs.LoadCodeLaws.{in-room, filled-slot}
use Rattle.live.proofs.load.fill_slot.Goals as goal

pub hang-requires : goal.hang-requires
hang-requires c =
    let live : is_live c.args.work.now c.args.k c.args.slot ≡ true = sym (live-at _ _ _ _ c.ranks_at.ensures) ∙ sym c.is_marked.ensures ∙ c.if-is_marked.true in
    in-room _ _ _ _ _ _ _ _ c.requires.loaded (omega arith) c.requires.filled_past.0 (c.requires.loaded.sound _ live) c.record.ensures

pub returns-then-is_marked : goal.returns-then-is_marked
returns-then-is_marked c =
    let live : is_live c.args.work.now c.args.k c.args.slot ≡ true = sym (live-at _ _ _ _ c.ranks_at.ensures) ∙ sym c.is_marked.ensures ∙ c.if-is_marked.true in
    let whole = filled-slot _ _ _ _ _ _ c.requires.loaded c.requires.filled_past.0 live c.record.ensures c.hang.ensures c.requires.filled_past.1 in
    record { filled = whole.0; within = whole.1 }

pub returns-else-is_marked : goal.returns-else-is_marked
returns-else-is_marked c =
    let dead = sym (live-at _ _ _ _ c.ranks_at.ensures) ∙ sym c.is_marked.ensures ∙ c.if-is_marked.false in record {
      filled = filled-past _ _ _ _ c.requires.filled_past.0 dead c.requires.filled_past.1;
      within = within_none _ _ _;
    }
