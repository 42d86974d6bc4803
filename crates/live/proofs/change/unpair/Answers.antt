use mathlib.Core.Path.{refl, sym, ◌∙◌}
use Rattle.partners.proofs.PairTestLaws.{between_is}
use Rattle.live.proofs.change.unpair.Goals as goal

-- The code's test is that of the kinds of pairs.
pub unlink-requires : goal.unlink-requires
unlink-requires c =
    let can = c.requires.can_pass (sym (between_is c.args.kind) ∙ c.if-kind.true) in
    rw (c.pairs_at.ensures, c.pair_prev_at.ensures) (record {
      node_in_bounds = (can.0, can.1);
      beside_in_bounds = (can.2, can.3);
    })

pub returns-then-kind : goal.returns-then-kind
returns-then-kind c =
    let pair = sym (between_is c.args.kind) ∙ c.if-kind.true in
    rw pair (rw (c.pairs_at.ensures, c.pair_prev_at.ensures) at c.unlink.ensures)

pub returns-else-kind : goal.returns-else-kind
returns-else-kind c =
    let single = sym (between_is c.args.kind) ∙ c.if-kind.false in
    rw single refl
