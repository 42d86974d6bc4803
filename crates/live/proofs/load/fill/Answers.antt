use native.Mathlib.Omega.{arith}
use Rattle.links.specs.Words.{Within}
use Rattle.links.proofs.WordLaws.{within_none, within-then}
use Rattle.slots.specs.Live.{nodes_for}
use Rattle.slots.proofs.StateLaws.{keeps-loaded, keeps-links}
use Rattle.live.proofs.ForwardLaws.{filled_none}
use Rattle.live.proofs.LoadCodeLaws.{closed-within}
use Rattle.live.proofs.load.fill.Goals as goal

pub loop-slot-init : goal.loop-slot-init
loop-slot-init c = (filled_none _ _ _ _ c.close_ends.ensures, within_none _ _ _)

pub fill_slot-requires-clause-loaded : goal.fill_slot-requires-clause-loaded
fill_slot-requires-clause-loaded c =
    let so_far : Within 0 (nodes_for c.args.k) c.args.work.now c.loop-slot.work = within-then _ _ _ _ _ (closed-within _ _ _ 0 _ (omega arith) c.close_ends.ensures) c.loop-slot.invariant.1 in
    keeps-loaded _ _ _ _ (keeps-links _ _ _ so_far) c.requires
