use mathlib.Core.Path.{◌≡◌}
use mathlib.Core.Bool.{true}
use Prim.Native.Nat.{◌<◌}
use native.Mathlib.Omega.{arith}
use Rattle.slots.specs.Live.{is_live}
use Rattle.live.proofs.TrialLaws.{SameList, same_bytes, own-known, own-asked, own-rewritten, dropped-none, same-dropped}
use Rattle.live.proofs.trial.drop_at.Goals as goal
use Rattle.live.proofs.trial.drop_at.Goals.{After-slot_at-slot, then-row_of-eq1, else-row_of-eq1}

-- The slot at the position is live in the list as it is loaded, which is the same by other names.
there : (c : After-slot_at-slot) →
    (is_live c.args.work.now c.args.k c.slot_at-slot.result.0 ≡ true) × (c.slot_at-slot.result.0 < c.args.k.gates)
there c = rw (c.loaded-loaded.ensures.1, c.loaded-loaded.ensures.2) at c.slot_at-slot.ensures.there

pub row_of-requires : goal.row_of-requires
row_of-requires c =
    let lives = (there (goal.at.row_of-requires c).After-slot_at-slot).0 in
    own-known _ _ _ _ _ c.requires.loaded lives c.gate_at-g.ensures _ c.from.ensures

pub rewrite-requires-clause-one_wire : goal.rewrite-requires-clause-one_wire
rewrite-requires-clause-one_wire c =
    let lives = (there (goal.at.rewrite-requires-clause-one_wire c).After-slot_at-slot).0 in
    own-asked _ _ _ _ _ c.requires.loaded lives c.gate_at-g.ensures _ _ c.from.ensures c.row_of.ensures c.if-row_of-eq1.true

pub returns-after-row_of-eq1-clause-dropped : goal.returns-after-row_of-eq1-clause-dropped
returns-after-row_of-eq1-clause-dropped c =
    let same = c.loaded-loaded.ensures in
    let lives = (there (goal.at.returns-after-row_of-eq1-clause-dropped c).After-slot_at-slot).0 in
    let position = rw (same.0, same.1, same.2) at c.slot_at-slot.ensures.at_position in
    let kept : SameList c.args.records.now c.args.work.now c.args.k c.if-row_of-eq1.records = elim c.if-row_of-eq1.branch [
      | then-row_of-eq1 w ↦ own-rewritten _ _ _ _ _ c.requires.loaded lives c.gate_at-g.ensures _ _
          w.rewrite.ensures.live w.rewrite.ensures.rewritten w.rewrite.ensures.«record» w.records-is
      | else-row_of-eq1 w ↦ same_bytes _ _ _ _ c.requires w.records-is
    ] in
    same-dropped _ _ _ _ _ _ _ kept position c.drop_slot.ensures.dropped

pub returns-else-place-live_count-clause-dropped : goal.returns-else-place-live_count-clause-dropped
returns-else-place-live_count-clause-dropped c =
    let same = c.loaded-loaded.ensures in
    let count = rw (same.0, same.1, same.2) at c.live_count.ensures in
    dropped-none _ _ (omega (arith, count, c.if-place-live_count.false))
