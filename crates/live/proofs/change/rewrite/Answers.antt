use native.Mathlib.Omega.{arith}
use Rattle.live.proofs.LoadCodeLaws.{record-inside}
use Rattle.live.proofs.RewriteLaws.{rewrite-live, rewrite-held}
use Rattle.live.proofs.change.rewrite.Goals as goal

-- A live slot is one of the list's, so its record is one of the lent records.
pub overflow_mul-records : goal.overflow_mul-records
overflow_mul-records c = omega (arith, record-inside _ _ _ _ c.requires.live.loaded c.requires.slot_live)

pub bounds-records-slot : goal.bounds-records-slot
bounds-records-slot c = omega (arith, record-inside _ _ _ _ c.requires.live.loaded c.requires.slot_live)

-- What is written is the kind of the gate's record; the laws tell what that does to the list.
pub returns-clause-live : goal.returns-clause-live
returns-clause-live c =
    let one = c.requires.one_wire in rw c.from-r.ensures (rewrite-live _ _ _ _ _ c.requires.slot_live c.requires.live one.0 one.1 one.2)

pub returns-clause-rewritten : goal.returns-clause-rewritten
returns-clause-rewritten c =
    let one = c.requires.one_wire in rw c.from-r.ensures (rewrite-held _ _ _ _ _ c.requires.slot_live c.requires.live one.0 one.1 one.2)
