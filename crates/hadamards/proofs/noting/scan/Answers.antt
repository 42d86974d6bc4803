use native.Mathlib.Omega.{arith}
use Rattle.links.proofs.WordLaws.{within-then}
use Rattle.slots.proofs.SpareLaws.{spare-live}
use Rattle.hadamards.proofs.ScanLaws.{scan-start, scanned-none, scan-end}
use Rattle.hadamards.proofs.noting.scan.Goals as goal

pub loop-i-init : goal.loop-i-init
loop-i-init c = (omega arith, scanned-none _ _ _ _ _ (scan-start _ _ _ _ _ c.spare_at.ensures c.clear.ensures))

pub scan_slot-requires-clause-live : goal.scan_slot-requires-clause-live
scan_slot-requires-clause-live c =
    spare-live _ _ _ _ _
    (within-then _ _ _ _ _ (scan-start c.args.records.now _ _ _ _ c.spare_at.ensures c.clear.ensures).1 c.loop-i.invariant.1.1) c.requires.live

pub returns-clause-noted : goal.returns-clause-noted
returns-clause-noted c = scan-end _ _ _ _ (omega arith) c.loop-i.invariant.1.0
