use native.Mathlib.Omega.{arith}
use Rattle.live.proofs.LoadCodeLaws.{closed-at, blank-at, begin-some, begin-none}
use Rattle.live.proofs.load.begin.Goals as goal

pub returns-then-k-gt0 : goal.returns-then-k-gt0
returns-then-k-gt0 c =
    let closed = closed-at c.args.k _ _ _ c.close_ends.ensures (omega (arith, c.prev_at-prev.ensures)) in
    let started = blank-at c.args.k _ _ _ c.start.ensures (omega (arith, c.ranks_at-marks.ensures)) in
    let whole = begin-some _ _ _ _ c.requires.limits.0 c.requires.limits.1 c.requires.room.0 c.requires.room.1 closed _ c.if-k-gt0.true started in
    record { loaded = whole.0; empty = whole.1.0; within = whole.1.1 }

pub returns-else-k-gt0 : goal.returns-else-k-gt0
returns-else-k-gt0 c =
    let closed = closed-at c.args.k _ _ _ c.close_ends.ensures (omega (arith, c.prev_at-prev.ensures)) in
    let whole = begin-none _ _ _ _ c.requires.limits.0 c.requires.limits.1 c.requires.room.0 c.requires.room.1 closed c.if-k-gt0.false in
    record { loaded = whole.0; empty = whole.1.0; within = whole.1.1 }
