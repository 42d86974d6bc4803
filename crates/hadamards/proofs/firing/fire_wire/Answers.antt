use mathlib.Core.Path.{◌≡◌, ap}
use Prim.Native.Nat.{ℕ, ◌+◌, ◌*◌, ◌-◌, ◌≤◌, ◌<◌}
use native.Mathlib.Omega.{arith}
use lib.ListN.{length, get_or}
use borrow.Author.Rules.{rules}
use Rattle.slots.specs.Live.{spare_at}
use Rattle.slots.proofs.StateLaws.{room-enough}
use Rattle.hadamards.specs.Chains.{heads_at}
use Rattle.hadamards.proofs.WireLaws.{wire-none, wire-done, wire-long, wire-more, next-inside, next-allowed, next-room}
use Rattle.hadamards.proofs.firing.fire_wire.Goals as goal
use Rattle.hadamards.proofs.firing.fire_wire.Goals.{In-loop-link}

pub loop-link-init : goal.loop-link-init
loop-link-init c =
    let head : c.spare_at-nexts.result + c.args.k.gates + c.args.k.gates + c.args.on.0 ≡ heads_at c.args.k + c.args.on.0 = omega (arith, c.spare_at-nexts.ensures) in
    wire-none _ _ _ _ _ _ _ c.requires.live c.requires.chain.2 (ap (λ (n : ℕ). get_or c.args.work.now n 0) head)

-- The next firing's words are there.
inside : (c : In-loop-link) → c.loop-link.link - 1 < c.args.k.gates
inside c = next-inside _ _ _ _ _ _ _ _ _ _ _ c.loop-link.invariant _ c.spare_at-nexts.ensures c.loop-link-test.true

room : (c : In-loop-link) → spare_at c.args.k + (2 * c.args.k.gates + 2 * c.args.k.wires) ≤ length c.loop-link.work
room c = omega (arith, room-enough c.args.k c.requires.chain.0, c.loop-link.invariant.live.loaded.room)

pub overflow_add-opener : goal.overflow_add-opener
overflow_add-opener c = omega (arith, inside (goal.at.overflow_add-opener c).In-loop-link, c.spare_at-nexts.ensures)

pub offset_bounds-work-openers-in-loop-link : goal.offset_bounds-work-openers-in-loop-link
offset_bounds-work-openers-in-loop-link c = omega (arith, inside (goal.at.offset_bounds-work-openers-in-loop-link c).In-loop-link)

pub bounds-work-openers-in-loop-link : goal.bounds-work-openers-in-loop-link
bounds-work-openers-in-loop-link c =
    let at = (goal.at.bounds-work-openers-in-loop-link c).In-loop-link in
    omega (arith, inside at, room at, c.spare_at-nexts.ensures)

pub overflow_add-link-in-loop-link : goal.overflow_add-link-in-loop-link
overflow_add-link-in-loop-link c = omega (arith, inside (goal.at.overflow_add-link-in-loop-link c).In-loop-link)

pub offset_bounds-work-nexts : goal.offset_bounds-work-nexts
offset_bounds-work-nexts c = omega (arith, inside (goal.at.offset_bounds-work-nexts c).In-loop-link)

pub bounds-work-nexts : goal.bounds-work-nexts
bounds-work-nexts c =
    let at = (goal.at.bounds-work-nexts c).In-loop-link in
    omega (arith, inside at, room at, c.spare_at-nexts.ensures)

-- There is room for its step.
step-room : (c : In-loop-link) → 16 * c.loop-link.s + 16 ≤ length c.loop-link.journal
step-room c = next-room _ _ _ _ _ _ _ _ _ _ _ c.loop-link.invariant _ c.spare_at-nexts.ensures c.loop-link-test.true c.requires.room

pub fire-requires-clause-allowed : goal.fire-requires-clause-allowed
fire-requires-clause-allowed c = next-allowed _ _ _ _ _ _ _ _ _ _ _ c.loop-link.invariant _ c.spare_at-nexts.ensures c.loop-link-test.true

pub fire-requires-clause-room : goal.fire-requires-clause-room
fire-requires-clause-room c = step-room (goal.at.fire-requires-clause-room c).In-loop-link

pub overflow_add-s : goal.overflow_add-s
overflow_add-s c =
    omega (arith, step-room (goal.at.overflow_add-s c).In-loop-link, wire-long _ _ _ _ _ _ _ _ _ _ _ c.loop-link.invariant)

pub loop-link-smaller : goal.loop-link-smaller
loop-link-smaller c =
    omega (arith, step-room (goal.at.loop-link-smaller c).In-loop-link, wire-long _ _ _ _ _ _ _ _ _ _ _ c.loop-link.invariant)

pub loop-link-preserved : goal.loop-link-preserved
loop-link-preserved c =
    wire-more _ _ _ _ _ _ _ _ _ _ _ c.loop-link.invariant _ c.spare_at-nexts.ensures c.loop-link-test.true _ _ _
    c.fire.ensures.fired c.fire.ensures.journal c.fire.ensures.live c.fire.ensures.within (search rules) c.fire.ensures.past

pub returns-clause-did : goal.returns-clause-did
returns-clause-did c = wire-done _ _ _ _ _ _ _ _ _ _ _ c.loop-link.invariant c.loop-link-test.false
