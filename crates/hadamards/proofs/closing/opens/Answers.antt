use Rattle.std.specs.Prelude.{Some, None}
use mathlib.Core.Path.{◌≡◌, ap, ◌∙◌}
use mathlib.Core.List.{[], ◌∷◌}
use native.Mathlib.Omega.{arith}
use lib.ListN.{length}
use Rattle.gates.specs.Gates.{wire, wires_of}
use Rattle.slots.specs.Slots.{gate_at}
use Rattle.hadamards.specs.Closings.{as_close}
use Rattle.hadamards.proofs.ClosingLaws.{h-alone}
use Rattle.hadamards.proofs.OpensLaws.{NextOn, next-none, next-on, next-reads, opens-nothing, x-alone, x-open, x-closed, x-broken, run-opens}
use Rattle.hadamards.proofs.closing.opens.Goals as goal
use Rattle.hadamards.proofs.closing.opens.Goals.{In_ok-next, Then-kind_at-eq0, In_ok-then}

pub after_on-requires-clause-of_gate : goal.after_on-requires-clause-of_gate
after_on-requires-clause-of_gate c = omega (arith, ap length (h-alone _ _ c.requires.is_h))

pub returns-in_err-next : goal.returns-in_err-next
returns-in_err-next c =
    ap (as_close (wire c.args.on.0)) c.from_residual.ensures
    ∙ opens-nothing _ _ _ _ _ (next-none _ _ _ _ _ (h-alone _ _ c.requires.is_h) c.in_err-next.ensures)

-- The gate past the h, and the gate past an x that stands there.
next-is : (c : In_ok-next) → NextOn c.args.list.now.records.now c.args.list.now.work.now c.args.list.now.extent c.args.on.0 c.args.slot.0 c.in_ok-next.next.0
next-is c = next-on _ _ _ _ _ (h-alone _ _ c.requires.is_h) _ c.in_ok-next.ensures

next-alone : (c : Then-kind_at-eq0) → wires_of (gate_at c.args.list.now.records.now c.in_ok-next.next.0) ≡ c.args.on.0 ∷ []
next-alone c =
    x-alone _ _ _ _ _ _ _ (next-on _ _ _ _ _ (h-alone _ _ c.requires.is_h) _ c.in_ok-next.ensures) c.kind_at.ensures c.if-kind_at-eq0.true

then-is : (c : In_ok-then) → wires_of (gate_at c.args.list.now.records.now c.in_ok-next.next.0) ≡ c.args.on.0 ∷ [] →
    NextOn c.args.list.now.records.now c.args.list.now.work.now c.args.list.now.extent c.args.on.0 c.in_ok-next.next.0 c.in_ok-then.then.0
then-is c alone = next-on _ _ _ _ _ alone _ c.in_ok-then.ensures

pub kind_at-requires : goal.kind_at-requires
kind_at-requires c =
    let whole = next-reads _ _ _ _ _ _ c.args.list.now.live (next-is (goal.at.kind_at-requires c).In_ok-next) in
    record { slot_in_bounds = whole.0; a_gate = whole.1 }

pub after_on-requires-then-kind_at-eq0 : goal.after_on-requires-then-kind_at-eq0
after_on-requires-then-kind_at-eq0 c =
    let at = goal.at.after_on-requires-then-kind_at-eq0 c in
    record { slot_live = (next-is at.In_ok-next).live; of_gate = omega (arith, ap length (next-alone at.Then-kind_at-eq0)) }

pub returns-in_err-then : goal.returns-in_err-then
returns-in_err-then c =
    let at = goal.at.returns-in_err-then c in
    ap (as_close (wire c.args.on.0)) c.from_residual-in_err-then.ensures
    ∙ x-open _ _ _ _ _ _ _ (next-is at.In_ok-next) c.kind_at.ensures c.if-kind_at-eq0.true
    (next-none _ _ _ _ _ (next-alone at.Then-kind_at-eq0) c.in_err-then.ensures)

pub kind_at-requires-then-kind_at-eq0 : goal.kind_at-requires-then-kind_at-eq0
kind_at-requires-then-kind_at-eq0 c =
    let at = goal.at.kind_at-requires-then-kind_at-eq0 c in
    let whole = next-reads _ _ _ _ _ _ c.args.list.now.live (then-is at.In_ok-then (next-alone at.Then-kind_at-eq0)) in
    record { slot_in_bounds = whole.0; a_gate = whole.1 }

pub returns-then-kind_at-eq1 : goal.returns-then-kind_at-eq1
returns-then-kind_at-eq1 c =
    let at = goal.at.returns-then-kind_at-eq1 c in
    x-closed _ _ _ _ _ _ _ (next-is at.In_ok-next) c.kind_at.ensures _ _ c.if-kind_at-eq0.true (then-is at.In_ok-then (next-alone at.Then-kind_at-eq0))
    c.kind_at-then-kind_at-eq0.ensures c.if-kind_at-eq1.true

pub returns-then-kind_at-eq0 : goal.returns-then-kind_at-eq0
returns-then-kind_at-eq0 c =
    let at = goal.at.returns-then-kind_at-eq0 c in
    x-broken _ _ _ _ _ _ _ (next-is at.In_ok-next) c.kind_at.ensures _ _ c.if-kind_at-eq0.true (then-is at.In_ok-then (next-alone at.Then-kind_at-eq0))
    c.kind_at-then-kind_at-eq0.ensures c.if-kind_at-eq1.false

pub returns-in_err-run : goal.returns-in_err-run
returns-in_err-run c =
    ap (as_close (wire c.args.on.0)) c.from_residual-in_err-run.ensures
    ∙ run-opens _ _ _ _ _ _ _ (next-is (goal.at.returns-in_err-run c).In_ok-next) c.kind_at.ensures None c.if-kind_at-eq0.false c.in_err-run.ensures

pub returns : goal.returns
returns c =
    run-opens _ _ _ _ _ _ _ (next-is (goal.at.returns c).In_ok-next) c.kind_at.ensures (Some c.in_ok-run.run') c.if-kind_at-eq0.false c.in_ok-run.ensures
