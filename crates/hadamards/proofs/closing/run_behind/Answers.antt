use mathlib.Core.Path.{◌≡◌, sym, ap, ◌∙◌}
use mathlib.Core.Option.{some, none}
use native.Mathlib.Omega.{arith}
use Rattle.rules.specs.Runs.{worth}
use Rattle.leaves.specs.Answers.{worth_by}
use Rattle.leaves.proofs.RunLaws.{worth-by, worth-small}
use Rattle.slots.specs.Slots.{gate_at}
use Rattle.hadamards.specs.Closings.{as_ran}
use Rattle.hadamards.proofs.OpensLaws.{NextOn, next-none, next-on, next-reads, run-starts, run-goes, run-closed, run-broken, run-open}
use Rattle.hadamards.proofs.closing.run_behind.Goals as goal
use Rattle.hadamards.proofs.closing.run_behind.Goals.{In_ok-next, In_default, In-Some}

pub loop-next-init : goal.loop-next-init
loop-next-init c = run-starts _ _ _ _ _ c.requires.slot_live c.requires.is_h

pub returns-in_err-next : goal.returns-in_err-next
returns-in_err-next c =
    let r = c.loop-next.invariant in
    ap as_ran c.from_residual.ensures ∙ run-open _ _ _ _ _ _ _ r (next-none _ _ _ _ _ r.alone c.in_err-next.ensures)

next-is : (c : In_ok-next) → NextOn c.args.list.now.records.now c.args.list.now.work.now c.args.list.now.extent c.args.on.0 c.loop-next.at.0 c.in_ok-next.next.0
next-is c = next-on _ _ _ _ _ c.loop-next.invariant.alone _ c.in_ok-next.ensures

pub kind_at-kind-requires : goal.kind_at-kind-requires
kind_at-kind-requires c =
    let whole = next-reads _ _ _ _ _ _ c.args.list.now.live (next-is (goal.at.kind_at-kind-requires c).In_ok-next) in
    record { slot_in_bounds = whole.0; a_gate = whole.1 }

ended : (c : In_default) → worth (gate_at c.args.list.now.records.now c.in_ok-next.next.0) ≡ none
ended c = worth-by _ ∙ ap worth_by (sym c.kind_at-kind.ensures) ∙ sym c.in_default.ensures

pub returns-then-kind-eq1 : goal.returns-then-kind-eq1
returns-then-kind-eq1 c =
    let at = goal.at.returns-then-kind-eq1 c in
    run-closed _ _ _ _ _ _ _ _ _ c.loop-next.invariant (next-is at.In_ok-next) (ended at.In_default) c.kind_at-kind.ensures c.if-kind-eq1.true

pub returns-in_default : goal.returns-in_default
returns-in_default c =
    let at = goal.at.returns-in_default c in
    run-broken _ _ _ _ _ _ _ _ _ c.loop-next.invariant (next-is at.In_ok-next) (ended at.In_default) c.kind_at-kind.ensures c.if-kind-eq1.false

pub overflow_add-sum : goal.overflow_add-sum
overflow_add-sum c = omega (arith, c.loop-next.invariant.small, worth-small _ _ (sym c.in-Some.ensures))

pub loop-next-smaller : goal.loop-next-smaller
loop-next-smaller c =
    let next = next-is (goal.at.loop-next-smaller c).In_ok-next in
    omega (arith, next.past, next.inside)

pub loop-next-preserved : goal.loop-next-preserved
loop-next-preserved c =
    run-goes _ _ _ _ _ _ _ _ _ c.loop-next.invariant (next-is (goal.at.loop-next-preserved c).In_ok-next)
    (worth-by _ ∙ ap worth_by (sym c.kind_at-kind.ensures) ∙ sym c.in-Some.ensures)
