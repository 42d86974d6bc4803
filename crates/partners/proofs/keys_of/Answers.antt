use mathlib.Core.Path.{◌≡◌}
use native.Mathlib.Omega.{arith}
use lib.Dec.{eqb}
use Rattle.partners.proofs.KeyLaws.{raise-small, either-small, keys-two, keys-ccx, keys-ccz, two-small, ccz-small}
use Rattle.partners.proofs.keys_of.Goals as goal

-- The answers stand first: where the code chooses wrongly they are what fails.
pub returns-then-kind-lt10 : goal.returns-then-kind-lt10
returns-then-kind-lt10 c =
    keys-two c.args.r c.args.wires _ _ _ _ c.requires.le_kind.0 c.if-kind-lt10.true c.canonical_pair.ensures
    c.either.ensures c.either-then-kind-lt10.ensures

pub returns-then-kind-eq10 : goal.returns-then-kind-eq10
returns-then-kind-eq10 c =
    keys-ccx c.args.r c.args.wires _ _ c.if-kind-eq10.true c.canonical_pair.ensures

pub returns : goal.returns
returns c =
    let ccz : c.args.r.kind ≡ 11 = omega (arith, c.if-kind-lt10.false, c.if-kind-eq10.false, c.requires.le_kind) in
    keys-ccz c.args.r c.args.wires _ _ _ ccz c.canonical_triple-three.ensures

pub overflow_add-result : goal.overflow_add-result
overflow_add-result c =
    let r = c.args.r in
    let wires = c.args.wires in
    let small = two-small r wires _ _ c.requires.le_kind.0 c.if-kind-lt10.true c.requires.all c.canonical_pair.ensures in
    omega (arith, c.requires.le_kind, small, either-small (eqb r.kind 8) _ _ _ c.either-then-kind-lt10.ensures, raise-small r.kind wires)

pub overflow_add-result-2 : goal.overflow_add-result-2
overflow_add-result-2 c =
    let ccz : c.args.r.kind ≡ 11 = omega (arith, c.if-kind-lt10.false, c.if-kind-eq10.false, c.requires.le_kind) in
    omega (arith, c.requires.le_kind, ccz-small c.args.r c.args.wires _ _ _ ccz c.requires.all c.canonical_triple-three.ensures)
