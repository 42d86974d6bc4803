use mathlib.Core.Path.{◌≡◌, ◌∙◌}
use Prim.Native.Nat.{◌+◌, ◌*◌}
use native.Mathlib.Omega.{arith}
use lib.ListN.{length}
use Rattle.slots.proofs.NodeLaws.{Counted, counted}
use Rattle.slots.proofs.NodeHangLaws.{head_of, second_head, third-head, Heads, heads-in, hangs-as}
use Rattle.slots.proofs.nodes.hang.Goals as goal

-- How many of the record's words are wires.
known : (c : goal.After-struct_known-4-1) → Counted c.args.r c.operand_count-count.result
known c =
    counted _ _ c.requires.kind c.operand_count-count.ensures.0

-- Where the second node is put, and the third.
second_is : (c : goal.After-struct_known-4-1) → let args = c.args in c.one_of-second.result ≡ head_of 1 c.operand_count-count.result (args.side + 3 * args.k.gates + args.r.second) (args.side + 3 * args.slot + 1)
second_is c =
    let count = (known c) in
    c.one_of-second.ensures ∙ second_head _ _ _ count.some count.few

third-is : (c : goal.After-struct_known-4-1) → let args = c.args in c.one_of-third.result ≡ head_of 2 c.operand_count-count.result (args.side + 3 * args.k.gates + args.r.third) (args.side + 3 * args.slot + 2)
third-is c =
    let count = (known c) in
    c.one_of-third.ensures ∙ third-head _ _ _ count.some count.few

-- Each place is in the slice.
heads : (c : goal.After-struct_known-4-1) → let args = c.args in Heads (length args.work.now) (args.side + 3 * args.k.gates + args.r.first) c.one_of-second.result c.one_of-third.result
heads c =
    let count = (known c) in
    rw ((second_is c), (third-is c))
    (heads-in _ c.args.k.wires _ _ _ _ _ _ (omega (arith, c.requires.within)) (omega (arith, c.requires.inside)) count.some count.few
    (rw count.are at c.requires.wires))

pub push_on-requires : goal.push_on-requires
push_on-requires c =
    omega (arith, ((heads c)).first)

pub push_on-requires-2 : goal.push_on-requires-2
push_on-requires-2 c =
    omega (arith, (heads c.before.before.before.before).second, c.push_on.auto.words)

pub push_on-requires-3 : goal.push_on-requires-3
push_on-requires-3 c = (
  omega (arith, (heads c.before.before.before.before.before.before.before.before).third, c.push_on-2.auto.words, c.push_on.auto.words),
  omega (arith, c.requires.within, c.requires.inside, c.push_on-2.auto.words, c.push_on.auto.words),
)

pub returns : goal.returns
returns c =
    hangs-as c.args.side (3 * c.args.k.gates) (3 * c.args.slot) c.args.r _ _ _ _ _ _ _
    (known c.before.before.before.before.before.before.before.before.before.before.before.before) (second_is c.before.before.before.before.before.before.before.before.before.before.before.before) (third-is c.before.before.before.before.before.before.before.before.before.before.before.before) c.push_on.ensures c.push_on-2.ensures
    c.push_on-3.ensures
