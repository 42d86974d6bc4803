use Rattle.std.specs.Prelude.{Some, Ok}
use mathlib.Core.Path.{◌≡◌, sym, ◌∙◌}
use native.Mathlib.Omega.{arith}
use Prim.Native.Nat.{◌*◌, ◌/◌, ◌≤◌}
use borrow.Author.Rules.{rules}
use lib.ListN.{length}
use Rattle.slots.specs.Live.{held}
use Rattle.live.specs.Trial.{extent_of}
use Rattle.live.proofs.TriedLaws.{accepted-fits, accepted-sound}
use Rattle.journal.specs.Sweeping.{Did}
use Rattle.cancel.specs.Cancelling.{tests_of, passed}
use Rattle.cancel.proofs.EntryLaws.{first-room, rest-room, rest-looks, pass-did, pass-looked, steps-fit, journal-fits, answer-is, out-is, work-is, journal-is}
use Rattle.cancel.proofs.entry.cancel.Goals as goal
use Rattle.cancel.proofs.entry.cancel.Goals.{In_ok-test_input, After-all_rounds-swept}

accepted : (c : In_ok-test_input) →
    tests_of c.args.wires c.args.bits c.args.list.now (length c.args.out.now) (length c.args.work.now) (length c.args.journal.now) ≡ Ok tt
accepted c = sym c.test_input.ensures ∙ c.in_ok-test_input.was

few : (c : In_ok-test_input) → length c.args.list.now / 16 ≤ 1048576
few c = (accepted-fits _ c.args.wires c.args.bits _ _ (Some _) (accepted c)).0

room : (c : In_ok-test_input) → 24 * (length c.args.list.now / 16) ≤ length c.args.journal.now
room c = journal-fits _ _ _ _ _ _ (accepted c)

pub load_pairs-loaded-requires : goal.load_pairs-loaded-requires
load_pairs-loaded-requires c =
    let at = (goal.at.load_pairs-loaded-requires c).In_ok-test_input in
    let fits = accepted-fits _ c.args.wires c.args.bits _ _ (Some _) (accepted at) in
    record {
      limits = (fits.0, fits.1);
      room = (fits.2, fits.3, fits.4);
      sound = accepted-sound _ c.args.wires c.args.bits _ _ (Some _) (accepted at);
      journal_room = first-room c.args.wires _ _ (room at);
    }

pub all_rounds-swept-requires-clause-room : goal.all_rounds-swept-requires-clause-room
all_rounds-swept-requires-clause-room c =
    let at = (goal.at.all_rounds-swept-requires-clause-room c).In_ok-test_input in
    rest-room c.args.wires _ c.load_pairs-loaded.ensures.did c.link.ensures.held (room at)

pub all_rounds-swept-requires-clause-few_looks : goal.all_rounds-swept-requires-clause-few_looks
all_rounds-swept-requires-clause-few_looks c =
    let at = (goal.at.all_rounds-swept-requires-clause-few_looks c).In_ok-test_input in
    rest-looks c.args.wires _ c.load_pairs-loaded.ensures.did c.link.ensures.held (few at)

-- The first sweep and the rounds are all of the pass.
all : (c : After-all_rounds-swept) →
    Did (passed c.args.wires c.args.list.now)
    (held c.all_rounds-swept.new.records c.all_rounds-swept.new.work (extent_of c.args.list.now c.args.wires))
    0 c.all_rounds-swept.result.steps c.args.journal.now c.all_rounds-swept.new.journal
all c = pass-did _ _ c.load_pairs-loaded.ensures.did c.link.ensures.held c.all_rounds-swept.ensures.did

noted : (c : After-all_rounds-swept) → 16 * c.all_rounds-swept.result.steps ≤ 24 * (length c.args.list.now / 16)
noted c = steps-fit _ _ (all c)

pub overflow_mul-swept : goal.overflow_mul-swept
overflow_mul-swept c =
    let at = goal.at.overflow_mul-swept c in
    omega (arith, noted at.After-all_rounds-swept, few at.In_ok-test_input)

pub slice_bounds-fill-count : goal.slice_bounds-fill-count
slice_bounds-fill-count c = noted (goal.at.slice_bounds-fill-count c).After-all_rounds-swept

pub slice_bounds-fill-start : goal.slice_bounds-fill-start
slice_bounds-fill-start c = omega (arith, noted (goal.at.slice_bounds-fill-start c).After-all_rounds-swept)

pub slice_bounds-fill-end : goal.slice_bounds-fill-end
slice_bounds-fill-end c =
    omega (arith, room (goal.at.slice_bounds-fill-end c).In_ok-test_input, c.all_rounds-swept.auto.journal, c.load_pairs-loaded.auto.journal)

pub returns-clause-answer : goal.returns-clause-answer
returns-clause-answer c =
    let at = goal.at.returns-clause-answer c in
    answer-is _ _ (accepted at.In_ok-test_input) _ _ (all at.After-all_rounds-swept) c.finish-left.ensures.left
    (c.all_rounds-swept.ensures.looked ∙ pass-looked _ _ c.load_pairs-loaded.ensures.did c.link.ensures.held)

pub returns-clause-out : goal.returns-clause-out
returns-clause-out c =
    let at = goal.at.returns-clause-out c in
    out-is _ _ (accepted at.In_ok-test_input) _ _ (all at.After-all_rounds-swept) _
    (c.all_rounds-swept.ensures.past ∙ c.load_pairs-loaded.ensures.past) c.finish-left.ensures.records

pub returns-clause-work : goal.returns-clause-work
returns-clause-work c =
    let at = goal.at.returns-clause-work c in
    work-is _ _ (accepted at.In_ok-test_input) _ _ (all at.After-all_rounds-swept)
    (search rules)
    c.finish-left.ensures.work

pub returns-clause-journal : goal.returns-clause-journal
returns-clause-journal c =
    let at = goal.at.returns-clause-journal c in
    journal-is _ _ (accepted at.In_ok-test_input) _ _ (all at.After-all_rounds-swept) (room at.In_ok-test_input) (c.fill.ensures.after (λ y e. e))
