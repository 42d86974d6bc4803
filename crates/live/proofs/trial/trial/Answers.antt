use Rattle.std.specs.Prelude.{None}
use mathlib.Core.Path.{sym, ◌∙◌}
use lib.ListN.{length}
use Rattle.links.specs.Words.{Within}
use Rattle.links.proofs.WordLaws.{within-then}
use Rattle.slots.specs.Live.{words_for}
use Rattle.live.specs.Trial.{extent_of}
use Rattle.live.proofs.TriedLaws.{IsAccepted, accepted-fits, accepted-sound, words-zeroed}
use Rattle.live.proofs.trial.trial.Goals as goal
use Rattle.live.proofs.trial.trial.Goals.{In_ok-test_input, then-k-gt0, else-k-gt0}

-- The input has passed all tests.
accepted : (c : In_ok-test_input) → IsAccepted c.args.list.now c.args.wires c.args.bits (length c.args.records.now) (length c.args.work.now) None
accepted c = sym c.test_input.ensures ∙ c.in_ok-test_input.was

pub load_all-requires : goal.load_all-requires
load_all-requires c =
    let passed = accepted (goal.at.load_all-requires c).In_ok-test_input in
    let fits = accepted-fits c.args.list.now c.args.wires c.args.bits _ _ None passed in
    record {
      limits = (fits.0, fits.1);
      room = (fits.2, fits.3, fits.4);
      sound = accepted-sound c.args.list.now c.args.wires c.args.bits _ _ None passed;
    }

pub reload_last-requires-clause-sound : goal.reload_last-requires-clause-sound
reload_last-requires-clause-sound c =
    let passed = accepted (goal.at.reload_last-requires-clause-sound c).In_ok-test_input in
    accepted-sound c.args.list.now c.args.wires c.args.bits _ _ None passed

pub returns-clause-work : goal.returns-clause-work
returns-clause-work c =
    let loads : Within 0 (words_for (extent_of c.args.list.now c.args.wires)) c.args.work.now c.if-k-gt0.work = elim c.if-k-gt0.branch [
      | then-k-gt0 w ↦ rw w.work-is (within-then _ _ _ _ _ c.load_all.ensures.within w.reload_last.ensures.within)
      | else-k-gt0 w ↦ rw w.work-is c.load_all.ensures.within
    ] in
    words-zeroed c.args.list.now _ _ _ _ _ c.args.wires _ (accepted (goal.at.returns-clause-work c).In_ok-test_input)
    loads c.link.ensures.within c.drop_at.ensures.within c.finish.ensures.work
