use Prim.Native.Nat.{◌*◌}
use Rattle.gates.proofs.WordLaws.{four-words}
use Rattle.rules.specs.Journal.{step_bytes}
use Rattle.journal.proofs.put_step.Goals as goal

pub returns : goal.returns
unfolding step_bytes
returns c =
    four-words c.args.journal.now (16 * c.args.others) c.args.kind c.args.first.0 c.args.last.0 0
    c.put_word.ensures c.put_word-2.ensures c.put_word-3.ensures c.put_word-4.ensures
