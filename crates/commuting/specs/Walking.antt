-- What the answers of a walk stand for, and what one look and the start of a walk read in the words.
use Rattle.std.specs.Prelude.{cond, List, [], ◌∷◌, ℕ, ◌+◌, ◌*◌, ◌/◌, eqb, get_or}
use Rattle.gates.specs.declared.records.Record.{Record}
use Rattle.gates.specs.Records.{record_at}
use Rattle.leaves.specs.declared.pairs.CommutingPair.{CommutingPair}
use Rattle.rules.specs.Sweeps.{Walk, reached, blocked}
use Rattle.passing.specs.declared.quick.Past.{Past}
use Rattle.passing.specs.Quick.{passes_by}
use Rattle.commuting.specs.declared.walk.Ending.{Ending}
use Rattle.commuting.specs.declared.walk.Walked.{Walked}
use Rattle.commuting.specs.declared.walk.Seen.{Seen}

abbrev pub ends_as : Ending → ℕ → Walk
ends_as Ending.Reached looks = reached looks
ends_as Ending.Blocked looks = blocked looks

abbrev pub as_walk : Walked → Walk
as_walk w = ends_as w.ending w.looks

unfoldable pub look_at : List ℕ → List ℕ → Past → ℕ → ℕ → Seen
look_at bytes words past partner node =
    let on = cond (passes_by past (record_at bytes (node / 3))) (Seen.Passed (get_or words node 0)) Seen.Blocker in
    cond (eqb (node / 3) partner) Seen.Partner on

-- The node behind a slot's own on the wire of one of its record's words.
unfoldable pub node_of : List ℕ → ℕ → Record → ℕ → ℕ
node_of words slot r w =
    cond (eqb r.first w) (get_or words (3 * slot) 0)
    (cond (eqb r.second w) (get_or words (3 * slot + 1) 0) (get_or words (3 * slot + 2) 0))

abbrev pub starts_of : List ℕ → ℕ → Record → CommutingPair → List ℕ
starts_of words slot r (CommutingPair.Cnot a b) = node_of words slot r a.0 ∷ node_of words slot r b.0 ∷ 0 ∷ []
starts_of words slot r (CommutingPair.Cz a b) = node_of words slot r a.0 ∷ node_of words slot r b.0 ∷ 0 ∷ []
starts_of words slot r (CommutingPair.Ccx a b c) =
    node_of words slot r a.0 ∷ node_of words slot r b.0 ∷ node_of words slot r c.0 ∷ []
starts_of words slot r (CommutingPair.Ccz a b c) =
    node_of words slot r a.0 ∷ node_of words slot r b.0 ∷ node_of words slot r c.0 ∷ []
