-- What is still to come of a pair sweep, over the live list and while a list is loaded.
use Rattle.std.specs.Prelude.{true, List, ℕ, ◌-◌}
use Rattle.std.proofs.Math.Option.{Option, some}
use Rattle.gates.specs.declared.Gate.{Gate}
use Rattle.gates.specs.Gates.{shares}
use Rattle.rules.specs.Equal.{seven, cancels}
use Rattle.rules.specs.Steps.{Cell, Cut, and_then, when}
use Rattle.rules.specs.Sweeps.{Done, cut, pairs_from}
use Rattle.slots.specs.declared.Extent.{Extent}
use Rattle.slots.specs.Slots.{gate_at, cells_from}
use Rattle.slots.specs.Live.{is_live, earlier}

-- A gate's blocker among survivors, the latest first, "if it is an equal cancelling gate".
unfoldable pub equal_blocker : Gate → List (Cell ℕ) → Option (Cut ℕ)
equal_blocker g gone = and_then (cut (shares g) gone) λ c. when (cancels seven c.here.gate g) (some c)

-- The survivors below a slot, and the slots from it on.
abbrev pub pairs_ahead : List ℕ → List ℕ → Extent → ℕ → Done ℕ
pairs_ahead bytes words k slot =
    pairs_from seven (earlier bytes words k slot) (cells_from (is_live words k) (gate_at bytes) slot (k.gates - slot))

-- All that is loaded, and a list's records from a place on.
abbrev pub load_ahead : List ℕ → List ℕ → Extent → List ℕ → ℕ → Done ℕ
load_ahead bytes words k list place =
    pairs_from seven (earlier bytes words k k.gates) (cells_from (λ i. true) (gate_at list) place (k.gates - place))
