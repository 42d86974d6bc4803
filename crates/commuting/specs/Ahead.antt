-- What is still to come of a commuting sweep from a slot on.
use Rattle.std.specs.Prelude.{List, ℕ, ◌-◌, length}
use Rattle.rules.specs.Sweeps.{Done, stay, commuting_from}
use Rattle.slots.specs.declared.Extent.{Extent}
use Rattle.slots.specs.Slots.{gate_at, cells_from}
use Rattle.slots.specs.Live.{is_live}

abbrev pub commuting_ahead : List ℕ → List ℕ → Extent → ℕ → Done ℕ
commuting_ahead bytes words k slot =
    let before = cells_from (is_live words k) (gate_at bytes) 0 slot in
    stay before (commuting_from k.gates (length before) (cells_from (is_live words k) (gate_at bytes) slot (k.gates - slot)))
