-- A turn goes onward in the sample.
use Rattle.std.specs.Prelude.{Result, Ok, Err, ℕ, ◌≤◌, ◌<◌}
use Rattle.vectors.specs.declared.replay.Unlike.{Unlike}

abbrev pub Onward : ℕ → ℕ → Result ℕ Unlike → Type 0
Onward at n (Ok next) = (at < next) × (next ≤ n)
Onward at n (Err why) = Unit {0}
