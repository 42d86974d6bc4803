-- The h that closes what another opens, as the code finds it, and what stands in place of the gates.
use Rattle.std.specs.Prelude.{Option as Answer, Some, None, cond, List, [], ◌∷◌, ℕ, ◌+◌, ◌%◌}
use Rattle.std.proofs.Math.Option.{Option, some, none}
use Rattle.gates.specs.declared.Wire.{Wire}
use Rattle.gates.specs.declared.Gate.{Gate}
use Rattle.gates.specs.declared.Gate.TheVariants.{Z}
use Rattle.gates.specs.Gates.{touches}
use Rattle.gates.specs.Records.{is_h}
use Rattle.rules.specs.Runs.{Rewrite, worth, rewrite, by_eighths}
use Rattle.rules.specs.Steps.{Cell, and_then, try}
use Rattle.hadamards.specs.declared.closing.Run.{Run}
use Rattle.hadamards.specs.declared.closing.Closing.{Closing}
use Rattle.hadamards.specs.declared.closing.Forms.{Forms}
use Rattle.hadamards.specs.Firings.{Close}

-- A run that an h closes: the slot of the h, and the sum of the run modulo 8. Gates off the wire are passed over.
pub record Ran : Type 0 where
  pub closer : ℕ
  pub sum : ℕ

abbrev pub ran_to : ℕ → ℕ → Option Ran
ran_to closer sum = some (record { closer = closer; sum = sum })

unfoldable pub run_from : ℕ → ℕ → List (Cell ℕ) → Option Ran
run_from w sum [] = none
run_from w sum (e ∷ l) =
    let ended = cond (is_h e.gate) (ran_to e.beside sum) none in
    cond (touches w e.gate) (try (worth e.gate) ended λ j. run_from w ((sum + j) % 8) l) (run_from w sum l)

-- ------------------------------------------------------------ answers

abbrev pub as_ran : Answer Run → Option Ran
as_ran (Some run) = ran_to run.closer.0 run.sum
as_ran None = none

abbrev pub close_by : ℕ → Option Rewrite → Option Close
close_by closer o = and_then o λ r. some (record { closer = closer; rewrite = r })

-- "next x, then h", or a run: its sum says what is put in place of the gates, if anything.
abbrev pub as_close : Wire → Answer Closing → Option Close
as_close w (Some (Closing.ByX closer)) = close_by closer.0 (rewrite none (some (Z w)))
as_close w (Some (Closing.ByRun run)) = close_by run.closer.0 (by_eighths w run.sum)
as_close w None = none

abbrev pub closer_of : Option Close → Option ℕ
closer_of o = and_then o λ c. some c.closer

abbrev pub put_as : Answer Gate → Option Gate
put_as (Some g) = some g
put_as None = none

abbrev pub as_rewrite : Forms → Rewrite
as_rewrite f = record { ends = put_as f.ends; first = put_as f.first }
