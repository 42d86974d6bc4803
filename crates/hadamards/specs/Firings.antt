-- Which pairs of h fire on a wire, as slots: what the scan notes before anything is changed.
use Rattle.std.specs.Prelude.{cond, ◌&&◌, List, [], ◌∷◌, ℕ, suc, leb}
use Rattle.std.proofs.Math.Option.{Option, some}
use Rattle.gates.specs.Gates.{wire}
use Rattle.rules.specs.Runs.{Rewrite, rewrite_of, is_h_on}
use Rattle.rules.specs.Steps.{Cell, and_then, try, track}
use Rattle.rules.specs.Sweeps.{cut}

-- The h that closes, as its slot, and what the step puts in place of the gates.
pub record Close : Type 0 where
  pub closer : ℕ
  pub rewrite : Rewrite

-- What an h opens on its wire with the gates that come after it: the next h closes, if the step is allowed.
unfoldable pub closing_of : ℕ → List (Cell ℕ) → Option Close
closing_of w l =
    and_then (cut (is_h_on w) l) λ c.
    and_then (rewrite_of (wire w) (track w c.before)) λ r.
    some (record { closer = c.here.beside; rewrite = r })

pub record Firing : Type 0 where
  pub opener : ℕ
  pub closer : ℕ

-- Each h of a wire is tried with the next, but one that has closed: those before a slot are not tried.
unfoldable pub firings : ℕ → ℕ → List (Cell ℕ) → List Firing
firings w from [] = []
firings w from (e ∷ l) =
    let later = firings w from l in
    let tried = try (closing_of w l) later λ c. record { opener = e.beside; closer = c.closer } ∷ firings w (suc c.closer) l in
    cond (is_h_on w e.gate && leb from e.beside) tried later
