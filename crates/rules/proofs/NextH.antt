-- The Hadamard sweep in a shorter form: each h is tried with the next h on its wire.
use mathlib.Core.Bool.{Bool}
use mathlib.Core.List.{List, [], ◌∷◌}
use mathlib.Core.Option.{Option}
use Prim.Native.Nat.{ℕ, zero, suc, ◌+◌}
use lib.ListN.{length}
use Rattle.rules.specs.Runs.{is_h_on}
use Rattle.rules.specs.Steps.{Cell, Cut, try, when, change3}
use Rattle.rules.specs.Sweeps.{Done, Sweep, idle, stay, fire, cut, followed}
use Rattle.rules.proofs.Names.{kept}

module _ {A : Type 0} where
  abbrev pub had-new : (ℕ → List (Cell A) → Done A) → ℕ → Cell A → List (Cell A) → Cut A → Option (List (Cell A)) → Done A
  had-new again i e l c o = try o (kept again i e l) λ m. fire 3 i (suc i + length c.before)
      (stay m (again (i + length m) c.after))

  abbrev pub had-close : (ℕ → List (Cell A) → Done A) → ℕ → Cell A → List (Cell A) → Option (Cut A) → Done A
  had-close again i e l o = try o (kept again i e l) λ c. had-new again i e l c (change3 e c.before c.here)

  abbrev pub had_open : (ℕ → List (Cell A) → Done A) → ℕ → ℕ → Cell A → List (Cell A) → Bool → Done A
  had_open again w i e l b = had-close again i e l (when b (cut (is_h_on w) l))

  -- Where a gate other than those of a run stands between the two h, or the run's sum is odd, the step is not allowed, and no
  -- gate before the second h opens anything.
  unfoldable pub next_h_from : ℕ → ℕ → ℕ → List (Cell A) → Done A
  next_h_from zero w i l = idle l
  next_h_from (suc n) w i [] = idle []
  next_h_from (suc n) w i (e ∷ l) = had_open (next_h_from n w) w i e l (is_h_on w e.gate)

  unfoldable pub next_h_sweep : ℕ → Sweep A
  next_h_sweep zero l = idle l
  next_h_sweep (suc w) l = followed (next_h_sweep w) (λ m. next_h_from (length m) w 0 m) l
