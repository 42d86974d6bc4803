-- The eighth turns of a journal: by how many the amplitudes of the input are ahead of the answer's.
use Rattle.std.specs.Prelude.{cond, List, [], ◌∷◌, ℕ, suc, ◌-◌, ◌%◌, eqb, ℤ, pos, negsuc, ◌+ℤ◌}
use Rattle.std.proofs.Math.Option.{Option, some, none}
use Rattle.gates.specs.Gates.{wires_of}
use Rattle.rules.specs.Runs.{sum_of}
use Rattle.rules.specs.Steps.{Cell, Step, try, first_of, track, cut_at, act}

-- One for k = 2, since H·S·H = w·Sdg·H·Sdg; less one for k = 6, since H·Sdg·H = w⁷·S·H·S.
unfoldable pub turns_for : ℕ → ℤ
turns_for k = cond (eqb k 2) (pos 1) (cond (eqb k 6) (negsuc 0) (pos 0))

-- Of what stands between two h, by its sum, if it is a run.
abbrev pub turns_between : Option ℕ → ℤ
turns_between none = pos 0
turns_between (some sum) = turns_for (sum % 8)

module _ {A : Type 0} where
  -- Of a cell, those between and the kind of the step: only kind 3 turns.
  abbrev pub turns_at : ℕ → Cell A → List (Cell A) → ℤ
  turns_at kind e between = cond (eqb kind 3) (turns_between (sum_of (track (first_of (wires_of e.gate)) between))) (pos 0)

  -- Of a step on the list as it stands just before it.
  unfoldable pub turns_of_step : Step → List (Cell A) → ℤ
  turns_of_step s l =
      try (cut_at s.first l) (pos 0) λ c.
      try (cut_at (s.last - suc s.first) c.after) (pos 0) λ d.
      turns_at s.kind c.here d.before

  -- Of the steps of a journal, summed.
  unfoldable pub turns_of : List ℕ → List Step → List (Cell A) → ℤ
  turns_of kinds [] l = pos 0
  turns_of kinds (s ∷ ss) l = turns_of_step s l +ℤ try (act kinds s l) (pos 0) (turns_of kinds ss)

-- The number from 0 to 7 that differs by eights, also below zero: -1 is 7, -8 is 0.
unfoldable pub modulo8 : ℤ → ℕ
modulo8 (pos n) = n % 8
modulo8 (negsuc n) = 7 - n % 8
