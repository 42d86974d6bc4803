-- A sweep again until nothing changes, and the loop. Document 01, "Loop".
use Rattle.std.specs.Prelude.{◌≡◌, cond, List, [], ◌∷◌, ℕ, zero, suc, ◌+◌, length}
use Rattle.gates.specs.Records.{is_h}
use Rattle.rules.specs.Steps.{Cell, Step}
use Rattle.rules.specs.Sweeps.{Done, Sweep, idle, and, followed, pair_sweep, hadamard_sweep, commuting_sweep}

module _ {A : Type 0} where
  abbrev pub again_if : Sweep A → Done A → List Step → Done A
  again_if f d [] = d
  again_if f d (s ∷ ss) = and d (f d.list)

  -- "Sweep again until nothing changes", so often at most.
  unfoldable pub repeat : ℕ → Sweep A → Sweep A
  repeat zero f l = idle l
  repeat (suc n) f l = let d = f l in again_if (repeat n f) d d.steps

  -- "the h gates"
  unfoldable pub h_count : List (Cell A) → ℕ
  h_count [] = 0
  h_count (e ∷ l) = cond (is_h e.gate) 1 0 + h_count l

  -- Every step makes it less.
  abbrev pub size : List (Cell A) → ℕ
  size l = length l + h_count l

  -- Until nothing changes: no sweep changes more often than a list's size.
  unfoldable pub repeated : Sweep A → Sweep A
  repeated f l = repeat (suc (size l)) f l

module _ {A : Type 0} (kinds : List ℕ) where
  -- "then Hadamard, commuting, pair"
  unfoldable pub round : ℕ → Sweep A
  round n = followed (repeated (hadamard_sweep n)) (followed (repeated commuting_sweep) (pair_sweep kinds))

  -- "pair sweep; then Hadamard, commuting, pair, until a round in which none fires", on n wires
  unfoldable pub pass : ℕ → Sweep A
  pass n = followed (pair_sweep kinds) (repeated (round n))

module _ {A : Type 0} where
  -- A sweep does not fire on a list.
  abbrev pub Idle : Sweep A → List (Cell A) → Type 0
  Idle f l = (f l).steps ≡ []

  -- "no sweep fires" on a list, over n wires
  pub record Quiet (kinds : List ℕ) (n : ℕ) (l : List (Cell A)) : Type 0 where
    pub pairs : Idle (pair_sweep kinds) l
    pub hadamards : Idle (hadamard_sweep n) l
    pub commutings : Idle commuting_sweep l
