-- Demand 3: "Valid list and accepted journal: for every starting state and row of outcomes the same amplitudes up to one common
-- eighth-turn phase, no longer, no more h. The checker accepts each journal the pass writes, and on the pass's answer no sweep
-- fires."
use Rattle.std.specs.Prelude.{◌≡◌, List, ℕ, ◌≤◌, ◌<◌, length}
use Rattle.rules.specs.Steps.{Cell, Step, gates_of, ValidList}
use Rattle.rules.specs.Journal.{replayed, steps_of, journal_bytes, replay_bytes}
use Rattle.rules.specs.Loop.{h_count, pass, Quiet}
use Rattle.meaning.specs.Amplitudes.{Amplitude, Amplitudes}
use Rattle.meaning.specs.States.{Config, run, SameBut}
use Rattle.promises.specs.Turns.{turns_of, modulo8}

module _ {A : Type 0} where
  -- What an accepted journal keeps. The phase is the same for every configuration: for every state, row of outcomes and
  -- classical bits to start from; and it is the journal's turns.
  pub record Keeps (kinds : List ℕ) (steps : List Step) (input answer : List (Cell A)) : Type 0 where
    pub phase : ℕ
    pub eighth : phase < 8
    pub exact : phase ≡ modulo8 (turns_of kinds steps input)
    pub same : (start : Config Amplitude) →
        SameBut phase (run Amplitudes (gates_of input) start) (run Amplitudes (gates_of answer) start)
    pub no_longer : length answer ≤ length input
    pub no-more-h : h_count answer ≤ h_count input

-- Over a set of cancelling kinds, and over whatever stands beside the gates.
pub record Demand3 (kinds : List ℕ) (A : Type 0) : Type 0 where
  -- "Valid list and accepted journal", the journal as its bytes
  pub kept : (wires bits : ℕ) (input answer : List (Cell A)) (journal : List ℕ) → ValidList wires bits input →
      replay_bytes kinds journal input ≡ replayed answer → Keeps kinds (steps_of journal) input answer
  -- "The checker accepts each journal the pass writes", and finds the pass's answer
  pub accepted : (wires : ℕ) (input : List (Cell A)) → length input ≤ 1048576 →
      replay_bytes kinds (journal_bytes (pass kinds wires input).steps) input ≡ replayed (pass kinds wires input).list
  -- "on the pass's answer no sweep fires"
  pub quiet : (wires : ℕ) (input : List (Cell A)) → Quiet kinds wires (pass kinds wires input).list
