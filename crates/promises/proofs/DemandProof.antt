-- Demand 3, proved.
use mathlib.Core.Path.{◌≡◌, refl, sym, ◌∙◌, ap}
use mathlib.Core.List.{List, [], ◌∷◌}
use Prim.Native.Nat.{ℕ}
use Rattle.gates.specs.Gates.{All}
use Rattle.rules.specs.Equal.{seven}
use Rattle.rules.specs.Steps.{Cell, Step, gates_of, ValidList}
use Rattle.rules.specs.Journal.{replayed, steps_of, replay}
use Rattle.rules.specs.Loop.{pass}
use Rattle.rules.proofs.Replays.{leads, replayed-pass}
use Rattle.rules.proofs.JournalBytes.{replayed-bytes}
use Rattle.rules.proofs.Falls.{no_longer, no-more-h}
use Rattle.rules.proofs.Ends.{nothing-fires}
use Rattle.rules.proofs.Kept.{replay-valid}
use Rattle.meaning.specs.Amplitudes.{Amplitude, Amplitudes}
use Rattle.meaning.specs.States.{Config, run, SameBut}
use Rattle.meaning.proofs.Operators.{turned}
use Rattle.meaning.proofs.Values.{Values, values-laws, same-run}
use Rattle.meaning.proofs.Lists.{Proper, run-drive}
use Rattle.promises.specs.Turns.{turns_of, modulo8}
use Rattle.promises.specs.Demand.{Keeps, Demand3}
use Rattle.promises.proofs.SelfInverse.{SelfInverse, seven-undo}
use Rattle.promises.proofs.TurnLaws.{modulo8-small}
use Rattle.promises.proofs.Keeps.{journal-same}

module _ {A : Type 0} where
  valid-proper : (n bits : ℕ) (l : List (Cell A)) → ValidList n bits l → All Proper (gates_of l)
  valid-proper n bits [] v = tt
  valid-proper n bits (e ∷ l) v = (v.0.distinct, valid-proper n bits l v.1)

module _ (kinds : List ℕ) (si : SelfInverse kinds) {A : Type 0} where
  -- A valid list, and a journal that is accepted on it: the same amplitudes, turned by exactly the journal's turns.
  pub same-amplitudes : (n bits : ℕ) (ss : List Step) (l m : List (Cell A)) → ValidList n bits l →
      replay kinds ss l ≡ replayed m → (start : Config Amplitude) →
      SameBut (modulo8 (turns_of kinds ss l)) (run Amplitudes (gates_of l) start) (run Amplitudes (gates_of m) start)
  same-amplitudes n bits ss l m v h start =
      let k = modulo8 (turns_of kinds ss l) in
      let before = valid-proper n bits l v in
      let after = valid-proper n bits m (replay-valid kinds n bits ss l m h v) in
      same-run (gates_of l) (gates_of m) k (λ c.
      run-drive Values values-laws (gates_of l) before c
      ∙ journal-same Values values-laws kinds si m ss l (leads kinds 0 ss l m h) before c
      ∙ ap (turned Values k) (sym (run-drive Values values-laws (gates_of m) after c))) start

  pub keeps : (n bits : ℕ) (ss : List Step) (l m : List (Cell A)) → ValidList n bits l → replay kinds ss l ≡ replayed m →
      Keeps kinds ss l m
  keeps n bits ss l m v h = record {
    phase = modulo8 (turns_of kinds ss l);
    eighth = modulo8-small (turns_of kinds ss l);
    exact = refl;
    same = same-amplitudes n bits ss l m v h;
    no_longer = no_longer kinds ss l m h;
    no-more-h = no-more-h kinds ss l m h;
  }

  -- So the pass keeps them, by the turns of its own steps.
  pub pass-keeps : (wires bits : ℕ) (l : List (Cell A)) → ValidList wires bits l →
      Keeps kinds (pass kinds wires l).steps l (pass kinds wires l).list
  pass-keeps wires bits l v =
      keeps wires bits (pass kinds wires l).steps l (pass kinds wires l).list v (replayed-pass kinds wires l)

-- Over every set of cancelling kinds that undo themselves.
pub demand-3-over : (kinds : List ℕ) → SelfInverse kinds → (A : Type 0) → Demand3 kinds A
demand-3-over kinds si A = record {
  kept = λ n bits input answer journal v h. keeps kinds si n bits (steps_of journal) input answer v h;
  accepted = replayed-bytes kinds;
  quiet = nothing-fires kinds;
}

-- Over document 01's seven.
pub demand-3 : (A : Type 0) → Demand3 seven A
demand-3 = demand-3-over seven seven-undo
