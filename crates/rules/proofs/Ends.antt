-- The loop ends because nothing fires: on its answer no sweep has a step.
use mathlib.Core.Path.{◌≡◌, refl, sym, ◌∙◌, ap, subst}
use mathlib.Core.List.{List, [], ◌∷◌, ◌++◌}
use Prim.Native.Nat.{ℕ, zero, suc, ◌<◌}
use native.Mathlib.Omega.{arith}
use lib.ListN.{length}
use Rattle.rules.specs.Steps.{Cell, Step}
use Rattle.rules.specs.Journal.{replay_from}
use Rattle.rules.specs.Sweeps.{Sweep, pair_sweep, commuting_sweep, followed, hadamard_sweep}
use Rattle.rules.specs.Loop.{again_if, repeat, size, repeated, round, pass, Idle, Quiet}
use Rattle.rules.proofs.Replays.{Leads, Replays, replayed-same, repeated-replays, hadamard-replays, commuting-replays, round-replays}
use Rattle.rules.proofs.Falls.{steps-lower}

nil-left : (s t : List Step) → s ++ t ≡ [] → s ≡ []
nil-left [] t h = refl
nil-left (x ∷ s) t h = cc

nil-right : (s t : List Step) → s ++ t ≡ [] → t ≡ []
nil-right [] t h = h
nil-right (x ∷ s) t h = cc

module _ {A : Type 0} (kinds : List ℕ) where
  -- And so leaves it.
  pub idle-same : (f : Sweep A) → Replays kinds f → (l : List (Cell A)) → Idle f l → (f l).list ≡ l
  unfolding replay_from
  idle-same f p l h = let q : Leads kinds [] l (f l).list = subst (λ s. Leads kinds s l (f l).list) h (p l) in
      sym (replayed-same l (f l).list (q 0))

  -- ------------------------------------------------------------ the fuel is enough

  repeat-ends : (n : ℕ) (f : Sweep A) → Replays kinds f → (l : List (Cell A)) → size l < n → Idle f (repeat n f l).list
  unfolding repeat
  repeat-ends zero f p l h = absurd (omega arith)
  repeat-ends (suc n) f p l h = go (f l).steps refl (λ m. repeat-ends n f p m)
    where
      go : (s : List Step) → (f l).steps ≡ s → ((m : List (Cell A)) → size m < n → Idle f (repeat n f m).list) →
          Idle f (again_if (repeat n f) (f l) s).list
      go [] e ih = ap (λ m. (f m).steps) (idle-same f p l e) ∙ e
      go (x ∷ s) e ih = ih (f l).list (omega (arith, steps-lower kinds (f l).steps l (f l).list (p l), ap length e))

  pub repeated-ends : (f : Sweep A) → Replays kinds f → (l : List (Cell A)) → Idle f (repeated f l).list
  unfolding repeated
  repeated-ends f p l = repeat-ends (suc (size l)) f p l (omega arith)

  -- ------------------------------------------------------------ a round that does not fire

  repeated-idle : (f : Sweep A) (l : List (Cell A)) → Idle (repeated f) l → Idle f l
  unfolding repeated repeat
  repeated-idle f l h = go (f l).steps refl h
    where
      go : (s : List Step) → (f l).steps ≡ s → (again_if (repeat (size l) f) (f l) s).steps ≡ [] → (f l).steps ≡ []
      go [] e q = e
      go (x ∷ s) e q = nil-left (f l).steps _ q

  pub followed-idle : (f g : Sweep A) → Replays kinds f → (l : List (Cell A)) → Idle (followed f g) l → Idle f l × Idle g l
  followed-idle f g p l h = let a : Idle f l = nil-left (f l).steps _ h in
      (a, ap (λ m. (g m).steps) (sym (idle-same f p l a)) ∙ nil-right (f l).steps _ h)

  round-quiet : (n : ℕ) (l : List (Cell A)) → Idle (round kinds n) l → Quiet kinds n l
  unfolding round
  round-quiet n l h =
      let hadamard = repeated (hadamard_sweep n) in
      let commuting = repeated commuting_sweep in
      let a = followed-idle hadamard (followed commuting (pair_sweep kinds))
      (repeated-replays kinds (hadamard_sweep n) (hadamard-replays kinds n)) l h in
      let b = followed-idle commuting (pair_sweep kinds) (repeated-replays kinds commuting_sweep (commuting-replays kinds)) l
      a.1 in
      record {
        pairs = b.1;
        hadamards = repeated-idle (hadamard_sweep n) l a.0;
        commutings = repeated-idle commuting_sweep l
            b.0;
      }

  -- On the pass's list no sweep fires.
  pub nothing-fires : (n : ℕ) (l : List (Cell A)) → Quiet kinds n (pass kinds n l).list
  unfolding pass
  nothing-fires n l = round-quiet n _ (repeated-ends (round kinds n) (round-replays kinds n) (pair_sweep kinds l).list)
