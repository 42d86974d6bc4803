-- An answer is told by what it stands for, so no second one meets the same contract.
use mathlib.Core.Path.{◌≡◌}
use Prim.Native.Nat.{ℕ}
use native.Mathlib.Omega.{arith}
use Rattle.std.proofs.lemmas.Grind.{common_steps}
use Rattle.std.specs.Prelude.{Option as Answer}
use Rattle.leaves.specs.declared.equal.Two.{Two}
use Rattle.leaves.specs.declared.equal.Three.{Three}
use Rattle.leaves.specs.Answers.{two, three, eighths_of}

pub one-two : (r s : Two) → two r ≡ two s → r ≡ s
one-two r s h =
    let a : r.first.0 ≡ s.first.0 = cc in
    let b : r.second.0 ≡ s.second.0 = cc in
    λ i. record { first = record { 0 = a i }; second = record { 0 = b i } }

pub one-three : (r s : Three) → three r ≡ three s → r ≡ s
one-three r s h =
    let a : r.first.0 ≡ s.first.0 = cc in
    let b : r.second.0 ≡ s.second.0 = cc in
    let c : r.third.0 ≡ s.third.0 = cc in
    λ i. record { first = record { 0 = a i }; second = record { 0 = b i }; third = record { 0 = c i } }

pub one-worth : (a b : Answer ℕ) → eighths_of a ≡ eighths_of b → a ≡ b
one-worth a b h = grind (arith, common_steps)
