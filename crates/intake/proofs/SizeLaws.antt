-- What sizes that passed their tests are known to be.
use Rattle.std.specs.Prelude.{Ok}
use mathlib.Core.Path.{◌≡◌}
use Prim.Native.Nat.{ℕ, ◌+◌, ◌*◌, ◌/◌, ◌%◌, ◌≤◌}
use native.Mathlib.Omega.{arith}
use borrow.Author.Tests.{ltb-false, eqb-true, not-false}
use Rattle.gates.proofs.Joined.{neither}
use Rattle.intake.specs.declared.Sizes.{Sizes}
use Rattle.intake.specs.Tests.{first_failing, records_in, size_tests}
use Rattle.intake.proofs.TestLaws.{first_passes}

pub record Sized (bytes : ℕ) (s : Sizes) : Type 0 where
  pub wires : s.wires ≤ 65536
  pub bits : s.bits ≤ 65536
  pub whole : bytes ≡ 16 * records_in bytes
  pub records : records_in bytes ≤ 1048576
  pub output : bytes ≤ s.output
  pub work : 16 * records_in bytes + 4 * s.wires ≤ s.work

whole-records : (bytes : ℕ) → bytes % 16 ≡ 0 → bytes ≡ 16 * (bytes / 16)
whole-records bytes e = omega arith

pub sized : (bytes : ℕ) (s : Sizes) → first_failing (size_tests bytes s) ≡ Ok tt → Sized bytes s
unfolding size_tests
sized bytes s e =
    let t₁ = first_passes _ _ e in
    let t₂ = first_passes _ _ t₁.1 in
    let t₃ = first_passes _ _ t₂.1 in
    let t₄ = first_passes _ _ t₃.1 in
    let t₅ = first_passes _ _ t₄.1 in
    let n = neither _ _ t₁.0 in
    record {
      wires = ltb-false _ _ n.0;
      bits = ltb-false _ _ n.1;
      whole = whole-records bytes (eqb-true _ _ (not-false _ t₂.0));
      records = ltb-false _ _ t₃.0;
      output = ltb-false _ _ t₄.0;
      work = ltb-false _ _ t₅.0;
    }

pub bytes_bounded : (bytes : ℕ) (s : Sizes) → first_failing (size_tests bytes s) ≡ Ok tt → bytes ≤ 16777216
bytes_bounded bytes s e = let known = sized bytes s e in omega arith
