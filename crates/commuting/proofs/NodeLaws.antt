-- What the answer of one look tells.
use mathlib.Core.Path.{◌≡◌}
use mathlib.Core.Bool.{true, false}
use mathlib.Core.List.{List}
use Prim.Native.Nat.{ℕ, ◌/◌}
use native.Mathlib.Omega.{arith}
use lib.ListN.{get_or}
use Rattle.std.proofs.lemmas.Bool.Decides.{nat_tests}
use Rattle.gates.specs.Records.{record_at}
use Rattle.passing.specs.declared.quick.Past.{Past}
use Rattle.passing.specs.Quick.{passes_by}
use Rattle.commuting.specs.declared.walk.Seen.{Seen}
use Rattle.commuting.specs.Walking.{look_at}

module _ (bytes words : List ℕ) (past : Past) (partner node : ℕ) (seen : Seen) (is : seen ≡ look_at bytes words past partner node) where
  pub partner-told : seen ≡ Seen.Partner → node / 3 ≡ partner
  unfolding look_at
  partner-told e = grind (arith, nat_tests)

  pub passed-told : (next : ℕ) → seen ≡ Seen.Passed next →
      (node / 3 ≡ partner → ⊥) × (passes_by past (record_at bytes (node / 3)) ≡ true) × (next ≡ get_or words node 0)
  unfolding look_at
  passed-told next e = grind (arith, nat_tests)

  pub blocker-told : seen ≡ Seen.Blocker → (node / 3 ≡ partner → ⊥) × (passes_by past (record_at bytes (node / 3)) ≡ false)
  unfolding look_at
  blocker-told e = grind (arith, nat_tests)
