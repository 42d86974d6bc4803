-- What the table of kinds says of a number past it, and what is known of a number that is none of some.
use Rattle.std.specs.Prelude.{Result, Err}
use mathlib.Core.Path.{◌≡◌, refl}
use mathlib.Core.Bool.{false}
use mathlib.Core.List.{List, [], ◌∷◌}
use Prim.Native.Nat.{ℕ, ◌≤◌}
use lib.ListN.{get_or-eq_default}
use borrow.Author.Tests.{ne_eqb}
use Rattle.gates.specs.declared.Gate.{Gate}
use Rattle.gates.specs.declared.records.Record.{Record}
use Rattle.gates.specs.declared.records.NoGate.{NoGate}
use Rattle.gates.specs.Kinds.{unknown, shapes, shape_of}
use Rattle.gates.specs.Gates.{has}
use Rattle.gates.specs.Records.{named_by}

pub unknown-from : (kind : ℕ) → 27 ≤ kind → shape_of kind ≡ unknown
unfolding shape_of shapes
unknown-from kind h = get_or-eq_default shapes unknown h

pub unknown_named : (k a b c : ℕ) → 27 ≤ k → named_by k a b c ≡ Err NoGate.Unknown
unfolding named_by
unknown_named k a b c h = rw (unknown-from k h)

-- ------------------------------------------------------------ what is left when the other arms of a match are not taken

-- the number is none of these: as a match on it leaves it, the last arm's number first
abbrev pub NoneOf : List ℕ → ℕ → Type 0
NoneOf [] k = Unit {0}
NoneOf (v ∷ vs) k = NoneOf vs k × (k ≡ v → ⊥)

pub none_of : (vs : List ℕ) (k : ℕ) → NoneOf vs k → has k vs ≡ false
unfolding has
none_of [] k n = refl
none_of (v ∷ vs) k n = rw (ne_eqb k v n.1) (none_of vs k n.0)

-- ------------------------------------------------------------ the gate that a record's kind and words name

abbrev pub named : Record → Result Gate NoGate
named r = named_by r.kind r.first r.second r.third
