-- The twelve kinds of gates that undo themselves.
use mathlib.Core.Path.{◌≡◌, refl}
use mathlib.Core.Bool.{false≢true, true}
use mathlib.Core.List.{List, [], ◌∷◌}
use Prim.Native.Nat.{ℕ}
use Rattle.gates.specs.declared.Gate.{Gate}
use Rattle.gates.specs.declared.Gate.TheVariants.{X, H, S, Sdg, Z, T, Tdg, Cnot, Cz, Ccx, Ccz, Measure, Reset, Y, Sx, Swap, Cy, Ch, Cswap}
use Rattle.gates.specs.Gates.{wires_of, has}
use Rattle.gates.specs.Records.{record_of, kind_of}
use Rattle.meaning.specs.Amplitudes.{Ops, times}
use Rattle.meaning.specs.States.{Config}
use Rattle.meaning.proofs.SumLaws.{Laws}
use Rattle.meaning.proofs.Operators.{turned}
use Rattle.meaning.proofs.GateOperators.{operator, distinct-wires}
use Rattle.meaning.proofs.Lists.{Proper, Undrawn, drive}
use Rattle.meaning.proofs.Placed.{placed, tested_on, drives}
use Rattle.meaning.proofs.Identities.{x-x, h-h, z-z, y-y, cnot-cnot, cz-cz, ccx-ccx, ccz-ccz, swap-swap, cy-cy, ch-ch, cswap-cswap}

-- x, h, z, cnot, cz, ccx, ccz; y, swap, cy, ch, cswap.
abbrev pub self_inverse : List ℕ
self_inverse = 0 ∷ 1 ∷ 4 ∷ 8 ∷ 9 ∷ 10 ∷ 11 ∷ 15 ∷ 19 ∷ 20 ∷ 25 ∷ 26 ∷ []

pub undrawn : (g : Gate) → has (kind_of g) self_inverse ≡ true → Undrawn g
unfolding record_of has operator
undrawn (X w) h = refl
undrawn (H w) h = refl
undrawn (S w) h = refl
undrawn (Sdg w) h = refl
undrawn (Z w) h = refl
undrawn (T w) h = refl
undrawn (Tdg w) h = refl
undrawn (Cnot c t) h = refl
undrawn (Cz c t) h = refl
undrawn (Ccx c d t) h = refl
undrawn (Ccz c d t) h = refl
undrawn (Measure w b) h = absurd (false≢true h)
undrawn (Reset w) h = absurd (false≢true h)
undrawn (Y w) h = refl
undrawn (Sx w) h = refl
undrawn (Swap a b) h = refl
undrawn (Cy c t) h = refl
undrawn (Ch c t) h = refl
undrawn (Cswap c a b) h = refl

module _ {A : Type 0} (O : Ops A) (L : Laws O) where
  pub undo : (g : Gate) → has (kind_of g) self_inverse ≡ true → Proper g → (c : Config A) → drive O (g ∷ g ∷ []) c ≡ c
  unfolding record_of has wires_of placed tested_on drive turned times
  undo (X w) h d c = drives O L x-x tt (w.0 ∷ []) refl (distinct-wires (w.0 ∷ []) d) c
  undo (H w) h d c = drives O L h-h tt (w.0 ∷ []) refl (distinct-wires (w.0 ∷ []) d) c
  undo (S w) h d c = absurd (false≢true h)
  undo (Sdg w) h d c = absurd (false≢true h)
  undo (Z w) h d c = drives O L z-z tt (w.0 ∷ []) refl (distinct-wires (w.0 ∷ []) d) c
  undo (T w) h d c = absurd (false≢true h)
  undo (Tdg w) h d c = absurd (false≢true h)
  undo (Cnot u v) h d c = drives O L cnot-cnot tt (u.0 ∷ v.0 ∷ []) refl (distinct-wires (u.0 ∷ v.0 ∷ []) d) c
  undo (Cz u v) h d c = drives O L cz-cz tt (u.0 ∷ v.0 ∷ []) refl (distinct-wires (u.0 ∷ v.0 ∷ []) d) c
  undo (Ccx u v w) h d c = drives O L ccx-ccx tt (u.0 ∷ v.0 ∷ w.0 ∷ []) refl (distinct-wires (u.0 ∷ v.0 ∷ w.0 ∷ []) d) c
  undo (Ccz u v w) h d c = drives O L ccz-ccz tt (u.0 ∷ v.0 ∷ w.0 ∷ []) refl (distinct-wires (u.0 ∷ v.0 ∷ w.0 ∷ []) d) c
  undo (Measure w b) h d c = absurd (false≢true h)
  undo (Reset w) h d c = absurd (false≢true h)
  undo (Y w) h d c = drives O L y-y tt (w.0 ∷ []) refl (distinct-wires (w.0 ∷ []) d) c
  undo (Sx w) h d c = absurd (false≢true h)
  undo (Swap u v) h d c = drives O L swap-swap tt (u.0 ∷ v.0 ∷ []) refl (distinct-wires (u.0 ∷ v.0 ∷ []) d) c
  undo (Cy u v) h d c = drives O L cy-cy tt (u.0 ∷ v.0 ∷ []) refl (distinct-wires (u.0 ∷ v.0 ∷ []) d) c
  undo (Ch u v) h d c = drives O L ch-ch tt (u.0 ∷ v.0 ∷ []) refl (distinct-wires (u.0 ∷ v.0 ∷ []) d) c
  undo (Cswap u v w) h d c = drives O L cswap-cswap tt (u.0 ∷ v.0 ∷ w.0 ∷ []) refl (distinct-wires (u.0 ∷ v.0 ∷ w.0 ∷ []) d) c
