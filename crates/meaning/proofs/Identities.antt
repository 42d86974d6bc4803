-- Words of gates that do the same: one table, found to hold by computing, on any distinct wires.
use mathlib.Core.List.{List, [], ◌∷◌}
use Prim.Native.Nat.{ℕ}
use Rattle.gates.specs.declared.Wire.{Wire}
use Rattle.gates.specs.declared.Gate.{Gate}
use Rattle.gates.specs.declared.Gate.TheVariants.{X, H, S, Sdg, Z, T, Tdg, Cnot, Cz, Ccx, Ccz, Y, Sx, Swap, Cy, Ch, Cswap}
use Rattle.gates.specs.Gates.{wire, All}
use Rattle.meaning.specs.Amplitudes.{Ops}
use Rattle.meaning.proofs.SumLaws.{Laws}
use Rattle.meaning.proofs.Placed.{Identity, all_tested, Holds, all_hold}

abbrev identity : ℕ → ℕ → List Gate → List Gate → Identity
identity turns wires left right = record { wires = wires; left = left; right = right; turns = turns }

-- The wires 0, 1, 2.
abbrev a : Wire
a = wire 0

abbrev b : Wire
b = wire 1

abbrev c : Wire
c = wire 2

-- Two equal gates are none.
abbrev pub x-x : Identity
x-x = identity 0 1 (X a ∷ X a ∷ []) []

abbrev pub h-h : Identity
h-h = identity 0 1 (H a ∷ H a ∷ []) []

abbrev pub z-z : Identity
z-z = identity 0 1 (Z a ∷ Z a ∷ []) []

abbrev pub y-y : Identity
y-y = identity 0 1 (Y a ∷ Y a ∷ []) []

abbrev pub cnot-cnot : Identity
cnot-cnot = identity 0 2 (Cnot a b ∷ Cnot a b ∷ []) []

abbrev pub cz-cz : Identity
cz-cz = identity 0 2 (Cz a b ∷ Cz a b ∷ []) []

abbrev pub ccx-ccx : Identity
ccx-ccx = identity 0 3 (Ccx a b c ∷ Ccx a b c ∷ []) []

abbrev pub ccz-ccz : Identity
ccz-ccz = identity 0 3 (Ccz a b c ∷ Ccz a b c ∷ []) []

abbrev pub swap-swap : Identity
swap-swap = identity 0 2 (Swap a b ∷ Swap a b ∷ []) []

abbrev pub cy-cy : Identity
cy-cy = identity 0 2 (Cy a b ∷ Cy a b ∷ []) []

abbrev pub ch-ch : Identity
ch-ch = identity 0 2 (Ch a b ∷ Ch a b ∷ []) []

abbrev pub cswap-cswap : Identity
cswap-cswap = identity 0 3 (Cswap a b c ∷ Cswap a b c ∷ []) []

-- Wires in another order.
abbrev pub cz-order : Identity
cz-order = identity 0 2 (Cz a b ∷ []) (Cz b a ∷ [])

abbrev pub ccx-order : Identity
ccx-order = identity 0 3 (Ccx a b c ∷ []) (Ccx b a c ∷ [])

abbrev pub ccz-first : Identity
ccz-first = identity 0 3 (Ccz a b c ∷ []) (Ccz b a c ∷ [])

abbrev pub ccz-last : Identity
ccz-last = identity 0 3 (Ccz a b c ∷ []) (Ccz a c b ∷ [])

abbrev swap-order : Identity
swap-order = identity 0 2 (Swap a b ∷ []) (Swap b a ∷ [])

abbrev cswap-order : Identity
cswap-order = identity 0 3 (Cswap a b c ∷ []) (Cswap a c b ∷ [])

-- Between two h: H·X·H = Z, H·Z·H = X, H·S·H = w·Sdg·H·Sdg, H·Sdg·H = w⁷·S·H·S.
abbrev pub h-x-h : Identity
h-x-h = identity 0 1 (H a ∷ X a ∷ H a ∷ []) (Z a ∷ [])

abbrev pub h-z-h : Identity
h-z-h = identity 0 1 (H a ∷ Z a ∷ H a ∷ []) (X a ∷ [])

abbrev pub h-s-h : Identity
h-s-h = identity 1 1 (H a ∷ S a ∷ H a ∷ []) (Sdg a ∷ H a ∷ Sdg a ∷ [])

abbrev pub h-sdg-h : Identity
h-sdg-h = identity 7 1 (H a ∷ Sdg a ∷ H a ∷ []) (S a ∷ H a ∷ S a ∷ [])

-- What `stdgates.inc` says with `pow(1/2) @`, `inv @` and three cx; H·Sx·H = S tells which root sx is.
abbrev s-s : Identity
s-s = identity 0 1 (S a ∷ S a ∷ []) (Z a ∷ [])

abbrev t-t : Identity
t-t = identity 0 1 (T a ∷ T a ∷ []) (S a ∷ [])

abbrev sx-sx : Identity
sx-sx = identity 0 1 (Sx a ∷ Sx a ∷ []) (X a ∷ [])

abbrev h-sx-h : Identity
h-sx-h = identity 0 1 (H a ∷ Sx a ∷ H a ∷ []) (S a ∷ [])

abbrev s-sdg : Identity
s-sdg = identity 0 1 (S a ∷ Sdg a ∷ []) []

abbrev sdg-s : Identity
sdg-s = identity 0 1 (Sdg a ∷ S a ∷ []) []

abbrev t-tdg : Identity
t-tdg = identity 0 1 (T a ∷ Tdg a ∷ []) []

abbrev tdg-t : Identity
tdg-t = identity 0 1 (Tdg a ∷ T a ∷ []) []

abbrev swap-by-cnots : Identity
swap-by-cnots = identity 0 2 (Swap a b ∷ []) (Cnot a b ∷ Cnot b a ∷ Cnot a b ∷ [])

-- Controls and bases agree.
abbrev h-cnot-h : Identity
h-cnot-h = identity 0 2 (H b ∷ Cnot a b ∷ H b ∷ []) (Cz a b ∷ [])

abbrev h-ccx-h : Identity
h-ccx-h = identity 0 3 (H c ∷ Ccx a b c ∷ H c ∷ []) (Ccz a b c ∷ [])

unfoldable pub identities : List Identity
identities =
    x-x ∷ h-h ∷ z-z ∷ y-y ∷ cnot-cnot ∷ cz-cz ∷ ccx-ccx ∷ ccz-ccz ∷ swap-swap ∷ cy-cy ∷ ch-ch ∷ cswap-cswap ∷
    cz-order ∷ ccx-order ∷ ccz-first ∷ ccz-last ∷ swap-order ∷ cswap-order ∷
    h-x-h ∷ h-z-h ∷ h-s-h ∷ h-sdg-h ∷
    s-s ∷ t-t ∷ sx-sx ∷ h-sx-h ∷ s-sdg ∷ sdg-s ∷ t-tdg ∷ tdg-t ∷ swap-by-cnots ∷ h-cnot-h ∷ h-ccx-h ∷ []

pub identities-hold : {A : Type 0} (O : Ops A) (L : Laws O) → All (Holds O L) identities
unfolding identities all_tested
identities-hold O L = all_hold O L identities tt
