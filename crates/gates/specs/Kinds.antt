-- The table of kinds: document 01, "Records".
use Rattle.std.specs.Prelude.{Bool, true, false, List, [], ◌∷◌, ℕ, get_or}
use Rattle.gates.specs.declared.Wire.{Wire}
use Rattle.gates.specs.declared.Bit.{Bit}
use Rattle.gates.specs.declared.Gate.{Gate}
use Rattle.gates.specs.declared.Gate.TheVariants.{X, H, S, Sdg, Z, T, Tdg, Cnot, Cz, Ccx, Ccz, Measure, Reset, Y, Sx, Swap, Cy, Ch, Cswap}
use Rattle.gates.specs.declared.kinds.Row.{Row}

-- A kind makes a gate of one, two or three wires, or of a wire and a classical bit; or it carries an angle beside that
-- many wires.
pub data Shape : Type 0 where
  on1 : (Wire → Gate) → Shape
  on2 : (Wire → Wire → Gate) → Shape
  on3 : (Wire → Wire → Wire → Gate) → Shape
  on_bit : (Wire → Bit → Gate) → Shape
  angled : ℕ → Shape
  unknown : Shape

-- "Kind codes run from 0 to 26 in the order of the enum `Gate`: x h s sdg z t tdg rz cnot cz ccx ccz measure reset p y sx
-- rx ry swap cy cp crx cry crz ch cswap. Codes 7, 14, 17, 18, 21 to 24 carry angles."
-- "cnot, cz, swap, cy, cp, crx, cry, crz, ch have 2 wires; ccx, ccz, cswap 3; the rest 1."
unfoldable pub shapes : List Shape
shapes =
    on1 X ∷ on1 H ∷ on1 S ∷ on1 Sdg ∷ on1 Z ∷ on1 T ∷ on1 Tdg ∷ angled 1 ∷ on2 Cnot ∷ on2 Cz ∷ on3 Ccx ∷ on3 Ccz ∷
    on_bit Measure ∷ on1 Reset ∷ angled 1 ∷ on1 Y ∷ on1 Sx ∷ angled 1 ∷ angled 1 ∷ on2 Swap ∷ on2 Cy ∷ angled 2 ∷
    angled 2 ∷ angled 2 ∷ angled 2 ∷ on2 Ch ∷ on3 Cswap ∷ []

-- 27 to 255 are no kind.
unfoldable pub shape_of : ℕ → Shape
shape_of kind = get_or shapes kind unknown

abbrev pub wires_in : Shape → ℕ
wires_in (on1 f) = 1
wires_in (on2 f) = 2
wires_in (on3 f) = 3
wires_in (on_bit f) = 1
wires_in (angled n) = n
wires_in unknown = 0

abbrev pub has_angle : Shape → Bool
has_angle (on1 f) = false
has_angle (on2 f) = false
has_angle (on3 f) = false
has_angle (on_bit f) = false
has_angle (angled n) = true
has_angle unknown = false

-- The row of a kind: its operand count, and whether it carries an angle.
abbrev pub row_in : Shape → Row
row_in s = record { operands = wires_in s; angle = has_angle s }

abbrev pub row_of : ℕ → Row
row_of kind = row_in (shape_of kind)
