-- Which gates may pass a pair. Document 01, "May pass".
use Rattle.std.specs.Prelude.{Bool, true, false, not, ◌||◌, ◌&&◌, List, [], ◌∷◌, ℕ, eqb}
use Rattle.gates.specs.declared.Gate.{Gate}
use Rattle.gates.specs.declared.Gate.TheVariants.{X, H, S, Sdg, Z, T, Tdg, Cnot, Cz, Ccx, Ccz, Measure, Reset, Y, Sx, Swap, Cy, Ch, Cswap}
use Rattle.gates.specs.Gates.{has, shares}

-- The kinds that the rules tell apart, with their wires.
pub data Class : Type 0 where
  x : ℕ → Class
  cnot : ℕ → ℕ → Class
  ccx : ℕ → ℕ → ℕ → Class
  diagonal : List ℕ → Class
  other : Class

-- "diagonals (t, tdg, s, sdg, z, cz, ccz)"; "Every other kind blocks."
unfoldable pub class_of : Gate → Class
class_of (X w) = x w.0
class_of (Cnot c t) = cnot c.0 t.0
class_of (Ccx c d t) = ccx c.0 d.0 t.0
class_of (T w) = diagonal (w.0 ∷ [])
class_of (Tdg w) = diagonal (w.0 ∷ [])
class_of (S w) = diagonal (w.0 ∷ [])
class_of (Sdg w) = diagonal (w.0 ∷ [])
class_of (Z w) = diagonal (w.0 ∷ [])
class_of (Cz c t) = diagonal (c.0 ∷ t.0 ∷ [])
class_of (Ccz c d t) = diagonal (c.0 ∷ d.0 ∷ t.0 ∷ [])
class_of (H w) = other
class_of (Measure w b) = other
class_of (Reset w) = other
class_of (Y w) = other
class_of (Sx w) = other
class_of (Swap a b) = other
class_of (Cy c t) = other
class_of (Ch c t) = other
class_of (Cswap c a b) = other

abbrev pub off : ℕ → List ℕ → Bool
off w l = not (has w l)

-- "Past cnot(c,t): x off c; t, tdg, s, sdg, z, cz, ccz off t; cnot whose control isn't t and whose target isn't c. A ccx that
-- shares a wire never passes."
abbrev pub past_cnot : ℕ → ℕ → Class → Bool
past_cnot c t (x w) = off w (c ∷ [])
past_cnot c t (diagonal ws) = off t ws
past_cnot c t (cnot d u) = off t (d ∷ []) && off u (c ∷ [])
past_cnot c t (ccx d e u) = false
past_cnot c t other = false

-- "Past cz(a,b): all diagonals (t, tdg, s, sdg, z, cz, ccz); cnot and ccx with target off a and b."
-- "Past ccz: all diagonals; cnot and ccx with target off its wires."
abbrev pub past_diagonal : List ℕ → Class → Bool
past_diagonal vs (x w) = false
past_diagonal vs (diagonal ws) = true
past_diagonal vs (cnot d u) = off u vs
past_diagonal vs (ccx d e u) = off u vs
past_diagonal vs other = false

-- "Past ccx(a,b,t): x on t; diagonals off t; cnot and ccx with target off a, b and no control on t."
abbrev pub past_ccx : ℕ → ℕ → ℕ → Class → Bool
past_ccx a b t (x w) = eqb w t
past_ccx a b t (diagonal ws) = off t ws
past_ccx a b t (cnot d u) = off u (a ∷ b ∷ []) && off t (d ∷ [])
past_ccx a b t (ccx d e u) = off u (a ∷ b ∷ []) && off t (d ∷ e ∷ [])
past_ccx a b t other = false

-- The rules by the class of the gate that is passed; only a cnot, cz, ccx or ccz is asked for.
unfoldable pub past : Class → Class → Bool
past (cnot c t) g = past_cnot c t g
past (diagonal vs) g = past_diagonal vs g
past (ccx a b t) g = past_ccx a b t g
past (x w) g = false
past other g = false

-- Whether g may pass the pair p: "A gate that shares no wire passes. Of the rest: …"
abbrev pub may_pass : Gate → Gate → Bool
may_pass p g = not (shares p g) || past (class_of p) (class_of g)
