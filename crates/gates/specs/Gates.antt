-- What is known of a gate without its record: its wires, which gates meet, and which are valid.
use Rattle.std.specs.Prelude.{Bool, true, false, ◌||◌, List, [], ◌∷◌, ◌≡◌, ℕ, ◌<◌, eqb}
use Rattle.gates.specs.declared.Wire.{Wire}
use Rattle.gates.specs.declared.Bit.{Bit}
use Rattle.gates.specs.declared.Gate.{Gate}
use Rattle.gates.specs.declared.Gate.TheVariants.{X, H, S, Sdg, Z, T, Tdg, Cnot, Cz, Ccx, Ccz, Measure, Reset, Y, Sx, Swap, Cy, Ch, Cswap}

abbrev pub wire : ℕ → Wire
wire n = record { 0 = n }

abbrev pub bit : ℕ → Bit
bit n = record { 0 = n }

-- "the operands are the wires in the order of the enum's fields"
unfoldable pub wires_of : Gate → List ℕ
wires_of (X w) = w.0 ∷ []
wires_of (H w) = w.0 ∷ []
wires_of (S w) = w.0 ∷ []
wires_of (Sdg w) = w.0 ∷ []
wires_of (Z w) = w.0 ∷ []
wires_of (T w) = w.0 ∷ []
wires_of (Tdg w) = w.0 ∷ []
wires_of (Cnot c t) = c.0 ∷ t.0 ∷ []
wires_of (Cz c t) = c.0 ∷ t.0 ∷ []
wires_of (Ccx c d t) = c.0 ∷ d.0 ∷ t.0 ∷ []
wires_of (Ccz c d t) = c.0 ∷ d.0 ∷ t.0 ∷ []
wires_of (Measure w b) = w.0 ∷ []
wires_of (Reset w) = w.0 ∷ []
wires_of (Y w) = w.0 ∷ []
wires_of (Sx w) = w.0 ∷ []
wires_of (Swap a b) = a.0 ∷ b.0 ∷ []
wires_of (Cy c t) = c.0 ∷ t.0 ∷ []
wires_of (Ch c t) = c.0 ∷ t.0 ∷ []
wires_of (Cswap c a b) = c.0 ∷ a.0 ∷ b.0 ∷ []

unfoldable pub has : ℕ → List ℕ → Bool
has w [] = false
has w (v ∷ vs) = eqb w v || has w vs

unfoldable pub meet : List ℕ → List ℕ → Bool
meet [] ws = false
meet (v ∷ vs) ws = has v ws || meet vs ws

-- "touches one of its wires"
abbrev pub touches : ℕ → Gate → Bool
touches w g = has w (wires_of g)

-- "shares a wire"
abbrev pub shares : Gate → Gate → Bool
shares a b = meet (wires_of a) (wires_of b)

-- "a wire twice in one gate"
unfoldable pub twice : List ℕ → Bool
twice [] = false
twice (w ∷ ws) = has w ws || twice ws

-- Of every element of a list.
abbrev pub All : {A : Type 0} → (A → Type 0) → List A → Type 0
All P [] = Unit {0}
All P (x ∷ l) = P x × All P l

-- A valid gate on n wires and so many classical bits: no wire at or over n, none twice, no bit at or over their number.
pub record Valid (n bits : ℕ) (g : Gate) : Type 0 where
  pub below : (w : ℕ) → touches w g ≡ true → w < n
  pub distinct : twice (wires_of g) ≡ false
  pub bit : (w : Wire) (b : Bit) → g ≡ Measure w b → b.0 < bits
