-- What a list of gates does. Document 01, "What a list does".
use Rattle.std.specs.Prelude.{◌≡◌, Bool, true, false, cond, ℕ, zero, suc, eqb, length}
use mathlib.Core.List.{List, [], ◌∷◌, ◌++◌}
use Rattle.gates.specs.declared.Gate.{Gate}
use Rattle.gates.specs.declared.Gate.TheVariants.{X, H, S, Sdg, Z, T, Tdg, Cnot, Cz, Ccx, Ccz, Measure, Reset, Y, Sx, Swap, Cy, Ch, Cswap}
use Rattle.gates.specs.Gates.{wires_of}
use Rattle.meaning.specs.Amplitudes.{Ops, times, Amplitude, Amplitudes, ◌≈◌}
use Rattle.meaning.specs.Matrices as M
use Rattle.meaning.specs.Matrices.{Matrix, Factor, ctrl, same_bit, first_bit}

-- ------------------------------------------------------------ settings of the wires

-- A bit for each wire.
abbrev pub Setting : Type 0
Setting = ℕ → Bool

module _ {B : Type 0} where
  -- One place has another value.
  unfoldable pub with : ℕ → B → (ℕ → B) → ℕ → B
  with n b f m = cond (eqb m n) b (f m)

unfoldable pub bits_at : Setting → List ℕ → List Bool
bits_at s [] = []
bits_at s (w ∷ ws) = s w ∷ bits_at s ws

-- The wires have these bits, the others stay.
unfoldable pub put : List ℕ → List Bool → Setting → Setting
put [] bits s = s
put (w ∷ ws) [] s = s
put (w ∷ ws) (b ∷ bits) s = with w b (put ws bits s)

unfoldable pub under : Bool → List (List Bool) → List (List Bool)
under b [] = []
under b (l ∷ ls) = (b ∷ l) ∷ under b ls

-- Every row of n bits.
unfoldable pub all_bits : ℕ → List (List Bool)
unfolding under
all_bits zero = [] ∷ []
all_bits (suc n) = under false (all_bits n) ++ under true (all_bits n)

-- ------------------------------------------------------------ what each gate does

-- A gate has a matrix on its wires, or measures a wire into a classical bit, or resets a wire.
pub data Doing : Type 0 where
  by : Matrix → Doing
  measure : ℕ → ℕ → Doing
  reset : ℕ → Doing

-- `stdgates.inc`: "cx c, t { ctrl @ x c, t; }", so cy, cz, ch; "ccx a, b, c { ctrl @ ctrl @ x a, b, c; }";
-- "cswap a, b, c { ctrl @ swap a, b, c; }". Document 01: "ccz is z under two controls".
unfoldable pub doing : Gate → Doing
doing (X w) = by M.x
doing (H w) = by M.h
doing (S w) = by M.s
doing (Sdg w) = by M.sdg
doing (Z w) = by M.z
doing (T w) = by M.t
doing (Tdg w) = by M.tdg
doing (Cnot c t) = by (ctrl M.x)
doing (Cz c t) = by (ctrl M.z)
doing (Ccx c d t) = by (ctrl (ctrl M.x))
doing (Ccz c d t) = by (ctrl (ctrl M.z))
doing (Measure w b) = measure w.0 b.0
doing (Reset w) = reset w.0
doing (Y w) = by M.y
doing (Sx w) = by M.sx
doing (Swap a b) = by M.swap
doing (Cy c t) = by (ctrl M.y)
doing (Ch c t) = by (ctrl M.h)
doing (Cswap c a b) = by (ctrl M.swap)

-- The outcomes that are still to come, the classical bits, and the state: "A state gives one [amplitude] to each setting of
-- the wires. A row of outcomes has one bit for each measure and reset, in order."
pub record Config (A : Type 0) : Type 0 where
  pub outcomes : List Bool
  pub bits : ℕ → Bool
  pub state : Setting → A

-- The row after its first bit. A row that is too short is read as if zeros followed.
abbrev pub rest : List Bool → List Bool
rest [] = []
rest (o ∷ r) = r

module _ {A : Type 0} where
  -- The same but for the state; and one outcome later.
  abbrev pub on : Config A → (Setting → A) → Config A
  on c φ = record { outcomes = c.outcomes; bits = c.bits; state = φ }

  abbrev pub drawn : Config A → (ℕ → Bool) → (Setting → A) → Config A
  drawn c bits φ = record { outcomes = rest c.outcomes; bits = bits; state = φ }

module _ {A : Type 0} (O : Ops A) where
  module _ {X : Type 0} where
    unfoldable pub sum : (X → A) → List X → A
    sum f [] = O.none
    sum f (x ∷ l) = O.add (f x) (sum f l)

  unfoldable pub scale : Factor → A → A
  scale e x = times O.turn e.turns (times O.over_root e.roots x)

  -- Row times column: the sum, over what the wires can have had before, of the entry times the amplitude.
  unfoldable pub through : Matrix → List ℕ → (Setting → A) → Setting → A
  through M ws ψ s = sum (λ before. sum (λ e. scale e (ψ (put ws before s))) (M (bits_at s ws) before)) (all_bits (length ws))

  -- "Measure keeps the amplitudes whose wire has that bit"
  unfoldable pub kept : ℕ → Bool → (Setting → A) → Setting → A
  kept w o ψ s = cond (same_bit (s w) o) (ψ s) O.none

  -- "and then sets the wire to 0": what had 0 and what had 1 come together.
  unfoldable pub zeroed : ℕ → (Setting → A) → Setting → A
  zeroed w ψ s = cond (s w) O.none (O.add (ψ (with w false s)) (ψ (with w true s)))

  -- "Measure keeps the amplitudes whose wire has that bit and stores it; reset keeps them and then sets the wire to 0."
  abbrev pub does : Doing → List ℕ → Config A → Config A
  does (by M) ws c = on c (through M ws c.state)
  does (measure w b) ws c = let o = first_bit c.outcomes in drawn c (with b o c.bits) (kept w o c.state)
  does (reset w) ws c = let o = first_bit c.outcomes in drawn c c.bits (zeroed w (kept w o c.state))

  -- What a list does, gate after gate.
  unfoldable pub run : List Gate → Config A → Config A
  unfolding doing wires_of
  run [] c = c
  run (g ∷ l) c = run l (does (doing g) (wires_of g) c)

-- Two ends: the same outcomes left, the same classical bits, and each amplitude of the first is that of the second turned by so
-- many eighths.
pub record SameBut (turns : ℕ) (c d : Config Amplitude) : Type 0 where
  pub outcomes : c.outcomes ≡ d.outcomes
  pub bits : (b : ℕ) → c.bits b ≡ d.bits b
  pub amplitudes : (s : Setting) → c.state s ≈ times Amplitudes.turn turns (d.state s)
