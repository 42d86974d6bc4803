-- What stands between two h on a wire, and what it becomes. Document 01, "Hadamard sweep".
use Rattle.std.specs.Prelude.{Bool, false, cond, ◌&&◌, List, [], ◌∷◌, ℕ, ◌+◌, ◌%◌, eqb}
use Rattle.std.proofs.Math.Option.{Option, some, none}
use Rattle.gates.specs.declared.Wire.{Wire}
use Rattle.gates.specs.declared.Gate.{Gate}
use Rattle.gates.specs.declared.Gate.TheVariants.{X, H, S, Sdg, Z, T, Tdg, Cnot, Cz, Ccx, Ccz, Measure, Reset, Y, Sx, Swap, Cy, Ch, Cswap}
use Rattle.gates.specs.Gates.{touches}
use Rattle.gates.specs.Records.{kind_of, is_h}

-- ------------------------------------------------------------ single gates

abbrev pub is_h_on : ℕ → Gate → Bool
is_h_on w g = is_h g && touches w g

abbrev pub is_x_on : ℕ → Gate → Bool
is_x_on w g = eqb (kind_of g) 0 && touches w g

-- "t, s, z, sdg, tdg, worth 1, 2, 4, 6, 7"
unfoldable pub worth : Gate → Option ℕ
worth (T w) = some 1
worth (S w) = some 2
worth (Z w) = some 4
worth (Sdg w) = some 6
worth (Tdg w) = some 7
worth (X w) = none
worth (H w) = none
worth (Cnot c t) = none
worth (Cz c t) = none
worth (Ccx c d t) = none
worth (Ccz c d t) = none
worth (Measure w b) = none
worth (Reset w) = none
worth (Y w) = none
worth (Sx w) = none
worth (Swap a b) = none
worth (Cy c t) = none
worth (Ch c t) = none
worth (Cswap c a b) = none

-- A gate's worth in a run on a wire, if it is in one.
abbrev pub worth_on : ℕ → Gate → Option ℕ
worth_on w g = cond (touches w g) (worth g) none

-- ------------------------------------------------------------ what stands between two h

abbrev pub plus : Option ℕ → Option ℕ → Option ℕ
plus none b = none
plus (some j) none = none
plus (some j) (some k) = some (j + k)

-- The sum of a run; none where another gate stands among them.
unfoldable pub sum_of : List Gate → Option ℕ
sum_of [] = some 0
sum_of (g ∷ l) = plus (worth g) (sum_of l)

-- What stands in place of each h, and of the first gate between them; the others between them go.
pub record Rewrite : Type 0 where
  pub ends : Option Gate
  pub first : Option Gate

abbrev pub rewrite : Option Gate → Option Gate → Option Rewrite
rewrite ends first = some (record { ends = ends; first = first })

-- "k = 0 deletes all; k = 4 turns the run's first gate into x and drops the rest; k = 2 puts sdg in place of both h, h in
-- place of the run's first gate, and drops the others; k = 6 the same with s." "An odd k changes nothing."
unfoldable pub by_eighths : Wire → ℕ → Option Rewrite
by_eighths w k =
    cond (eqb k 0) (rewrite none none)
    (cond (eqb k 4) (rewrite none (some (X w)))
    (cond (eqb k 2) (rewrite (some (Sdg w)) (some (H w)))
    (cond (eqb k 6) (rewrite (some (S w)) (some (H w))) none)))

-- "and sum modulo 8 to k"
abbrev pub by_sum : Wire → Option ℕ → Option Rewrite
by_sum w none = none
by_sum w (some sum) = by_eighths w (sum % 8)

abbrev pub lone_x : List Gate → Bool
lone_x [] = false
lone_x (g ∷ []) = eqb (kind_of g) 0
lone_x (g ∷ h ∷ l) = false

-- "one x, or only t, s, z, sdg, tdg of even sum (perhaps none)"; "the x becomes z, both h go"
unfoldable pub rewrite_of : Wire → List Gate → Option Rewrite
rewrite_of w between = cond (lone_x between) (rewrite none (some (Z w))) (by_sum w (sum_of between))
