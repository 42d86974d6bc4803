-- Document 01's fourteen small lists.
use mathlib.Core.Path.{◌≡◌, refl}
use mathlib.Core.List.{List, [], ◌∷◌, map}
use Prim.Native.Nat.{ℕ}
use Rattle.gates.specs.declared.Gate.{Gate}
use Rattle.gates.specs.declared.Gate.TheVariants.{X, H, S, Sdg, Z, T, Tdg, Cnot, Cz, Ccx, Y}
use Rattle.gates.specs.Gates.{wire, wires_of, has, meet}
use Rattle.gates.specs.Records.{record_of}
use Rattle.rules.specs.Equal.{inserted, sorted, ordered, canonical, same, equal, seven, cancels}
use Rattle.rules.specs.Runs.{worth, sum_of, by_eighths, rewrite_of}
use Rattle.rules.specs.MayPass.{class_of, past}
use Rattle.rules.specs.Steps.{Cell, gates_of, track, off_wire, put_first, change}
use Rattle.rules.specs.Sweeps.{cut, pairs_from, pair_sweep, x_then_h, hadamards_from, walk, room, tracks, walk_past, commuting_from, commuting_sweep, hadamard_sweep}
use Rattle.rules.specs.Loop.{repeat, h_count, repeated, round, pass}

pub record Answer : Type 0 where
  pub list : List Gate
  pub walked : ℕ

abbrev pub bare : Gate → Cell ℕ
bare g = record { gate = g; beside = 0 }

unfoldable pub answer : ℕ → List Gate → Answer
unfolding wires_of has meet record_of inserted sorted ordered canonical same equal cancels worth sum_of by_eighths rewrite_of class_of past track off_wire put_first change cut pairs_from pair_sweep x_then_h hadamards_from walk room tracks walk_past commuting_from commuting_sweep repeat h_count repeated hadamard_sweep round pass
answer n l = let d = pass seven n (map bare l) in record { list = gates_of d.list; walked = d.looks }

pub record Row : Type 0 where
  pub input : List Gate
  pub output : List Gate
  pub looks : ℕ

abbrev row : List Gate → List Gate → ℕ → Row
row l m n = record { input = l; output = m; looks = n }

abbrev h : ℕ → Gate
h w = H (wire w)

abbrev s : ℕ → Gate
s w = S (wire w)

abbrev t : ℕ → Gate
t w = T (wire w)

abbrev tdg : ℕ → Gate
tdg w = Tdg (wire w)

abbrev sdg : ℕ → Gate
sdg w = Sdg (wire w)

abbrev x : ℕ → Gate
x w = X (wire w)

abbrev y : ℕ → Gate
y w = Y (wire w)

abbrev z : ℕ → Gate
z w = Z (wire w)

abbrev cnot : ℕ → ℕ → Gate
cnot a b = Cnot (wire a) (wire b)

abbrev cz : ℕ → ℕ → Gate
cz a b = Cz (wire a) (wire b)

abbrev ccx : ℕ → ℕ → ℕ → Gate
ccx a b c = Ccx (wire a) (wire b) (wire c)

unfoldable pub small : List Row
small =
    row [] [] 0
    ∷ row (h 0 ∷ h 0 ∷ []) [] 0
    ∷ row (h 0 ∷ t 0 ∷ tdg 0 ∷ h 0 ∷ []) [] 0
    ∷ row (h 0 ∷ s 0 ∷ h 0 ∷ []) (sdg 0 ∷ h 0 ∷ sdg 0 ∷ []) 0
    ∷ row (h 0 ∷ s 0 ∷ s 0 ∷ h 0 ∷ []) (x 0 ∷ []) 0
    ∷ row (h 0 ∷ x 0 ∷ h 0 ∷ []) (z 0 ∷ []) 0
    ∷ row (h 0 ∷ t 0 ∷ h 0 ∷ s 0 ∷ h 0 ∷ []) (h 0 ∷ t 0 ∷ sdg 0 ∷ h 0 ∷ sdg 0 ∷ []) 0
    ∷ row (cz 0 1 ∷ cz 1 0 ∷ []) [] 0
    ∷ row (cnot 0 1 ∷ cnot 1 0 ∷ []) (cnot 0 1 ∷ cnot 1 0 ∷ []) 0
    ∷ row (y 0 ∷ y 0 ∷ []) (y 0 ∷ y 0 ∷ []) 0
    ∷ row (cnot 0 1 ∷ t 0 ∷ cnot 0 1 ∷ []) (t 0 ∷ []) 3
    ∷ row (cnot 0 1 ∷ t 1 ∷ cnot 0 1 ∷ []) (cnot 0 1 ∷ t 1 ∷ cnot 0 1 ∷ []) 2
    ∷ row (ccx 0 1 2 ∷ cnot 0 3 ∷ ccx 1 0 2 ∷ []) (cnot 0 3 ∷ []) 4
    ∷ row (cnot 0 3 ∷ ccx 0 1 2 ∷ cnot 0 3 ∷ []) (cnot 0 3 ∷ ccx 0 1 2 ∷ cnot 0 3 ∷ []) 1
    ∷ []

pub small-lists : map (λ r. answer 4 r.input) small ≡ map (λ r. record { list = r.output; walked = r.looks }) small
unfolding small answer
small-lists = refl
