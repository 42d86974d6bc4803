-- Gates that share no wire pass each other.
use mathlib.Core.Path.{◌≡◌, refl, sym, ◌∙◌, ap}
use mathlib.Core.Logic.{◌≢◌}
use mathlib.Core.Bool.{false≢true, true, false, ◌||◌, or-true}
use mathlib.Core.List.{List, [], ◌∷◌}
use Prim.Native.Nat.{ℕ}
use lib.Dec.{eqb}
use borrow.Author.Tests.{eq-eqb}
use Rattle.gates.specs.declared.Gate.{Gate}
use Rattle.gates.specs.declared.Gate.TheVariants.{X, H, S, Sdg, Z, T, Tdg, Cnot, Cz, Ccx, Ccz, Measure, Reset, Y, Sx, Swap, Cy, Ch, Cswap}
use Rattle.gates.specs.Gates.{wires_of, has, meet, shares, All}
use Rattle.gates.proofs.Joined.{apart}
use Rattle.meaning.proofs.Operators.{Apart}
use Rattle.meaning.proofs.GateOperators.{operator}
use Rattle.meaning.proofs.Lists.{Passes}

-- ------------------------------------------------------------ wires of a list

has-0 : (w : ℕ) (l : List ℕ) → has w (w ∷ l) ≡ true
unfolding has
has-0 w l = ap (λ b. b || has w l) (eq-eqb w w refl)

has-later : (v w : ℕ) (l : List ℕ) → has w l ≡ true → has w (v ∷ l) ≡ true
unfolding has
has-later v w l h = ap (λ b. eqb w v || b) h ∙ or-true (eqb w v)

has_1 : (v w : ℕ) (l : List ℕ) → has w (v ∷ w ∷ l) ≡ true
has_1 v w l = has-later v w (w ∷ l) (has-0 w l)

has-2 : (u v w : ℕ) (l : List ℕ) → has w (u ∷ v ∷ w ∷ l) ≡ true
has-2 u v w l = has-later u w (v ∷ w ∷ l) (has_1 v w l)

-- Wires of lists that do not meet are different.
different : (ps gs : List ℕ) (v w : ℕ) → meet ps gs ≡ false → has v ps ≡ true → has w gs ≡ true → w ≢ v
different ps gs v w m h k e = false≢true (sym (apart ps gs v m h) ∙ ap (λ x. has x gs) (sym e) ∙ k)

-- ------------------------------------------------------------ gates

abbrev In : List ℕ → ℕ → Type 0
In ws w = has w ws ≡ true

-- A gate reads and turns over its own wires only.
record Inside (g : Gate) : Type 0 where
  reads_in : All (In (wires_of g)) (operator g).reads
  flips-in : All (In (wires_of g)) (operator g).flips

inside : (g : Gate) → Inside g
unfolding wires_of operator
inside (X w) = record { reads_in = tt; flips-in = (has-0 _ _, tt) }
inside (H w) = record { reads_in = (has-0 _ _, tt); flips-in = (has-0 _ _, tt) }
inside (S w) = record { reads_in = (has-0 _ _, tt); flips-in = tt }
inside (Sdg w) = record { reads_in = (has-0 _ _, tt); flips-in = tt }
inside (Z w) = record { reads_in = (has-0 _ _, tt); flips-in = tt }
inside (T w) = record { reads_in = (has-0 _ _, tt); flips-in = tt }
inside (Tdg w) = record { reads_in = (has-0 _ _, tt); flips-in = tt }
inside (Cnot c t) = record { reads_in = (has-0 _ _, tt); flips-in = (has_1 _ _ _, tt) }
inside (Cz c t) = record { reads_in = (has-0 _ _, (has_1 _ _ _, tt)); flips-in = tt }
inside (Ccx c d t) = record { reads_in = (has-0 _ _, (has_1 _ _ _, tt)); flips-in = (has-2 _ _ _ _, tt) }
inside (Ccz c d t) = record { reads_in = (has-0 _ _, (has_1 _ _ _, (has-2 _ _ _ _, tt))); flips-in = tt }
inside (Measure w b) = record { reads_in = (has-0 _ _, tt); flips-in = tt }
inside (Reset w) = record { reads_in = (has-0 _ _, tt); flips-in = (has-0 _ _, tt) }
inside (Y w) = record { reads_in = (has-0 _ _, tt); flips-in = (has-0 _ _, tt) }
inside (Sx w) = record { reads_in = tt; flips-in = (has-0 _ _, tt) }
inside (Swap a b) = record { reads_in = (has-0 _ _, (has_1 _ _ _, tt)); flips-in = (has-0 _ _, (has_1 _ _ _, tt)) }
inside (Cy c t) = record { reads_in = (has-0 _ _, (has_1 _ _ _, tt)); flips-in = (has_1 _ _ _, tt) }
inside (Ch c t) = record { reads_in = (has-0 _ _, (has_1 _ _ _, tt)); flips-in = (has_1 _ _ _, tt) }
inside (Cswap c a b) = record { reads_in = (has-0 _ _, (has_1 _ _ _, (has-2 _ _ _ _, tt))); flips-in = (has_1 _ _ _, (has-2 _ _ _ _, tt)) }

-- Wires of two lists, where any wire of the one is another than any of the other.
module _ (ps gs : List ℕ) (d : (v w : ℕ) → In ps v → In gs w → w ≢ v) where
  apart-one : (v : ℕ) (ws : List ℕ) → In ps v → All (In gs) ws → All (λ w. w ≢ v) ws
  apart-one v [] h k = tt
  apart-one v (w ∷ ws) h k = (d v w h k.0, apart-one v ws h k.1)

  apart-all : (vs ws : List ℕ) → All (In ps) vs → All (In gs) ws → Apart vs ws
  apart-all [] ws h k = tt
  apart-all (v ∷ vs) ws h k = (apart-one v ws h.0 k, apart-all vs ws h.1 k)

pub apart-passes : (g k : Gate) → shares g k ≡ false → Passes g k
apart-passes g k m = (
  apart-all (wires_of g) (wires_of k) (λ v w. different (wires_of g) (wires_of k) v w m) (operator g).flips (operator k).reads
      (inside g).flips-in (inside k).reads_in,
  apart-all (wires_of k) (wires_of g) (λ v w h i e. different (wires_of g) (wires_of k) w v m i h (sym e)) (operator k).flips
      (operator g).reads (inside k).flips-in (inside g).reads_in,
)
