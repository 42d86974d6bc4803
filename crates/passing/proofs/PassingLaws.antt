-- Which gates may pass: what the code computes of the wires is what the rules say.
use mathlib.Core.Path.{◌≡◌, refl}
use mathlib.Core.Bool.{true, not, ◌||◌, ◌&&◌, or-false, or-true, or_assoc}
use mathlib.Core.List.{List, [], ◌∷◌, ◌++◌}
use Prim.Native.Nat.{ℕ}
use native.Mathlib.Omega.{arith}
use lib.Dec.{eqb}
use borrow.Author.Tests.{eq-eqb}
use Rattle.std.proofs.lemmas.Grind.{common_steps}
use Rattle.gates.specs.declared.Wire.{Wire}
use Rattle.gates.specs.declared.Gate.{Gate}
use Rattle.gates.specs.declared.Gate.TheVariants.{Cz, Ccx, Ccz}
use Rattle.gates.specs.Gates.{wires_of, has, meet, touches, shares}
use Rattle.rules.specs.MayPass.{class_of, off, past, may_pass}

-- ------------------------------------------------------------ wires off a list

pub off_part : (vs us : List ℕ) (w : ℕ) → off w (vs ++ us) ≡ true → off w vs ≡ true
unfolding has
off_part [] us w e = refl
off_part (v ∷ vs) us w e = grind (arith, common_steps, off_part vs us w)

-- the wire is none of those of a list
pub off-3 : (w a b c : ℕ) → (not (eqb w a) && not (eqb w b) && not (eqb w c)) ≡ off w (a ∷ b ∷ c ∷ [])
unfolding has
off-3 w a b c = grind (arith, common_steps)

-- the same, with the two sides of each test changed over
pub none_1 : (w a : ℕ) → not (eqb a w) ≡ off w (a ∷ [])
unfolding has
none_1 w a = grind (arith, common_steps)

pub none_2 : (w a b : ℕ) → (not (eqb a w) && not (eqb b w)) ≡ off w (a ∷ b ∷ [])
unfolding has
none_2 w a b = grind (arith, common_steps)

pub none-3 : (w a b c : ℕ) → (not (eqb a w) && not (eqb b w) && not (eqb c w)) ≡ off w (a ∷ b ∷ c ∷ [])
unfolding has
none-3 w a b c = grind (arith, common_steps)

-- ------------------------------------------------------------ wires shared with a gate of three

pub ccx-shares : (a b t : Wire) (g : Gate) → shares (Ccx a b t) g ≡ (touches a.0 g || touches b.0 g || touches t.0 g)
unfolding wires_of meet
ccx-shares a b t g = simp (or-false, or_assoc)

-- ------------------------------------------------------------ a cz as a ccz

-- a cz is passed by what passes a ccz on its two wires, one of them twice
pub cz_as_ccz : (a b : Wire) (g : Gate) → may_pass (Cz a b) g ≡ may_pass (Ccz a b b) g
unfolding has meet wires_of class_of past
cz_as_ccz a b g = grind (arith, common_steps)

pub has_last : (vs : List ℕ) (w : ℕ) → has w (vs ++ (w ∷ [])) ≡ true
unfolding has
has_last [] w = rw (eq-eqb w w refl)
has_last (v ∷ vs) w = rw (has_last vs w) (or-true (eqb w v))
