-- What single arms of the code answer, each as a law by itself: the checks of the functions find them without being told.
use Rattle.std.specs.Prelude.{None}
use mathlib.Core.Path.{◌≡◌}
use mathlib.Core.Bool.{Bool, true, false, ◌&&◌, and-true, and_assoc}
use mathlib.Core.Option.{none}
use Prim.Native.Nat.{ℕ}
use native.Mathlib.Omega.{arith}
use lib.Dec.{leb}
use Rattle.std.proofs.lemmas.Grind.{common_steps}
use Rattle.gates.specs.declared.Gate.{Gate}
use Rattle.gates.specs.Gates.{has}
use Rattle.gates.specs.Records.{record_of}
use Rattle.rules.specs.Equal.{is_pair}
use Rattle.leaves.specs.Answers.{pair_of, worth_by}

pub in_a_row : (self kind first second third : Bool)
    → self && kind && first && second && third ≡ self && (kind && (first && (second && (third && true))))
in_a_row self kind first second third = simp (and_assoc, and-true)

pub no_digit : (kind : ℕ) → leb 2 kind && leb kind 6 ≡ false → none ≡ worth_by kind
unfolding worth_by
no_digit kind e = grind (arith, common_steps)

pub pair_is : (g : Gate) → is_pair g ≡ false → pair_of g ≡ None
unfolding pair_of has record_of
pair_is g e = grind (arith, common_steps)
