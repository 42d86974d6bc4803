-- The turns of small lists, computed: document 01's fourteen, and some whose sum is below zero.
use mathlib.Core.Path.{◌≡◌, refl}
use mathlib.Core.List.{List, [], ◌∷◌, map}
use Prim.Native.Nat.{ℕ}
use lib.IntN.{ℤ, pos, negsuc}
use Rattle.gates.specs.declared.Gate.{Gate}
use Rattle.gates.specs.declared.Gate.TheVariants.{H, S, Sdg}
use Rattle.gates.specs.Gates.{wire, wires_of, has, meet}
use Rattle.gates.specs.Records.{record_of}
use Rattle.rules.specs.Equal.{inserted, sorted, ordered, canonical, same, equal, seven, cancels}
use Rattle.rules.specs.Runs.{worth, sum_of, by_eighths, rewrite_of}
use Rattle.rules.specs.MayPass.{class_of, past}
use Rattle.rules.specs.Steps.{track, off_wire, put_first, change, cut_at, act}
use Rattle.rules.specs.Sweeps.{cut, pairs_from, pair_sweep, x_then_h, hadamards_from, walk, room, tracks, walk_past, commuting_from, commuting_sweep, hadamard_sweep}
use Rattle.rules.specs.Loop.{repeat, h_count, repeated, round, pass}
use Rattle.rules.proofs.Small.{small, bare}
use Rattle.promises.specs.Turns.{turns_for, turns_of_step, turns_of, modulo8}

-- The turns of the pass's journal on four wires.
unfoldable turns_of_pass : List Gate → ℤ
unfolding wires_of has meet record_of inserted sorted ordered canonical same equal cancels worth sum_of by_eighths rewrite_of class_of past
    track off_wire put_first change cut_at act cut pairs_from pair_sweep x_then_h hadamards_from walk room tracks walk_past commuting_from
    commuting_sweep repeat h_count repeated hadamard_sweep round pass turns_for turns_of_step turns_of
turns_of_pass l = turns_of seven (pass seven 4 (map bare l)).steps (map bare l)

-- Lists 4 and 7, in which k = 2, and no other.
small-turns : map (λ r. turns_of_pass r.input) small ≡
    map pos (0 ∷ 0 ∷ 0 ∷ 1 ∷ 0 ∷ 0 ∷ 1 ∷ 0 ∷ 0 ∷ 0 ∷ 0 ∷ 0 ∷ 0 ∷ 0 ∷ [])
unfolding small turns_of_pass
small-turns = refl

-- k = 6 on a wire, and k = 2.
abbrev six : ℕ → List Gate → List Gate
six w l = H (wire w) ∷ Sdg (wire w) ∷ H (wire w) ∷ l

abbrev two : ℕ → List Gate → List Gate
two w l = H (wire w) ∷ S (wire w) ∷ H (wire w) ∷ l

abbrev below_zero : List (List Gate)
below_zero = six 0 [] ∷ six 0 (two 1 []) ∷ six 0 (six 1 (six 2 [])) ∷ []

below-zero : map turns_of_pass below_zero ≡ negsuc 0 ∷ pos 0 ∷ negsuc 2 ∷ []
unfolding turns_of_pass
below-zero = refl

-- -1, 0 and -3 are 7, 0 and 5 eighths.
below-zero-phases : map (λ l. modulo8 (turns_of_pass l)) below_zero ≡ 7 ∷ 0 ∷ 5 ∷ []
unfolding turns_of_pass modulo8
below-zero-phases = refl
