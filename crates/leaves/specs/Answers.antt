-- What the answers of the code stand for: wires in order, equal gates, canonical pairs, a gate's worth.
use Rattle.std.specs.Prelude.{Option as Answer, Some, None, Bool, cond, ◌&&◌, List, [], ◌∷◌, ℕ, eqb}
use Rattle.std.proofs.Math.Option.{Option, some, none}
use Rattle.gates.specs.declared.Wire.{Wire}
use Rattle.gates.specs.declared.Gate.{Gate}
use Rattle.gates.specs.declared.Gate.TheVariants as Gates
use Rattle.gates.specs.declared.records.Record.{Record}
use Rattle.gates.specs.Gates.{wire, has}
use Rattle.gates.specs.Records.{kind_of}
use Rattle.rules.specs.Equal.{ordered, canonical, same, seven}
use Rattle.leaves.specs.declared.equal.Two.{Two}
use Rattle.leaves.specs.declared.equal.Three.{Three}
use Rattle.leaves.specs.declared.pairs.CommutingPair.{CommutingPair}

-- ------------------------------------------------------------ wires in order

-- The wires that an answer of the code names, in order.
abbrev pub two : Two → List ℕ
two r = r.first.0 ∷ r.second.0 ∷ []

abbrev pub three : Three → List ℕ
three r = r.first.0 ∷ r.second.0 ∷ r.third.0 ∷ []

abbrev pub words_of : Record → List ℕ
words_of r = r.first ∷ r.second ∷ r.third ∷ []

-- ------------------------------------------------------------ equal gates

-- What the words of two records say of their gates: that they are equal and cancel.
unfoldable pub cancels_by : Record → Record → Bool
cancels_by x y =
    has x.kind seven && (eqb x.kind y.kind && same (ordered x.kind (words_of x)) (ordered y.kind (words_of y)))

-- ------------------------------------------------------------ canonical pairs

abbrev pub on_two : (Wire → Wire → CommutingPair) → List ℕ → Answer CommutingPair
on_two pair [] = None
on_two pair (a ∷ []) = None
on_two pair (a ∷ b ∷ l) = Some (pair (wire a) (wire b))

abbrev pub on_three : (Wire → Wire → Wire → CommutingPair) → List ℕ → Answer CommutingPair
on_three pair [] = None
on_three pair (a ∷ []) = None
on_three pair (a ∷ b ∷ []) = None
on_three pair (a ∷ b ∷ c ∷ l) = Some (pair (wire a) (wire b) (wire c))

-- The "canonical pair" of a cnot, cz, ccx or ccz: its kind, and its wires in canonical order.
unfoldable pub pair_of : Gate → Answer CommutingPair
pair_of g =
    cond (eqb (kind_of g) 8) (on_two CommutingPair.Cnot (canonical g))
    (cond (eqb (kind_of g) 9) (on_two CommutingPair.Cz (canonical g))
    (cond (eqb (kind_of g) 10) (on_three CommutingPair.Ccx (canonical g))
    (cond (eqb (kind_of g) 11) (on_three CommutingPair.Ccz (canonical g)) None)))

-- A pair as a gate; its wires are the operands in the order in which they are walked.
unfoldable pub as_gate : CommutingPair → Gate
as_gate (CommutingPair.Cnot c t) = Gates.Cnot c t
as_gate (CommutingPair.Cz a b) = Gates.Cz a b
as_gate (CommutingPair.Ccx a b t) = Gates.Ccx a b t
as_gate (CommutingPair.Ccz a b c) = Gates.Ccz a b c

-- ------------------------------------------------------------ runs

-- The worth that an answer of the code stands for.
abbrev pub eighths_of : Answer ℕ → Option ℕ
eighths_of (Some k) = some k
eighths_of None = none

-- What a gate of a kind is worth: t 1, s 2, z 4, sdg 6, tdg 7.
unfoldable pub worth_by : ℕ → Option ℕ
worth_by kind =
    cond (eqb kind 5) (some 1)
    (cond (eqb kind 2) (some 2)
    (cond (eqb kind 4) (some 4)
    (cond (eqb kind 3) (some 6)
    (cond (eqb kind 6) (some 7) none))))
