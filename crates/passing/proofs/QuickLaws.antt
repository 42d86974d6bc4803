-- May-pass by records: the table of kinds says what the rules say of gates that share a wire with the pair.
use Rattle.std.specs.Prelude.{Some}
use mathlib.Core.Path.{◌≡◌, refl, ap, ap₂, sym, ◌∙◌}
use mathlib.Core.Bool.{Bool, true, false, not, ◌||◌, ◌&&◌, and_comm, and_assoc, or-false}
use mathlib.Core.List.{List, [], ◌∷◌, ◌++◌}
use Prim.Native.Nat.{ℕ, ◌<◌}
use native.Mathlib.Omega.{arith}
use Rattle.std.proofs.lemmas.Grind.{common_steps}
use lib.Dec.{eqb}
use lib.ListN.{take, drop}
use Rattle.gates.specs.declared.Gate.{Gate}
use Rattle.gates.specs.declared.Gate.TheVariants.{X, H, S, Sdg, Z, T, Tdg, Cnot, Cz, Ccx, Ccz, Measure, Reset, Y, Sx, Swap, Cy, Ch, Cswap}
use Rattle.gates.specs.Gates.{wires_of, has, meet, touches, shares, twice}
use Rattle.gates.specs.Records.{record_of, kind_of}
use Rattle.rules.specs.MayPass.{Class, x, cnot, ccx, diagonal, other, class_of, off, past_cnot, past_diagonal, past_ccx, past, may_pass}
use Rattle.rules.specs.Equal.{inserted, sorted, ordered, canonical}
use Rattle.rules.proofs.EqualLaws.{eqb_comm, sorted-has}
use Rattle.leaves.specs.declared.pairs.CommutingPair.{CommutingPair}
use Rattle.leaves.specs.Answers.{pair_of, as_gate}
use Rattle.leaves.proofs.PairLaws.{pair-wires}
use Rattle.passing.specs.declared.quick.Past.{Past}
use Rattle.passing.specs.Quick.{past_of, beside, passes_by}
use Rattle.passing.proofs.PassingLaws.{off_part, off-3, none_1, none_2, none-3}

-- ------------------------------------------------------------ a gate by its class

abbrev reads : Past → List ℕ
reads p = p.first ∷ p.second ∷ p.third ∷ []

-- What a record's answer says in the rules' terms, with the gate's wires and class.
data Seen (p : Past) (answer : Bool) : List ℕ → Class → Type 0 where
  seen_x : (w : ℕ) → answer ≡ off w (reads p) → Seen p answer (w ∷ []) (x w)
  seen_cnot : (d u : ℕ) → answer ≡ (off p.target (d ∷ []) && off u (reads p)) → Seen p answer (d ∷ u ∷ []) (cnot d u)
  seen_ccx : (d f u : ℕ) → answer ≡ (not p.cnot && off p.target (d ∷ f ∷ []) && off u (reads p)) → Seen p answer (d ∷ f ∷ u ∷ []) (ccx d f u)
  seen_diagonal : (ws : List ℕ) → answer ≡ off p.target ws → Seen p answer ws (diagonal ws)
  seen_other : (ws : List ℕ) → answer ≡ false → Seen p answer ws other

seen : (p : Past) (g : Gate) → Seen p (passes_by p (record_of g)) (wires_of g) (class_of g)
unfolding passes_by record_of wires_of class_of
seen p (X w) = seen_x _ (off-3 _ _ _ _)
seen p (H w) = seen_other _ refl
seen p (S w) = seen_diagonal _ (none_1 _ _)
seen p (Sdg w) = seen_diagonal _ (none_1 _ _)
seen p (Z w) = seen_diagonal _ (none_1 _ _)
seen p (T w) = seen_diagonal _ (none_1 _ _)
seen p (Tdg w) = seen_diagonal _ (none_1 _ _)
seen p (Cnot d u) = seen_cnot _ _ (ap₂ ◌&&◌ (none_1 _ _) (off-3 _ _ _ _))
seen p (Cz d u) = seen_diagonal _ (none_2 _ _ _)
seen p (Ccx d f u) = seen_ccx _ _ _ (ap₂ ◌&&◌ (and_assoc (not p.cnot) (beside p d.0) (beside p f.0) ∙ ap (λ (b : Bool). not p.cnot && b) (none_2 _ _ _)) (off-3 _ _ _ _))
seen p (Ccz d f u) = seen_diagonal _ (none-3 _ _ _ _)
seen p (Measure w b) = seen_other _ refl
seen p (Reset w) = seen_other _ refl
seen p (Y w) = seen_other _ refl
seen p (Sx w) = seen_other _ refl
seen p (Swap a b) = seen_other _ refl
seen p (Cy d u) = seen_other _ refl
seen p (Ch d u) = seen_other _ refl
seen p (Cswap d a b) = seen_other _ refl

-- ------------------------------------------------------------ past each pair

-- a gate of one wire shares it or none
meets-one : (vs : List ℕ) (w : ℕ) → meet vs (w ∷ []) ≡ has w vs
unfolding has meet
meets-one [] w = refl
meets-one (v ∷ vs) w = ap₂ ◌||◌ (or-false (eqb v w) ∙ eqb_comm v w) (meets-one vs w)

has-once : (w c : ℕ) → has w (c ∷ c ∷ c ∷ []) ≡ has w (c ∷ [])
unfolding has
has-once w c = grind (arith, common_steps)

has_both : (w a b : ℕ) → has w (a ∷ b ∷ b ∷ []) ≡ has w (a ∷ b ∷ [])
unfolding has
has_both w a b = grind (arith, common_steps)

-- the largest word is no wire of the gate
no-wire : (ws : List ℕ) → ((w : ℕ) → has w ws ≡ true → w < 4294967295) → off 4294967295 ws ≡ true
no-wire ws below = grind (arith, common_steps, below 4294967295)

seen-past-cnot : (c t : ℕ) {b : Bool} {ws : List ℕ} {k : Class}
    → Seen (record { cnot = true; target = t; first = c; second = c; third = c }) b ws k → b ≡ past_cnot c t k
seen-past-cnot c t (seen_x w e) = e ∙ ap not (has-once w c)
seen-past-cnot c t (seen_cnot d u e) = e ∙ ap (λ (h : Bool). off t (d ∷ []) && not h) (has-once u c)
seen-past-cnot c t (seen_ccx d f u e) = e
seen-past-cnot c t (seen_diagonal ws e) = e
seen-past-cnot c t (seen_other ws e) = e

seen-past-diagonal : (a b c : ℕ) (vs : List ℕ) → ((w : ℕ) → has w (a ∷ b ∷ c ∷ []) ≡ has w vs) → {answer : Bool} {ws : List ℕ} {k : Class}
    → Seen (record { cnot = false; target = 4294967295; first = a; second = b; third = c }) answer ws k
    → meet vs ws ≡ true → ((w : ℕ) → has w ws ≡ true → w < 4294967295) → answer ≡ past_diagonal vs k
seen-past-diagonal a b c vs alike (seen_x w e) m below = e ∙ ap not (alike w ∙ sym (meets-one vs w) ∙ m)
seen-past-diagonal a b c vs alike (seen_cnot d u e) m below =
    e ∙ ap₂ ◌&&◌ (off_part (d ∷ []) (u ∷ []) _ (no-wire _ below)) (ap not (alike u))
seen-past-diagonal a b c vs alike (seen_ccx d f u e) m below =
    e ∙ ap₂ ◌&&◌ (off_part (d ∷ f ∷ []) (u ∷ []) _ (no-wire _ below)) (ap not (alike u))
seen-past-diagonal a b c vs alike (seen_diagonal ws e) m below = e ∙ no-wire ws below
seen-past-diagonal a b c vs alike (seen_other ws e) m below = e

-- the only wire on which an x meets a ccx and passes it is the target, which is no control
x-on-target : (a b t w : ℕ) → off t (a ∷ b ∷ []) ≡ true → has w (a ∷ b ∷ t ∷ []) ≡ true → off w (a ∷ b ∷ []) ≡ eqb w t
unfolding has
x-on-target a b t w free h = grind (arith, common_steps)

seen-past-ccx : (a b t : ℕ) {answer : Bool} {ws : List ℕ} {k : Class}
    → Seen (record { cnot = false; target = t; first = a; second = b; third = b }) answer ws k
    → off t (a ∷ b ∷ []) ≡ true → meet (a ∷ b ∷ t ∷ []) ws ≡ true → answer ≡ past_ccx a b t k
seen-past-ccx a b t (seen_x w e) free m = e ∙ ap not (has_both w a b) ∙ x-on-target a b t w free (sym (meets-one _ w) ∙ m)
seen-past-ccx a b t (seen_cnot d u e) free m = e ∙ and_comm (off t (d ∷ [])) _ ∙ ap (λ (h : Bool). not h && off t (d ∷ [])) (has_both u a b)
seen-past-ccx a b t (seen_ccx d f u e) free m = e ∙ and_comm (off t (d ∷ f ∷ [])) _ ∙ ap (λ (h : Bool). not h && off t (d ∷ f ∷ [])) (has_both u a b)
seen-past-ccx a b t (seen_diagonal ws e) free m = e
seen-past-ccx a b t (seen_other ws e) free m = e

-- ------------------------------------------------------------ the pair of a gate whose wires are distinct

has-inserted : (u a : ℕ) (l : List ℕ) → has u (inserted a l) ≡ has u (a ∷ l)
unfolding has inserted
has-inserted u a [] = refl
has-inserted u a (b ∷ l) = grind (arith, common_steps, has-inserted u a l)

twice-inserted : (a : ℕ) (l : List ℕ) → twice (inserted a l) ≡ twice (a ∷ l)
unfolding has inserted twice
twice-inserted a [] = refl
twice-inserted a (b ∷ l) = grind (arith, common_steps, twice-inserted a l, has-inserted b a l, eqb_comm a b)

twice-sorted : (l : List ℕ) → twice (sorted l) ≡ twice l
unfolding sorted twice
twice-sorted [] = refl
twice-sorted (a ∷ l) = twice-inserted a (sorted l) ∙ ap₂ ◌||◌ (sorted-has a l) (twice-sorted l)

twice-first-two : (l : List ℕ) → twice (sorted (take 2 l) ++ drop 2 l) ≡ twice l
unfolding has sorted inserted twice
twice-first-two [] = refl
twice-first-two (a ∷ []) = refl
twice-first-two (a ∷ b ∷ l) = grind (arith, common_steps, eqb_comm a b)

twice-ordered : (kind : ℕ) (l : List ℕ) → twice (ordered kind l) ≡ twice l
unfolding ordered
twice-ordered kind l = grind (arith, common_steps, twice-sorted l, twice-first-two l)

-- so that a valid gate's pair has what the law asks of it
pub pair-once : (g : Gate) (pair : CommutingPair) → pair_of g ≡ Some pair → twice (wires_of g) ≡ false → twice (wires_of (as_gate pair)) ≡ false
unfolding canonical
pair-once g pair e once = ap twice (pair-wires g pair e) ∙ twice-ordered (kind_of g) (wires_of g) ∙ once

-- ------------------------------------------------------------ the law

last-once : (a b t : ℕ) → twice (a ∷ b ∷ t ∷ []) ≡ false → off t (a ∷ b ∷ []) ≡ true
unfolding has twice
last-once a b t e = grind (arith, common_steps)

by-class : (pair : CommutingPair) (g : Gate) → twice (wires_of (as_gate pair)) ≡ false → shares (as_gate pair) g ≡ true
    → ((w : ℕ) → touches w g ≡ true → w < 4294967295) → passes_by (past_of pair) (record_of g) ≡ past (class_of (as_gate pair)) (class_of g)
unfolding as_gate past_of class_of past wires_of
by-class (CommutingPair.Cnot c t) g once met below = seen-past-cnot c.0 t.0 (seen _ g)
by-class (CommutingPair.Cz a b) g once met below = seen-past-diagonal a.0 b.0 b.0 _ (λ w. has_both w a.0 b.0) (seen _ g) met below
by-class (CommutingPair.Ccx a b t) g once met below = seen-past-ccx a.0 b.0 t.0 (seen _ g) (last-once a.0 b.0 t.0 once) met
by-class (CommutingPair.Ccz a b c) g once met below = seen-past-diagonal a.0 b.0 c.0 _ (λ w. refl) (seen _ g) met below

-- The answer by records is the rules', of a gate that shares a wire with the pair. The pair's wires are distinct because past a
-- ccx with its target among its controls the rules pass an x on that wire, and the records do not.
pub quick-passes : (pair : CommutingPair) (g : Gate) → twice (wires_of (as_gate pair)) ≡ false → shares (as_gate pair) g ≡ true
    → ((w : ℕ) → touches w g ≡ true → w < 4294967295) → passes_by (past_of pair) (record_of g) ≡ may_pass (as_gate pair) g
quick-passes pair g once met below = by-class pair g once met below ∙ rw met
