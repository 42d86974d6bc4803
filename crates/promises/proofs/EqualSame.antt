-- Equal gates do the same; so equal cancelling gates undo one another.
use Rattle.std.specs.Prelude.{Result, Ok, Err}
use mathlib.Core.Path.{◌≡◌, refl, sym, ◌∙◌, ap₂, subst}
use mathlib.Core.Bool.{Bool, false≢true, true, false, cond}
use mathlib.Core.List.{List, [], ◌∷◌, ◌++◌}
use Prim.Native.Nat.{ℕ}
use lib.Dec.{leb}
use lib.ListN.{get_or}
use Rattle.gates.specs.declared.Wire.{Wire}
use Rattle.gates.specs.declared.Gate.{Gate}
use Rattle.gates.specs.declared.Gate.TheVariants.{X, H, S, Sdg, Z, T, Tdg, Cnot, Cz, Ccx, Ccz, Measure, Reset, Y, Sx, Swap, Cy, Ch, Cswap}
use Rattle.gates.specs.declared.records.NoGate.{NoGate}
use Rattle.gates.specs.Kinds.{shapes, shape_of}
use Rattle.gates.specs.Gates.{wire, wires_of, has}
use Rattle.gates.specs.Records.{record_of, kind_of, named_by}
use Rattle.rules.specs.Equal.{inserted, sorted, ordered, canonical, equal}
use Rattle.rules.proofs.EqualLaws.{equal-parts}
use Rattle.meaning.specs.Amplitudes.{Ops, times}
use Rattle.meaning.specs.States.{Config}
use Rattle.meaning.proofs.SumLaws.{Laws}
use Rattle.meaning.proofs.Operators.{step, turned}
use Rattle.meaning.proofs.Paths.{Distinct}
use Rattle.meaning.proofs.GateOperators.{operator, distinct-wires}
use Rattle.meaning.proofs.Lists.{Proper, drive}
use Rattle.meaning.proofs.Placed.{placed, tested_on, drives}
use Rattle.meaning.proofs.Identities.{cz-order, ccx-order, ccz-first, ccz-last}
use Rattle.meaning.proofs.Undo.{self_inverse, undo}

-- ------------------------------------------------------------ the gate of a kind on some wires

abbrev gate_in : Result Gate NoGate → Gate
gate_in (Ok g) = g
gate_in (Err NoGate.Angle) = X (wire 0)
gate_in (Err NoGate.Unknown) = X (wire 0)
gate_in (Err NoGate.NotZero) = X (wire 0)

form : ℕ → List ℕ → Gate
form k l = gate_in (named_by k (get_or l 0 0) (get_or l 1 0) (get_or l 2 0))

module _ {A : Type 0} (O : Ops A) (L : Laws O) where
  abbrev SameGate : Gate → Gate → Type 0
  SameGate g k = (c : Config A) → drive O (g ∷ []) c ≡ drive O (k ∷ []) c

  -- ------------------------------------------------------------ wires in another order

  cz-swapped : (a b : Wire) → Distinct (a.0 ∷ b.0 ∷ []) → SameGate (Cz a b) (Cz b a)
  unfolding placed tested_on turned times
  cz-swapped a b d c = drives O L cz-order tt (a.0 ∷ b.0 ∷ []) refl d c

  ccx-swapped : (a b t : Wire) → Distinct (a.0 ∷ b.0 ∷ t.0 ∷ []) → SameGate (Ccx a b t) (Ccx b a t)
  unfolding placed tested_on turned times
  ccx-swapped a b t d c = drives O L ccx-order tt (a.0 ∷ b.0 ∷ t.0 ∷ []) refl d c

  ccz-first-two : (a b t : Wire) → Distinct (a.0 ∷ b.0 ∷ t.0 ∷ []) → SameGate (Ccz a b t) (Ccz b a t)
  unfolding placed tested_on turned times
  ccz-first-two a b t d c = drives O L ccz-first tt (a.0 ∷ b.0 ∷ t.0 ∷ []) refl d c

  ccz-last-two : (a b t : Wire) → Distinct (a.0 ∷ b.0 ∷ t.0 ∷ []) → SameGate (Ccz a b t) (Ccz a t b)
  unfolding placed tested_on turned times
  ccz-last-two a b t d c = drives O L ccz-last tt (a.0 ∷ b.0 ∷ t.0 ∷ []) refl d c

  -- ------------------------------------------------------------ canonical order

  first-swapped : (a b t : ℕ) → Distinct (a ∷ b ∷ t ∷ []) → Distinct (b ∷ a ∷ t ∷ [])
  first-swapped a b t d = (((λ e. d.0.0 (sym e)), (d.1.0.0, tt)), ((d.0.1.0, tt), (tt, tt)))

  last-swapped : (a b t : ℕ) → Distinct (a ∷ b ∷ t ∷ []) → Distinct (a ∷ t ∷ b ∷ [])
  last-swapped a b t d = ((d.0.1.0, (d.0.0, tt)), (((λ e. d.1.0.0 (sym e)), tt), (tt, tt)))

  cz-canonical : (a b : Wire) → Distinct (a.0 ∷ b.0 ∷ []) → (t : Bool) →
      SameGate (Cz a b) (form 9 (cond t (a.0 ∷ b.0 ∷ []) (b.0 ∷ a.0 ∷ []) ++ []))
  unfolding form named_by shape_of shapes
  cz-canonical a b d true c = refl
  cz-canonical a b d false c = cz-swapped a b d c

  ccx-canonical : (a b t : Wire) → Distinct (a.0 ∷ b.0 ∷ t.0 ∷ []) → (u : Bool) →
      SameGate (Ccx a b t) (form 10 (cond u (a.0 ∷ b.0 ∷ []) (b.0 ∷ a.0 ∷ []) ++ (t.0 ∷ [])))
  unfolding form named_by shape_of shapes
  ccx-canonical a b t d true c = refl
  ccx-canonical a b t d false c = ccx-swapped a b t d c

  ccz-inserted : (a b t : Wire) → Distinct (a.0 ∷ b.0 ∷ t.0 ∷ []) → (u v : Bool) →
      SameGate (Ccz a b t) (form 11 (cond u (a.0 ∷ b.0 ∷ t.0 ∷ []) (b.0 ∷ cond v (a.0 ∷ t.0 ∷ []) (t.0 ∷ a.0 ∷ []))))
  unfolding form named_by shape_of shapes
  ccz-inserted a b t d true v c = refl
  ccz-inserted a b t d false true c = ccz-first-two a b t d c
  ccz-inserted a b t d false false c =
      ccz-first-two a b t d c ∙ ccz-last-two b a t (first-swapped a.0 b.0 t.0 d) c

  ccz-canonical : (a b t : Wire) → Distinct (a.0 ∷ b.0 ∷ t.0 ∷ []) → (u : Bool) →
      SameGate (Ccz a b t) (form 11 (inserted a.0 (cond u (b.0 ∷ t.0 ∷ []) (t.0 ∷ b.0 ∷ []))))
  unfolding inserted
  ccz-canonical a b t d true c = ccz-inserted a b t d (leb a.0 b.0) (leb a.0 t.0) c
  ccz-canonical a b t d false c =
      ccz-last-two a b t d c
      ∙ ccz-inserted a t b (last-swapped a.0 b.0 t.0 d) (leb a.0 t.0) (leb a.0 b.0) c

  -- A gate that undoes itself does what the gate of its kind on its wires in canonical order does.
  canonical-same : (g : Gate) → has (kind_of g) self_inverse ≡ true → Proper g → SameGate g (form (kind_of g) (canonical g))
  unfolding record_of has wires_of form named_by shape_of shapes canonical ordered sorted inserted
  canonical-same (X w) h d c = refl
  canonical-same (H w) h d c = refl
  canonical-same (S w) h d c = absurd (false≢true h)
  canonical-same (Sdg w) h d c = absurd (false≢true h)
  canonical-same (Z w) h d c = refl
  canonical-same (T w) h d c = absurd (false≢true h)
  canonical-same (Tdg w) h d c = absurd (false≢true h)
  canonical-same (Cnot v t) h d c = refl
  canonical-same (Cz a b) h d c = cz-canonical a b (distinct-wires (a.0 ∷ b.0 ∷ []) d) (leb a.0 b.0) c
  canonical-same (Ccx a b t) h d c = ccx-canonical a b t (distinct-wires (a.0 ∷ b.0 ∷ t.0 ∷ []) d) (leb a.0 b.0) c
  canonical-same (Ccz a b t) h d c = ccz-canonical a b t (distinct-wires (a.0 ∷ b.0 ∷ t.0 ∷ []) d) (leb b.0 t.0) c
  canonical-same (Measure w b) h d c = absurd (false≢true h)
  canonical-same (Reset w) h d c = absurd (false≢true h)
  canonical-same (Y w) h d c = refl
  canonical-same (Sx w) h d c = absurd (false≢true h)
  canonical-same (Swap a b) h d c = refl
  canonical-same (Cy v t) h d c = refl
  canonical-same (Ch v t) h d c = refl
  canonical-same (Cswap v a b) h d c = refl

  -- ------------------------------------------------------------ equal gates

  pub equal-same : (a b : Gate) → has (kind_of a) self_inverse ≡ true → equal a b ≡ true → Proper a → Proper b → SameGate a b
  equal-same a b h e d f c = let q = equal-parts a b e in
      canonical-same a h d c
      ∙ ap₂ (λ k l. drive O (form k l ∷ []) c) q.0 q.1
      ∙ sym (canonical-same b (subst (λ k. has k self_inverse ≡ true) q.0 h) f c)

  pub equal-undo : (a b : Gate) → has (kind_of a) self_inverse ≡ true → equal a b ≡ true → Proper a → Proper b → (c : Config A) →
      drive O (a ∷ b ∷ []) c ≡ c
  unfolding drive
  equal-undo a b h e d f c = sym (equal-same a b h e d f (step O (operator a) c)) ∙ undo O L a h d c
