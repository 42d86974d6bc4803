-- Canonical pairs: which gates have one, and that it has their wires, passes the same gates, and tells equal gates.
use mathlib.Core.Path.{◌≡◌, refl, ap, ap₂, sym, subst, ◌∙◌}
use mathlib.Core.Bool.{Bool, true, false, not, cond, ◌||◌}
use mathlib.Core.List.{List, [], ◌∷◌}
use Prim.Native.Nat.{ℕ}
use native.Mathlib.Omega.{arith}
use lib.Dec.{leb}
use Rattle.gates.specs.declared.Wire.{Wire}
use Rattle.gates.specs.declared.Gate.{Gate}
use Rattle.gates.specs.declared.Gate.TheVariants.{X, H, S, Sdg, Z, T, Tdg, Cnot, Cz, Ccx, Ccz, Measure, Reset, Y, Sx, Swap, Cy, Ch, Cswap}
use Rattle.gates.specs.Gates.{wires_of, has, meet}
use Rattle.gates.specs.Records.{kind_of, record_of}
use Rattle.leaves.specs.declared.pairs.CommutingPair.{CommutingPair}
use Rattle.std.specs.Prelude.{Some, None}
use Rattle.rules.specs.Equal.{inserted, sorted, ordered, canonical, equal, is_pair}
use Rattle.leaves.specs.Answers.{pair_of, as_gate}
use Rattle.rules.specs.MayPass.{Class, class_of, past_ccx, past_diagonal, past, may_pass}
use Rattle.rules.proofs.EqualLaws.{sorted-has, canonical-meet, equal-parts, is-equal}

-- ------------------------------------------------------------ canonical pairs

sorted-two : (a b : Wire) → (v w : Wire) × (v.0 ∷ w.0 ∷ [] ≡ sorted (a.0 ∷ b.0 ∷ []))
unfolding sorted inserted
sorted-two a b = go (leb a.0 b.0)
  where
    go : (up : Bool) → (v w : Wire) × (v.0 ∷ w.0 ∷ [] ≡ cond up (a.0 ∷ b.0 ∷ []) (b.0 ∷ a.0 ∷ []))
    go true = (a, b, refl)
    go false = (b, a, refl)

inserted-in-two : (a v w : Wire) → (x y z : Wire) × (x.0 ∷ y.0 ∷ z.0 ∷ [] ≡ inserted a.0 (v.0 ∷ w.0 ∷ []))
unfolding inserted
inserted-in-two a v w = go (leb a.0 v.0) (leb a.0 w.0)
  where
    go : (s t : Bool)
        → (x y z : Wire) × (x.0 ∷ y.0 ∷ z.0 ∷ [] ≡ cond s (a.0 ∷ v.0 ∷ w.0 ∷ []) (v.0 ∷ cond t (a.0 ∷ w.0 ∷ []) (w.0 ∷ a.0 ∷ [])))
    go true t = (a, v, w, refl)
    go false true = (v, a, w, refl)
    go false false = (v, w, a, refl)

sorted-three : (a b c : Wire) → (x y z : Wire) × (x.0 ∷ y.0 ∷ z.0 ∷ [] ≡ sorted (a.0 ∷ b.0 ∷ c.0 ∷ []))
unfolding sorted
sorted-three a b c =
    let (v, w, rest) = sorted-two b c in
    let (x, y, z, all) = inserted-in-two a v w in
    (x, y, z, all ∙ ap (inserted a.0) rest)

-- a gate and its pair
data PairFor : Gate → CommutingPair → Type 0 where
  for_cnot : (c t : Wire) → PairFor (Cnot c t) (CommutingPair.Cnot c t)
  for_cz : (a b v w : Wire) → v.0 ∷ w.0 ∷ [] ≡ sorted (a.0 ∷ b.0 ∷ []) → PairFor (Cz a b) (CommutingPair.Cz v w)
  for_ccx : (a b t v w : Wire) → v.0 ∷ w.0 ∷ [] ≡ sorted (a.0 ∷ b.0 ∷ [])
      → PairFor (Ccx a b t) (CommutingPair.Ccx v w t)
  for_ccz : (a b c u v w : Wire) → u.0 ∷ v.0 ∷ w.0 ∷ [] ≡ sorted (a.0 ∷ b.0 ∷ c.0 ∷ [])
      → PairFor (Ccz a b c) (CommutingPair.Ccz u v w)

paired : {g : Gate} {p : CommutingPair} → PairFor g p → Some p ≡ pair_of g
unfolding pair_of canonical ordered has record_of wires_of
paired (for_cnot c t) = refl
paired (for_cz a b v w e) = rw (← e)
paired (for_ccx a b t v w e) = rw (← e)
paired (for_ccz a b c u v w e) = rw (← e)

-- the pair that is found is the pair that is given
found-for : {g : Gate} {q : CommutingPair} → PairFor g q → (p : CommutingPair) → pair_of g ≡ Some p → PairFor g p
found-for {g} {q} f p e = let is : q ≡ p = cc (paired f) in subst (PairFor g) is f

none-for : (g : Gate) (p : CommutingPair) → None ≡ Some p → PairFor g p
none-for g p e = let z : ◌≡◌ {A = ℕ} 0 1 = cc in absurd (omega arith)

pair-for : (g : Gate) (p : CommutingPair) → pair_of g ≡ Some p → PairFor g p
unfolding pair_of canonical ordered has record_of wires_of
pair-for (X w) p e = none-for _ p e
pair-for (H w) p e = none-for _ p e
pair-for (S w) p e = none-for _ p e
pair-for (Sdg w) p e = none-for _ p e
pair-for (Z w) p e = none-for _ p e
pair-for (T w) p e = none-for _ p e
pair-for (Tdg w) p e = none-for _ p e
pair-for (Cnot c t) p e = found-for (for_cnot c t) p e
pair-for (Cz a b) p e = let (v, w, sorts) = sorted-two a b in found-for (for_cz a b v w sorts) p e
pair-for (Ccx a b t) p e = let (v, w, sorts) = sorted-two a b in found-for (for_ccx a b t v w sorts) p e
pair-for (Ccz a b c) p e = let (u, v, w, sorts) = sorted-three a b c in found-for (for_ccz a b c u v w sorts) p e
pair-for (Measure w b) p e = none-for _ p e
pair-for (Reset w) p e = none-for _ p e
pair-for (Y w) p e = none-for _ p e
pair-for (Sx w) p e = none-for _ p e
pair-for (Swap a b) p e = none-for _ p e
pair-for (Cy c t) p e = none-for _ p e
pair-for (Ch c t) p e = none-for _ p e
pair-for (Cswap c a b) p e = none-for _ p e

-- ------------------------------------------------------------ a pair's wires and kind

about-pair : {g : Gate} {p : CommutingPair} → PairFor g p
    → (wires_of (as_gate p) ≡ canonical g) × (kind_of (as_gate p) ≡ kind_of g) × (is_pair g ≡ true)
unfolding canonical ordered has record_of wires_of as_gate
about-pair (for_cnot c t) = (refl, refl, refl)
about-pair (for_cz a b v w e) = (rw (← e), refl, refl)
about-pair (for_ccx a b t v w e) = (rw (← e), refl, refl)
about-pair (for_ccz a b c u v w e) = (e, refl, refl)

pub pair-wires : (g : Gate) (p : CommutingPair) → pair_of g ≡ Some p → wires_of (as_gate p) ≡ canonical g
pair-wires g p e = (about-pair (pair-for g p e)).0

pub pair-kind : (g : Gate) (p : CommutingPair) → pair_of g ≡ Some p → kind_of (as_gate p) ≡ kind_of g
pair-kind g p e = (about-pair (pair-for g p e)).1

-- ------------------------------------------------------------ what may pass a gate may pass its pair

diagonal-alike : (vs ws : List ℕ) → ((u : ℕ) → has u vs ≡ has u ws) → (k : Class) → past_diagonal vs k ≡ past_diagonal ws k
diagonal-alike vs ws alike (Class.x u) = refl
diagonal-alike vs ws alike (Class.diagonal us) = refl
diagonal-alike vs ws alike (Class.cnot d u) = ap not (alike u)
diagonal-alike vs ws alike (Class.ccx d e u) = ap not (alike u)
diagonal-alike vs ws alike Class.other = refl

controls-alike : (a b v w t : ℕ) → ((u : ℕ) → has u (v ∷ w ∷ []) ≡ has u (a ∷ b ∷ [])) → (k : Class)
    → past_ccx v w t k ≡ past_ccx a b t k
controls-alike a b v w t alike (Class.x u) = refl
controls-alike a b v w t alike (Class.diagonal us) = refl
controls-alike a b v w t alike (Class.cnot d u) = rw (alike u)
controls-alike a b v w t alike (Class.ccx d e u) = rw (alike u)
controls-alike a b v w t alike Class.other = refl

past-for : {g : Gate} {p : CommutingPair} → PairFor g p → (k : Class) → past (class_of (as_gate p)) k ≡ past (class_of g) k
unfolding past class_of as_gate
past-for (for_cnot c t) k = refl
past-for (for_cz a b v w e) k = diagonal-alike _ _ (λ u. ap (has u) e ∙ sorted-has u _) k
past-for (for_ccx a b t v w e) k = controls-alike _ _ _ _ _ (λ u. ap (has u) e ∙ sorted-has u _) k
past-for (for_ccz a b c u v w e) k = diagonal-alike _ _ (λ n. ap (has n) e ∙ sorted-has n _) k

-- canonical order does not matter to which gates may pass
pub pair-passes : (g : Gate) (p : CommutingPair) (h : Gate) → pair_of g ≡ Some p → may_pass (as_gate p) h ≡ may_pass g h
pair-passes g p h e =
    let shared = ap (λ (l : List ℕ). meet l (wires_of h)) (pair-wires g p e) ∙ canonical-meet g (wires_of h) in
    ap₂ (λ (s t : Bool). not s || t) shared (past-for (pair-for g p e) (class_of h))

-- ------------------------------------------------------------ which gates have a pair

pub is-pair : (g : Gate) (p : CommutingPair) → pair_of g ≡ Some p → is_pair g ≡ true
is-pair g p e = (about-pair (pair-for g p e)).2

-- ------------------------------------------------------------ pairs and equal gates

pub same-pair : (a b : Gate) (p : CommutingPair) → pair_of a ≡ Some p → equal a b ≡ true → pair_of b ≡ Some p
unfolding pair_of
same-pair a b p e q = let parts = equal-parts a b q in rw (← parts.0, ← parts.1) e

pub pair_same : (a b : Gate) (p : CommutingPair) → pair_of a ≡ Some p → pair_of b ≡ Some p → equal a b ≡ true
pair_same a b p e q =
    is-equal a b (sym (pair-kind a p e) ∙ pair-kind b p q) (sym (pair-wires a p e) ∙ pair-wires b p q)
