-- Two h on a wire, and between them a run or one x: the rewrite does the same, but for its turns.
use mathlib.Core.Path.{◌≡◌, refl, sym, ◌∙◌, ap, ap₂, subst}
use mathlib.Core.Bool.{Bool, false≢true, true, false, cond}
use mathlib.Core.List.{List, [], ◌∷◌, ◌++◌, append-nil, append_assoc, map-append}
use mathlib.Core.Option.{Option, some, none}
use Prim.Native.Nat.{ℕ, ◌%◌}
use native.Mathlib.Nat as NatL
use lib.Dec.{eqb}
use lib.IntN.{ℤ}
use borrow.Author.Tests.{eqb-true}
use Rattle.gates.specs.declared.Gate.{Gate}
use Rattle.gates.specs.declared.Gate.TheVariants.{X, H, S, Sdg, Z, T, Tdg, Cnot, Cz, Ccx, Ccz, Measure, Reset, Y, Sx, Swap, Cy, Ch, Cswap}
use Rattle.gates.specs.Kinds.{shapes, shape_of}
use Rattle.gates.specs.Gates.{wire, wires_of, touches, All}
use Rattle.gates.specs.Records.{kind_of}
use Rattle.rules.specs.Runs.{worth, plus, sum_of, Rewrite, rewrite, by_eighths, by_sum, lone_x, rewrite_of}
use Rattle.rules.specs.Steps.{Cell, first_of, gates_of, track, off_wire, put, put_first}
use Rattle.rules.proofs.Between.{of-one-wire}
use Rattle.meaning.specs.Amplitudes.{Ops}
use Rattle.meaning.specs.States.{Config}
use Rattle.meaning.proofs.SumLaws.{Laws}
use Rattle.meaning.proofs.Operators.{plain, step, turned}
use Rattle.meaning.proofs.GateOperators.{operator, phase}
use Rattle.meaning.proofs.Lists.{Same, drive, same-inside, phase-none, phase-plus, phase-mod}
use Rattle.meaning.proofs.Placed.{placed, tested_on, drives}
use Rattle.meaning.proofs.Identities.{h-h, h-x-h, h-z-h, h-s-h, h-sdg-h}
use Rattle.promises.specs.Turns.{turns_for, turns_between, modulo8}
use Rattle.promises.proofs.Parting.{Only, on-wire, track-on, put-none, busy, Runs, runs-cons, runs-before, runs_after, parted, first-moved, last-moved}

-- ------------------------------------------------------------ runs

-- A gate that is worth j turns by j eighths where its only wire is 1.
record Phased (g : Gate) (j : ℕ) : Type 0 where
  is : operator g ≡ phase j (first_of (wires_of g))
  alone : wires_of g ≡ first_of (wires_of g) ∷ []

abbrev PhasedIf : Gate → Option ℕ → Type 0
PhasedIf g none = Unit {0}
PhasedIf g (some j) = Phased g j

phased : (g : Gate) → PhasedIf g (worth g)
unfolding worth operator wires_of
phased (X w) = tt
phased (H w) = tt
phased (S w) = record { is = refl; alone = refl }
phased (Sdg w) = record { is = refl; alone = refl }
phased (Z w) = record { is = refl; alone = refl }
phased (T w) = record { is = refl; alone = refl }
phased (Tdg w) = record { is = refl; alone = refl }
phased (Cnot c t) = tt
phased (Cz c t) = tt
phased (Ccx c d t) = tt
phased (Ccz c d t) = tt
phased (Measure w b) = tt
phased (Reset w) = tt
phased (Y w) = tt
phased (Sx w) = tt
phased (Swap a b) = tt
phased (Cy c t) = tt
phased (Ch c t) = tt
phased (Cswap c a b) = tt

module _ {B : Type 0} (O : Ops B) (L : Laws O) where
  -- A run of sum k is one turn by k eighths where the wire is 1.
  record Run (w : ℕ) (t : List Gate) (k : ℕ) : Type 0 where
    turns : (c : Config B) → drive O t c ≡ plain O (phase k w) c
    only : All (Only w) t

  abbrev RunIf : ℕ → List Gate → Option ℕ → Type 0
  RunIf w t none = Unit {0}
  RunIf w t (some k) = Run w t k

  run_of : (w : ℕ) (t : List Gate) → All (λ g. touches w g ≡ true) t → RunIf w t (sum_of t)
  unfolding sum_of drive step
  run_of w [] h = record { turns = λ c. sym (phase-none O L w c); only = tt }
  run_of w (g ∷ t) h = go (worth g) (phased g) (sum_of t) (run_of w t h.1)
    where
      go : (a : Option ℕ) → PhasedIf g a → (b : Option ℕ) → RunIf w t b → RunIf w (g ∷ t) (plus a b)
      go none p b r = tt
      go (some j) p none r = tt
      go (some j) p (some k) r =
          let e : first_of (wires_of g) ≡ w = on-wire w g (first_of (wires_of g)) p.alone h.0 in
          let q : operator g ≡ phase j w = p.is ∙ ap (phase j) e in
          record {
            turns = λ c. ap (λ p. drive O t (step O p c)) q ∙ r.turns (plain O (phase j w) c) ∙ phase-plus O L w k j c
                ∙ ap (λ n. plain O (phase n w) c) (NatL.add_comm k j);
            only = (record { undrawn = ap (λ p. p.draws) q; alone = p.alone ∙ ap (λ v. v ∷ []) e }, r.only);
          }

-- ------------------------------------------------------------ words between two h

module _ {B : Type 0} (O : Ops B) (L : Laws O) (w : ℕ) where
  -- H, some gates, H.
  abbrev closed : List Gate → List Gate
  closed t = H (wire w) ∷ (t ++ (H (wire w) ∷ []))

  -- Gates that turn by n eighths where the wire is 1.
  abbrev Turns : ℕ → List Gate → Type 0
  Turns n t = (c : Config B) → drive O t c ≡ plain O (phase n w) c

  -- Between two h, any other gates that come to the same turn do the same.
  between : (t s : List Gate) (n : ℕ) → Turns n t → Turns n s → Runs O L (closed t) (closed s)
  between t s n p q = runs-cons O L (H (wire w)) _ _ (runs_after O L t s (H (wire w) ∷ []) λ c. p c ∙ sym (q c))

  between-0 : (t : List Gate) → Turns 0 t → Same O 0 (closed t) []
  unfolding placed tested_on drive
  between-0 t p c =
      between t [] 0 p (λ c. sym (phase-none O L w c)) c ∙ drives O L h-h tt (w ∷ []) refl (tt, tt) c

  between-4 : (t : List Gate) → Turns 4 t → Same O 0 (closed t) (X (wire w) ∷ [])
  unfolding placed tested_on drive step operator
  between-4 t p c = between t (Z (wire w) ∷ []) 4 p (λ c. refl) c ∙ drives O L h-z-h tt (w ∷ []) refl (tt, tt) c

  between-2 : (t : List Gate) → Turns 2 t → Same O 1 (closed t) (Sdg (wire w) ∷ H (wire w) ∷ Sdg (wire w) ∷ [])
  unfolding placed tested_on drive step operator
  between-2 t p c = between t (S (wire w) ∷ []) 2 p (λ c. refl) c ∙ drives O L h-s-h tt (w ∷ []) refl (tt, tt) c

  between-6 : (t : List Gate) → Turns 6 t → Same O 7 (closed t) (S (wire w) ∷ H (wire w) ∷ S (wire w) ∷ [])
  unfolding placed tested_on drive step operator
  between-6 t p c = between t (Sdg (wire w) ∷ []) 6 p (λ c. refl) c ∙ drives O L h-sdg-h tt (w ∷ []) refl (tt, tt) c

  between-x : Same O 0 (closed (X (wire w) ∷ [])) (Z (wire w) ∷ [])
  unfolding placed tested_on
  between-x c = drives O L h-x-h tt (w ∷ []) refl (tt, tt) c

-- ------------------------------------------------------------ the gates that are put in

module _ (w : ℕ) where
  pub h-only : Only w (H (wire w))
  unfolding operator wires_of
  h-only = record { undrawn = refl; alone = refl }

  x-only : Only w (X (wire w))
  unfolding operator wires_of
  x-only = record { undrawn = refl; alone = refl }

  z-only : Only w (Z (wire w))
  unfolding operator wires_of
  z-only = record { undrawn = refl; alone = refl }

  s-only : Only w (S (wire w))
  unfolding operator wires_of
  s-only = record { undrawn = refl; alone = refl }

  sdg-only : Only w (Sdg (wire w))
  unfolding operator wires_of
  sdg-only = record { undrawn = refl; alone = refl }

is_x : (g : Gate) → eqb (kind_of g) 0 ≡ true → g ≡ X (wire (first_of (wires_of g)))
unfolding shape_of shapes wires_of
is_x = of-one-wire 0 X refl (λ w. refl)

lone-x : (w : ℕ) (t : List Gate) → lone_x t ≡ true → All (λ g. touches w g ≡ true) t → t ≡ X (wire w) ∷ []
lone-x w [] h k = absurd (false≢true h)
lone-x w (g ∷ []) h k =
    let v = first_of (wires_of g) in
    let e : g ≡ X (wire v) = is_x g h in
    ap (λ x. x ∷ []) (e ∙ ap (λ v. X (wire v)) (on-wire w g v (ap wires_of e ∙ (x-only v).alone) k.0))
lone-x w (g ∷ k ∷ t) h q = absurd (false≢true h)

busy-of : (t : List Gate) (k : ℕ) → sum_of t ≡ some k → eqb (k % 8) 0 ≡ false → busy t ≡ true
unfolding sum_of
busy-of [] k h q = let e : 0 ≡ k = cc in absurd (false≢true (sym q ∙ ap (λ n. eqb (n % 8) 0) (sym e)))
busy-of (g ∷ t) k h q = refl

-- ------------------------------------------------------------ the rewrite

module _ {B : Type 0} (O : Ops B) (L : Laws O) {A : Type 0} (w : ℕ) (e : Cell A) (m : List (Cell A)) (f : Cell A)
    (he : e.gate ≡ H (wire w)) (hf : f.gate ≡ H (wire w)) where
  abbrev t : List Gate
  t = track w m

  abbrev off : List Gate
  off = gates_of (off_wire w m)

  abbrev before : List Gate
  before = gates_of (e ∷ (m ++ (f ∷ [])))

  -- What a rewrite leaves, by what stands in place of each h and of the first gate between them.
  abbrev after : Option Gate → Option Gate → List (Cell A)
  after ends first = put ends e (put_first w first m ++ put ends f [])

  -- What is on the wire, then what is off it.
  before-parted : All (Only w) t → Runs O L before (closed O L w t ++ off)
  before-parted o c =
      ap₂ (λ g x. drive O (g ∷ x) c) he (map-append (λ e. e.gate) m (f ∷ []) ∙ ap (λ g. gates_of m ++ (g ∷ [])) hf)
      ∙ runs-cons O L (H (wire w)) _ _ (runs_after O L (gates_of m) (t ++ off) (H (wire w) ∷ []) (parted O L w m o)) c
      ∙ ap (λ x. drive O (H (wire w) ∷ x) c) (append_assoc t off (H (wire w) ∷ []))
      ∙ runs-cons O L (H (wire w)) _ _ (runs-before O L t _ _ (last-moved O L w (H (wire w)) m (h-only w))) c
      ∙ ap (λ x. drive O (H (wire w) ∷ x) c) (sym (append_assoc t (H (wire w) ∷ []) off))

  ending : (core : List Gate) (k : ℕ) (n : List (Cell A)) → All (Only w) t → Same O k (closed O L w t) core →
      Runs O L (core ++ off) (gates_of n) → Same O k before (gates_of n)
  ending core k n o s r c =
      before-parted o c ∙ same-inside O L [] (closed O L w t) core off k s c ∙ ap (turned O k) (r c)

  all-gone : Runs O L off (gates_of (after none none))
  all-gone c = ap (λ x. drive O (gates_of x) c) (sym (append-nil (put_first w none m) ∙ put-none w m))

  one_left : (g : Gate) → Only w g → busy t ≡ true → Runs O L (g ∷ off) (gates_of (after none (some g)))
  one_left g o h c =
      sym (first-moved O L w g m o h c) ∙ ap (λ x. drive O (gates_of x) c) (sym (append-nil (put_first w (some g) m)))

  three-left : (d g : Gate) → Only w d → Only w g → busy t ≡ true →
      Runs O L (d ∷ g ∷ d ∷ off) (gates_of (after (some d) (some g)))
  three-left d g o p h c = sym (
      ap (λ x. drive O (d ∷ x) c) (map-append (λ e. e.gate) (put_first w (some g) m) _)
      ∙ runs-cons O L d _ _ (runs_after O L (gates_of (put_first w (some g) m)) (g ∷ off) (d ∷ []) (first-moved O L w g m p h)) c
      ∙ runs-cons O L d _ _ (runs-cons O L g _ _ (last-moved O L w d m o)) c)

  -- Where there is a rewrite, it does the same but for so many turns.
  abbrev pub SameIf : ℤ → Option Rewrite → Type 0
  SameIf z none = Unit {0}
  SameIf z (some r) = Same O (modulo8 z) before (gates_of (after r.ends r.first))

  at-0 : Turns O L w 0 t → All (Only w) t → SameIf (turns_for 0) (by_eighths (wire w) 0)
  unfolding by_eighths turns_for modulo8
  at-0 p o = ending [] 0 (after none none) o (between-0 O L w t p) all-gone

  at-4 : Turns O L w 4 t → All (Only w) t → busy t ≡ true → SameIf (turns_for 4) (by_eighths (wire w) 4)
  unfolding by_eighths turns_for modulo8
  at-4 p o b = ending (X (wire w) ∷ []) 0 (after none (some (X (wire w)))) o (between-4 O L w t p) (one_left (X (wire w)) (x-only w) b)

  at-2 : Turns O L w 2 t → All (Only w) t → busy t ≡ true → SameIf (turns_for 2) (by_eighths (wire w) 2)
  unfolding by_eighths turns_for modulo8
  at-2 p o b = ending (Sdg (wire w) ∷ H (wire w) ∷ Sdg (wire w) ∷ []) 1 (after (some (Sdg (wire w))) (some (H (wire w)))) o
      (between-2 O L w t p)
      (three-left (Sdg (wire w)) (H (wire w)) (sdg-only w) (h-only w) b)

  at-6 : Turns O L w 6 t → All (Only w) t → busy t ≡ true → SameIf (turns_for 6) (by_eighths (wire w) 6)
  unfolding by_eighths turns_for modulo8
  at-6 p o b = ending (S (wire w) ∷ H (wire w) ∷ S (wire w) ∷ []) 7 (after (some (S (wire w))) (some (H (wire w)))) o
      (between-6 O L w t p)
      (three-left (S (wire w)) (H (wire w)) (s-only w) (h-only w) b)

  by-eighths : (n : ℕ) → Turns O L w n t → All (Only w) t → (eqb n 0 ≡ false → busy t ≡ true) →
      SameIf (turns_for n) (by_eighths (wire w) n)
  unfolding by_eighths
  by-eighths n p o busy-if = go (eqb n 0) refl (eqb n 4) refl (eqb n 2) refl (eqb n 6) refl
    where
      -- At a number that n is.
      at : (j : ℕ) (r : Option Rewrite) → eqb n j ≡ true → (Turns O L w j t → SameIf (turns_for j) r) → SameIf (turns_for n) r
      at j r q h = let e = eqb-true n j q in subst (λ i. SameIf (turns_for i) r) (sym e) (h (subst (λ i. Turns O L w i t) e p))

      go : (a : Bool) → eqb n 0 ≡ a → (b : Bool) → eqb n 4 ≡ b → (c : Bool) → eqb n 2 ≡ c → (d : Bool) → eqb n 6 ≡ d →
          SameIf (turns_for n) (cond a (rewrite none none) (cond b (rewrite none (some (X (wire w))))
          (cond c (rewrite (some (Sdg (wire w))) (some (H (wire w)))) (cond d (rewrite (some (S (wire w))) (some (H (wire w)))) none))))
      go true q b r c s d u = at 0 (rewrite none none) q λ p. at-0 p o
      go false q true r c s d u = at 4 (rewrite none (some (X (wire w)))) r λ p. at-4 p o (busy-if q)
      go false q false r true s d u = at 2 (rewrite (some (Sdg (wire w))) (some (H (wire w)))) s λ p. at-2 p o (busy-if q)
      go false q false r false s true u = at 6 (rewrite (some (S (wire w))) (some (H (wire w)))) u λ p. at-6 p o (busy-if q)
      go false q false r false s false u = tt

  x-between : t ≡ X (wire w) ∷ [] → SameIf (turns_between (sum_of t)) (rewrite none (some (Z (wire w))))
  unfolding sum_of worth modulo8
  x-between z = subst (λ s. SameIf (turns_between (sum_of s)) (rewrite none (some (Z (wire w))))) (sym z)
      (ending (Z (wire w) ∷ []) 0 (after none (some (Z (wire w)))) (subst (All (Only w)) (sym z) (x-only w, tt))
      (λ c. ap (λ s. drive O (closed O L w s) c) z ∙ between-x O L w c)
      (one_left (Z (wire w)) (z-only w) (ap busy z)))

  pub rewrite-same : SameIf (turns_between (sum_of t)) (rewrite_of (wire w) t)
  unfolding rewrite_of
  rewrite-same = go (lone_x t) refl (sum_of t) refl (run_of O L w t (track-on w m))
    where
      go : (b : Bool) → lone_x t ≡ b → (o : Option ℕ) → sum_of t ≡ o → RunIf O L w t o →
          SameIf (turns_between (sum_of t)) (cond b (rewrite none (some (Z (wire w)))) (by_sum (wire w) o))
      go true q o z r = x-between (lone-x w t q (track-on w m))
      go false q none z r = tt
      go false q (some k) z r =
          subst (λ o. SameIf (turns_between o) (by_eighths (wire w) (k % 8))) (sym z)
          (by-eighths (k % 8) (λ c. r.turns c ∙ sym (phase-mod O L w k c)) r.only (busy-of t k z))
