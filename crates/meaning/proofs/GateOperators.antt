-- Each gate as a local operator, and that it does what the gate does: what its matrix does, or measure and reset.
use mathlib.Core.Path.{◌≡◌, refl, sym, ◌∙◌, ap, ap₂, fun_ext}
use mathlib.Core.Bool.{Bool, true, false, not, cond, ◌&&◌}
use mathlib.Core.List.{List, [], ◌∷◌}
use mathlib.Core.Logic.{◌≢◌}
use Prim.Native.Nat.{ℕ}
use lib.Dec.{T as So, eqb}
use borrow.Author.Tests.{eq-eqb, eqb-true, eqb-false}
use Rattle.gates.specs.declared.Wire.{Wire}
use Rattle.gates.specs.declared.Bit.{Bit}
use Rattle.gates.specs.declared.Gate.{Gate}
use Rattle.gates.specs.declared.Gate.TheVariants.{X, H, S, Sdg, Z, T, Tdg, Cnot, Cz, Ccx, Ccz, Measure, Reset, Y, Sx, Swap, Cy, Ch, Cswap}
use Rattle.gates.specs.Gates.{wire, wires_of, has, twice, All}
use Rattle.gates.proofs.Joined.{neither}
use Rattle.meaning.specs.Amplitudes.{Ops, times}
use Rattle.meaning.specs.Matrices as M
use Rattle.meaning.specs.Matrices.{Matrix, factor, same_bit, first_bit, second_bit, U, gphase, turned_all, with_phase, ctrl, conjugated, inv, swap}
use Rattle.meaning.specs.States.{Setting, with, bits_at, doing, Config, on, drawn, sum, scale, through, kept, zeroed, does}
use Rattle.meaning.proofs.SumLaws.{Laws, add-none-right}
use Rattle.meaning.proofs.Operators.{flipped, toggle, toggles, Entry, Operator, stored, apply, step}
use Rattle.meaning.proofs.Paths.{Distinct, word}
use Rattle.meaning.proofs.MatrixLaws.{matches, by-matrix}

-- ------------------------------------------------------------ the operators

abbrev third_bit : List Bool → Bool
third_bit [] = false
third_bit (b ∷ bs) = second_bit bs

abbrev entry : ℕ → ℕ → List Bool → Entry
entry k p m = record { factor = factor k p; mask = m }

-- One entry: so many eighth turns, and which wires are turned over.
abbrev one : ℕ → List Bool → List Entry
one k m = entry k 0 m ∷ []

abbrev pub undrawn : List ℕ → List ℕ → (List Bool → List Entry) → Operator
undrawn reads flips table = record { reads = reads; flips = flips; draws = false; stores = []; table = λ o b. table b }

abbrev drawing : List ℕ → List ℕ → List ℕ → (Bool → List Bool → List Entry) → Operator
drawing reads flips stores table = record { reads = reads; flips = flips; draws = true; stores = stores; table = table }

-- w to the k, everywhere.
abbrev pub everything : ℕ → Operator
everything k = undrawn [] [] (λ b. one k [])

-- w to the k where the wire is 1.
abbrev pub phase : ℕ → ℕ → Operator
phase k w = undrawn (w ∷ []) [] (λ b. one (cond (first_bit b) k 0) [])

abbrev h_row : Bool → List Entry
h_row b = entry (cond b 4 0) 1 (false ∷ []) ∷ entry 0 1 (true ∷ []) ∷ []

abbrev y_row : Bool → List Entry
y_row b = one (cond b 2 6) (true ∷ [])

unfoldable pub operator : Gate → Operator
operator (X w) = undrawn [] (w.0 ∷ []) (λ b. one 0 (true ∷ []))
operator (H w) = undrawn (w.0 ∷ []) (w.0 ∷ []) (λ b. h_row (first_bit b))
operator (S w) = phase 2 w.0
operator (Sdg w) = phase 6 w.0
operator (Z w) = phase 4 w.0
operator (T w) = phase 1 w.0
operator (Tdg w) = phase 7 w.0
operator (Cnot c t) = undrawn (c.0 ∷ []) (t.0 ∷ []) (λ b. one 0 (first_bit b ∷ []))
operator (Cz c t) = undrawn (c.0 ∷ t.0 ∷ []) [] (λ b. one (cond (first_bit b && second_bit b) 4 0) [])
operator (Ccx c d t) = undrawn (c.0 ∷ d.0 ∷ []) (t.0 ∷ []) (λ b. one 0 ((first_bit b && second_bit b) ∷ []))
operator (Ccz c d t) = undrawn (c.0 ∷ d.0 ∷ t.0 ∷ []) [] (λ b. one (cond (first_bit b && second_bit b && third_bit b) 4 0) [])
operator (Measure w b) = drawing (w.0 ∷ []) [] (b.0 ∷ []) (λ o b. cond (same_bit (first_bit b) o) (one 0 []) [])
operator (Reset w) = drawing (w.0 ∷ []) (w.0 ∷ []) [] (λ o b. cond (first_bit b) [] (one 0 (o ∷ [])))
operator (Y w) = undrawn (w.0 ∷ []) (w.0 ∷ []) (λ b. y_row (first_bit b))
operator (Sx w) = undrawn [] (w.0 ∷ []) (λ b.
    entry 0 2 (false ∷ []) ∷ entry 2 2 (false ∷ []) ∷ entry 0 2 (true ∷ []) ∷ entry 6 2 (true ∷ []) ∷ [])
operator (Swap a b) = undrawn (a.0 ∷ b.0 ∷ []) (a.0 ∷ b.0 ∷ [])
    (λ b. let differ = flipped (first_bit b) (second_bit b) in one 0 (differ ∷ differ ∷ []))
operator (Cy c t) = undrawn (c.0 ∷ t.0 ∷ []) (t.0 ∷ []) (λ b. cond (first_bit b) (y_row (second_bit b)) (one 0 []))
operator (Ch c t) = undrawn (c.0 ∷ t.0 ∷ []) (t.0 ∷ []) (λ b. cond (first_bit b) (h_row (second_bit b)) (one 0 []))
operator (Cswap c a b) = undrawn (c.0 ∷ a.0 ∷ b.0 ∷ []) (a.0 ∷ b.0 ∷ [])
    (λ b. let differ = first_bit b && flipped (second_bit b) (third_bit b) in one 0 (differ ∷ differ ∷ []))

-- ------------------------------------------------------------ distinct wires

pub not-among : (w : ℕ) (l : List ℕ) → has w l ≡ false → All (λ v. v ≢ w) l
unfolding has
not-among w [] h = tt
not-among w (v ∷ l) h = let n = neither (eqb w v) (has w l) h in (λ q. eqb-false w v n.0 (sym q), not-among w l n.1)

pub distinct-wires : (l : List ℕ) → twice l ≡ false → Distinct l
unfolding twice
distinct-wires [] h = tt
distinct-wires (w ∷ l) h = let n = neither (has w l) (twice l) h in (not-among w l n.0, distinct-wires l n.1)

-- ------------------------------------------------------------ measure and reset

module _ {A : Type 0} (O : Ops A) (L : Laws O) where
  measure-acts : (w : Wire) (b : Bit) (o : Bool) (ψ : Setting → A) (s : Setting) →
      kept O w.0 o ψ s ≡ apply O (operator (Measure w b)) o ψ s
  unfolding operator apply kept sum scale times toggles bits_at
  measure-acts w b o ψ s = go (same_bit (s w.0) o)
    where
      go : (b : Bool) → cond b (ψ s) O.none ≡
          sum O (λ e. scale O e.factor (ψ (toggles [] e.mask s))) (cond b (one 0 []) [])
      go true = sym (add-none-right O L (ψ s))
      go false = refl

  -- The setting before a reset: the wire, now 0, had the outcome.
  before-reset : (w : ℕ) (o : Bool) (s : Setting) → s w ≡ false → with w o s ≡ toggle w o s
  unfolding with toggle
  before-reset w false s h = fun_ext λ v. go v (eqb v w) refl
    where
      go : (v : ℕ) (b : Bool) → eqb v w ≡ b → cond b false (s v) ≡ s v
      go v true e = sym (ap s (eqb-true v w e) ∙ h)
      go v false e = refl
  before-reset w true s h = fun_ext λ v. go v (eqb v w) refl
    where
      go : (v : ℕ) (b : Bool) → eqb v w ≡ b → cond b true (s v) ≡ flipped b (s v)
      go v true e = sym (ap not (ap s (eqb-true v w e) ∙ h))
      go v false e = refl

  kept-with : (w : ℕ) (o b : Bool) (ψ : Setting → A) (s : Setting) →
      kept O w o ψ (with w b s) ≡ cond (same_bit b o) (ψ (with w b s)) O.none
  unfolding kept with
  kept-with w o b ψ s = ap (λ e. cond (same_bit (cond e b (s w)) o) (ψ (with w b s)) O.none) (eq-eqb w w refl)

  reset-acts : (w : Wire) (o : Bool) (ψ : Setting → A) (s : Setting) →
      zeroed O w.0 (kept O w.0 o ψ) s ≡ apply O (operator (Reset w)) o ψ s
  unfolding operator apply zeroed sum scale times toggles bits_at
  reset-acts w o ψ s = go (s w.0) refl
    where
      both : (o : Bool) → s w.0 ≡ false →
          O.add (kept O w.0 o ψ (with w.0 false s)) (kept O w.0 o ψ (with w.0 true s)) ≡
          O.add (ψ (toggle w.0 o s)) O.none
      both false h =
          ap₂ O.add (kept-with w.0 false false ψ s ∙ ap ψ (before-reset w.0 false s h)) (kept-with w.0 false true ψ s)
      both true h =
          ap₂ O.add (kept-with w.0 true false ψ s) (kept-with w.0 true true ψ s ∙ ap ψ (before-reset w.0 true s h))
          ∙ L.add_comm O.none _

      go : (b : Bool) → s w.0 ≡ b →
          cond b O.none (O.add (kept O w.0 o ψ (with w.0 false s)) (kept O w.0 o ψ (with w.0 true s))) ≡
          sum O (λ e. scale O e.factor (ψ (toggles (w.0 ∷ []) e.mask s))) (cond b [] (one 0 (o ∷ [])))
      go true h = refl
      go false h = both o h

  -- ------------------------------------------------------------ every gate

  by-test : (ws : List ℕ) → twice ws ≡ false → (q : Operator) (M : Matrix) → So (matches ws 2 q M) → (c : Config A) →
      on c (through O M ws c.state) ≡ on c (word O ws (q ∷ []) c.state)
  by-test ws d q M h c = ap (on c) (fun_ext λ u. sym (by-matrix O L ws c.state u (distinct-wires ws d) 2 q M h))

  -- A gate with distinct wires acts as its matrix, or as measure and reset do.
  pub acts : (g : Gate) → twice (wires_of g) ≡ false → (c : Config A) → does O (doing g) (wires_of g) c ≡ step O (operator g) c
  unfolding doing wires_of operator step stored word matches U with_phase turned_all gphase ctrl inv conjugated swap
  acts (X w) d c = by-test (w.0 ∷ []) d (operator (X (wire 0))) M.x tt c
  acts (H w) d c = by-test (w.0 ∷ []) d (operator (H (wire 0))) M.h tt c
  acts (S w) d c = by-test (w.0 ∷ []) d (operator (S (wire 0))) M.s tt c
  acts (Sdg w) d c = by-test (w.0 ∷ []) d (operator (Sdg (wire 0))) M.sdg tt c
  acts (Z w) d c = by-test (w.0 ∷ []) d (operator (Z (wire 0))) M.z tt c
  acts (T w) d c = by-test (w.0 ∷ []) d (operator (T (wire 0))) M.t tt c
  acts (Tdg w) d c = by-test (w.0 ∷ []) d (operator (Tdg (wire 0))) M.tdg tt c
  acts (Cnot v t) d c = by-test (v.0 ∷ t.0 ∷ []) d (operator (Cnot (wire 0) (wire 1))) (ctrl M.x) tt c
  acts (Cz v t) d c = by-test (v.0 ∷ t.0 ∷ []) d (operator (Cz (wire 0) (wire 1))) (ctrl M.z) tt c
  acts (Ccx u v t) d c = by-test (u.0 ∷ v.0 ∷ t.0 ∷ []) d (operator (Ccx (wire 0) (wire 1) (wire 2))) (ctrl (ctrl M.x)) tt c
  acts (Ccz u v t) d c = by-test (u.0 ∷ v.0 ∷ t.0 ∷ []) d (operator (Ccz (wire 0) (wire 1) (wire 2))) (ctrl (ctrl M.z)) tt c
  acts (Measure w b) d c = let o = first_bit c.outcomes in
      ap (drawn c (with b.0 o c.bits)) (fun_ext λ s. measure-acts w b o c.state s)
  acts (Reset w) d c = let o = first_bit c.outcomes in ap (drawn c c.bits) (fun_ext λ s. reset-acts w o c.state s)
  acts (Y w) d c = by-test (w.0 ∷ []) d (operator (Y (wire 0))) M.y tt c
  acts (Sx w) d c = by-test (w.0 ∷ []) d (operator (Sx (wire 0))) M.sx tt c
  acts (Swap a b) d c = by-test (a.0 ∷ b.0 ∷ []) d (operator (Swap (wire 0) (wire 1))) M.swap tt c
  acts (Cy v t) d c = by-test (v.0 ∷ t.0 ∷ []) d (operator (Cy (wire 0) (wire 1))) (ctrl M.y) tt c
  acts (Ch v t) d c = by-test (v.0 ∷ t.0 ∷ []) d (operator (Ch (wire 0) (wire 1))) (ctrl M.h) tt c
  acts (Cswap v a b) d c = by-test (v.0 ∷ a.0 ∷ b.0 ∷ []) d (operator (Cswap (wire 0) (wire 1) (wire 2))) (ctrl M.swap) tt c
