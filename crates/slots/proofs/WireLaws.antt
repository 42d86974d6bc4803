-- Nodes of gates on wires: which operand a wire is, and that no two nodes are the same.
use mathlib.Core.Path.{◌≡◌, refl, sym, ap, subst, ◌∙◌}
use mathlib.Core.Bool.{Bool, true, false, cond, ◌||◌, false≢true}
use mathlib.Core.List.{List, [], ◌∷◌}
use Prim.Native.Nat.{ℕ, zero, suc, ◌+◌, ◌*◌, ◌≤◌, ◌<◌}
use native.Mathlib.Omega.{arith}
use lib.Dec.{eqb}
use lib.ListN.{length, get_or}
use borrow.Author.Tests.{eqb-true, eq-eqb}
use Rattle.gates.specs.declared.Gate.{Gate}
use Rattle.gates.specs.declared.Gate.TheVariants.{X, H, S, Sdg, Z, T, Tdg, Cnot, Cz, Ccx, Ccz, Measure, Reset, Y, Sx, Swap, Cy, Ch, Cswap}
use Rattle.gates.specs.Gates.{wires_of, touches, has, twice}
use Rattle.links.proofs.RingLaws.{Apart}
use Rattle.slots.specs.Live.{operand_of}

-- ------------------------------------------------------------ operands

pub at-most-three : (g : Gate) → length (wires_of g) ≤ 3
unfolding wires_of
at-most-three (X w) = omega arith
at-most-three (H w) = omega arith
at-most-three (S w) = omega arith
at-most-three (Sdg w) = omega arith
at-most-three (Z w) = omega arith
at-most-three (T w) = omega arith
at-most-three (Tdg w) = omega arith
at-most-three (Cnot c t) = omega arith
at-most-three (Cz c t) = omega arith
at-most-three (Ccx c d t) = omega arith
at-most-three (Ccz c d t) = omega arith
at-most-three (Measure w b) = omega arith
at-most-three (Reset w) = omega arith
at-most-three (Y w) = omega arith
at-most-three (Sx w) = omega arith
at-most-three (Swap a b) = omega arith
at-most-three (Cy c t) = omega arith
at-most-three (Ch c t) = omega arith
at-most-three (Cswap c a b) = omega arith

-- A wire that a gate has is the operand that it is said to be.
pub operand-is : (w : ℕ) (ws : List ℕ) → has w ws ≡ true → (operand_of w ws < length ws) × (get_or ws (operand_of w ws) 0 ≡ w)
unfolding operand_of has
operand-is w [] h = absurd (false≢true h)
operand-is w (v ∷ ws) h = go (eqb w v) refl h (λ k. operand-is w ws k)
  where
    go : (b : Bool) → eqb w v ≡ b → b || has w ws ≡ true →
        (has w ws ≡ true → (operand_of w ws < length ws) × (get_or ws (operand_of w ws) 0 ≡ w)) →
        (cond b 0 (suc (operand_of w ws)) < suc (length ws)) × (get_or (v ∷ ws) (cond b 0 (suc (operand_of w ws))) 0 ≡ w)
    go true e h n = (omega arith, sym (eqb-true w v e))
    go false e h n = (omega (arith, (n h).0), (n h).1)

pub operand-there : (ws : List ℕ) (i : ℕ) → i < length ws → has (get_or ws i 0) ws ≡ true
unfolding has
operand-there [] i m = absurd (omega arith)
operand-there (v ∷ ws) zero m = ap (λ (b : Bool). b || has v ws) (eq-eqb v v refl)
operand-there (v ∷ ws) (suc i) m = go (eqb (get_or ws i 0) v) (operand-there ws i (omega arith))
  where
    go : (b : Bool) → has (get_or ws i 0) ws ≡ true → b || has (get_or ws i 0) ws ≡ true
    go true h = refl
    go false h = h

-- Where no wire stands twice, the operand of a wire is its place.
pub operand_at : (ws : List ℕ) (i : ℕ) → twice ws ≡ false → i < length ws → operand_of (get_or ws i 0) ws ≡ i
unfolding operand_of twice
operand_at [] i d m = absurd (omega arith)
operand_at (v ∷ ws) zero d m = ap (λ (b : Bool). cond b 0 (suc (operand_of v ws))) (eq-eqb v v refl)
operand_at (v ∷ ws) (suc i) d m = go (eqb (get_or ws i 0) v) refl (has v ws) refl d (λ k. operand_at ws i k (omega arith))
  where
    go : (b : Bool) → eqb (get_or ws i 0) v ≡ b → (c : Bool) → has v ws ≡ c → c || twice ws ≡ false → (twice ws ≡ false → operand_of (get_or ws i 0) ws ≡ i) →
        cond b 0 (suc (operand_of (get_or ws i 0) ws)) ≡ suc i
    go b e true f k n = absurd (false≢true (sym k))
    go true e false f k n =
        absurd (false≢true (sym f ∙ subst (λ (x : ℕ). has x ws ≡ true) (eqb-true (get_or ws i 0) v e) (operand-there ws i (omega arith))))
    go false e false f k n = ap suc (n k)

-- ------------------------------------------------------------ nodes

module _ (gates : ℕ → Gate) (slots wires : ℕ) where
  abbrev pub node : ℕ → ℕ → ℕ
  node w i = 3 * i + operand_of w (wires_of (gates i))

  abbrev pub end : ℕ → ℕ
  end w = 3 * slots + w

  abbrev pub size : ℕ
  size = 3 * slots + wires

  -- A test that only slots on a wire meet.
  abbrev pub Touching : (ℕ → ℕ → Bool) → Type 0
  Touching on = (w i : ℕ) → i < slots → on w i ≡ true → touches w (gates i) ≡ true

  operand_small : (w i : ℕ) → touches w (gates i) ≡ true → operand_of w (wires_of (gates i)) < 3
  operand_small w i t = omega (arith, (operand-is w (wires_of (gates i)) t).0, at-most-three (gates i))

  pub node-below : (w i : ℕ) → i < slots → touches w (gates i) ≡ true → node w i < 3 * slots
  node-below w i m t = omega (arith, operand_small w i t)

  pub node-slot : (w v i j : ℕ) → touches w (gates i) ≡ true → touches v (gates j) ≡ true → node w i ≡ node v j → i ≡ j
  node-slot w v i j t u e = omega (arith, operand_small w i t, operand_small v j u, e)

  -- The nodes of different wires are different.
  pub node-wire : (w v i j : ℕ) → touches w (gates i) ≡ true → touches v (gates j) ≡ true → node w i ≡ node v j → w ≡ v
  node-wire w v i j t u e =
      let same = node-slot w v i j t u e in
      let u' = subst (λ (x : ℕ). touches v (gates x) ≡ true) (sym same) u in
      let e' = subst (λ (x : ℕ). node w i ≡ node v x) (sym same) e in
      sym (operand-is w (wires_of (gates i)) t).1
      ∙ ap (λ (x : ℕ). get_or (wires_of (gates i)) x 0) (operands e') ∙ (operand-is v (wires_of (gates i)) u').1
    where
      operands : node w i ≡ node v i → operand_of w (wires_of (gates i)) ≡ operand_of v (wires_of (gates i))
      operands q = omega (arith, q)

  pub apart : (on : ℕ → ℕ → Bool) → Touching on → (w : ℕ) → w < wires → Apart (node w) (end w) size (on w) slots
  apart on touching w m =
      record {
        nodes = λ i j a b t u e. node-slot w w i j (touching w i a t) (touching w j b u) e;
        ends = λ i a t e. not_end i (node-below w i a (touching w i a t)) e;
        small = λ i a t. below i (node-below w i a (touching w i a t));
        low = omega arith;
      }
    where
      not_end : (i : ℕ) → node w i < 3 * slots → node w i ≡ end w → ⊥
      not_end i l e = omega (arith, l, e)

      below : (i : ℕ) → node w i < 3 * slots → node w i < size
      below i l = omega (arith, l)
