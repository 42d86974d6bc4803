-- What a list of cells says about the marks and gates that it stands for.
use mathlib.Core.Path.{◌≡◌, refl, sym, ap, ◌∙◌}
use mathlib.Core.Bool.{Bool, true, false, not, cond, ◌&&◌}
use mathlib.Core.List.{List, [], ◌∷◌}
use mathlib.Core.Option.{Option, some, none, none-ne-some, some-ne-none, some-injective}
use Prim.Native.Nat.{ℕ, zero, suc, ◌+◌, ◌≤◌, ◌<◌}
use native.Mathlib.Omega.{arith}
use lib.Dec.{eqb}
use borrow.Author.Tests.{eqb-true, eqb-false, eq-eqb, ne_eqb}
use Rattle.gates.specs.declared.Gate.{Gate}
use Rattle.rules.specs.Steps.{Cell}
use Rattle.links.proofs.SeekLaws.{without}
use Rattle.slots.specs.Slots.{cell_of, cells_from, left_out, rewritten}
use Rattle.slots.proofs.HeldLaws.{cells-without, cells-rewritten}

-- The gate beside a slot.
abbrev gate_beside : ℕ → List (Cell ℕ) → Option Gate
gate_beside j [] = none
gate_beside j (e ∷ l) = cond (eqb e.beside j) (some e.gate) (gate_beside j l)

abbrev held : Bool → Gate → Option Gate
held b g = cond b (some g) none

-- No slot before the first has a gate in the list.
beside-before : (live : ℕ → Bool) (gates : ℕ → Gate) (i count j : ℕ) → j < i → gate_beside j (cells_from live gates i count) ≡ none
unfolding cells_from
beside-before live gates i zero j m = refl
beside-before live gates i (suc count) j m = go (live i) (beside-before live gates (suc i) count j (omega arith))
  where
    l : List (Cell ℕ)
    l = cells_from live gates (suc i) count

    go : (b : Bool) → gate_beside j l ≡ none → gate_beside j (cond b (cell_of gates i ∷ l) l) ≡ none
    go true h = ap (λ (x : Bool). cond x (some (gates i)) (gate_beside j l)) (ne_eqb i j (λ q. omega (arith, q))) ∙ h
    go false h = h

beside-from : (live : ℕ → Bool) (gates : ℕ → Gate) (i count j : ℕ) → i ≤ j → j < i + count →
    gate_beside j (cells_from live gates i count) ≡ held (live j) (gates j)
unfolding cells_from
beside-from live gates i zero j a b = absurd (omega arith)
beside-from live gates i (suc count) j a b =
    go (eqb i j) refl (live i) refl (λ m. beside-before live gates (suc i) count j m) (λ m. beside-from live gates (suc i) count j m (omega arith))
  where
    l : List (Cell ℕ)
    l = cells_from live gates (suc i) count

    go : (here : Bool) → eqb i j ≡ here → (c : Bool) → live i ≡ c → (j < suc i → gate_beside j l ≡ none) →
        (suc i ≤ j → gate_beside j l ≡ held (live j) (gates j)) → gate_beside j (cond c (cell_of gates i ∷ l) l) ≡ held (live j) (gates j)
    go true q true e n h =
        ap (λ (x : Bool). cond x (some (gates i)) (gate_beside j l)) q ∙ ap (λ (b : Bool). held b (gates i)) (sym e)
        ∙ ap (λ (x : ℕ). held (live x) (gates x)) (eqb-true i j q)
    go true q false e n h =
        n (omega (arith, eqb-true i j q)) ∙ ap (λ (b : Bool). held b (gates i)) (sym e)
        ∙ ap (λ (x : ℕ). held (live x) (gates x)) (eqb-true i j q)
    go false q true e n h =
        ap (λ (x : Bool). cond x (some (gates i)) (gate_beside j l)) q ∙ h (omega (arith, eqb-false i j q))
    go false q false e n h = h (omega (arith, eqb-false i j q))

-- ------------------------------------------------------------ lists that are the same

module _ (live live' : ℕ → Bool) (gates gates' : ℕ → Gate) (i count : ℕ)
    (same : cells_from live' gates' i count ≡ cells_from live gates i count) (j : ℕ) (from : i ≤ j) (to : j < i + count) where
  held_same : held (live' j) (gates' j) ≡ held (live j) (gates j)
  held_same =
      sym (beside-from live' gates' i count j from to) ∙ ap (gate_beside j) same ∙ beside-from live gates i count j from to

  -- They have the same live slots, and the same gates in them.
  pub marks-told : live' j ≡ live j
  marks-told = go (live' j) (live j) held_same
    where
      go : (b c : Bool) → held b (gates' j) ≡ held c (gates j) → b ≡ c
      go true true h = refl
      go true false h = absurd (some-ne-none (gates' j) h)
      go false true h = absurd (none-ne-some (gates j) h)
      go false false h = refl

  pub gates-told : live j ≡ true → gates' j ≡ gates j
  gates-told t =
      some-injective (gates' j) (gates j)
      (ap (λ (b : Bool). held b (gates' j)) (sym (marks-told ∙ t)) ∙ held_same ∙ ap (λ (b : Bool). held b (gates j)) t)

-- ------------------------------------------------------------ one slot less

module _ (live live' : ℕ → Bool) (gates gates' : ℕ → Gate) (s count : ℕ)
    (left : cells_from live' gates' 0 count ≡ left_out s (cells_from live gates 0 count)) (i : ℕ) (m : i < count) where
  as-without : cells_from live' gates' 0 count ≡ cells_from (without live s) gates 0 count
  as-without = left ∙ sym (cells-without live gates s 0 count)

  pub marks-without : live' i ≡ (live i && not (eqb i s))
  marks-without = marks-told (without live s) live' gates gates' 0 count as-without i (omega arith) (omega arith)

  pub gates-without : live' i ≡ true → gates' i ≡ gates i
  gates-without t =
      gates-told (without live s) live' gates gates' 0 count as-without i (omega arith) (omega arith) (sym marks-without ∙ t)

-- ------------------------------------------------------------ another gate in a slot

module _ (live live' : ℕ → Bool) (gates gates' : ℕ → Gate) (s : ℕ) (g : Gate) (count : ℕ)
    (written : cells_from live' gates' 0 count ≡ rewritten s g (cells_from live gates 0 count)) (i : ℕ) (m : i < count) where
  abbrev with-gate : ℕ → Gate
  with-gate j = cond (eqb j s) g (gates j)

  as-rewritten : cells_from live' gates' 0 count ≡ cells_from live with-gate 0 count
  as-rewritten =
      written
      ∙ sym (cells-rewritten live gates with-gate s g 0 count
      (ap (λ (b : Bool). cond b g (gates s)) (eq-eqb s s refl)) (λ j d. ap (λ (b : Bool). cond b g (gates j)) (ne_eqb j s d)))

  pub marks-rewritten : live' i ≡ live i
  marks-rewritten = marks-told live live' with-gate gates' 0 count as-rewritten i (omega arith) (omega arith)

  pub gates-rewritten : live i ≡ true → gates' i ≡ cond (eqb i s) g (gates i)
  gates-rewritten t = gates-told live live' with-gate gates' 0 count as-rewritten i (omega arith) (omega arith) t
