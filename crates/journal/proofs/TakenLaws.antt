-- What the list that is held tells of the slots that have gone.
use mathlib.Core.Path.{◌≡◌, refl, sym, ap, ap₂, ◌∙◌}
use mathlib.Core.Bool.{Bool, true, false, not, ◌&&◌}
use mathlib.Core.List.{List}
use Prim.Native.Nat.{ℕ, ◌≤◌}
use native.Mathlib.Omega.{arith}
use lib.Dec.{eqb, ltb}
use borrow.Author.Tests.{ltb-true, ltb-false, ne_eqb}
use Rattle.slots.specs.declared.Extent.{Extent}
use Rattle.slots.specs.Slots.{gate_at, left_out}
use Rattle.slots.specs.Live.{is_live, held}
use Rattle.slots.proofs.StateLaws.{live_below}
use Rattle.slots.proofs.MarkedLaws.{marks-without}
use Rattle.journal.specs.Sweeping.{TakenOut}

-- No slot past the list's is live.
not_live : (words : List ℕ) (k : Extent) (i : ℕ) → k.gates ≤ i → is_live words k i ≡ false
not_live words k i h = go (is_live words k i) refl
  where
    go : (b : Bool) → is_live words k i ≡ b → b ≡ false
    go true e = absurd (omega (arith, live_below words k i e, h))
    go false e = refl

-- A slot that is left out is live no more, and the others are as they were.
pub left_out_lem : (bytes bytes' was now : List ℕ) (k : Extent) (s : ℕ) → held bytes' now k ≡ left_out s (held bytes was k) → (i : ℕ) →
    is_live now k i ≡ (is_live was k i && not (eqb i s))
left_out_lem bytes bytes' was now k s p i = go (ltb i k.gates) refl
  where
    go : (b : Bool) → ltb i k.gates ≡ b → is_live now k i ≡ (is_live was k i && not (eqb i s))
    go true e = marks-without (is_live was k) (is_live now k) (gate_at bytes) (gate_at bytes') s k.gates p i (ltb-true i k.gates e)
    go false e =
        let past = ltb-false i k.gates e in
        not_live now k i past ∙ ap (λ b. b && not (eqb i s)) (sym (not_live was k i past))

-- Another slot is still live.
pub still-live : (bytes bytes' was now : List ℕ) (k : Extent) (s i : ℕ) → held bytes' now k ≡ left_out s (held bytes was k) →
    is_live was k i ≡ true → (i ≡ s → ⊥) → is_live now k i ≡ true
still-live bytes bytes' was now k s i p t q =
    left_out_lem bytes bytes' was now k s p i ∙ ap₂ (λ a b. a && not b) t (ne_eqb i s q)

pub both_out : (bytes was now then : List ℕ) (k : Extent) (first last : ℕ) → held bytes now k ≡ left_out first (held bytes was k) →
    held bytes then k ≡ left_out last (held bytes now k) → TakenOut k first last was then
both_out bytes was now then k first last p q i =
    left_out_lem bytes bytes now then k last q i ∙ ap (λ b. b && not (eqb i last)) (left_out_lem bytes bytes was now k first p i)
