-- One turn of the pair sweep: what was to come is what is done and what is still to come.
use mathlib.Core.Path.{◌≡◌, refl, sym, ap, ap₂, subst, ◌∙◌}
use mathlib.Core.Bool.{Bool, true, false, not, cond, ◌&&◌, and-true, and-false}
use mathlib.Core.List.{List, ◌∷◌}
use mathlib.Core.Option.{Option, some, none}
use Prim.Native.Nat.{ℕ, suc, ◌+◌, ◌-◌, ◌<◌}
use native.Mathlib.Numerals.{add-one}
use native.Mathlib.Omega.{arith}
use lib.Dec.{eqb}
use lib.ListN.{length}
use borrow.Author.Tests.{ne_eqb, eq-eqb}
use Rattle.gates.specs.declared.Gate.{Gate}
use Rattle.gates.specs.Gates.{shares}
use Rattle.rules.specs.Equal.{seven, cancels}
use Rattle.rules.specs.Steps.{Cell, Cut, and_then, try, when}
use Rattle.rules.specs.Sweeps.{Done, fire, cut, without, pairs_from}
use Rattle.rules.proofs.EqualLaws.{none-not-some}
use Rattle.slots.specs.Slots.{cell_of, cells_from, cells_below}
use Rattle.slots.proofs.HeldLaws.{cells_same}
use Rattle.slots.proofs.CutLaws.{CutBelow, cut-below-parts, below-same}
use Rattle.pairing.specs.Ahead.{equal_blocker}
use Rattle.slots.proofs.AnswerLaws.{PartedAt}

-- ------------------------------------------------------------ on lists

-- The blocker is what a cut gives.
pub blocker-cut : (g : Gate) (gone : List (Cell ℕ)) (c : Cut ℕ) → equal_blocker g gone ≡ some c →
    (cut (shares g) gone ≡ some c) × (cancels seven c.here.gate g ≡ true)
unfolding equal_blocker
blocker-cut g gone c p = first (cut (shares g) gone) refl p
  where
    second : (d : Cut ℕ) (b : Bool) → cancels seven d.here.gate g ≡ b → cut (shares g) gone ≡ some d → when b (some d) ≡ some c →
        (cut (shares g) gone ≡ some c) × (cancels seven c.here.gate g ≡ true)
    second d true q r s = (r ∙ s, let e : d ≡ c = cc in ap (λ x. cancels seven x.here.gate g) (sym e) ∙ q)
    second d false q r s = absurd (none-not-some _ s)

    first : (o : Option (Cut ℕ)) → cut (shares g) gone ≡ o → (and_then o λ d. when (cancels seven d.here.gate g) (some d)) ≡ some c →
        (cut (shares g) gone ≡ some c) × (cancels seven c.here.gate g ≡ true)
    first none q r = absurd (none-not-some _ r)
    first (some d) q r = second d (cancels seven d.here.gate g) refl q r

-- No equal blocker: the gate stays.
pub turn-stays : (gone : List (Cell ℕ)) (e : Cell ℕ) (l : List (Cell ℕ)) → equal_blocker e.gate gone ≡ none →
    pairs_from seven gone (e ∷ l) ≡ pairs_from seven (e ∷ gone) l
unfolding pairs_from equal_blocker
turn-stays gone e l p = go (cut (shares e.gate) gone) p
  where
    second : (d : Cut ℕ) (b : Bool) → when b (some d) ≡ none →
        cond b (fire 1 (length d.after) (length gone) (pairs_from seven (without d) l)) (pairs_from seven (e ∷ gone) l)
        ≡ pairs_from seven (e ∷ gone) l
    second d true q = absurd (none-not-some _ (sym q))
    second d false q = refl

    go : (o : Option (Cut ℕ)) → (and_then o λ d. when (cancels seven d.here.gate e.gate) (some d)) ≡ none →
        (try o (pairs_from seven (e ∷ gone) l) λ d. cond (cancels seven d.here.gate e.gate)
        (fire 1 (length d.after) (length gone) (pairs_from seven (without d) l)) (pairs_from seven (e ∷ gone) l))
        ≡ pairs_from seven (e ∷ gone) l
    go none q = refl
    go (some d) q = second d (cancels seven d.here.gate e.gate) q

-- An equal blocker: both go.
pub turn-fires : (gone : List (Cell ℕ)) (e : Cell ℕ) (l : List (Cell ℕ)) (c : Cut ℕ) → equal_blocker e.gate gone ≡ some c →
    pairs_from seven gone (e ∷ l) ≡ fire 1 (length c.after) (length gone) (pairs_from seven (without c) l)
unfolding pairs_from
turn-fires gone e l c p =
    let parts = blocker-cut e.gate gone c p in
    ap (λ o. try o (pairs_from seven (e ∷ gone) l) λ d. cond (cancels seven d.here.gate e.gate)
    (fire 1 (length d.after) (length gone) (pairs_from seven (without d) l)) (pairs_from seven (e ∷ gone) l)) parts.0
    ∙ ap (λ b. cond b (fire 1 (length c.after) (length gone) (pairs_from seven (without c) l)) (pairs_from seven (e ∷ gone) l)) parts.1

-- ------------------------------------------------------------ on slots

module _ (live : ℕ → Bool) (gates : ℕ → Gate) where
  -- One slot is passed.
  pub from_next : (i count : ℕ) (b : Bool) → live i ≡ b → i < count →
      let rest = cells_from live gates (i + 1) (count - (i + 1)) in
      cells_from live gates i (count - i) ≡ cond b (cell_of gates i ∷ rest) rest
  unfolding cells_from
  from_next i count b e m =
      let one_more : count - i ≡ suc (count - (i + 1)) = omega (arith, m) in
      ap (cells_from live gates i) one_more
      ∙ ap₂ (λ (b : Bool) (j : ℕ). cond b (cell_of gates i ∷ cells_from live gates j (count - (i + 1))) (cells_from live gates j (count - (i + 1))))
      e (sym (add-one i))

  below_next : (i : ℕ) (b : Bool) → live i ≡ b →
      cells_below live gates (i + 1) ≡ cond b (cell_of gates i ∷ cells_below live gates i) (cells_below live gates i)
  unfolding cells_below
  below_next i b e =
      ap (cells_below live gates) (add-one i)
      ∙ ap (λ (b : Bool). cond b (cell_of gates i ∷ cells_below live gates i) (cells_below live gates i)) e

  abbrev ahead : ℕ → ℕ → Done ℕ
  ahead count slot = pairs_from seven (cells_below live gates slot) (cells_from live gates slot (count - slot))

  module _ (count slot : ℕ) (inside : slot < count) where
    pub slot-skipped : live slot ≡ false → ahead count slot ≡ ahead count (slot + 1)
    slot-skipped e = ap₂ (pairs_from seven) (sym (below_next slot false e)) (from_next slot count false e inside)

    pub slot-stays : live slot ≡ true → equal_blocker (gates slot) (cells_below live gates slot) ≡ none → ahead count slot ≡ ahead count (slot + 1)
    slot-stays e p =
        ap (pairs_from seven (cells_below live gates slot)) (from_next slot count true e inside)
        ∙ turn-stays (cells_below live gates slot) (cell_of gates slot) (cells_from live gates (slot + 1) (count - (slot + 1))) p
        ∙ ap (λ (l : List (Cell ℕ)). pairs_from seven l (cells_from live gates (slot + 1) (count - (slot + 1)))) (sym (below_next slot true e))

-- A live slot that has an equal blocker.
module _ (live : ℕ → Bool) (gates : ℕ → Gate) (count slot b : ℕ) (inside : slot < count) (on : live slot ≡ true)
    (parted : PartedAt (equal_blocker (gates slot) (cells_below live gates slot)) b) where
  abbrev c : Cut ℕ
  c = parted.parts

  part : CutBelow live gates (shares (gates slot)) slot c
  part = cut-below-parts live gates (shares (gates slot)) slot c (blocker-cut (gates slot) (cells_below live gates slot) c parted.is).0

  pub parted-live : live b ≡ true
  parted-live = subst (λ (x : ℕ). live x ≡ true) parted.slot part.live_here

  pub parted-below : b < slot
  parted-below = omega (arith, parted.slot, part.inside)

  pub slots-fire : ahead live gates count slot
      ≡ fire 1 (length (cells_below live gates b)) (length (cells_below live gates slot))
      (pairs_from seven (without c) (cells_from live gates (slot + 1) (count - (slot + 1))))
  slots-fire =
      ap (pairs_from seven (cells_below live gates slot)) (from_next live gates slot count true on inside)
      ∙ turn-fires (cells_below live gates slot) (cell_of gates slot) (cells_from live gates (slot + 1) (count - (slot + 1))) c parted.is
      ∙ ap (λ (l : List (Cell ℕ)). fire 1 (length l) (length (cells_below live gates slot)) (pairs_from seven (without c) (cells_from live gates (slot + 1) (count - (slot + 1)))))
      (part.after ∙ ap (cells_below live gates) parted.slot)

  -- Both have gone: what was to come is their step, and what is to come of the others.
  pub slots-go : (live' : ℕ → Bool) → ((i : ℕ) → live' i ≡ ((live i && not (eqb i b)) && not (eqb i slot))) →
      ahead live gates count slot
      ≡ fire 1 (length (cells_below live gates b)) (length (cells_below live gates slot)) (ahead live' gates count (slot + 1))
  slots-go live' taken =
      slots-fire
      ∙ ap₂ (λ (l m : List (Cell ℕ)). fire 1 (length (cells_below live gates b)) (length (cells_below live gates slot)) (pairs_from seven l m)) before after
    where
      still : (i : ℕ) → (i ≡ slot → ⊥) → (live i && not (eqb i b)) ≡ live' i
      still i d = sym (and-true (live i && not (eqb i b))) ∙ ap (λ (x : Bool). (live i && not (eqb i b)) && not x) (sym (ne_eqb i slot d)) ∙ sym (taken i)

      off : live' slot ≡ false
      off = taken slot ∙ ap (λ (x : Bool). (live slot && not (eqb slot b)) && not x) (eq-eqb slot slot refl) ∙ and-false (live slot && not (eqb slot b))

      before : without c ≡ cells_below live' gates (slot + 1)
      before =
          part.rest
          ∙ below-same (λ j. live j && not (eqb j c.here.beside)) live' gates gates slot
          (λ j m. ap (λ (x : ℕ). live j && not (eqb j x)) parted.slot ∙ still j (λ e. omega (arith, e))) (λ j m e. refl)
          ∙ sym (below_next live' gates slot false off)

      after : cells_from live gates (slot + 1) (count - (slot + 1)) ≡ cells_from live' gates (slot + 1) (count - (slot + 1))
      after =
          cells_same live live' gates gates (slot + 1) (count - (slot + 1))
          (λ j m n. sym (and-true (live j)) ∙ ap (λ (x : Bool). live j && not x) (sym (ne_eqb j b (λ e. omega (arith, e, parted-below)))) ∙ still j (λ e. omega (arith, e)))
          (λ j m n e. refl)
