-- The search for an equal blocker in code: a kind that cancels, a blocker, and two records that are equal.
use Rattle.std.specs.Prelude.{Option as Answer, Some, None}
use mathlib.Core.Path.{◌≡◌, refl, sym, ap, ap₂, subst, ◌∙◌}
use mathlib.Core.Bool.{Bool, true, false, false≢true}
use mathlib.Core.List.{List}
use mathlib.Core.Option.{Option, some, none}
use Prim.Native.Nat.{ℕ, ◌+◌, ◌*◌, ◌≤◌, ◌<◌}
use native.Mathlib.Omega.{arith}
use lib.ListN.{length}
use Rattle.gates.specs.declared.Gate.{Gate}
use Rattle.gates.specs.declared.records.Record.{Record}
use Rattle.gates.specs.Gates.{has, shares}
use Rattle.gates.specs.Records.{kind_of, record_at}
use Rattle.gates.proofs.Joined.{and_left}
use Rattle.rules.specs.Equal.{seven, cancels}
use Rattle.rules.specs.Steps.{Cell, Cut, and_then, when}
use Rattle.rules.specs.Sweeps.{cut}
use Rattle.rules.proofs.EqualLaws.{cancels-equal, equal-parts}
use Rattle.leaves.specs.Answers.{cancels_by}
use Rattle.leaves.proofs.EqualCode.{records-cancel}
use Rattle.slots.specs.declared.Slot.{Slot}
use Rattle.slots.specs.declared.Extent.{Extent}
use Rattle.slots.specs.Slots.{gate_at, Sound, slot_of, found, slot_as}
use Rattle.slots.specs.Live.{is_live, earlier, Loaded}
use Rattle.slots.proofs.StateLaws.{live_below, record_is}
use Rattle.slots.proofs.CutLaws.{CutBelow, cut-below-parts}
use Rattle.slots.proofs.AnswerLaws.{PartedAt, found-parted, found_none}
use Rattle.pairing.specs.Ahead.{equal_blocker}

-- ------------------------------------------------------------ equal blockers

-- A gate that cancels with another has its kind, so that kind cancels.
kind-too : (a b : Gate) → cancels seven a b ≡ true → has (kind_of b) seven ≡ true
unfolding cancels
kind-too a b e =
    subst (λ (kind : ℕ). has kind seven ≡ true) (equal-parts a b (cancels-equal seven a b e)).0 (and_left (has (kind_of a) seven) _ e)

no_kind : (g : Gate) (gone : List (Cell ℕ)) → has (kind_of g) seven ≡ false → equal_blocker g gone ≡ none
unfolding equal_blocker
no_kind g gone off = go (cut (shares g) gone)
  where
    test : (c : Cut ℕ) (b : Bool) → cancels seven c.here.gate g ≡ b → when b (some c) ≡ none
    test c true e = absurd (false≢true (sym off ∙ kind-too c.here.gate g e))
    test c false e = refl

    go : (o : Option (Cut ℕ)) → (and_then o λ c. when (cancels seven c.here.gate g) (some c)) ≡ none
    go none = refl
    go (some c) = test c (cancels seven c.here.gate g) refl

no-blocker : (g : Gate) (gone : List (Cell ℕ)) → cut (shares g) gone ≡ none → equal_blocker g gone ≡ none
unfolding equal_blocker
no-blocker g gone e = ap (λ o. and_then o λ c. when (cancels seven c.here.gate g) (some c)) e

tested : (g : Gate) (gone : List (Cell ℕ)) (c : Cut ℕ) (b : Bool) → cut (shares g) gone ≡ some c →
    cancels seven c.here.gate g ≡ b → equal_blocker g gone ≡ when b (some c)
unfolding equal_blocker
tested g gone c b e t =
    ap (λ o. and_then o λ c. when (cancels seven c.here.gate g) (some c)) e ∙ ap (λ b. when b (some c)) t

-- ------------------------------------------------------------ the code's answers

-- A list's gate, whose record has been read, and the live slots below one.
module _ (bytes words list : List ℕ) (k : Extent) (i place : ℕ) (s : Record) (l : Loaded bytes words k)
    (sound : Sound k.wires (record_at list place)) (read : s ≡ record_at list place) where
  abbrev g : Gate
  g = gate_at list place

  abbrev gone : List (Cell ℕ)
  gone = earlier bytes words k i

  abbrev Said : Answer Slot → Type 0
  Said r = r ≡ found (slot_of (equal_blocker g gone))

  said-as : (o : Option (Cut ℕ)) → equal_blocker g gone ≡ o → Said (found (slot_of o))
  said-as o e = ap (λ (x : Option (Cut ℕ)). found (slot_of x)) (sym e)

  pub kind-stays : (b : Bool) → b ≡ has s.kind seven → b ≡ false → Said None
  kind-stays b e f =
      said-as none (no_kind g gone (ap (λ (x : Record). has x.kind seven) (record_is k.wires list place sound ∙ sym read) ∙ sym e ∙ f))

  pub free-stays : None ≡ found (slot_of (cut (shares g) gone)) → Said None
  free-stays said = said-as none (no-blocker g gone (found_none (cut (shares g) gone) None said refl))

  -- A blocker was found.
  module _ (b : Slot) (said : Some b ≡ found (slot_of (cut (shares g) gone))) where
    parted : PartedAt (cut (shares g) gone) b.0
    parted = found-parted (cut (shares g) gone) (Some b) b said refl

    part : CutBelow (is_live words k) (gate_at bytes) (shares g) i parted.parts
    part = cut-below-parts (is_live words k) (gate_at bytes) (shares g) i parted.parts parted.is

    blocker-live : is_live words k b.0 ≡ true
    blocker-live = subst (λ (x : ℕ). is_live words k x ≡ true) parted.slot part.live_here

    pub blocker-inside : b.0 < k.gates
    blocker-inside = live_below words k b.0 blocker-live

    -- Its record can be read.
    pub blocker-reads : (16 * b.0 + 16 ≤ length bytes) × (b.0 < 1048576)
    blocker-reads = (omega (arith, blocker-inside, l.long), omega (arith, blocker-inside, l.few))

    -- It has been read and compared.
    module _ (r : Record) (t : Bool) (reads : r ≡ record_at bytes b.0) (compared : t ≡ cancels_by r s) where
      same_test : cancels seven parted.parts.here.gate g ≡ t
      same_test =
          ap (λ (h : Gate). cancels seven h g) (ap (λ (e : Cell ℕ). e.gate) part.here ∙ ap (gate_at bytes) parted.slot)
          ∙ sym (records-cancel (gate_at bytes b.0) g)
          ∙ ap₂ cancels_by (record_is k.wires bytes b.0 (l.sound b.0 blocker-live) ∙ sym reads) (record_is k.wires list place sound ∙ sym read)
          ∙ sym compared

      pub equal-goes : t ≡ true → Said (Some b)
      equal-goes e =
          ap (λ (x : ℕ). Some (slot_as x)) (sym parted.slot)
          ∙ said-as (some parted.parts) (tested g gone parted.parts true parted.is (same_test ∙ e))

      pub unequal-stays : t ≡ false → Said None
      unequal-stays e = said-as none (tested g gone parted.parts false parted.is (same_test ∙ e))
