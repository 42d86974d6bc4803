-- The latest gate on one of several wires: the later of the latest on each.
use Rattle.std.specs.Prelude.{Option as Answer, Some, None}
use mathlib.Core.Path.{◌≡◌, refl, sym, ap, ap₂, ◌∙◌}
use mathlib.Core.Bool.{Bool, true, false, cond, ◌&&◌, ◌||◌}
use mathlib.Core.List.{List, [], ◌∷◌}
use mathlib.Core.Option.{Option, some, none}
use Prim.Native.Nat.{ℕ, zero, suc, ◌+◌, ◌≤◌, ◌<◌}
use native.Mathlib.Omega.{arith}
use native.Mathlib.Numerals.{add-one}
use lib.Dec.{ltb}
use lib.ListN.{length, get_or, take}
use lib.Seq.{take_all}
use borrow.Author.Tests.{lt-ltb, le-ltb}
use Rattle.gates.specs.declared.Gate.{Gate}
use Rattle.gates.specs.declared.records.Record.{Record}
use Rattle.gates.specs.Gates.{wires_of, touches, has, meet, All}
use Rattle.gates.specs.Records.{record_at, operand_words}
use Rattle.rules.specs.Sweeps.{cut}
use Rattle.links.specs.Seek.{latest}
use Rattle.links.proofs.SeekLaws.{IsLatest, latest-is, latest-one, latest-same}
use Rattle.slots.specs.declared.Slot.{Slot}
use Rattle.slots.specs.Slots.{gate_at, Sound, cells_below, slot_of, slot_as, found, later_of}
use Rattle.slots.proofs.HeldLaws.{cut_below}
use Rattle.slots.proofs.StateLaws.{known, wires-are, operands-small}

-- ------------------------------------------------------------ the later of two

-- A slot is later than one found below it, whichever of the two comes first.
later_second : (i : ℕ) (on : ℕ → Bool) (r : Option ℕ) → IsLatest on i r → later_of (found r) (Some (slot_as i)) ≡ Some (slot_as i)
later_second i on none h = refl
later_second i on (some j) h = ap (λ (b : Bool). cond b (Some (slot_as i)) (Some (slot_as j))) (lt-ltb j i h.0)

later_first : (i : ℕ) (on : ℕ → Bool) (r : Option ℕ) → IsLatest on i r → later_of (Some (slot_as i)) (found r) ≡ Some (slot_as i)
later_first i on none h = refl
later_first i on (some j) h = ap (λ (b : Bool). cond b (Some (slot_as j)) (Some (slot_as i))) (le-ltb i j (omega (arith, h.0)))

later-itself : (i : ℕ) → later_of (Some (slot_as i)) (Some (slot_as i)) ≡ Some (slot_as i)
later-itself i = go (ltb i i)
  where
    go : (b : Bool) → cond b (Some (slot_as i)) (Some (slot_as i)) ≡ Some (slot_as i)
    go true = refl
    go false = refl

-- Of the latest that meet two tests the later is the latest that meets either.
latest-either : (p q : ℕ → Bool) (i : ℕ) → later_of (found (latest p i)) (found (latest q i)) ≡ found (latest (λ j. p j || q j) i)
unfolding latest
latest-either p q zero = refl
latest-either p q (suc i) = go (p i) (q i) (latest-either p q i)
  where
    go : (a b : Bool) → later_of (found (latest p i)) (found (latest q i)) ≡ found (latest (λ j. p j || q j) i) →
        later_of (found (cond a (some i) (latest p i))) (found (cond b (some i) (latest q i))) ≡
        found (cond (a || b) (some i) (latest (λ j. p j || q j) i))
    go true true h = later-itself i
    go true false h = later_first i q (latest q i) (latest-is q i)
    go false true h = later_second i p (latest p i) (latest-is p i)
    go false false h = h

-- ------------------------------------------------------------ wire by wire

-- One wire more is one test more.
meet-more : (ws vs : List ℕ) (op : ℕ) → op < length ws → meet (take (suc op) ws) vs ≡ meet (take op ws) vs || has (get_or ws op 0) vs
unfolding meet
meet-more [] vs op m = absurd (omega arith)
meet-more (w ∷ ws) vs zero m = or-false (has w vs)
  where
    or-false : (b : Bool) → b || false ≡ b
    or-false true = refl
    or-false false = refl
meet-more (w ∷ ws) vs (suc op) m = go (has w vs) (meet-more ws vs op (omega arith))
  where
    go : (b : Bool) → meet (take (suc op) ws) vs ≡ meet (take op ws) vs || has (get_or ws op 0) vs →
        b || meet (take (suc op) ws) vs ≡ (b || meet (take op ws) vs) || has (get_or ws op 0) vs
    go true h = refl
    go false h = h

module _ (live : ℕ → Bool) (gates : ℕ → Gate) (slot : ℕ) (ws : List ℕ) where
  -- The latest gate below a slot on one of the first so many wires. It stays shut, so that a loop's proof need not name the
  -- arguments again.
  unfoldable pub latest_on : ℕ → Answer Slot
  latest_on op = found (slot_of (cut (λ g. meet (take op ws) (wires_of g)) (cells_below live gates slot)))

  abbrev on_one_of : ℕ → ℕ → Bool
  on_one_of op j = live j && meet (take op ws) (wires_of (gates j))

  latest-on : (op : ℕ) → latest_on op ≡ found (latest (on_one_of op) slot)
  unfolding latest_on
  latest-on op = ap found (cut_below live gates (λ g. meet (take op ws) (wires_of g)) slot)

  -- On none there is none; one wire more, the later of two; in the end all wires.
  pub on_none : None ≡ latest_on 0
  unfolding meet
  on_none = sym (latest-on 0 ∙ ap found (latest-one (on_one_of 0) slot none (λ j m. off (live j))))
    where
      off : (b : Bool) → b && false ≡ false
      off true = refl
      off false = refl

  pub on-more : (op w : ℕ) (best next : Answer Slot) → op < length ws → w ≡ get_or ws op 0 → best ≡ latest_on op →
      next ≡ found (slot_of (cut (touches w) (cells_below live gates slot))) → later_of best next ≡ latest_on (op + 1)
  on-more op w best next m e b n =
      ap₂ later_of (b ∙ latest-on op) (n ∙ ap found (cut_below live gates (touches w) slot))
      ∙ latest-either (on_one_of op) (λ j. live j && touches w (gates j)) slot
      ∙ ap found (latest-same (λ j. on_one_of op j || (live j && touches w (gates j))) (on_one_of (op + 1)) slot (λ j h. agree j (live j)))
      ∙ sym (latest-on (op + 1))
    where
      agree : (j : ℕ) (a : Bool) → (a && meet (take op ws) (wires_of (gates j))) || (a && touches w (gates j)) ≡
          a && meet (take (op + 1) ws) (wires_of (gates j))
      agree j true = rw (add-one op, e) (sym (meet-more ws (wires_of (gates j)) op m))
      agree j false = refl

  pub on-all : (op : ℕ) → length ws ≤ op → latest_on op ≡ found (slot_of (cut (λ g. meet ws (wires_of g)) (cells_below live gates slot)))
  unfolding latest_on
  on-all op m = ap (λ (vs : List ℕ). found (slot_of (cut (λ g. meet vs (wires_of g)) (cells_below live gates slot)))) (take_all op ws m)

-- ------------------------------------------------------------ the record that is read

-- The record of a sound gate has a kind of the table, and its operands are the gate's wires.
module _ (n : ℕ) (bytes : List ℕ) (i : ℕ) (sound : Sound n (record_at bytes i)) (r : Record) (e : r ≡ record_at bytes i) where
  pub read_known : r.kind < 27
  read_known = rw e (known n bytes i sound)

  pub read_small : All (λ w. w < n) (operand_words r)
  read_small = rw e (operands-small n bytes i sound)

  pub read-wires : operand_words r ≡ wires_of (gate_at bytes i)
  read-wires = rw e (sym (wires-are n bytes i sound))

  -- As many operands as the gate has wires.
  pub count-wires : (count : ℕ) → count ≡ length (operand_words r) → count ≡ length (wires_of (gate_at bytes i))
  count-wires count h = h ∙ ap length read-wires
