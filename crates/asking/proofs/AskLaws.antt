-- What the links, the pairs and the ranks of a live list answer: the slots that its list of cells names.
use Rattle.std.specs.Prelude.{Option as Answer, Some, None, Result, Ok}
use mathlib.Core.Path.{◌≡◌, refl, sym, ap, ap₂, ◌∙◌}
use mathlib.Core.Bool.{Bool, true, cond, ◌&&◌}
use mathlib.Core.List.{List, [], ◌∷◌}
use mathlib.Core.Option.{Option, some, none}
use Prim.Native.Nat.{ℕ, zero, suc, ◌+◌, ◌*◌, ◌-◌, ◌/◌, ◌≤◌, ◌<◌}
use native.Mathlib.Omega.{arith}
use lib.ListN.{length, get_or, take}
use borrow.Author.Tests.{lt-ltb, le-ltb}
use Rattle.gates.specs.declared.Gate.{Gate}
use Rattle.gates.specs.declared.records.Record.{Record}
use Rattle.gates.specs.declared.records.NoGate.{NoGate}
use Rattle.gates.specs.Gates.{wires_of, touches}
use Rattle.gates.specs.Kinds.{row_of}
use Rattle.gates.specs.Records.{record_from, record_at, gate_of, kind_of}
use Rattle.gates.specs.Words.{byte_at, word_at}
use Rattle.gates.proofs.Joined.{and_right}
use Rattle.gates.proofs.RecordLaws.{row_small, known-kind}
use Rattle.gates.proofs.RoundTrip.{wires-words, encode-decode}
use Rattle.rules.specs.Equal.{equal, is_pair}
use Rattle.rules.specs.Steps.{cut_at}
use Rattle.rules.specs.Sweeps.{cut}
use Rattle.links.specs.Words.{word}
use Rattle.links.specs.Seek.{latest, earliest, node_at}
use Rattle.links.proofs.SeekLaws.{IsLatest, IsEarliest, latest-is, earliest-is}
use Rattle.ranks.specs.Ranks.{Ranks, marks, below}
use Rattle.ranks.proofs.SumLaws.{below_none}
use Rattle.slots.specs.declared.Extent.{Extent}
use Rattle.slots.specs.declared.Slot.{Slot}
use Rattle.slots.specs.Slots.{gate_in, gate_at, cells_from, slot_of, slot_as, found}
use Rattle.slots.specs.Live.{prev_at, ranks_at, pairs_at, is_live, held, earlier, later, operand_of, node_on, end_of, on_wire, Loaded, Forward, Partners}
use Rattle.slots.specs.Nodes.{slot_in}
use Rattle.slots.proofs.HeldLaws.{cut_below, cut-from, length-below, length_from, cut-at}
use Rattle.slots.proofs.WireLaws.{at-most-three, operand-is, operand-there, operand_at}
use Rattle.slots.proofs.StateLaws.{live-is, live_below, mark-live, gate-is, wires-small, wires-once}

-- ------------------------------------------------------------ the side of the links back

-- The slot beside a node on that side, however the place of its link was come by.
pub beside-at : (k : Extent) (words : List ℕ) (at node : ℕ) (r : Answer Slot) (o : Option ℕ) → r ≡ found (slot_in (3 * k.gates) (get_or words at 0)) →
    slot_in (3 * k.gates) (word words (prev_at k) node) ≡ o → at ≡ prev_at k + node → r ≡ found o
beside-at k words at node r o said is e =
    said ∙ ap (λ (at : ℕ). found (slot_in (3 * k.gates) (get_or words at 0))) e ∙ ap found is

-- ------------------------------------------------------------ the gate in a slot

-- It is what its record was decoded as.
pub gate-read : (bytes : List ℕ) (slot : ℕ) (r : Record) (d e : Result Gate NoGate) → r ≡ record_at bytes slot → d ≡ gate_of r → d ≡ e →
    gate_in e ≡ gate_at bytes slot
gate-read bytes slot r d e q f h = ap gate_in (sym h ∙ f ∙ ap gate_of q) ∙ sym (gate-is bytes slot)

-- A count of one or more takes the first.
first_taken : (count first : ℕ) (others : List ℕ) → 1 ≤ count → first ≡ get_or (take count (first ∷ others)) 0 0
first_taken zero first others h = absurd (omega arith)
first_taken (suc count) first others h = refl

-- The first byte of its record is its kind, the first word its first wire.
module _ (bytes : List ℕ) (slot : ℕ) (reads : gate_of (record_at bytes slot) ≡ Ok (gate_at bytes slot)) where
  pub kind-read : byte_at bytes (16 * slot) ≡ kind_of (gate_at bytes slot)
  unfolding record_from
  kind-read = sym (ap (λ (r : Record). r.kind) (encode-decode (record_at bytes slot) (gate_at bytes slot) reads))

  pub wire-read : word_at bytes (16 * slot + 4) ≡ get_or (wires_of (gate_at bytes slot)) 0 0
  unfolding record_from
  wire-read =
      let r = record_at bytes slot in
      let one = (row_small (row_of r.kind) r.kind refl (known-kind r (gate_at bytes slot) reads)).0 in
      first_taken (row_of r.kind).operands r.first (r.second ∷ r.third ∷ []) one
      ∙ sym (ap (λ (ws : List ℕ). get_or ws 0 0) (wires-words r (gate_at bytes slot) reads))

-- ------------------------------------------------------------ what a link names

-- Among pairs a slot has the number after it, and 0 names none.
names-none : (r : Option ℕ) → node_at suc 0 r ≡ 0 → None ≡ found r
names-none none e = refl
names-none (some j) e = absurd (omega (arith, e))

names-some : (r : Option ℕ) (node : ℕ) → node ≡ node_at suc 0 r → (node ≡ 0 → ⊥) → Some (slot_as (node - 1)) ≡ found r
names-some none node e d = absurd (d e)
names-some (some j) node e d = ap (λ (x : ℕ). Some (slot_as x)) (omega (arith, e))

-- A slot that meets a test, one of so many; or none.
abbrev Meets : (ℕ → Bool) → ℕ → Option ℕ → Type 0
Meets on slots none = Unit {0}
Meets on slots (some j) = (j < slots) × (on j ≡ true)

latest-meets : (on : ℕ → Bool) (i slots : ℕ) → i ≤ slots → Meets on slots (latest on i)
latest-meets on i slots m = go (latest on i) (latest-is on i)
  where
    go : (r : Option ℕ) → IsLatest on i r → Meets on slots r
    go none h = tt
    go (some j) h = (omega (arith, h.0), h.1)

earliest-meets : (on : ℕ → Bool) (i count slots : ℕ) → i + count ≡ slots → Meets on slots (earliest on i count)
earliest-meets on i count slots m = go (earliest on i count) (earliest-is on i count slots m)
  where
    go : (r : Option ℕ) → IsEarliest on i slots r → Meets on slots r
    go none h = tt
    go (some j) h = (h.1, h.2)

module _ (bytes words : List ℕ) (k : Extent) where
  -- ------------------------------------------------------------ links on wires

  -- The slot of a slot's node on a wire is that slot, and the end of a wire has none.
  node-names : (w : ℕ) (r : Option ℕ) → Meets (on_wire bytes words k w) k.gates r →
      slot_in (3 * k.gates) (node_at (node_on bytes w) (end_of k w) r) ≡ r
  node-names w none h = ap (λ (b : Bool). cond b (some (end_of k w / 3)) none) (le-ltb (end_of k w) (3 * k.gates) (omega arith))
  node-names w (some j) h =
      ap (λ (b : Bool). cond b (some (node_on bytes w j / 3)) none) (lt-ltb (node_on bytes w j) (3 * k.gates) (omega (arith, small, h.0)))
      ∙ ap some (third small)
    where
      small : operand_of w (wires_of (gate_at bytes j)) < 3
      small =
          omega (
            arith,
            (operand-is w (wires_of (gate_at bytes j)) (and_right (is_live words k j) (touches w (gate_at bytes j)) h.1)).0,
            at-most-three (gate_at bytes j),
          )

      third : operand_of w (wires_of (gate_at bytes j)) < 3 → node_on bytes w j / 3 ≡ j
      third l = omega (arith, l)

  -- So a link to the latest or the earliest on a wire names the first cell of a list that touches the wire.
  latest-named : (w i : ℕ) → i ≤ k.gates →
      slot_in (3 * k.gates) (node_at (node_on bytes w) (end_of k w) (latest (on_wire bytes words k w) i))
      ≡ slot_of (cut (touches w) (earlier bytes words k i))
  latest-named w i m =
      node-names w (latest (on_wire bytes words k w) i) (latest-meets (on_wire bytes words k w) i k.gates m)
      ∙ sym (cut_below (is_live words k) (gate_at bytes) (touches w) i)

  earliest-named : (w i count : ℕ) → i + count ≡ k.gates →
      slot_in (3 * k.gates) (node_at (node_on bytes w) (end_of k w) (earliest (on_wire bytes words k w) i count))
      ≡ slot_of (cut (touches w) (cells_from (is_live words k) (gate_at bytes) i count))
  earliest-named w i count m =
      node-names w (earliest (on_wire bytes words k w) i count) (earliest-meets (on_wire bytes words k w) i count k.gates m)
      ∙ sym (cut-from (is_live words k) (gate_at bytes) (touches w) i count)

  -- A live slot and one of its operands.
  module _ (l : Loaded bytes words k) (slot operand : ℕ) (t : is_live words k slot ≡ true) (m : operand < length (wires_of (gate_at bytes slot))) where
    abbrev wire_at : ℕ
    wire_at = get_or (wires_of (gate_at bytes slot)) operand 0

    touched : touches wire_at (gate_at bytes slot) ≡ true
    touched = operand-there (wires_of (gate_at bytes slot)) operand m

    wire-small : wire_at < k.wires
    wire-small = wires-small k.wires bytes slot (l.sound slot t) wire_at touched

    on-it : on_wire bytes words k wire_at slot ≡ true
    on-it = ap₂ ◌&&◌ t touched

    inside : slot < k.gates
    inside = live_below words k slot t

    -- Its node is the slot's on that wire, since no wire stands twice.
    node-is : 3 * slot + operand ≡ node_on bytes wire_at slot
    node-is =
        ap (λ (o : ℕ). 3 * slot + o)
        (sym (operand_at (wires_of (gate_at bytes slot)) operand (wires-once k.wires bytes slot (l.sound slot t)) m))

    pub node-inside : 3 * slot + operand < 3 * k.gates
    node-inside = omega (arith, inside, at-most-three (gate_at bytes slot), m)

    pub before-is : slot_in (3 * k.gates) (word words (prev_at k) (3 * slot + operand)) ≡
        slot_of (cut (touches wire_at) (earlier bytes words k slot))
    before-is =
        ap (slot_in (3 * k.gates)) (ap (word words (prev_at k)) node-is ∙ l.back wire_at wire-small slot inside on-it)
        ∙ latest-named wire_at slot (omega (arith, inside))

    pub after_is : Forward bytes words k →
        slot_in (3 * k.gates) (word words 0 (3 * slot + operand)) ≡ slot_of (cut (touches wire_at) (later bytes words k slot))
    after_is f =
        ap (slot_in (3 * k.gates)) (ap (word words 0) node-is ∙ f.each wire_at wire-small slot inside on-it)
        ∙ earliest-named wire_at (suc slot) (k.gates - suc slot) (omega (arith, inside))

  -- The end of a wire.
  pub last-is : (w : ℕ) → w < k.wires → Loaded bytes words k →
      slot_in (3 * k.gates) (word words (prev_at k) (end_of k w)) ≡ slot_of (cut (touches w) (earlier bytes words k k.gates))
  last-is w m l = ap (slot_in (3 * k.gates)) (l.last w m) ∙ latest-named w k.gates (omega arith)

  pub first-is : (w : ℕ) → w < k.wires → Forward bytes words k →
      slot_in (3 * k.gates) (word words 0 (end_of k w)) ≡ slot_of (cut (touches w) (held bytes words k))
  first-is w m f = ap (slot_in (3 * k.gates)) (f.first w m) ∙ earliest-named w 0 k.gates (omega arith)

  -- ------------------------------------------------------------ partners

  -- The slot of the next gate that is equal to a slot's.
  abbrev partner_of : ℕ → Option ℕ
  partner_of slot = slot_of (cut (equal (gate_at bytes slot)) (later bytes words k slot))

  -- The word that names it.
  abbrev partner_word : ℕ → ℕ
  partner_word slot = get_or words (pairs_at k + slot + 1) 0

  module _ (slot : ℕ) (t : is_live words k slot ≡ true) (q : is_pair (gate_at bytes slot) ≡ true) (p : Partners bytes words k) where
    partner-named : partner_word slot ≡ node_at suc 0 (partner_of slot)
    partner-named =
        ap (λ (x : ℕ). get_or words x 0) (omega arith) ∙ p.on slot t q
        ∙ ap (node_at suc 0) (sym (cut-from (is_live words k) (gate_at bytes) (equal (gate_at bytes slot)) (suc slot) (k.gates - suc slot)))

    pub partner-none : partner_word slot ≡ 0 → None ≡ found (partner_of slot)
    partner-none e = names-none (partner_of slot) (sym partner-named ∙ e)

    pub partner-some : (partner_word slot ≡ 0 → ⊥) → Some (slot_as (partner_word slot - 1)) ≡ found (partner_of slot)
    partner-some d = names-some (partner_of slot) (partner_word slot) partner-named d

  -- ------------------------------------------------------------ positions

  abbrev marked : ℕ → ℕ
  marked = marks words (ranks_at k) k.gates

  -- The marks below a slot count the cells below it: the position of its own.
  module _ (r : Ranks words (ranks_at k) k.gates) where
    pub position-is : (slot : ℕ) → below marked slot ≡ length (earlier bytes words k slot)
    position-is slot = sym (length-below (is_live words k) (gate_at bytes) marked r.small (live-is words k) slot)

    pub count-is : below marked k.gates ≡ length (held bytes words k)
    count-is =
        omega (
          arith,
          length_from (is_live words k) (gate_at bytes) marked r.small (live-is words k) 0 k.gates k.gates (omega arith),
          below_none marked,
        )

    pub slot_is : (p slot : ℕ) → slot < k.gates → marked slot ≡ 1 → below marked slot ≡ p → slot_of (cut_at p (held bytes words k)) ≡ some slot
    slot_is p slot m e b =
        cut-at (is_live words k) (gate_at bytes) marked r.small (live-is words k) 0 k.gates slot p (omega arith) (omega arith)
        (mark-live words k slot e) (omega (arith, b, below_none marked))

  -- With no slot the list is empty, and there are no ranks to ask.
  pub held_none : k.gates ≡ 0 → length (held bytes words k) ≡ 0
  unfolding cells_from
  held_none e = ap (λ (slots : ℕ). length (cells_from (is_live words k) (gate_at bytes) 0 slots)) e

  pub held-some : (p : ℕ) → p < length (held bytes words k) → 0 < k.gates
  held-some p m = go k.gates refl
    where
      go : (n : ℕ) → k.gates ≡ n → 0 < n
      go zero e = absurd (omega (arith, held_none e, m))
      go (suc n) e = omega arith
