-- The tracks of a walk in the slots: a node stands for the gates of its wire from its slot up to the partner.
use mathlib.Core.Path.{◌≡◌, refl, sym, ap, subst, ◌∙◌}
use mathlib.Core.Bool.{Bool, true, false, cond, ◌&&◌, false≢true}
use mathlib.Core.List.{List, [], ◌∷◌}
use mathlib.Core.Option.{Option, some, none}
use Prim.Native.Nat.{ℕ, zero, suc, ◌+◌, ◌*◌, ◌-◌, ◌/◌, ◌≤◌, ◌<◌}
use native.Mathlib.Omega.{arith}
use lib.ListN.{length}
use Rattle.gates.specs.declared.Gate.{Gate}
use Rattle.gates.specs.Gates.{wires_of, touches}
use Rattle.gates.proofs.Joined.{and_left, and_right}
use Rattle.rules.specs.Steps.{Cell, track}
use Rattle.links.specs.Words.{word}
use Rattle.links.specs.Seek.{earliest, node_at}
use Rattle.links.proofs.SeekLaws.{IsEarliest, earliest-is, parted}
use Rattle.slots.specs.declared.Extent.{Extent}
use Rattle.slots.specs.Slots.{gate_at, cell_of, cells_from}
use Rattle.slots.specs.Live.{is_live, operand_of, node_on, end_of, on_wire, Forward}
use Rattle.slots.proofs.WireLaws.{at-most-three, operand-is}
use Rattle.slots.proofs.StateLaws.{live_below}

-- ------------------------------------------------------------ the track of a wire among slots

module _ (live : ℕ → Bool) (gates : ℕ → Gate) (w : ℕ) where
  -- Slots that are not on the wire.
  pub track-past : (i a b : ℕ) → ((l : ℕ) → i ≤ l → l < i + a → live l && touches w (gates l) ≡ false) →
      track w (cells_from live gates i (a + b)) ≡ track w (cells_from live gates (i + a) b)
  unfolding cells_from track
  track-past i zero b off =
      let start : i ≡ i + 0 = omega arith in
      let all : 0 + b ≡ b = omega arith in
      ap (λ (n : ℕ). track w (cells_from live gates i n)) all ∙ ap (λ (j : ℕ). track w (cells_from live gates j b)) start
  track-past i (suc a) b off =
      let one_more : suc a + b ≡ suc (a + b) = omega arith in
      let start : suc i + a ≡ i + suc a = omega arith in
      ap (λ (n : ℕ). track w (cells_from live gates i n)) one_more
      ∙ go (live i) (touches w (gates i)) refl (off i (omega arith) (omega arith))
      ∙ track-past (suc i) a b (λ l m n. off l (omega arith) (omega arith))
      ∙ ap (λ (j : ℕ). track w (cells_from live gates j b)) start
    where
      later : List (Cell ℕ)
      later = cells_from live gates (suc i) (a + b)

      go : (c t : Bool) → touches w (gates i) ≡ t → c && t ≡ false → track w (cond c (cell_of gates i ∷ later) later) ≡ track w later
      go true true q e = absurd (false≢true (sym e))
      go true false q e = ap (λ (t : Bool). cond t (gates i ∷ track w later) (track w later)) q
      go false t q e = refl

  -- A slot that is on it.
  pub track-here : (i count : ℕ) → live i ≡ true → touches w (gates i) ≡ true →
      track w (cells_from live gates i (suc count)) ≡ gates i ∷ track w (cells_from live gates (suc i) count)
  unfolding cells_from track
  track-here i count e t =
      ap (λ (c : Bool). track w (cond c (cell_of gates i ∷ cells_from live gates (suc i) count) (cells_from live gates (suc i) count))) e
      ∙ ap (λ (c : Bool). cond c (gates i ∷ track w (cells_from live gates (suc i) count)) (track w (cells_from live gates (suc i) count))) t

  -- No more gates than slots.
  pub track-few : (i count : ℕ) → length (track w (cells_from live gates i count)) ≤ count
  unfolding cells_from track
  track-few i zero = omega arith
  track-few i (suc count) = go (live i) (touches w (gates i)) refl (track-few (suc i) count)
    where
      later : List (Cell ℕ)
      later = cells_from live gates (suc i) count

      go : (c t : Bool) → touches w (gates i) ≡ t → length (track w later) ≤ count →
          length (track w (cond c (cell_of gates i ∷ later) later)) ≤ suc count
      go true true q h =
          subst (λ (t : Bool). length (cond t (gates i ∷ track w later) (track w later)) ≤ suc count) (sym q) (omega (arith, h))
      go true false q h =
          subst (λ (t : Bool). length (cond t (gates i ∷ track w later) (track w later)) ≤ suc count) (sym q) (omega (arith, h))
      go false t q h = omega (arith, h)

-- ------------------------------------------------------------ nodes on a track

module _ (bytes words : List ℕ) (k : Extent) where
  -- The gates of a wire from a node's slot on, up to the partner.
  abbrev pub track_at : ℕ → ℕ → ℕ → List Gate
  track_at partner w node = track w (cells_from (is_live words k) (gate_at bytes) (node / 3) (partner - node / 3))

  -- A node of a live gate on a wire, after a slot and not past the partner.
  pub record Stands (slot partner w node : ℕ) : Type 0 where
    pub is : node ≡ node_on bytes w (node / 3)
    pub on : on_wire bytes words k w (node / 3) ≡ true
    pub past : slot < node / 3
    pub upto : node / 3 ≤ partner

  slot_of : (w i : ℕ) → touches w (gate_at bytes i) ≡ true → node_on bytes w i / 3 ≡ i
  slot_of w i t = go (operand_of w (wires_of (gate_at bytes i))) (omega (arith, (operand-is w (wires_of (gate_at bytes i)) t).0, at-most-three (gate_at bytes i)))
    where
      go : (o : ℕ) → o < 3 → (3 * i + o) / 3 ≡ i
      go o l = omega (arith, l)

  module _ (forward : Forward bytes words k) (partner w : ℕ) (small : w < k.wires) (on : on_wire bytes words k w partner ≡ true) where
    -- The next slot on a wire, of one before the partner.
    record Next (i : ℕ) : Type 0 where
      slot : ℕ
      linked : word words 0 (node_on bytes w i) ≡ node_on bytes w slot
      after : suc i ≤ slot
      upto : slot ≤ partner
      met : on_wire bytes words k w slot ≡ true
      off : (l : ℕ) → suc i ≤ l → l < slot → on_wire bytes words k w l ≡ false

    next : (i : ℕ) → on_wire bytes words k w i ≡ true → i < partner → Next i
    next i here less =
        go (earliest (on_wire bytes words k w) (suc i) (k.gates - suc i))
        (earliest-is (on_wire bytes words k w) (suc i) (k.gates - suc i) k.gates (omega (arith, inside)))
        (forward.each w small i (omega (arith, inside)) here)
      where
        inside : partner < k.gates
        inside = live_below words k partner (and_left (is_live words k partner) (touches w (gate_at bytes partner)) on)

        go : (o : Option ℕ) → IsEarliest (on_wire bytes words k w) (suc i) k.gates o →
            word words 0 (node_on bytes w i) ≡ node_at (node_on bytes w) (end_of k w) o → Next i
        go none h e = absurd (false≢true (sym (h partner (omega arith) inside) ∙ on))
        go (some j) h e =
            record {
              slot = j;
              linked = e;
              after = h.0;
              upto = parted partner j (λ l. absurd (false≢true (sym (h.3 partner (omega arith) l) ∙ on))) (λ l. l);
              met = h.2;
              off = h.3;
            }

    -- The node behind a slot's own stands for what comes after the slot.
    pub behind-stands : (slot i : ℕ) → slot ≤ i → on_wire bytes words k w i ≡ true → i < partner →
        Stands slot partner w (word words 0 (node_on bytes w i))
    behind-stands slot i low here less = subst (Stands slot partner w) (sym n.linked) (go (slot_of w n.slot touched))
      where
        n : Next i
        n = next i here less

        touched : touches w (gate_at bytes n.slot) ≡ true
        touched = and_right (is_live words k n.slot) (touches w (gate_at bytes n.slot)) n.met

        go : node_on bytes w n.slot / 3 ≡ n.slot → Stands slot partner w (node_on bytes w n.slot)
        go e =
            record {
              is = ap (node_on bytes w) (sym e);
              on = subst (λ (x : ℕ). on_wire bytes words k w x ≡ true) (sym e) n.met;
              past = omega (arith, e, n.after);
              upto = omega (arith, e, n.upto);
            }

    pub behind-track : (i : ℕ) → on_wire bytes words k w i ≡ true → i < partner →
        track_at partner w (word words 0 (node_on bytes w i)) ≡ track w (cells_from (is_live words k) (gate_at bytes) (suc i) (partner - suc i))
    behind-track i here less =
        ap (track_at partner w) n.linked
        ∙ ap (λ (x : ℕ). track w (cells x (partner - x))) (slot_of w n.slot touched)
        ∙ ap (λ (x : ℕ). track w (cells x (partner - n.slot))) there
        ∙ sym (track-past (is_live words k) (gate_at bytes) w (suc i) (n.slot - suc i) (partner - n.slot)
        (λ l a b. n.off l a (omega (arith, a, b, there))))
        ∙ ap (λ (x : ℕ). track w (cells (suc i) x)) (omega (arith, n.after, n.upto))
      where
        n : Next i
        n = next i here less

        cells : ℕ → ℕ → List (Cell ℕ)
        cells = cells_from (is_live words k) (gate_at bytes)

        touched : touches w (gate_at bytes n.slot) ≡ true
        touched = and_right (is_live words k n.slot) (touches w (gate_at bytes n.slot)) n.met

        there : n.slot ≡ suc i + (n.slot - suc i)
        there = omega (arith, n.after)

    -- At the partner nothing is left.
    pub at-partner : (node : ℕ) → node / 3 ≡ partner → track_at partner w node ≡ []
    unfolding cells_from track
    at-partner node e =
        let nothing : partner - node / 3 ≡ 0 = omega (arith, e) in
        ap (λ (n : ℕ). track w (cells_from (is_live words k) (gate_at bytes) (node / 3) n)) nothing

    -- Before it, the node's gate comes first, and the node behind stands for the rest.
    module _ (slot node : ℕ) (stands : Stands slot partner w node) (apart : node / 3 ≡ partner → ⊥) where
      less : node / 3 < partner
      less = omega (arith, stands.upto, apart)

      pub next-stands : Stands slot partner w (word words 0 node)
      next-stands = subst (λ (x : ℕ). Stands slot partner w (word words 0 x)) (sym stands.is)
          (behind-stands slot (node / 3) (omega (arith, stands.past)) stands.on less)

      pub next-track : track_at partner w node ≡ gate_at bytes (node / 3) ∷ track_at partner w (word words 0 node)
      next-track =
          ap (λ (n : ℕ). track w (cells_from (is_live words k) (gate_at bytes) (node / 3) n)) (omega (arith, less))
          ∙ track-here (is_live words k) (gate_at bytes) w (node / 3) (partner - suc (node / 3))
          (and_left (is_live words k (node / 3)) (touches w (gate_at bytes (node / 3))) stands.on)
          (and_right (is_live words k (node / 3)) (touches w (gate_at bytes (node / 3))) stands.on)
          ∙ ap (λ (t : List Gate). gate_at bytes (node / 3) ∷ t)
          (sym (ap (λ (x : ℕ). track_at partner w (word words 0 x)) stands.is ∙ behind-track (node / 3) stands.on less))
