-- Another gate of one wire in a slot: the links stay, and one cell of the list has another gate.
use Rattle.std.specs.Prelude.{Ok}
use mathlib.Core.Path.{◌≡◌, refl, sym, ap, subst, ◌∙◌}
use mathlib.Core.Bool.{Bool, true, false, ◌&&◌, false≢true}
use mathlib.Core.List.{List, [], ◌∷◌}
use Prim.Native.Nat.{ℕ, ◌+◌, ◌*◌, ◌≤◌, ◌<◌}
use native.Mathlib.Omega.{arith}
use lib.ListN.{length, set, length-set}
use Rattle.gates.specs.declared.Gate.{Gate}
use Rattle.gates.specs.declared.Gate.TheVariants.{X, H, S, Sdg, Z, T, Tdg, Cnot, Cz, Ccx, Ccz, Measure, Reset, Y, Sx, Swap, Cy, Ch, Cswap}
use Rattle.gates.specs.Gates.{has, touches, twice, wires_of}
use Rattle.gates.specs.Records.{record_at, record_of, kind_of, of_kind, gate_of}
use Rattle.gates.proofs.RoundTrip.{decode-encode}
use Rattle.gates.proofs.StoredLaws.{kind-here, kind-other}
use Rattle.rules.specs.Equal.{equal, is_pair}
use Rattle.links.specs.Words.{word}
use Rattle.links.proofs.StackLaws.{latest-named, earliest-named, back-carried, on-carried}
use Rattle.slots.specs.declared.Extent.{Extent}
use Rattle.slots.specs.Slots.{gate_in, gate_at, Sound, rewritten}
use Rattle.slots.specs.Live.{prev_at, is_live, operand_of, node_on, end_of, on_wire, equal_to, held, Live}
use Rattle.slots.proofs.HeldLaws.{cells-rewritten}
use Rattle.slots.proofs.RunLaws.{at_slot}
use Rattle.slots.proofs.SpareLaws.{partners-carried}
use Rattle.slots.proofs.StateLaws.{live_below, gate-is, record_is, wires-small, wires-once}
use Rattle.rules.proofs.EqualLaws.{equal-pair}

-- A gate of one wire is no cnot, cz, ccx or ccz.
one-wire : (g : Gate) → length (wires_of g) ≡ 1 → is_pair g ≡ false
unfolding wires_of record_of has
one-wire (X w) e = refl
one-wire (H w) e = refl
one-wire (S w) e = refl
one-wire (Sdg w) e = refl
one-wire (Z w) e = refl
one-wire (T w) e = refl
one-wire (Tdg w) e = refl
one-wire (Cnot c t) e = absurd (omega (arith, e))
one-wire (Cz c t) e = absurd (omega (arith, e))
one-wire (Ccx c d t) e = absurd (omega (arith, e))
one-wire (Ccz c d t) e = absurd (omega (arith, e))
one-wire (Measure w b) e = refl
one-wire (Reset w) e = refl
one-wire (Y w) e = refl
one-wire (Sx w) e = refl
one-wire (Swap a b) e = refl
one-wire (Cy c t) e = refl
one-wire (Ch c t) e = refl
one-wire (Cswap c a b) e = refl

-- And its wire is the first word of its record.
wire-word : (g : Gate) → length (wires_of g) ≡ 1 → wires_of g ≡ (record_of g).first ∷ []
unfolding wires_of record_of
wire-word (X w) e = refl
wire-word (H w) e = refl
wire-word (S w) e = refl
wire-word (Sdg w) e = refl
wire-word (Z w) e = refl
wire-word (T w) e = refl
wire-word (Tdg w) e = refl
wire-word (Cnot c t) e = absurd (omega (arith, e))
wire-word (Cz c t) e = absurd (omega (arith, e))
wire-word (Ccx c d t) e = absurd (omega (arith, e))
wire-word (Ccz c d t) e = absurd (omega (arith, e))
wire-word (Measure w b) e = refl
wire-word (Reset w) e = refl
wire-word (Y w) e = refl
wire-word (Sx w) e = refl
wire-word (Swap a b) e = absurd (omega (arith, e))
wire-word (Cy c t) e = absurd (omega (arith, e))
wire-word (Ch c t) e = absurd (omega (arith, e))
wire-word (Cswap c a b) e = absurd (omega (arith, e))

module _ (k : Extent) (bytes words : List ℕ) (slot : ℕ) (g : Gate) (live : is_live words k slot ≡ true) (list : Live bytes words k)
    (one : length (wires_of g) ≡ 1) (one-there : length (wires_of (gate_at bytes slot)) ≡ 1)
    (same-record : record_of g ≡ of_kind (kind_of g) (record_at bytes slot)) where
  abbrev after : List ℕ
  after = set bytes (16 * slot) (kind_of g)

  slot< : slot < k.gates
  slot< = live_below words k slot live

  sound-there : Sound k.wires (record_at bytes slot)
  sound-there = list.loaded.sound slot live

  record-now : record_at after slot ≡ record_of g
  record-now = kind-here bytes slot (kind_of g) (inside slot< list.loaded.long) ∙ sym same-record
    where
      inside : slot < k.gates → 16 * k.gates ≤ length bytes → 16 * slot < length bytes
      inside a b = omega (arith, a, b)

  gate-now : gate_at after slot ≡ g
  gate-now = gate-is after slot ∙ ap (λ r. gate_in (gate_of r)) record-now ∙ ap gate_in (decode-encode g)

  gate-other : (i : ℕ) → (i ≡ slot → ⊥) → gate_at after i ≡ gate_at bytes i
  gate-other i d = gate-is after i ∙ ap (λ r. gate_in (gate_of r)) (kind-other bytes slot i (kind_of g) d) ∙ sym (gate-is bytes i)

  same-wires : wires_of g ≡ wires_of (gate_at bytes slot)
  same-wires =
      wire-word g one ∙ ap (λ r. r.first ∷ []) same-record ∙ sym (wire-word (gate_at bytes slot) one-there ∙ ap (λ r. r.first ∷ []) (record_is k.wires bytes slot sound-there))

  wires-stay : (i : ℕ) → wires_of (gate_at after i) ≡ wires_of (gate_at bytes i)
  wires-stay i = at_slot (λ b. wires_of (gate_at after i) ≡ wires_of (gate_at bytes i)) i slot
      (λ e. ap (λ (x : ℕ). wires_of (gate_at after x)) e ∙ ap wires_of gate-now ∙ same-wires ∙ sym (ap (λ (x : ℕ). wires_of (gate_at bytes x)) e))
      (λ d. ap wires_of (gate-other i d))

  on-stays : (w i : ℕ) → on_wire bytes words k w i ≡ on_wire after words k w i
  on-stays w i = ap (λ (ws : List ℕ). is_live words k i && has w ws) (sym (wires-stay i))

  node_stays : (w i : ℕ) → node_on bytes w i ≡ node_on after w i
  node_stays w i = ap (λ (ws : List ℕ). 3 * i + operand_of w ws) (sym (wires-stay i))

  not-pair : is_pair (gate_at bytes slot) ≡ false
  not-pair = one-wire (gate_at bytes slot) one-there

  not-pair-now : is_pair (gate_at after slot) ≡ false
  not-pair-now = ap is_pair gate-now ∙ one-wire g one

  -- A pair is in another slot.
  elsewhere : (i : ℕ) → is_pair (gate_at after i) ≡ true → i ≡ slot → ⊥
  elsewhere i p e = false≢true (sym not-pair-now ∙ sym (ap (λ (x : ℕ). is_pair (gate_at after x)) e) ∙ p)

  equals-stay : (i j : ℕ) → is_pair (gate_at after i) ≡ true → equal_to bytes words k i j ≡ equal_to after words k i j
  equals-stay i j p = at_slot (λ b. equal_to bytes words k i j ≡ equal_to after words k i j) j slot here
      (λ d. ap (λ (x : Gate). is_live words k j && equal x (gate_at bytes j)) (sym (gate-other i (elsewhere i p)))
      ∙ ap (λ (x : Gate). is_live words k j && equal (gate_at after i) x) (sym (gate-other j d)))
    where
      pair-there : is_pair (gate_at bytes i) ≡ true
      pair-there = ap is_pair (sym (gate-other i (elsewhere i p))) ∙ p

      never : (a b : Gate) → is_pair a ≡ true → is_pair b ≡ false → equal a b ≡ false
      never a b u v = go (equal a b) refl
        where
          go : (c : Bool) → equal a b ≡ c → c ≡ false
          go true e = absurd (false≢true (sym v ∙ sym (equal-pair a b e) ∙ u))
          go false e = refl

      here : j ≡ slot → equal_to bytes words k i j ≡ equal_to after words k i j
      here e =
          ap (equal_to bytes words k i) e ∙ ap (λ (b : Bool). is_live words k slot && b) (never (gate_at bytes i) (gate_at bytes slot) pair-there not-pair)
          ∙ sym (ap (equal_to after words k i) e ∙ ap (λ (b : Bool). is_live words k slot && b) (never (gate_at after i) (gate_at after slot) p not-pair-now))

  pub rewrite-live : Live after words k
  rewrite-live =
      record {
        loaded =
            record {
              few = list.loaded.few;
              narrow = list.loaded.narrow;
              long = rw (length-set bytes (16 * slot) (kind_of g)) list.loaded.long;
              room = list.loaded.room;
              ranks = list.loaded.ranks;
              sound = λ i t. at_slot (λ b. Sound k.wires (record_at after i)) i slot
                  (λ e. subst (λ (x : ℕ). Sound k.wires (record_at after x)) (sym e) sound-now)
                  (λ d. subst (λ r. Sound k.wires r) (sym (kind-other bytes slot i (kind_of g) d)) (list.loaded.sound i t));
              back = λ w m. back-carried (node_on bytes w) (node_on after w) (end_of k w) (on_wire bytes words k w) (on_wire after words k w) k.gates (λ i l. on-stays w i) (λ i l t. node_stays w i)
                  (word words (prev_at k)) (word words (prev_at k)) (λ i l t. ap (word words (prev_at k)) (sym (node_stays w i))) (list.loaded.back w m);
              last = λ w m. list.loaded.last w m
                  ∙ latest-named (node_on bytes w) (node_on after w) (end_of k w) (on_wire bytes words k w) (on_wire after words k w) k.gates (λ i l. on-stays w i) (λ i l t. node_stays w i) k.gates (omega arith);
            };
        forward =
            record {
              each = λ w m. on-carried (node_on bytes w) (node_on after w) (end_of k w) (on_wire bytes words k w) (on_wire after words k w) k.gates (λ i l. on-stays w i) (λ i l t. node_stays w i)
                  (word words 0) (word words 0) (λ i l t. ap (word words 0) (sym (node_stays w i))) (list.forward.each w m);
              first = λ w m. list.forward.first w m
                  ∙ earliest-named (node_on bytes w) (node_on after w) (end_of k w) (on_wire bytes words k w) (on_wire after words k w) k.gates (λ i l. on-stays w i) (λ i l t. node_stays w i) 0 k.gates (omega arith);
            };
        partners =
            partners-carried k bytes after words words (λ i t p. (t, ap is_pair (sym (gate-other i (elsewhere i p))) ∙ p))
            (λ i j p t. equals-stay i j p) (λ i m. refl) (λ i m. refl) list.partners;
      }
    where
      reads_now : gate_of (record_at after slot) ≡ Ok (gate_in (gate_of (record_at after slot)))
      reads_now = subst (λ r. gate_of r ≡ Ok (gate_in (gate_of r))) (sym record-now) (decode-encode g ∙ ap Ok (sym (ap gate_in (decode-encode g))))

      gate-of : gate_in (gate_of (record_at after slot)) ≡ g
      gate-of = sym (gate-is after slot) ∙ gate-now

      sound-now : Sound k.wires (record_at after slot)
      sound-now =
          record {
            reads = reads_now;
            below = λ w t. wires-small k.wires bytes slot sound-there w (subst (λ (ws : List ℕ). has w ws ≡ true) same-wires (subst (λ (x : Gate). touches w x ≡ true) gate-of t));
            distinct = subst (λ (x : Gate). twice (wires_of x) ≡ false) (sym gate-of) (subst (λ (ws : List ℕ). twice ws ≡ false) (sym same-wires) (wires-once k.wires bytes slot sound-there));
          }

  pub rewrite-held : held after words k ≡ rewritten slot g (held bytes words k)
  rewrite-held = cells-rewritten (is_live words k) (gate_at bytes) (gate_at after) slot g 0 k.gates gate-now gate-other
