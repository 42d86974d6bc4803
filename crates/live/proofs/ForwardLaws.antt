-- Links forward in a loaded list: one slot more, from the last down.
use mathlib.Core.Path.{◌≡◌, refl, sym, ap, subst, ◌∙◌}
use mathlib.Core.Bool.{Bool, true, false, ◌&&◌}
use mathlib.Core.List.{List, []}
use mathlib.Core.Option.{none}
use Prim.Native.Nat.{ℕ, suc, ◌+◌, ◌*◌, ◌-◌, ◌≤◌, ◌<◌}
use native.Mathlib.Omega.{arith}
use lib.ListN.{length}
use Rattle.gates.specs.declared.Gate.{Gate}
use Rattle.gates.specs.Gates.{has, touches, wires_of}
use Rattle.gates.specs.Records.{record_at, operand_words}
use Rattle.gates.proofs.Joined.{and_right}
use Rattle.links.specs.Words.{word, Outside, Within}
use Rattle.links.specs.Seek.{earliest, node_at}
use Rattle.links.proofs.SeekLaws.{earliest-one}
use Rattle.links.proofs.StackLaws.{earliest-named}
use Rattle.slots.specs.declared.Extent.{Extent}
use Rattle.slots.specs.Slots.{gate_at}
use Rattle.slots.specs.Live.{nodes_for, is_live, operand_of, node_on, end_of, on_wire, Loaded, Forward}
use Rattle.slots.specs.Nodes.{Closed, hung}
use Rattle.live.specs.Filling.{FilledTo}
use Rattle.slots.proofs.WireLaws.{at-most-three, operand-is}
use Rattle.slots.proofs.PutLaws.{Filling}
use Rattle.slots.proofs.RunLaws.{at_slot}
use Rattle.slots.proofs.FillLaws.{hung-filling, level-start, level-end}
use Rattle.slots.proofs.StateLaws.{live_same, touching, run_of, hang-within, wires-are}

module _ (k : Extent) (bytes : List ℕ) where
  abbrev gate : ℕ → Gate
  gate = gate_at bytes

  to-filling : (words : List ℕ) (from : ℕ) → FilledTo bytes words k from →
      Filling gate k.gates k.wires (word words 0) (on_wire bytes words k) (λ x. from)
  to-filling words from f = record { each = f.each; first = f.first }

  from-filling : (words : List ℕ) (from : ℕ) → Filling gate k.gates k.wires (word words 0) (on_wire bytes words k) (λ x. from) →
      FilledTo bytes words k from
  from-filling words from f = record { each = f.each; first = f.first }

  -- Words that agree on the marks, at the nodes and at the ends.
  filled-kept : (was now : List ℕ) (next : ℕ → ℕ) (from : ℕ) → ((i : ℕ) → is_live now k i ≡ is_live was k i) →
      ((w i : ℕ) → w < k.wires → i < k.gates → on_wire bytes was k w i ≡ true → word now 0 (node_on bytes w i) ≡ next (node_on bytes w i)) →
      ((w : ℕ) → w < k.wires → word now 0 (end_of k w) ≡ next (end_of k w)) →
      Filling gate k.gates k.wires next (on_wire bytes was k) (λ x. from) → from ≤ k.gates → FilledTo bytes now k from
  filled-kept was now next from lives nodes ends f m =
      record {
        each = λ w l i a b t. nodes w i l b (on-was w i ∙ t) ∙ f.each w l i a b (on-was w i ∙ t) ∙ named w (suc i) (k.gates - suc i) (omega arith);
        first = λ w l. ends w l ∙ f.first w l ∙ named w from (k.gates - from) (omega arith);
      }
    where
      on-was : (w i : ℕ) → on_wire bytes was k w i ≡ on_wire bytes now k w i
      on-was w i = ap (λ (b : Bool). b && touches w (gate i)) (sym (lives i))

      named : (w i count : ℕ) → i + count ≡ k.gates →
          node_at (node_on bytes w) (end_of k w) (earliest (on_wire bytes was k w) i count) ≡ node_at (node_on bytes w) (end_of k w) (earliest (on_wire bytes now k w) i count)
      named w i count q = earliest-named (node_on bytes w) (node_on bytes w) (end_of k w) (on_wire bytes was k w) (on_wire bytes now k w) k.gates (λ j l. on-was w j) (λ j l t. refl) i count q

  -- ------------------------------------------------------------ a slot that is not live

  pub filled-past : (words : List ℕ) (slot : ℕ) → slot < k.gates → is_live words k slot ≡ false →
      FilledTo bytes words k (slot + 1) → FilledTo bytes words k slot
  filled-past words slot m off f =
      from-filling words slot
      (level-end gate k.gates k.wires (on_wire bytes words k) (touching bytes words k) slot m (word words 0)
      (level-start gate k.gates k.wires (on_wire bytes words k) (touching bytes words k) slot m (word words 0) []
      (λ x h. ap (λ (b : Bool). b && touches x (gate slot)) off) (to-filling words (suc slot) (next f))))
    where
      next : FilledTo bytes words k (slot + 1) → FilledTo bytes words k (suc slot)
      next h = subst (λ (x : ℕ). FilledTo bytes words k x) (omega arith) h

  -- ------------------------------------------------------------ a live slot

  module _ (was now : List ℕ) (slot : ℕ) (loaded : Loaded bytes was k) (live : is_live was k slot ≡ true) (slot< : slot < k.gates)
      (hangs : Within (0 + 3 * slot + length (operand_words (record_at bytes slot))) (3 - length (operand_words (record_at bytes slot)))
      (hung 0 (3 * k.gates) (3 * slot) (operand_words (record_at bytes slot)) was) now) where
    abbrev ws : List ℕ
    ws = wires_of (gate_at bytes slot)

    hangs-ws : Within (0 + 3 * slot + length ws) (3 - length ws) (hung 0 (3 * k.gates) (3 * slot) ws was) now
    hangs-ws =
        subst (λ (l : List ℕ). Within (0 + 3 * slot + length l) (3 - length l) (hung 0 (3 * k.gates) (3 * slot) l was) now)
        (sym (wires-are k.wires bytes slot (loaded.sound slot live))) hangs

    pub filled_within : Within 0 (nodes_for k) was now
    filled_within = hang-within bytes was now k 0 slot slot slot< (loaded.sound slot live) hangs

    lives : (i : ℕ) → is_live now k i ≡ is_live was k i
    lives = live_same was now k (λ x a b. filled_within.same x (λ l. absurd (omega arith)))

    long-enough : 0 + nodes_for k ≤ length was
    long-enough = go loaded.room
      where
        go : 16 * k.gates + 4 * k.wires ≤ length was → 0 + nodes_for k ≤ length was
        go l = omega (arith, l)

    node-outside : (w i : ℕ) → touches w (gate i) ≡ true → Outside (0 + 3 * slot + length ws) (3 - length ws) (0 + node_on bytes w i)
    node-outside w i t x = at_slot (λ b. 0 + node_on bytes w i < 0 + 3 * slot + length ws) i slot here there
      where
        here : i ≡ slot → 0 + node_on bytes w i < 0 + 3 * slot + length ws
        here e =
            subst (λ (j : ℕ). 0 + node_on bytes w j < 0 + 3 * slot + length ws) (sym e)
            (nearer (operand-is w ws (subst (λ (j : ℕ). touches w (gate j) ≡ true) e t)).0)
          where
            nearer : operand_of w ws < length ws → 0 + (3 * slot + operand_of w ws) < 0 + 3 * slot + length ws
            nearer q = omega (arith, q)

        there : (i ≡ slot → ⊥) → 0 + node_on bytes w i < 0 + 3 * slot + length ws
        there d = farther (operand-is w (wires_of (gate i)) t).0 (at-most-three (gate i)) (at-most-three (gate slot))
          where
            farther : operand_of w (wires_of (gate i)) < length (wires_of (gate i)) → length (wires_of (gate i)) ≤ 3 → length ws ≤ 3 →
                0 + node_on bytes w i < 0 + 3 * slot + length ws
            farther p q r = omega (arith, p, q, r, d, x)

    end-outside : (w : ℕ) → Outside (0 + 3 * slot + length ws) (3 - length ws) (0 + end_of k w)
    end-outside w x = absurd (past (at-most-three (gate slot)) slot<)
      where
        past : length ws ≤ 3 → slot < k.gates → ⊥
        past r l = omega (arith, r, x, l)

    pub filled_more : FilledTo bytes was k (slot + 1) → FilledTo bytes now k slot
    filled_more f =
        filled-kept was now (word (hung 0 (3 * k.gates) (3 * slot) ws was) 0) slot lives
        (λ w i m l t. hangs-ws.same (0 + node_on bytes w i) (node-outside w i (and_right (is_live was k i) (touches w (gate i)) t)))
        (λ w m. hangs-ws.same (0 + end_of k w) (end-outside w))
        (level-end gate k.gates k.wires (on_wire bytes was k) (touching bytes was k) slot slot< (word (hung 0 (3 * k.gates) (3 * slot) ws was) 0)
        (hung-filling gate k.gates k.wires (on_wire bytes was k) (touching bytes was k) slot slot< ws (3 * slot) was long-enough (run_of bytes k slot (loaded.sound slot live))
        (λ x h. ap (λ (b : Bool). b && has x ws) live ∙ h)
        (level-start gate k.gates k.wires (on_wire bytes was k) (touching bytes was k) slot slot< (word was 0) ws
        (λ x h. ap (λ (b : Bool). is_live was k slot && b) h ∙ and_none (is_live was k slot)) (to-filling was (suc slot) (next f)))))
        (before slot<)
      where
        next : FilledTo bytes was k (slot + 1) → FilledTo bytes was k (suc slot)
        next h = subst (λ (x : ℕ). FilledTo bytes was k x) (omega arith) h

        and_none : (b : Bool) → b && false ≡ false
        and_none true = refl
        and_none false = refl

        before : slot < k.gates → slot ≤ k.gates
        before l = omega (arith, l)

  -- ------------------------------------------------------------ the first and the last

  -- Wires that are empty forward are linked from the end of the slots on; and from slot 0 on all are.
  pub filled_none : (was now : List ℕ) → Closed 0 k was now → FilledTo bytes now k k.gates
  filled_none was now c =
      record {
        each = λ w m i a b t. absurd (omega (arith, a, b));
        first = λ w m. c.each w m ∙ ap (node_at (node_on bytes w) (end_of k w)) (sym (earliest-one (on_wire bytes now k w) k.gates (k.gates - k.gates) k.gates none (omega arith) (λ l a b. absurd (omega (arith, a, b)))));
      }

  pub filled-all : (words : List ℕ) → FilledTo bytes words k 0 → Forward bytes words k
  filled-all words f = record { each = λ w m i l t. f.each w m i (omega arith) l t; first = λ w m. f.first w m ∙ all_slots w }
    where
      all_slots : (w : ℕ) → node_at (node_on bytes w) (end_of k w) (earliest (on_wire bytes words k w) 0 (k.gates - 0)) ≡ node_at (node_on bytes w) (end_of k w) (earliest (on_wire bytes words k w) 0 k.gates)
      all_slots w = let e : k.gates - 0 ≡ k.gates = omega arith in ap (λ (x : ℕ). node_at (node_on bytes w) (end_of k w) (earliest (on_wire bytes words k w) 0 x)) e
