-- Loading: an empty list, one gate more, and the last gate of its wires less.
use mathlib.Core.Path.{◌≡◌, refl, sym, ap, subst, ◌∙◌}
use mathlib.Core.Bool.{Bool, true, false, cond, ◌&&◌, ◌||◌, false≢true}
use mathlib.Core.List.{List, [], ◌∷◌, ◌++◌}
use mathlib.Core.Option.{none}
use Prim.Native.Nat.{ℕ, ◌+◌, ◌*◌, ◌-◌, ◌≤◌, ◌<◌}
use native.Mathlib.Omega.{arith}
use lib.Dec.{eqb}
use lib.ListN.{length, get_or}
use borrow.Author.Tests.{eq-eqb, ne_eqb}
use Rattle.gates.specs.declared.Gate.{Gate}
use Rattle.gates.specs.Gates.{has, touches, wires_of, All}
use Rattle.gates.specs.Records.{record_at, gate_of, operand_words}
use Rattle.gates.proofs.Joined.{and_left, and_right}
use Rattle.rules.specs.Steps.{Cell}
use Rattle.links.specs.Words.{word, Outside, Within}
use Rattle.links.specs.Seek.{node_at}
use Rattle.links.proofs.SeekLaws.{latest-one}
use Rattle.links.proofs.StackLaws.{latest-named, back-carried}
use Rattle.ranks.specs.Ranks.{Ranks, marks, Marked}
use Rattle.slots.specs.declared.Extent.{Extent}
use Rattle.slots.specs.Slots.{gate_in, gate_at, Sound, cell_of}
use Rattle.slots.specs.Live.{words_for, nodes_for, prev_at, ranks_at, is_live, operand_of, node_on, end_of, on_wire, held, Loaded}
use Rattle.slots.specs.Nodes.{hung}
use Rattle.slots.proofs.HeldLaws.{cells-none, cells-pushed, slots-below}
use Rattle.slots.proofs.WireLaws.{node, end, Touching, at-most-three, operand-is, apart}
use Rattle.slots.proofs.RingsLaws.{Back, back-same, kept_back, kept-last}
use Rattle.slots.proofs.RunLaws.{plus, at_slot, plus-touching, hung-back}
use Rattle.slots.proofs.StateLaws.{within-room, live_same, live-is, mark-live, live_below, loaded-back, run_of, hang-within, wires-are}

-- ------------------------------------------------------------ links that stay

-- Links back in words that agree at the nodes and the ends.
pub back-stays : (gates : ℕ → Gate) (slots wires : ℕ) (f g : ℕ → ℕ) (on : ℕ → ℕ → Bool) →
    ((w i : ℕ) → w < wires → i < slots → on w i ≡ true → g (node gates slots wires w i) ≡ f (node gates slots wires w i)) →
    ((w : ℕ) → w < wires → g (end gates slots wires w) ≡ f (end gates slots wires w)) →
    Back gates slots wires f on → Back gates slots wires g on
back-stays gates slots wires f g on nodes ends h =
    record {
      each = λ w m. kept_back gates slots wires on on w (λ i k. refl) f g (λ i k t. nodes w i m k t) (h.each w m);
      last = λ w m. kept-last gates slots wires on on w (λ i k. refl) f g (ends w m) (h.last w m);
    }

-- Other gates in slots that do not matter.
pub back-regated : (gates gates' : ℕ → Gate) (slots wires : ℕ) (f : ℕ → ℕ) (on : ℕ → ℕ → Bool) →
    ((w i : ℕ) → i < slots → on w i ≡ true → gates i ≡ gates' i) → Back gates slots wires f on → Back gates' slots wires f on
back-regated gates gates' slots wires f on same h =
    record {
      each = λ w m. back-carried (node gates slots wires w) (node gates' slots wires w) (end gates slots wires w) (on w) (on w) slots (λ i k. refl) (λ i k t. nodes w i k t)
          f f (λ i k t. sym (ap f (nodes w i k t))) (h.each w m);
      last = λ w m. h.last w m
          ∙ latest-named (node gates slots wires w) (node gates' slots wires w) (end gates slots wires w) (on w) (on w) slots (λ i k. refl) (λ i k t. nodes w i k t) slots (omega arith);
    }
  where
    nodes : (w i : ℕ) → i < slots → on w i ≡ true → node gates slots wires w i ≡ node gates' slots wires w i
    nodes w i k t = ap (λ (g : Gate). 3 * i + operand_of w (wires_of g)) (same w i k t)

-- ------------------------------------------------------------ an empty list

module _ (bytes words : List ℕ) (k : Extent) (none-live : (i : ℕ) → is_live words k i ≡ false) where
  off-wire : (w i : ℕ) → on_wire bytes words k w i ≡ false
  off-wire w i = ap (λ (b : Bool). b && touches w (gate_at bytes i)) (none-live i)

  pub begin-loaded : k.gates ≤ 1048576 → k.wires ≤ 65536 → 16 * k.gates ≤ length bytes → words_for k ≤ length words →
      (0 < k.gates → Ranks words (ranks_at k) k.gates) →
      ((w : ℕ) → w < k.wires → word words (prev_at k) (end_of k w) ≡ end_of k w) → Loaded bytes words k
  begin-loaded few narrow long room ranks ends =
      record {
        few = few;
        narrow = narrow;
        long = long;
        room = room;
        ranks = ranks;
        sound = λ i t. absurd (false≢true (sym (none-live i) ∙ t));
        back = λ w m i l t. absurd (false≢true (sym (off-wire w i) ∙ t));
        last = λ w m. ends w m ∙ ap (node_at (node_on bytes w) (end_of k w)) (sym (latest-one (on_wire bytes words k w) k.gates none (λ l a. off-wire w l)));
      }

  pub begin-empty : held bytes words k ≡ []
  begin-empty = cells-none (is_live words k) (gate_at bytes) 0 k.gates (λ j a b. none-live j)

-- ------------------------------------------------------------ one gate more

-- A slot past those that are live is free.
module _ (k : Extent) (bytes was : List ℕ) (slot : ℕ) (top : All (λ (e : Cell ℕ). e.beside < slot) (held bytes was k)) where
  pub live-before : (i : ℕ) → is_live was k i ≡ true → i < slot
  live-before i t = slots-below (is_live was k) (gate_at bytes) slot k.gates top i (live_below was k i t) t

  pub free-slot : is_live was k slot ≡ false
  free-slot = go (is_live was k slot) refl
    where
      go : (b : Bool) → is_live was k slot ≡ b → b ≡ false
      go true e = absurd (itself (live-before slot e))
        where
          itself : slot < slot → ⊥
          itself l = omega arith
      go false e = refl

module _ (k : Extent) (bytes bytes' was hanging now : List ℕ) (slot : ℕ) (slot< : slot < k.gates)
    (loaded : Loaded bytes was k)
    (top : All (λ (e : Cell ℕ). e.beside < slot) (held bytes was k))
    (sound : Sound k.wires (record_at bytes' slot))
    (others : (i : ℕ) → (i ≡ slot → ⊥) → record_at bytes' i ≡ record_at bytes i)
    (longer : length bytes' ≡ length bytes)
    (hangs : Within (prev_at k + 3 * slot + length (operand_words (record_at bytes' slot))) (3 - length (operand_words (record_at bytes' slot)))
    (hung (prev_at k) (3 * k.gates) (3 * slot) (operand_words (record_at bytes' slot)) was) hanging)
    (marked : Marked (ranks_at k) k.gates slot 1 hanging now) where
  abbrev g : ℕ
  g = k.gates

  abbrev n : ℕ
  n = k.wires

  abbrev gate : ℕ → Gate
  gate = gate_at bytes'

  abbrev ws : List ℕ
  ws = wires_of (gate_at bytes' slot)

  same-gate : (i : ℕ) → (i ≡ slot → ⊥) → gate_at bytes' i ≡ gate_at bytes i
  unfolding gate_at
  same-gate i d = ap (λ r. gate_in (gate_of r)) (others i d)

  below-slot : (i : ℕ) → is_live was k i ≡ true → i < slot
  below-slot = live-before k bytes was slot top

  not_yet : is_live was k slot ≡ false
  not_yet = free-slot k bytes was slot top

  -- The tests before and after: the new slot is on its gate's wires.
  before-touching : Touching gate g n (on_wire bytes was k)
  before-touching w i m t =
      subst (λ (x : Gate). touches w x ≡ true) (sym (same-gate i (λ e. distinct e (below-slot i (and_left (is_live was k i) (touches w (gate_at bytes i)) t)))))
      (and_right (is_live was k i) (touches w (gate_at bytes i)) t)
    where
      distinct : i ≡ slot → i < slot → ⊥
      distinct e l = omega (arith, e)

  live-gate : (w i : ℕ) → i < g → on_wire bytes was k w i ≡ true → gate_at bytes i ≡ gate_at bytes' i
  live-gate w i m t = sym (same-gate i (λ e. distinct e (below-slot i (and_left (is_live was k i) (touches w (gate_at bytes i)) t))))
    where
      distinct : i ≡ slot → i < slot → ⊥
      distinct e l = omega (arith, e)

  ws-are : ws ≡ operand_words (record_at bytes' slot)
  ws-are = wires-are n bytes' slot sound

  hangs-ws : Within (prev_at k + 3 * slot + length ws) (3 - length ws) (hung (prev_at k) (3 * g) (3 * slot) ws was) hanging
  hangs-ws =
      subst (λ (l : List ℕ). Within (prev_at k + 3 * slot + length l) (3 - length l) (hung (prev_at k) (3 * g) (3 * slot) l was) hanging) (sym ws-are) hangs

  hanging-kept : Within (prev_at k) (nodes_for k) was hanging
  hanging-kept = hang-within bytes' was hanging k (prev_at k) slot slot slot< sound hangs

  hanging-past : (x : ℕ) → prev_at k + nodes_for k ≤ x → get_or hanging x 0 ≡ get_or was x 0
  hanging-past x m = hanging-kept.same x (λ l. absurd (omega arith))

  live_then : (i : ℕ) → (i ≡ slot → ⊥) → is_live now k i ≡ is_live was k i
  live_then i d =
      live-is now k i ∙ ap (λ (x : ℕ). eqb x 1) (marked.marked i ∙ ap (λ (b : Bool). cond b 1 (marks hanging (ranks_at k) g i)) (ne_eqb i slot d))
      ∙ sym (live-is hanging k i) ∙ live_same was hanging k (λ x a b. hanging-past x (omega arith)) i

  live_now : is_live now k slot ≡ true
  live_now = mark-live now k slot (marked.marked slot ∙ ap (λ (b : Bool). cond b 1 (marks hanging (ranks_at k) g slot)) (eq-eqb slot slot refl))

  after_on : (w i : ℕ) → w < n → i < g → plus ws slot (on_wire bytes was k) w i ≡ on_wire bytes' now k w i
  after_on w i m l = at_slot (λ b. cond b (has w ws || on_wire bytes was k w slot) (on_wire bytes was k w i) ≡ on_wire bytes' now k w i) i slot here there
    where
      or-false : (a b : Bool) → b ≡ false → a || b ≡ a
      or-false true b e = refl
      or-false false b e = e

      here : i ≡ slot → has w ws || on_wire bytes was k w slot ≡ on_wire bytes' now k w i
      here e =
          or-false (has w ws) (on_wire bytes was k w slot) (ap (λ (b : Bool). b && touches w (gate_at bytes slot)) not_yet)
          ∙ sym (ap (on_wire bytes' now k w) e ∙ ap (λ (b : Bool). b && has w ws) live_now)

      there : (i ≡ slot → ⊥) → on_wire bytes was k w i ≡ on_wire bytes' now k w i
      there d =
          sym (ap (λ (b : Bool). b && touches w (gate_at bytes' i)) (live_then i d) ∙ ap (λ (x : Gate). is_live was k i && touches w x) (same-gate i d))

  -- The links after the slot's nodes have been put on the stacks.
  hung-links : Back gate g n (word (hung (prev_at k) (3 * g) (3 * slot) ws was) (prev_at k)) (plus ws slot (on_wire bytes was k))
  hung-links =
      hung-back gate g n (prev_at k) slot slot< ws (3 * slot) was (on_wire bytes was k) (room_back loaded)
      (run_of bytes' k slot sound) (λ x i m h t. below-slot i (and_left (is_live was k i) (touches x (gate_at bytes i)) t)) before-touching
      (back-regated (gate_at bytes) gate g n (word was (prev_at k)) (on_wire bytes was k) live-gate (loaded-back bytes was k loaded))
    where
      room_back : Loaded bytes was k → prev_at k + nodes_for k ≤ length was
      room_back l = omega (arith, l.room)

  -- Cells past the slot's operands are not read.
  node-outside : (w i : ℕ) → w < n → i < g → plus ws slot (on_wire bytes was k) w i ≡ true →
      Outside (prev_at k + 3 * slot + length ws) (3 - length ws) (prev_at k + node gate g n w i)
  node-outside w i m l t = at_slot (λ b. cond b (has w ws || on_wire bytes was k w slot) (on_wire bytes was k w i) ≡ true → Outside (prev_at k + 3 * slot + length ws) (3 - length ws) (prev_at k + node gate g n w i)) i slot
      (λ e u x. on-slot e (or_left (has w ws) (on_wire bytes was k w slot) (ap (λ (b : Bool). b && touches w (gate_at bytes slot)) not_yet) u) x)
      (λ d u x. off-slot d (before-touching w i l u) x) t
    where
      or_left : (a b : Bool) → b ≡ false → a || b ≡ true → a ≡ true
      or_left true b e u = refl
      or_left false b e u = absurd (false≢true (sym e ∙ u))

      on-slot : i ≡ slot → has w ws ≡ true → prev_at k + node gate g n w i < prev_at k + 3 * slot + length ws + (3 - length ws) →
          prev_at k + node gate g n w i < prev_at k + 3 * slot + length ws
      on-slot e h x = subst (λ (j : ℕ). prev_at k + node gate g n w j < prev_at k + 3 * slot + length ws) (sym e) (nearer (operand-is w ws h).0)
        where
          nearer : operand_of w ws < length ws → prev_at k + (3 * slot + operand_of w ws) < prev_at k + 3 * slot + length ws
          nearer q = omega (arith, q)

      off-slot : (i ≡ slot → ⊥) → touches w (gate i) ≡ true → prev_at k + node gate g n w i < prev_at k + 3 * slot + length ws + (3 - length ws) →
          prev_at k + node gate g n w i < prev_at k + 3 * slot + length ws
      off-slot d u x = farther (operand-is w (wires_of (gate i)) u).0 (at-most-three (gate i)) (at-most-three (gate slot))
        where
          farther : operand_of w (wires_of (gate i)) < length (wires_of (gate i)) → length (wires_of (gate i)) ≤ 3 → length ws ≤ 3 →
              prev_at k + node gate g n w i < prev_at k + 3 * slot + length ws
          farther p q r = omega (arith, p, q, r, d, x)

  end-outside : (w : ℕ) → Outside (prev_at k + 3 * slot + length ws) (3 - length ws) (prev_at k + end_of k w)
  end-outside w x = absurd (past (at-most-three (gate slot)))
    where
      past : length ws ≤ 3 → ⊥
      past r = omega (arith, r, x)

  hanging-links : Back gate g n (word hanging (prev_at k)) (plus ws slot (on_wire bytes was k))
  hanging-links =
      back-stays gate g n (word (hung (prev_at k) (3 * g) (3 * slot) ws was) (prev_at k)) (word hanging (prev_at k)) (plus ws slot (on_wire bytes was k))
      (λ w i m l t. hangs-ws.same (prev_at k + node gate g n w i) (node-outside w i m l t))
      (λ w m. hangs-ws.same (prev_at k + end_of k w) (end-outside w)) hung-links

  now-links : Back gate g n (word now (prev_at k)) (on_wire bytes' now k)
  now-links =
      back-same gate g n (word now (prev_at k)) (plus ws slot (on_wire bytes was k)) (on_wire bytes' now k) after_on
      (back-stays gate g n (word hanging (prev_at k)) (word now (prev_at k)) (plus ws slot (on_wire bytes was k))
      (λ w i m l t. before-ranks (node gate g n w i) ((apart gate g n (plus ws slot (on_wire bytes was k)) plus-on w m).small i l t))
      (λ w m. before-ranks (end_of k w) (omega arith)) hanging-links)
    where
      before-ranks : (x : ℕ) → x < nodes_for k → word now (prev_at k) x ≡ word hanging (prev_at k) x
      before-ranks x m = marked.within.same (prev_at k + x) (λ l. below-ranks)
        where
          below-ranks : prev_at k + x < ranks_at k
          below-ranks = omega arith

      plus-on : Touching gate g n (plus ws slot (on_wire bytes was k))
      plus-on = plus-touching gate g n slot ws (on_wire bytes was k) (λ x h. h) slot< before-touching

  now-long : length now ≡ length was
  now-long = marked.within.long ∙ hanging-kept.long

  pub push-loaded : Loaded bytes' now k
  push-loaded =
      record {
        few = loaded.few;
        narrow = loaded.narrow;
        long = subst (λ (x : ℕ). 16 * g ≤ x) (sym longer) loaded.long;
        room = subst (λ (x : ℕ). words_for k ≤ x) (sym now-long) loaded.room;
        ranks = λ some. marked.ranks;
        sound = λ i t. at_slot (λ b. Sound n (record_at bytes' i)) i slot
            (λ e. subst (λ (j : ℕ). Sound n (record_at bytes' j)) (sym e) sound)
            (λ d. subst (λ r. Sound n r) (sym (others i d)) (loaded.sound i (sym (live_then i d) ∙ t)));
        back = now-links.each;
        last = now-links.last;
      }

  pub push-held : held bytes' now k ≡ held bytes was k ++ (cell_of gate slot ∷ [])
  push-held =
      cells-pushed (is_live was k) (is_live now k) (gate_at bytes) gate slot 0 g (omega arith) (omega (arith, slot<))
      (λ j a b. sym (live_then j (λ e. omega (arith, e)))) (λ j a b t. sym (same-gate j (λ e. omega (arith, e)))) (λ j a b. none_from j a)
      (λ j a b. live_then j (λ e. omega (arith, e)) ∙ none_from j (omega arith)) live_now
    where
      none_from : (j : ℕ) → slot ≤ j → is_live was k j ≡ false
      none_from j a = go (is_live was k j) refl
        where
          go : (b : Bool) → is_live was k j ≡ b → b ≡ false
          go true e = absurd (both (below-slot j e))
            where
              both : j < slot → ⊥
              both l = omega arith
          go false e = refl

  pub push-within : Within 0 (words_for k) was now
  push-within =
      within-room k was now (omega (arith, slot<)) now-long
      (λ x b. marked.within.same x (λ l. absurd (omega (arith, b, l))) ∙ hanging-past x (omega (arith, b)))
