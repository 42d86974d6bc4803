-- Loading: a gate that is the last on all its wires goes.
use mathlib.Core.Path.{◌≡◌, refl, sym, ap, subst, ◌∙◌}
use mathlib.Core.Bool.{Bool, true, false, not, cond, ◌&&◌, ◌||◌, false≢true}
use mathlib.Core.List.{List, [], ◌∷◌}
use Prim.Native.Nat.{ℕ, suc, ◌+◌, ◌*◌, ◌-◌, ◌≤◌, ◌<◌, ◌/◌}
use native.Mathlib.Omega.{arith}
use lib.Dec.{eqb, ltb}
use lib.ListN.{length, get_or, set}
use borrow.Author.Tests.{eqb-true, eq-eqb, ne_eqb, ltb-true, ltb-false, not-true}
use Rattle.gates.specs.declared.Gate.{Gate}
use Rattle.gates.specs.Gates.{has, meet, touches, shares, wires_of}
use Rattle.gates.specs.Records.{record_at, operand_words}
use Rattle.gates.proofs.Joined.{and_left, and_right}
use Rattle.rules.specs.Steps.{all}
use Rattle.links.specs.Words.{word, Within}
use Rattle.links.proofs.WordLaws.{within_none, within-then, within-set}
use Rattle.links.proofs.SeekLaws.{without, without_other, without-itself}
use Rattle.ranks.specs.Ranks.{marks, Marked}
use Rattle.slots.specs.declared.Extent.{Extent}
use Rattle.slots.specs.Slots.{gate_at, Sound, left_out}
use Rattle.slots.specs.Live.{words_for, nodes_for, prev_at, ranks_at, is_live, end_of, on_wire, held, later, Loaded}
use Rattle.slots.specs.Nodes.{taken_off}
use Rattle.slots.proofs.HeldLaws.{cells_same, cells-without, test-from}
use Rattle.slots.proofs.WireLaws.{node, Touching, apart}
use Rattle.slots.proofs.RingsLaws.{Back, back-same}
use Rattle.slots.proofs.RunLaws.{just, at_slot, has-none, has_first, has_rest}
use Rattle.slots.proofs.DropLaws.{just-touching, off-all}
use Rattle.slots.proofs.StateLaws.{within-room, live_same, live-is, live_below, touching, loaded-back, run_of, wires-are, wires-small}
use Rattle.live.proofs.LoadLaws.{back-stays}

-- Two gates on one wire share it.
pub share-wire : (w : ℕ) (vs ws : List ℕ) → has w vs ≡ true → has w ws ≡ true → meet vs ws ≡ true
unfolding has meet
share-wire w [] ws h k = absurd (false≢true h)
share-wire w (v ∷ vs) ws h k = go (eqb w v) refl h (λ n. share-wire w vs ws n k)
  where
    go : (b : Bool) → eqb w v ≡ b → b || has w vs ≡ true → (has w vs ≡ true → meet vs ws ≡ true) → has v ws || meet vs ws ≡ true
    go true e u n = ap (λ (b : Bool). b || meet vs ws) (subst (λ (x : ℕ). has x ws ≡ true) (eqb-true w v e) k)
    go false e u n = or_right (has v ws) (n u)
      where
        or_right : (a : Bool) → meet vs ws ≡ true → a || meet vs ws ≡ true
        or_right true m = refl
        or_right false m = m

pub off-within : (side ends wires : ℕ) (ws : List ℕ) (nd : ℕ) (words : List ℕ) → ((w : ℕ) → has w ws ≡ true → w < wires) →
    Within side (ends + wires) words (taken_off side ends nd ws words)
unfolding taken_off
off-within side ends wires [] nd words small = within_none side (ends + wires) words
off-within side ends wires (w ∷ ws) nd words small =
    within-then side (ends + wires) words (set words (side + ends + w) (word words side nd)) (taken_off side ends (suc nd) ws (set words (side + ends + w) (word words side nd)))
    (within-set side (ends + wires) words (side + ends + w) (word words side nd) (omega arith) (omega (arith, small w (has_first w ws))))
    (off-within side ends wires ws (suc nd) (set words (side + ends + w) (word words side nd)) (λ x h. small x (has_rest x w ws h)))

-- A record's nodes are taken off the stacks of a side: no word outside the side's nodes changes.
pub take_within : (bytes was now : List ℕ) (k : Extent) (side slot : ℕ) → Sound k.wires (record_at bytes slot) →
    now ≡ taken_off side (3 * k.gates) (3 * slot) (operand_words (record_at bytes slot)) was → Within side (nodes_for k) was now
take_within bytes was now k side slot sound e =
    subst (λ (l : List ℕ). Within side (nodes_for k) was l)
    (sym (e ∙ ap (λ (l : List ℕ). taken_off side (3 * k.gates) (3 * slot) l was) (sym (wires-are k.wires bytes slot sound))))
    (off-within side (3 * k.gates) k.wires (wires_of (gate_at bytes slot)) (3 * slot) was (wires-small k.wires bytes slot sound))

-- ------------------------------------------------------------ one slot is not live any more

-- Marks of the same slots but one.
module _ (k : Extent) (bytes was between now : List ℕ) (slot : ℕ) (live : is_live was k slot ≡ true)
    (kept : (x : ℕ) → ranks_at k ≤ x → x < ranks_at k + (k.gates / 32 + 1) → get_or between x 0 ≡ get_or was x 0)
    (marked : Marked (ranks_at k) k.gates slot 0 between now) where
  pub live_then : (i : ℕ) → (i ≡ slot → ⊥) → is_live now k i ≡ is_live was k i
  live_then i d =
      live-is now k i ∙ ap (λ (x : ℕ). eqb x 1) (marked.marked i ∙ ap (λ (b : Bool). cond b 0 (marks between (ranks_at k) k.gates i)) (ne_eqb i slot d))
      ∙ sym (live-is between k i) ∙ live_same was between k kept i

  pub live-gone : is_live now k slot ≡ false
  live-gone =
      live-is now k slot
      ∙ ap (λ (x : ℕ). eqb x 1) (marked.marked slot ∙ ap (λ (b : Bool). cond b 0 (marks between (ranks_at k) k.gates slot)) (eq-eqb slot slot refl))

  pub live-without : (i : ℕ) → without (is_live was k) slot i ≡ is_live now k i
  live-without i = at_slot (λ b. without (is_live was k) slot i ≡ is_live now k i) i slot
      (λ e. ap (without (is_live was k) slot) e ∙ without-itself (is_live was k) slot ∙ sym (ap (is_live now k) e ∙ live-gone))
      (λ d. sym (without_other (is_live was k) slot i d) ∙ sym (live_then i d))

  pub held-without : held bytes now k ≡ left_out slot (held bytes was k)
  held-without =
      cells_same (is_live now k) (without (is_live was k) slot) (gate_at bytes) (gate_at bytes) 0 k.gates (λ j a b. sym (live-without j)) (λ j a b t. refl)
      ∙ cells-without (is_live was k) (gate_at bytes) slot 0 k.gates

  -- On no wire any more.
  pub just-none : (w i : ℕ) → w < k.wires → i < k.gates → just [] slot (on_wire bytes was k) w i ≡ on_wire bytes now k w i
  just-none w i m l = at_slot (λ b. cond b (has w []) (on_wire bytes was k w i) ≡ on_wire bytes now k w i) i slot
      (λ e. has-none w ∙ sym (ap (on_wire bytes now k w) e ∙ ap (λ (b : Bool). b && touches w (gate_at bytes slot)) live-gone))
      (λ d. ap (λ (b : Bool). b && touches w (gate_at bytes i)) (sym (live_then i d)))

  -- A live slot is on just its gate's wires.
  pub just-wires : (w i : ℕ) → w < k.wires → i < k.gates → on_wire bytes was k w i ≡ just (wires_of (gate_at bytes slot)) slot (on_wire bytes was k) w i
  just-wires w i m l = at_slot (λ b. on_wire bytes was k w i ≡ cond b (has w (wires_of (gate_at bytes slot))) (on_wire bytes was k w i)) i slot
      (λ e. ap (on_wire bytes was k w) e ∙ ap (λ (b : Bool). b && has w (wires_of (gate_at bytes slot))) live) (λ d. refl)

-- ------------------------------------------------------------ the gate goes

module _ (k : Extent) (bytes was off now : List ℕ) (slot : ℕ) (live : is_live was k slot ≡ true) (loaded : Loaded bytes was k)
    (final : all (λ g. not (shares (gate_at bytes slot) g)) (later bytes was k slot) ≡ true)
    (taken : off ≡ taken_off (prev_at k) (3 * k.gates) (3 * slot) (operand_words (record_at bytes slot)) was)
    (marked : Marked (ranks_at k) k.gates slot 0 off now) where
  abbrev gate : ℕ → Gate
  gate = gate_at bytes

  abbrev ws : List ℕ
  ws = wires_of (gate_at bytes slot)

  slot< : slot < k.gates
  slot< = live_below was k slot live

  off-is : off ≡ taken_off (prev_at k) (3 * k.gates) (3 * slot) ws was
  off-is = taken ∙ ap (λ (l : List ℕ). taken_off (prev_at k) (3 * k.gates) (3 * slot) l was) (sym (wires-are k.wires bytes slot (loaded.sound slot live)))

  off-kept : Within (prev_at k) (nodes_for k) was off
  off-kept = take_within bytes was off k (prev_at k) slot (loaded.sound slot live) taken

  marks-kept : (x : ℕ) → ranks_at k ≤ x → x < ranks_at k + (k.gates / 32 + 1) → get_or off x 0 ≡ get_or was x 0
  marks-kept x a b = off-kept.same x (λ l. absurd (omega arith))

  -- No later gate is on one of its wires.
  latest-of-wire : (x i : ℕ) → i < k.gates → has x ws ≡ true → on_wire bytes was k x i ≡ true → i ≤ slot
  latest-of-wire x i m h t = go (ltb slot i) refl
    where
      clash : slot < i → ⊥
      clash l =
          false≢true
          (sym (not-true (shares (gate slot) (gate i)) (test-from (is_live was k) gate (λ g. not (shares (gate slot) g)) (suc slot) (k.gates - suc slot) final i l (omega arith) (and_left (is_live was k i) (touches x (gate i)) t)))
          ∙ share-wire x ws (wires_of (gate i)) h (and_right (is_live was k i) (touches x (gate i)) t))

      go : (b : Bool) → ltb slot i ≡ b → i ≤ slot
      go true e = absurd (clash (ltb-true slot i e))
      go false e = ltb-false slot i e

  off-links : Back gate k.gates k.wires (word off (prev_at k)) (just [] slot (on_wire bytes was k))
  off-links =
      subst (λ (l : List ℕ). Back gate k.gates k.wires (word l (prev_at k)) (just [] slot (on_wire bytes was k))) (sym off-is)
      (off-all gate k.gates k.wires slot slot< (on_wire bytes was k) (touching bytes was k) (prev_at k) ws (3 * slot) was (room_back loaded) (run_of bytes k slot (loaded.sound slot live))
      latest-of-wire
      (back-same gate k.gates k.wires (word was (prev_at k)) (on_wire bytes was k) (just ws slot (on_wire bytes was k)) (just-wires k bytes was off now slot live marks-kept marked) (loaded-back bytes was k loaded)))
    where
      room_back : Loaded bytes was k → prev_at k + nodes_for k ≤ length was
      room_back l = omega (arith, l.room)

  now-links : Back gate k.gates k.wires (word now (prev_at k)) (on_wire bytes now k)
  now-links =
      back-same gate k.gates k.wires (word now (prev_at k)) (just [] slot (on_wire bytes was k)) (on_wire bytes now k) (just-none k bytes was off now slot live marks-kept marked)
      (back-stays gate k.gates k.wires (word off (prev_at k)) (word now (prev_at k)) (just [] slot (on_wire bytes was k))
      (λ w i m l t. before-ranks (node gate k.gates k.wires w i) ((apart gate k.gates k.wires (just [] slot (on_wire bytes was k)) just-on w m).small i l t))
      (λ w m. before-ranks (end_of k w) (omega arith)) off-links)
    where
      before-ranks : (x : ℕ) → x < nodes_for k → word now (prev_at k) x ≡ word off (prev_at k) x
      before-ranks x m = marked.within.same (prev_at k + x) (λ l. below-ranks)
        where
          below-ranks : prev_at k + x < ranks_at k
          below-ranks = omega arith

      just-on : Touching gate k.gates k.wires (just [] slot (on_wire bytes was k))
      just-on = just-touching gate k.gates k.wires slot slot< (on_wire bytes was k) (touching bytes was k) [] (λ x h. absurd (false≢true (sym (has-none x) ∙ h)))

  now-long : length now ≡ length was
  now-long = marked.within.long ∙ off-kept.long

  pub pop-loaded : Loaded bytes now k
  pop-loaded =
      record {
        few = loaded.few;
        narrow = loaded.narrow;
        long = loaded.long;
        room = subst (λ (x : ℕ). words_for k ≤ x) (sym now-long) loaded.room;
        ranks = λ some. marked.ranks;
        sound = λ i t. at_slot (λ b. is_live now k i ≡ true → Sound k.wires (record_at bytes i)) i slot
            (λ e u. absurd (false≢true (sym (live-gone k bytes was off now slot live marks-kept marked) ∙ sym (ap (is_live now k) e) ∙ u)))
            (λ d u. loaded.sound i (sym (live_then k bytes was off now slot live marks-kept marked i d) ∙ u)) t;
        back = now-links.each;
        last = now-links.last;
      }

  pub pop-held : held bytes now k ≡ left_out slot (held bytes was k)
  pop-held = held-without k bytes was off now slot live marks-kept marked

  pub pop-within : Within 0 (words_for k) was now
  pop-within =
      within-room k was now (omega (arith, slot<)) now-long
      (λ x b. marked.within.same x (λ l. absurd (omega (arith, b, l))) ∙ off-kept.same x (λ l. absurd (omega (arith, b, l))))
