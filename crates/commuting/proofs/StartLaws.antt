-- Where a walk starts: behind the pair's own nodes, with all of its tracks.
use mathlib.Core.Path.{◌≡◌, refl, sym, ap, ap₂, subst, ◌∙◌}
use mathlib.Core.Bool.{true, cond}
use mathlib.Core.List.{List, [], ◌∷◌, ◌++◌}
use Prim.Native.Nat.{ℕ, zero, suc, ◌+◌, ◌*◌, ◌-◌, ◌≤◌, ◌<◌}
use native.Mathlib.Omega.{arith}
use Rattle.std.proofs.lemmas.Bool.Decides.{nat_tests}
use lib.Dec.{eqb}
use lib.ListN.{length, get_or, take}
use Rattle.gates.specs.declared.Gate.{Gate}
use Rattle.gates.specs.declared.records.Record.{Record}
use Rattle.gates.specs.Gates.{wires_of, has}
use Rattle.gates.specs.Kinds.{shape_of, wires_in}
use Rattle.gates.specs.Records.{record_at, operand_words}
use Rattle.rules.specs.Steps.{Cell, track}
use Rattle.rules.specs.Sweeps.{room, tracks, walk_past}
use Rattle.leaves.specs.declared.pairs.CommutingPair.{CommutingPair}
use Rattle.leaves.specs.Answers.{as_gate}
use Rattle.leaves.proofs.PairLaws.{pair-wires}
use Rattle.links.specs.Words.{word}
use Rattle.slots.specs.declared.Extent.{Extent}
use Rattle.slots.specs.Slots.{gate_at, cells_from}
use Rattle.slots.specs.Live.{is_live, operand_of, node_on}
use Rattle.slots.proofs.WireLaws.{at-most-three, operand-there}
use Rattle.slots.proofs.StateLaws.{live_below, wires-are}
use Rattle.commuting.specs.Walking.{node_of, starts_of}
use Rattle.commuting.proofs.QueueLaws.{adds_none, walk_of, open_of, open-one, opens, queue-start}
use Rattle.commuting.proofs.TrackLaws.{track_at, Stands, track-few, behind-stands, behind-track}
use Rattle.commuting.proofs.WalkLaws.{Meant, Walking, wires, walk_is, queue_at, touched, small, on-slot, on-partner}

-- ------------------------------------------------------------ the node of a wire, by the record's words

place_is : (a b c w n : ℕ) → has w (take n (a ∷ b ∷ c ∷ [])) ≡ true →
    operand_of w (take n (a ∷ b ∷ c ∷ [])) ≡ cond (eqb a w) 0 (cond (eqb b w) 1 2)
unfolding has operand_of
place_is a b c w zero h = cc
place_is a b c w (suc zero) h = grind (arith, nat_tests)
place_is a b c w (suc (suc zero)) h = grind (arith, nat_tests)
place_is a b c w (suc (suc (suc zero))) h = grind (arith, nat_tests)
place_is a b c w (suc (suc (suc (suc n)))) h = grind (arith, nat_tests)

node_at_lem : (words : List ℕ) (slot : ℕ) (r : Record) (w : ℕ) →
    node_of words slot r w ≡ word words 0 (3 * slot + cond (eqb r.first w) 0 (cond (eqb r.second w) 1 2))
unfolding node_of
node_at_lem words slot r w = grind (arith, nat_tests)

-- ------------------------------------------------------------ the nodes, operand by operand

starts-long : (words : List ℕ) (slot : ℕ) (r : Record) (pair : CommutingPair) → length (starts_of words slot r pair) ≡ 3
starts-long words slot r (CommutingPair.Cnot a b) = refl
starts-long words slot r (CommutingPair.Cz a b) = refl
starts-long words slot r (CommutingPair.Ccx a b c) = refl
starts-long words slot r (CommutingPair.Ccz a b c) = refl

starts-at : (words : List ℕ) (slot : ℕ) (r : Record) (pair : CommutingPair) (i : ℕ) → i < length (wires pair) →
    get_or (starts_of words slot r pair) i 0 ≡ node_of words slot r (get_or (wires pair) i 0)
unfolding wires_of as_gate
starts-at words slot r (CommutingPair.Cnot a b) zero l = refl
starts-at words slot r (CommutingPair.Cnot a b) (suc zero) l = refl
starts-at words slot r (CommutingPair.Cnot a b) (suc (suc i)) l = absurd (omega arith)
starts-at words slot r (CommutingPair.Cz a b) zero l = refl
starts-at words slot r (CommutingPair.Cz a b) (suc zero) l = refl
starts-at words slot r (CommutingPair.Cz a b) (suc (suc i)) l = absurd (omega arith)
starts-at words slot r (CommutingPair.Ccx a b c) zero l = refl
starts-at words slot r (CommutingPair.Ccx a b c) (suc zero) l = refl
starts-at words slot r (CommutingPair.Ccx a b c) (suc (suc zero)) l = refl
starts-at words slot r (CommutingPair.Ccx a b c) (suc (suc (suc i))) l = absurd (omega arith)
starts-at words slot r (CommutingPair.Ccz a b c) zero l = refl
starts-at words slot r (CommutingPair.Ccz a b c) (suc zero) l = refl
starts-at words slot r (CommutingPair.Ccz a b c) (suc (suc zero)) l = refl
starts-at words slot r (CommutingPair.Ccz a b c) (suc (suc (suc i))) l = absurd (omega arith)

-- ------------------------------------------------------------ the tracks, operand by operand

module _ (cells : List (Cell ℕ)) where
  opens-are : (track_of : ℕ → ℕ → List Gate) (ws at : List ℕ) → length ws ≤ length at →
      ((i : ℕ) → i < length ws → open_of track_of (get_or ws i 0) (get_or at i 0) ≡ track (get_or ws i 0) cells ∷ []) →
      opens track_of ws at ≡ tracks ws cells
  unfolding tracks
  opens-are track_of [] at l h = refl
  opens-are track_of (w ∷ ws) [] l h = absurd (omega arith)
  opens-are track_of (w ∷ ws) (node ∷ at) l h =
      ap₂ ◌++◌ (h 0 (omega arith)) (opens-are track_of ws at (omega arith) (λ i m. h (suc i) (omega arith)))

  as-many-tracks : (ws : List ℕ) → length ws ≡ length (tracks ws cells)
  unfolding tracks
  as-many-tracks [] = refl
  as-many-tracks (w ∷ ws) = ap suc (as-many-tracks ws)

  rooms : (n : ℕ) (ws : List ℕ) → length ws ≤ 3 → ((w : ℕ) → suc (length (track w cells)) ≤ n) → room (tracks ws cells) ≤ 3 * n
  unfolding tracks room
  rooms n [] l h = omega arith
  rooms n (a ∷ []) l h = omega (arith, h a)
  rooms n (a ∷ b ∷ []) l h = omega (arith, h a, h b)
  rooms n (a ∷ b ∷ c ∷ []) l h = omega (arith, h a, h b, h c)
  rooms n (a ∷ b ∷ c ∷ d ∷ ws) l h = absurd (omega arith)

-- ------------------------------------------------------------ the start

module _ (bytes words : List ℕ) (k : Extent) (slot partner : ℕ) (pair : CommutingPair) (m : Meant bytes words k slot partner pair) where
  -- The gates between the two.
  abbrev between : List (Cell ℕ)
  between = cells_from (is_live words k) (gate_at bytes) (suc slot) (partner - suc slot)

  -- What is read on a wire is the word at the pair's own node.
  start-node : (w : ℕ) → has w (wires pair) ≡ true → node_of words slot (record_at bytes slot) w ≡ word words 0 (node_on bytes w slot)
  start-node w h =
      node_at_lem words slot (record_at bytes slot) w
      ∙ ap (λ (o : ℕ). word words 0 (3 * slot + o))
      (sym (ap (operand_of w) same ∙ place_is r.first r.second r.third w (wires_in (shape_of r.kind))
      (subst (λ (ws : List ℕ). has w ws ≡ true) same (touched bytes words k slot partner pair m w h))))
    where
      r : Record
      r = record_at bytes slot

      same : wires_of (gate_at bytes slot) ≡ operand_words (record_at bytes slot)
      same = wires-are k.wires bytes slot (m.live.loaded.sound slot m.here)

  start-stands : (w : ℕ) → has w (wires pair) ≡ true → Stands bytes words k slot partner w (node_of words slot (record_at bytes slot) w)
  start-stands w h =
      subst (Stands bytes words k slot partner w) (sym (start-node w h))
      (behind-stands bytes words k m.live.forward partner w (small bytes words k slot partner pair m w h)
      (on-partner bytes words k slot partner pair m w h) slot slot (omega arith) (on-slot bytes words k slot partner pair m w h) m.before)

  start-track : (w : ℕ) → has w (wires pair) ≡ true → track_at bytes words k partner w (node_of words slot (record_at bytes slot) w) ≡ track w between
  start-track w h =
      ap (track_at bytes words k partner w) (start-node w h)
      ∙ behind-track bytes words k m.live.forward partner w (small bytes words k slot partner pair m w h)
      (on-partner bytes words k slot partner pair m w h) slot (on-slot bytes words k slot partner pair m w h) m.before

  module _ (at : List ℕ) (is : at ≡ starts_of words slot (record_at bytes slot) pair) where
    at-is : (i : ℕ) → i < length (wires pair) → get_or at i 0 ≡ node_of words slot (record_at bytes slot) (get_or (wires pair) i 0)
    at-is i l = ap (λ (at : List ℕ). get_or at i 0) is ∙ starts-at words slot (record_at bytes slot) pair i l

    long : length at ≡ 3
    long = ap length is ∙ starts-long words slot (record_at bytes slot) pair

    start-open : (i : ℕ) → i < length (wires pair) →
        open_of (track_at bytes words k partner) (get_or (wires pair) i 0) (get_or at i 0) ≡ track (get_or (wires pair) i 0) between ∷ []
    start-open i l =
        rw (at-is i l)
        (open-one (track_at bytes words k partner) w (node_of words slot (record_at bytes slot) w) not-zero
        ∙ ap (λ (t : List Gate). t ∷ []) (start-track w its))
      where
        w : ℕ
        w = get_or (wires pair) i 0

        its : has w (wires pair) ≡ true
        its = operand-there (wires pair) i l

        not-zero : node_of words slot (record_at bytes slot) w ≡ 0 → ⊥
        not-zero z = omega (arith, z, (start-stands w its).past)

    start-queue : queue_at bytes words k slot partner pair 0 at ≡ tracks (wires pair) between
    start-queue =
        queue-start (track_at bytes words k partner) (wires pair) at
        ∙ opens-are between (track_at bytes words k partner) (wires pair) at (omega (arith, long, at-most-three (as_gate pair))) start-open

    asked : walk_is bytes words k slot partner pair ≡ walk_of (gate_at bytes slot) (tracks (wires pair) between)
    unfolding walk_past
    asked = ap (λ (ws : List ℕ). walk_of (gate_at bytes slot) (tracks ws between)) (sym (pair-wires (gate_at bytes slot) pair m.is))

    begun : Walking bytes words k slot partner pair at (length (wires pair)) 0 0
    begun =
        record {
          long = long;
          stands = λ i l d. rw (at-is i l) (start-stands (get_or (wires pair) i 0) (operand-there (wires pair) i l));
          answer =
              asked ∙ ap (walk_of (gate_at bytes slot)) (sym start-queue)
              ∙ adds_none (walk_of (gate_at bytes slot) (queue_at bytes words k slot partner pair 0 at));
          left = as-many-tracks between (wires pair) ∙ ap length (sym start-queue);
          few = omega (arith, ap room start-queue, rooms between k.gates (wires pair) (at-most-three (as_gate pair)) enough);
        }
      where
        enough : (w : ℕ) → suc (length (track w between)) ≤ k.gates
        enough w = omega
            (arith, m.before, live_below words k partner m.there, track-few (is_live words k) (gate_at bytes) w (suc slot) (partner - suc slot))

  -- With the record that is read, and as many tracks as there are operands.
  pub started : (r : Record) → r ≡ record_at bytes slot → (count : ℕ) → count ≡ length (wires pair) → (at : List ℕ) →
      at ≡ starts_of words slot r pair → Walking bytes words k slot partner pair at count 0 0
  started r read count counted at is = rw counted (begun at (is ∙ ap (λ (r : Record). starts_of words slot r pair) read))
