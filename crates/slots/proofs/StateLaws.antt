-- What a loaded list tells of its slots, and what it needs of the words.
use Rattle.std.specs.Prelude.{Ok}
use mathlib.Core.Path.{◌≡◌, refl, sym, ap, subst, ◌∙◌}
use mathlib.Core.Bool.{Bool, true, false, ◌&&◌, ◌||◌}
use mathlib.Core.List.{List, [], ◌∷◌}
use Prim.Native.Nat.{ℕ, ◌+◌, ◌*◌, ◌-◌, ◌/◌, ◌%◌, ◌≤◌, ◌<◌}
use native.Mathlib.Omega.{arith}
use lib.Dec.{eqb, ltb}
use lib.ListN.{length, get_or}
use borrow.Author.Tests.{eqb-true, eq-eqb, ltb-true, ltb-false}
use Rattle.gates.specs.declared.Gate.{Gate}
use Rattle.gates.specs.Gates.{has, touches, twice, wires_of, All}
use Rattle.gates.specs.Records.{record_at, gate_of, record_of, operand_words}
use Rattle.gates.proofs.Joined.{and_right}
use Rattle.gates.proofs.RecordLaws.{known-kind}
use Rattle.gates.proofs.RoundTrip.{wires-words, encode-decode}
use Rattle.links.specs.Words.{word, Within}
use Rattle.links.proofs.WordLaws.{within-then, within_wider, past_first}
use Rattle.ranks.specs.Ranks.{bit, marks}
use Rattle.ranks.proofs.KeepLaws.{ranks-same}
use Rattle.ranks.proofs.RegionLaws.{mark-past, marks-same}
use Rattle.slots.specs.declared.Extent.{Extent}
use Rattle.slots.specs.Slots.{gate_in, gate_at, Sound}
use Rattle.slots.specs.Live.{words_for, nodes_for, prev_at, ranks_at, pairs_at, spare_at, is_live, on_wire, Loaded, Forward}
use Rattle.slots.specs.Nodes.{hung}
use Rattle.slots.specs.Keeping.{KeepsLoaded}
use Rattle.slots.proofs.WireLaws.{node, Touching, at-most-three, apart}
use Rattle.slots.proofs.RingsLaws.{Back, Ahead, kept_back, kept-last}
use Rattle.slots.proofs.RunLaws.{Run, hung-within}

-- ------------------------------------------------------------ marks

pub live-is : (words : List ℕ) (k : Extent) (i : ℕ) → is_live words k i ≡ eqb (marks words (ranks_at k) k.gates i) 1
unfolding is_live
live-is words k i = refl

-- The mark that is asked at the place of the ranks.
pub live-at : (words : List ℕ) (k : Extent) (slot at : ℕ) → at ≡ ranks_at k → eqb (marks words at k.gates slot) 1 ≡ is_live words k slot
live-at words k slot at e = ap (λ (a : ℕ). eqb (marks words a k.gates slot) 1) e ∙ sym (live-is words k slot)

pub live-mark : (words : List ℕ) (k : Extent) (i : ℕ) → is_live words k i ≡ true → marks words (ranks_at k) k.gates i ≡ 1
live-mark words k i t = eqb-true (marks words (ranks_at k) k.gates i) 1 (sym (live-is words k i) ∙ t)

pub mark-live : (words : List ℕ) (k : Extent) (i : ℕ) → marks words (ranks_at k) k.gates i ≡ 1 → is_live words k i ≡ true
mark-live words k i e = live-is words k i ∙ eq-eqb (marks words (ranks_at k) k.gates i) 1 e

-- A live slot is one of the g slots.
pub live_below : (words : List ℕ) (k : Extent) (i : ℕ) → is_live words k i ≡ true → i < k.gates
live_below words k i t = go (ltb i k.gates) refl
  where
    go : (b : Bool) → ltb i k.gates ≡ b → i < k.gates
    go true e = ltb-true i k.gates e
    go false e = absurd (zero_one (mark-past words (ranks_at k) k.gates i (ltb-false i k.gates e)) (live-mark words k i t))
      where
        zero_one : marks words (ranks_at k) k.gates i ≡ 0 → marks words (ranks_at k) k.gates i ≡ 1 → ⊥
        zero_one a b = omega (arith, a, b)

-- Slots are live in words that agree on the marks.
pub live_same : (was now : List ℕ) (k : Extent) →
    ((x : ℕ) → ranks_at k ≤ x → x < ranks_at k + (k.gates / 32 + 1) → get_or now x 0 ≡ get_or was x 0) → (i : ℕ) →
    is_live now k i ≡ is_live was k i
live_same was now k same i =
    live-is now k i
    ∙ ap (λ (x : ℕ). eqb x 1)
    (marks-same now was (ranks_at k) k.gates i
    (λ l. ap (λ (x : ℕ). bit x (i % 32)) (same (ranks_at k + i / 32) (omega arith) (omega (arith, l)))))
    ∙ sym (live-is was k i)

-- ------------------------------------------------------------ records of live slots

pub gate-is : (bytes : List ℕ) (i : ℕ) → gate_at bytes i ≡ gate_in (gate_of (record_at bytes i))
unfolding gate_at
gate-is bytes i = refl

module _ (n : ℕ) (bytes : List ℕ) (i : ℕ) (sound : Sound n (record_at bytes i)) where
  pub reads-gate : gate_of (record_at bytes i) ≡ Ok (gate_at bytes i)
  reads-gate = sound.reads ∙ ap Ok (sym (gate-is bytes i))

  pub known : (record_at bytes i).kind < 27
  known = known-kind (record_at bytes i) (gate_at bytes i) reads-gate

  pub record_is : record_of (gate_at bytes i) ≡ record_at bytes i
  record_is = encode-decode (record_at bytes i) (gate_at bytes i) reads-gate

  -- The wires of its gate are the first words of the record.
  pub wires-are : wires_of (gate_at bytes i) ≡ operand_words (record_at bytes i)
  wires-are = wires-words (record_at bytes i) (gate_at bytes i) reads-gate

  pub wires-small : (w : ℕ) → touches w (gate_at bytes i) ≡ true → w < n
  wires-small w t = sound.below w (subst (λ (g : Gate). touches w g ≡ true) (gate-is bytes i) t)

  pub wires-once : twice (wires_of (gate_at bytes i)) ≡ false
  wires-once = subst (λ (g : Gate). twice (wires_of g) ≡ false) (sym (gate-is bytes i)) sound.distinct

-- What holds of every wire that a list has holds of all in it.
pub all-has : (P : ℕ → Type 0) (ws : List ℕ) → ((w : ℕ) → has w ws ≡ true → P w) → All P ws
unfolding has
all-has P [] h = tt
all-has P (w ∷ ws) h =
    (h w (ap (λ (b : Bool). b || has w ws) (eq-eqb w w refl)), all-has P ws (λ v t. h v (or_right (eqb v w) (has v ws) t)))
  where
    or_right : (a b : Bool) → b ≡ true → a || b ≡ true
    or_right true b e = refl
    or_right false b e = e

pub operands-small : (n : ℕ) (bytes : List ℕ) (i : ℕ) → Sound n (record_at bytes i) → All (λ w. w < n) (operand_words (record_at bytes i))
operands-small n bytes i sound =
    all-has (λ w. w < n) (operand_words (record_at bytes i))
    (λ w t. wires-small n bytes i sound w (subst (λ (ws : List ℕ). has w ws ≡ true) (sym (wires-are n bytes i sound)) t))

-- ------------------------------------------------------------ the links of a loaded list

pub touching : (bytes words : List ℕ) (k : Extent) → Touching (gate_at bytes) k.gates k.wires (on_wire bytes words k)
touching bytes words k w i m t = and_right (is_live words k i) (touches w (gate_at bytes i)) t

pub loaded-back : (bytes words : List ℕ) (k : Extent) → Loaded bytes words k →
    Back (gate_at bytes) k.gates k.wires (word words (prev_at k)) (on_wire bytes words k)
loaded-back bytes words k l = record { each = l.back; last = l.last }

pub forward-ahead : (bytes words : List ℕ) (k : Extent) → Forward bytes words k →
    Ahead (gate_at bytes) k.gates k.wires (word words 0) (on_wire bytes words k)
forward-ahead bytes words k f = record { each = f.each; first = f.first }

-- A slot's nodes have been put on the stacks of wires on a side; its cells past them may hold anything.
abbrev pub Hangs : ℕ → Extent → ℕ → List ℕ → List ℕ → List ℕ → Type 0
Hangs side k slot ws was now = Within (side + 3 * slot + length ws) (3 - length ws) (hung side (3 * k.gates) (3 * slot) ws was) now

-- No word outside the side's nodes has changed.
pub hang-within : (list was now : List ℕ) (k : Extent) (side slot place : ℕ) → slot < k.gates → Sound k.wires (record_at list place) →
    Hangs side k slot (operand_words (record_at list place)) was now → Within side (nodes_for k) was now
hang-within list was now k side slot place slot< sound hangs =
    go (wires_of (gate_at list place)) (at-most-three (gate_at list place)) (wires-small k.wires list place sound)
    (subst (λ (ws : List ℕ). Hangs side k slot ws was now) (sym (wires-are k.wires list place sound)) hangs)
  where
    go : (ws : List ℕ) → length ws ≤ 3 → ((w : ℕ) → has w ws ≡ true → w < k.wires) → Hangs side k slot ws was now → Within side (nodes_for k) was now
    go ws few small h =
        within-then side (nodes_for k) was (hung side (3 * k.gates) (3 * slot) ws was) now
        (hung-within side (3 * k.gates) k.wires ws (3 * slot) was (omega arith) small)
        (within_wider (side + 3 * slot + length ws) (3 - length ws) side (nodes_for k) (hung side (3 * k.gates) (3 * slot) ws was) now (omega arith) (omega arith) h)

-- The nodes of a slot with a sound record.
pub run_of : (bytes : List ℕ) (k : Extent) (s : ℕ) → Sound k.wires (record_at bytes s) →
    Run (gate_at bytes) k.gates k.wires s (wires_of (gate_at bytes s)) (3 * s)
run_of bytes k s sound =
    record {
      once = wires-once k.wires bytes s sound;
      small = wires-small k.wires bytes s sound;
      touched = λ x h. h;
      nodes = λ x h. refl;
    }

-- ------------------------------------------------------------ the words that a loaded list needs

-- The room that a list of one gate or more has: links, ranks, pairs, lists and a table fit into 16g + 4n words.
pub room-enough : (k : Extent) → 0 < k.gates → pairs_at k + (2 * (k.gates + 1) + 2 * k.gates + 2 * k.wires) ≤ words_for k
room-enough k some = omega (arith, some)

pub spare-in-room : (k : Extent) → 0 < k.gates → spare_at k ≤ words_for k
spare-in-room k some = omega (arith, room-enough k some)

-- A change of links and ranks only is one within the room.
pub links-in-room : (k : Extent) (was now : List ℕ) → 0 < k.gates → Within 0 (spare_at k) was now → Within 0 (words_for k) was now
links-in-room k was now some = within_wider 0 (spare_at k) 0 (words_for k) was now (omega arith) (omega (arith, spare-in-room k some))

-- A change that leaves all words past the links between equals leaves all past the room.
pub within-room : (k : Extent) (was now : List ℕ) → 0 < k.gates → length now ≡ length was →
    ((x : ℕ) → pairs_at k + 2 * (k.gates + 1) ≤ x → get_or now x 0 ≡ get_or was x 0) → Within 0 (words_for k) was now
within-room k was now some long past =
    record { long = long; same = λ x o. past x (beyond x (past_first (words_for k) x o)) }
  where
    beyond : (x : ℕ) → words_for k ≤ x → pairs_at k + 2 * (k.gates + 1) ≤ x
    beyond x l = omega (arith, l, room-enough k some)

pub keeps-marks : (k : Extent) (was now : List ℕ) → KeepsLoaded k was now → (i : ℕ) → is_live now k i ≡ is_live was k i
keeps-marks k was now keeps = live_same was now k (λ x a b. keeps.inside x (omega arith) (omega arith))

-- A list stays loaded where links back and ranks stay.
pub loaded-same : (bytes : List ℕ) (k : Extent) (was now : List ℕ) → length now ≡ length was →
    ((x : ℕ) → nodes_for k ≤ x → x < pairs_at k → get_or now x 0 ≡ get_or was x 0) → Loaded bytes was k → Loaded bytes now k
loaded-same bytes k was now long inside l =
    record {
      few = l.few;
      narrow = l.narrow;
      long = l.long;
      room = subst (λ (x : ℕ). words_for k ≤ x) (sym long) l.room;
      ranks = λ some. ranks-same was now (ranks_at k) k.gates long (λ x a b. inside x (omega arith) b) (l.ranks some);
      sound = λ i t. l.sound i (sym (marks_stay i) ∙ t);
      back = λ w m. kept_back (gate_at bytes) k.gates k.wires (on_wire bytes was k) (on_wire bytes now k) w (λ i n. on_same w i)
          (word was (prev_at k)) (word now (prev_at k)) (λ i n t. prev-stays (node (gate_at bytes) k.gates k.wires w i) (node-small w i m n t))
          (l.back w m);
      last = λ w m. kept-last (gate_at bytes) k.gates k.wires (on_wire bytes was k) (on_wire bytes now k) w (λ i n. on_same w i)
          (word was (prev_at k)) (word now (prev_at k)) (prev-stays (3 * k.gates + w) (omega arith)) (l.last w m);
    }
  where
    marks_stay : (i : ℕ) → is_live now k i ≡ is_live was k i
    marks_stay = live_same was now k (λ x a b. inside x (omega arith) (omega arith))

    on_same : (w i : ℕ) → on_wire bytes was k w i ≡ on_wire bytes now k w i
    on_same w i = ap (λ (b : Bool). b && touches w (gate_at bytes i)) (sym (marks_stay i))

    prev-stays : (x : ℕ) → x < nodes_for k → word now (prev_at k) x ≡ word was (prev_at k) x
    prev-stays x m = inside (prev_at k + x) (omega arith) (omega arith)

    node-small : (w i : ℕ) → w < k.wires → i < k.gates → on_wire bytes was k w i ≡ true → node (gate_at bytes) k.gates k.wires w i < nodes_for k
    node-small w i m n t = (apart (gate_at bytes) k.gates k.wires (on_wire bytes was k) (touching bytes was k) w m).small i n t

pub keeps-loaded : (bytes : List ℕ) (k : Extent) (was now : List ℕ) → KeepsLoaded k was now → Loaded bytes was k → Loaded bytes now k
keeps-loaded bytes k was now keeps = loaded-same bytes k was now keeps.long keeps.inside

-- Changes that keep a list loaded.
pub keeps-none : (k : Extent) (words : List ℕ) → KeepsLoaded k words words
keeps-none k words = record { long = refl; inside = λ x a b. refl; past = λ x a. refl }

pub keeps_then : (k : Extent) (a b c : List ℕ) → KeepsLoaded k a b → KeepsLoaded k b c → KeepsLoaded k a c
keeps_then k a b c p q =
    record { long = q.long ∙ p.long; inside = λ x m n. q.inside x m n ∙ p.inside x m n; past = λ x m. q.past x m ∙ p.past x m }

-- A change of links forward only, or of the room for pairs only.
pub keeps-links : (k : Extent) (was now : List ℕ) → Within 0 (nodes_for k) was now → KeepsLoaded k was now
keeps-links k was now w =
    record { long = w.long; inside = λ x a b. w.same x (λ l. absurd (omega arith)); past = λ x a. w.same x (λ l. absurd (omega arith)) }

pub keeps-pairs : (k : Extent) (was now : List ℕ) → 0 < k.gates →
    Within (pairs_at k) (2 * (k.gates + 1) + 2 * k.gates + 2 * k.wires) was now → KeepsLoaded k was now
keeps-pairs k was now some w =
    record { long = w.long; inside = λ x a b. w.same x (λ l. b); past = λ x a. w.same x (λ l. absurd (past x a l)) }
  where
    past : (x : ℕ) → words_for k ≤ x → x < pairs_at k + (2 * (k.gates + 1) + 2 * k.gates + 2 * k.wires) → ⊥
    past x a l = omega (arith, room-enough k some)
