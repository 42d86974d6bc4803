-- What the code that loads asks of its callees, and what their answers come to.
use mathlib.Core.Path.{◌≡◌, refl, sym, ap, subst, ◌∙◌}
use mathlib.Core.Bool.{Bool, true, false, not}
use mathlib.Core.List.{List, [], ◌∷◌, ◌++◌}
use Prim.Native.Nat.{ℕ, suc, ◌+◌, ◌*◌, ◌≤◌, ◌<◌}
use native.Mathlib.Omega.{arith}
use lib.Dec.{eqb}
use lib.ListN.{length}
use lib.Seq.{sets, length-sets}
use borrow.Author.Tests.{eqb-false}
use Rattle.gates.specs.declared.Gate.{Gate}
use Rattle.gates.specs.declared.records.Record.{Record}
use Rattle.gates.specs.Gates.{shares, All}
use Rattle.gates.specs.Records.{record_at, gate_of, operand_words, record_bytes}
use Rattle.gates.specs.Words.{byte_at}
use Rattle.gates.proofs.StoredLaws.{fitting, stored_here, stored_other}
use Rattle.rules.specs.Steps.{Cell, all}
use Rattle.links.specs.Words.{Within}
use Rattle.links.proofs.WordLaws.{within-then, within_wider, past_first}
use Rattle.ranks.specs.Ranks.{Ranks, marks, Marked, Blank}
use Rattle.ranks.proofs.KeepLaws.{ranks-same}
use Rattle.slots.specs.declared.Extent.{Extent}
use Rattle.slots.specs.Slots.{gate_in, gate_at, Sound, left_out}
use Rattle.slots.specs.Live.{words_for, nodes_for, prev_at, ranks_at, pairs_at, pair_prev_at, is_live, held, later, Loaded, Forward, Partners, Live}
use Rattle.slots.specs.Nodes.{Closed, taken_off, InRoom}
use Rattle.slots.specs.Keeping.{KeepsLoaded}
use Rattle.live.specs.Filling.{FilledTo}
use Rattle.slots.proofs.HeldLaws.{cells_same}
use Rattle.slots.proofs.SpareLaws.{partners-kept}
use Rattle.slots.proofs.StateLaws.{live-is, live-mark, live_below, live_same, gate-is, known, operands-small, Hangs, hang-within, room-enough, keeps-marks, keeps-loaded, keeps-links, keeps_then}
use Rattle.live.proofs.ForwardLaws.{filled_more, filled_within}
use Rattle.live.proofs.LoadLaws.{begin-loaded, begin-empty, free-slot, push-loaded, push-held, push-within}
use Rattle.live.proofs.PopLaws.{take_within, pop-loaded, pop-held, pop-within}

-- A live slot's record is one of the lent records.
pub record-inside : (bytes words : List ℕ) (k : Extent) (slot : ℕ) → Loaded bytes words k → is_live words k slot ≡ true →
    (16 * slot + 16 ≤ length bytes) × (slot < 1048576)
record-inside bytes words k slot loaded live =
    let inside = live_below words k slot live in (omega (arith, inside, loaded.long), omega (arith, inside, loaded.few))

-- ------------------------------------------------------------ an empty list

-- Closing the ends of a side changes words of that side only.
pub closed-within : (was now : List ℕ) (k : Extent) (side size : ℕ) → side + nodes_for k ≤ size → Closed side k was now → Within 0 size was now
closed-within was now k side size room ends =
    within_wider (side + 3 * k.gates) k.wires 0 size was now (omega arith) (omega arith) ends.within

module _ (bytes was closed : List ℕ) (k : Extent) (few : k.gates ≤ 1048576) (narrow : k.wires ≤ 65536) (long : 16 * k.gates ≤ length bytes)
    (room : words_for k ≤ length was) (ends : Closed (prev_at k) k was closed) where
  -- What is ensured of the words that are left.
  abbrev Begun : List ℕ → Type 0
  Begun now = Loaded bytes now k × ((held bytes now k ≡ []) × Within 0 (words_for k) was now)

  ends-within : Within 0 (words_for k) was closed
  ends-within = closed-within was closed k (prev_at k) (words_for k) (omega arith) ends

  -- No slot is live: ranks have been started with no marks, or there are no slots.
  pub begin-some : (now : List ℕ) → 0 < k.gates → Blank (ranks_at k) k.gates closed now → Begun now
  begin-some now some blank = (
    begin-loaded bytes now k none-live few narrow long (subst (λ (x : ℕ). words_for k ≤ x) (sym all-within.long) room)
        (λ _. blank.ranks) (λ w m. blank.within.same (prev_at k + (3 * k.gates + w)) (λ l. before w m) ∙ ends.each w m),
    (begin-empty bytes now k none-live, all-within),
  )
    where
      before : (w : ℕ) → w < k.wires → prev_at k + (3 * k.gates + w) < ranks_at k
      before w m = omega arith

      none-live : (i : ℕ) → is_live now k i ≡ false
      none-live i = live-is now k i ∙ ap (λ (x : ℕ). eqb x 1) (blank.none i)

      all-within : Within 0 (words_for k) was now
      all-within =
          within-then 0 (words_for k) was closed now ends-within
          (within_wider (ranks_at k) _ 0 (words_for k) closed now (omega arith) (omega (arith, room-enough k some)) blank.within)

  pub begin-none : k.gates ≤ 0 → Begun closed
  begin-none none = (
    begin-loaded bytes closed k none-live few narrow long (subst (λ (x : ℕ). words_for k ≤ x) (sym ends-within.long) room)
        (λ some. absurd (omega arith)) ends.each,
    (begin-empty bytes closed k none-live, ends-within),
  )
    where
      none-live : (i : ℕ) → is_live closed k i ≡ false
      none-live i = go (is_live closed k i) refl
        where
          go : (b : Bool) → is_live closed k i ≡ b → b ≡ false
          go true e = absurd (omega (arith, live_below closed k i e))
          go false e = refl

-- ------------------------------------------------------------ what a call left at a place, however the place was come by

pub closed-at : (k : Extent) (at : ℕ) (was now : List ℕ) → Closed at k was now → at ≡ prev_at k → Closed (prev_at k) k was now
closed-at k at was now left e = subst (λ (at : ℕ). Closed at k was now) e left

pub blank-at : (k : Extent) (at : ℕ) (was now : List ℕ) → Blank at k.gates was now → at ≡ ranks_at k → Blank (ranks_at k) k.gates was now
blank-at k at was now left e = subst (λ (at : ℕ). Blank at k.gates was now) e left

pub hung-at : (k : Extent) (at slot : ℕ) (ws was now : List ℕ) → Hangs at k slot ws was now → at ≡ prev_at k → Hangs (prev_at k) k slot ws was now
hung-at k at slot ws was now left e = subst (λ (at : ℕ). Hangs at k slot ws was now) e left

pub off-at : (k : Extent) (at slot : ℕ) (ws was now : List ℕ) → now ≡ taken_off at (3 * k.gates) (3 * slot) ws was → at ≡ prev_at k →
    now ≡ taken_off (prev_at k) (3 * k.gates) (3 * slot) ws was
off-at k at slot ws was now left e = subst (λ (at : ℕ). now ≡ taken_off at (3 * k.gates) (3 * slot) ws was) e left

-- ------------------------------------------------------------ what changes of links back ask and leave

-- A sound record has room on either side of a loaded list.
pub in-room : (bytes words list : List ℕ) (k : Extent) (side slot place : ℕ) (r : Record) → Loaded bytes words k → side ≤ prev_at k →
    slot < k.gates → Sound k.wires (record_at list place) → r ≡ record_at list place → InRoom words side k slot r
in-room bytes words list k side slot place r loaded near slot< sound read =
    subst (λ (x : Record). InRoom words side k slot x) (sym read)
    record {
      within = omega (arith, loaded.room);
      few = loaded.few;
      narrow = loaded.narrow;
      inside = slot<;
      kind = known k.wires list place sound;
      wires = operands-small k.wires list place sound;
    }

-- Where only links back have changed, marks and ranks are as they were.
module _ (bytes was now : List ℕ) (k : Extent) (loaded : Loaded bytes was k) (kept : Within (prev_at k) (nodes_for k) was now) where
  pub ranks-kept : 0 < k.gates → Ranks now (ranks_at k) k.gates
  ranks-kept some = ranks-same was now (ranks_at k) k.gates kept.long (λ x a b. kept.same x (λ l. absurd (omega arith))) (loaded.ranks some)

  pub live-kept : (i : ℕ) → is_live now k i ≡ is_live was k i
  live-kept = live_same was now k (λ x a b. kept.same x (λ l. absurd (omega arith)))

-- A slot that is not live has mark 0.
pub unmarked : (words : List ℕ) (k : Extent) (i : ℕ) → Ranks words (ranks_at k) k.gates → is_live words k i ≡ false →
    marks words (ranks_at k) k.gates i ≡ 0
unmarked words k i ranks off =
    omega (arith, ranks.small i, eqb-false (marks words (ranks_at k) k.gates i) 1 (sym (live-is words k i) ∙ off))

-- ------------------------------------------------------------ one gate more

-- A record has been read from a list, and its nodes have been put on the stacks of its wires.
module _ (k : Extent) (bytes was hanging list : List ℕ) (slot place : ℕ) (r : Record) (loaded : Loaded bytes was k) (slot< : slot < k.gates)
    (top : All (λ (e : Cell ℕ). e.beside < slot) (held bytes was k))
    (sound : Sound k.wires (record_at list place)) (read : r ≡ record_at list place)
    (hangs : Hangs (prev_at k) k slot (operand_words r) was hanging) where
  -- What marking the slot asks.
  pub push-free : Ranks hanging (ranks_at k) k.gates × ((slot < k.gates) × (marks hanging (ranks_at k) k.gates slot ≡ 0))
  push-free = (ranks, (slot<, unmarked hanging k slot ranks (live-kept bytes was hanging k loaded kept slot ∙ free-slot k bytes was slot top)))
    where
      kept : Within (prev_at k) (nodes_for k) was hanging
      kept =
          hang-within list was hanging k (prev_at k) slot place slot< sound
          (subst (λ (x : Record). Hangs (prev_at k) k slot (operand_words x) was hanging) read hangs)

      ranks : Ranks hanging (ranks_at k) k.gates
      ranks = ranks-kept bytes was hanging k loaded kept (omega arith)

  -- The record has been put into the slot, and the slot is marked.
  module _ (bytes' now : List ℕ) (small : (i : ℕ) → byte_at list i < 256) (put : bytes' ≡ sets bytes (16 * slot) (record_bytes r))
      (marked : Marked (ranks_at k) k.gates slot 1 hanging now) where
    put_is : bytes' ≡ sets bytes (16 * slot) (record_bytes (record_at list place))
    put_is = put ∙ ap (λ (x : Record). sets bytes (16 * slot) (record_bytes x)) read

    -- The slot has the record of the list, and its gate.
    stored : record_at bytes' slot ≡ record_at list place
    stored =
        ap (λ (l : List ℕ). record_at l slot) put_is
        ∙ stored_here bytes slot (record_at list place) (omega (arith, loaded.long)) (fitting list (16 * place) small)

    same-gate : gate_at bytes' slot ≡ gate_at list place
    same-gate = gate-is bytes' slot ∙ ap (λ (x : Record). gate_in (gate_of x)) stored ∙ sym (gate-is list place)

    others : (i : ℕ) → (i ≡ slot → ⊥) → record_at bytes' i ≡ record_at bytes i
    others i d = ap (λ (l : List ℕ). record_at l i) put_is ∙ stored_other bytes slot i (record_at list place) d

    longer : length bytes' ≡ length bytes
    longer = ap length put_is ∙ length-sets bytes (16 * slot) (record_bytes (record_at list place))

    sound-here : Sound k.wires (record_at bytes' slot)
    sound-here = subst (λ (x : Record). Sound k.wires x) (sym stored) sound

    hangs-here : Hangs (prev_at k) k slot (operand_words (record_at bytes' slot)) was hanging
    hangs-here = subst (λ (x : Record). Hangs (prev_at k) k slot (operand_words x) was hanging) (read ∙ sym stored) hangs

    pub pushed : Loaded bytes' now k
        × ((held bytes' now k ≡ held bytes was k ++ (record { gate = gate_at list place; beside = slot } ∷ []))
        × ((bytes' ≡ sets bytes (16 * slot) (record_bytes (record_at list place))) × Within 0 (words_for k) was now))
    pushed = (
      push-loaded k bytes bytes' was hanging now slot slot< loaded top sound-here others longer hangs-here marked,
      (
        push-held k bytes bytes' was hanging now slot slot< loaded top sound-here others longer hangs-here marked
            ∙ ap (λ (g : Gate). held bytes was k ++ (record { gate = g; beside = slot } ∷ [])) same-gate,
        (put_is, push-within k bytes bytes' was hanging now slot slot< loaded top sound-here others longer hangs-here marked),
      ),
    )

-- ------------------------------------------------------------ a gate less

-- A live slot's record has been read, and its nodes have been taken off the stacks of its wires.
module _ (k : Extent) (bytes was off : List ℕ) (slot : ℕ) (r : Record) (loaded : Loaded bytes was k) (live : is_live was k slot ≡ true)
    (read : r ≡ record_at bytes slot) (taken : off ≡ taken_off (prev_at k) (3 * k.gates) (3 * slot) (operand_words r) was) where
  off-is : off ≡ taken_off (prev_at k) (3 * k.gates) (3 * slot) (operand_words (record_at bytes slot)) was
  off-is = taken ∙ ap (λ (x : Record). taken_off (prev_at k) (3 * k.gates) (3 * slot) (operand_words x) was) read

  -- What taking the mark asks.
  pub pop-marked : Ranks off (ranks_at k) k.gates × ((slot < k.gates) × (marks off (ranks_at k) k.gates slot ≡ 1))
  pop-marked = (
    ranks-kept bytes was off k loaded kept (omega (arith, slot<)),
    (slot<, live-mark off k slot (live-kept bytes was off k loaded kept slot ∙ live)),
  )
    where
      slot< : slot < k.gates
      slot< = live_below was k slot live

      kept : Within (prev_at k) (nodes_for k) was off
      kept = take_within bytes was off k (prev_at k) slot (loaded.sound slot live) off-is

  pub popped : (now : List ℕ) → all (λ g. not (shares (gate_at bytes slot) g)) (later bytes was k slot) ≡ true →
      Marked (ranks_at k) k.gates slot 0 off now →
      Loaded bytes now k × ((held bytes now k ≡ left_out slot (held bytes was k)) × Within 0 (words_for k) was now)
  popped now final marked = (
    pop-loaded k bytes was off now slot live loaded final off-is marked,
    (pop-held k bytes was off now slot live loaded final off-is marked, pop-within k bytes was off now slot live loaded final off-is marked),
  )

-- ------------------------------------------------------------ a linked list

-- A live slot is linked forward.
pub filled-slot : (k : Extent) (bytes was now : List ℕ) (slot : ℕ) (r : Record) → Loaded bytes was k → slot < k.gates → is_live was k slot ≡ true →
    r ≡ record_at bytes slot → Hangs 0 k slot (operand_words r) was now →
    FilledTo bytes was k (slot + 1) → FilledTo bytes now k slot × Within 0 (nodes_for k) was now
filled-slot k bytes was now slot r loaded slot< live read hangs filled =
    (filled_more k bytes was now slot loaded live slot< hangs-read filled, filled_within k bytes was now slot loaded live slot< hangs-read)
  where
    hangs-read : Hangs 0 k slot (operand_words (record_at bytes slot)) was now
    hangs-read = subst (λ (x : Record). Hangs 0 k slot (operand_words x) was now) read hangs

-- Pairs have been linked, then links forward.
pub linked : (bytes was paired now : List ℕ) (k : Extent) → Loaded bytes was k → Partners bytes paired k → KeepsLoaded k was paired →
    Forward bytes now k → Within 0 (nodes_for k) paired now →
    Live bytes now k × ((held bytes now k ≡ held bytes was k) × Within 0 (words_for k) was now)
linked bytes was paired now k loaded partners keeps forward kept = (
  record { loaded = keeps-loaded bytes k was now all-kept loaded; forward = forward; partners = pairs-stay },
  (
    cells_same (is_live now k) (is_live was k) (gate_at bytes) (gate_at bytes) 0 k.gates (λ j a b. keeps-marks k was now all-kept j) (λ j a b t. refl),
    record { long = all-kept.long; same = λ x o. all-kept.past x (past_first (words_for k) x o) },
  ),
)
  where
    all-kept : KeepsLoaded k was now
    all-kept = keeps_then k was paired now keeps (keeps-links k paired now kept)

    -- Links between equals stand past the links forward.
    pairs-stay : Partners bytes now k
    pairs-stay =
        partners-kept k bytes paired now (keeps-marks k paired now (keeps-links k paired now kept))
        (λ i m. kept.same (pair_prev_at k + suc i) (λ l. absurd (omega arith))) (λ i m. kept.same (pairs_at k + suc i) (λ l. absurd (omega arith))) partners
