-- A walk from a pair to its partner, as the loops hold it: nodes for the tracks, and what is still to be walked.
use Rattle.std.specs.Prelude.{Some}
use mathlib.Core.Path.{◌≡◌, refl, sym, ap, ap₂, subst, ◌∙◌}
use mathlib.Core.Bool.{Bool, true, false, ◌||◌, ◌&&◌, or-false, false≢true}
use mathlib.Core.List.{List, [], ◌∷◌, ◌++◌, append-nil}
use Prim.Native.Nat.{ℕ, suc, ◌+◌, ◌*◌, ◌-◌, ◌/◌, ◌≤◌, ◌<◌}
use native.Mathlib.Omega.{arith}
use lib.Dec.{eqb}
use lib.ListN.{length, get_or, set, length-append, length-set}
use lib.Seq.{get_or-set_same, get_or-set_other}
use borrow.Author.Tests.{eqb-true, eqb-false}
use Rattle.gates.specs.declared.Gate.{Gate}
use Rattle.gates.specs.Gates.{wires_of, has, meet, touches}
use Rattle.gates.specs.Records.{record_at}
use Rattle.gates.proofs.Joined.{and_left, and_right, apart}
use Rattle.rules.specs.Equal.{equal}
use Rattle.rules.specs.MayPass.{may_pass}
use Rattle.rules.specs.Sweeps.{Walk, reached, blocked, room, walk_past}
use Rattle.rules.proofs.EqualLaws.{eqb_comm, canonical-meet}
use Rattle.leaves.specs.declared.pairs.CommutingPair.{CommutingPair}
use Rattle.leaves.specs.Answers.{pair_of, as_gate}
use Rattle.leaves.proofs.PairLaws.{pair-wires, pair-passes, same-pair}
use Rattle.passing.specs.Quick.{past_of, passes_by}
use Rattle.passing.proofs.QuickLaws.{quick-passes, pair-once}
use Rattle.links.specs.Words.{word}
use Rattle.slots.specs.declared.Extent.{Extent}
use Rattle.slots.specs.Slots.{gate_at, cells_from}
use Rattle.slots.specs.Live.{is_live, on_wire, Live}
use Rattle.slots.proofs.WireLaws.{at-most-three, operand-there}
use Rattle.slots.proofs.StateLaws.{live_below, record_is, wires-small, wires-once}
use Rattle.commuting.proofs.QueueLaws.{walk_of, adds, adds-more, room-append, room-one, room-none, walk_none, walk-done, walk-passed, walk-blocked, open_of, open_none, open-one, queue, others, queue-here, queue-stays, queue-set, queue-round, queue-none}
use Rattle.commuting.proofs.TrackLaws.{track_at, Stands, at-partner, next-stands, next-track}

-- ------------------------------------------------------------ the wires of a pair

-- Two gates that touch a wire share it.
both-share : (w : ℕ) (vs us : List ℕ) → has w vs ≡ true → has w us ≡ true → meet vs us ≡ true
both-share w vs us h k = go (meet vs us) refl
  where
    go : (b : Bool) → meet vs us ≡ b → b ≡ true
    go true e = refl
    go false e = absurd (false≢true (sym (apart vs us w e h) ∙ k))

meets-one : (vs : List ℕ) (w : ℕ) → meet vs (w ∷ []) ≡ has w vs
unfolding has meet
meets-one [] w = refl
meets-one (v ∷ vs) w = ap₂ ◌||◌ (or-false (eqb v w) ∙ eqb_comm v w) (meets-one vs w)

-- A gate touches the wires of its pair.
pair-touches : (g : Gate) (p : CommutingPair) → pair_of g ≡ Some p → (w : ℕ) → has w (wires_of (as_gate p)) ≡ true → touches w g ≡ true
pair-touches g p e w h =
    sym (meets-one (wires_of g) w) ∙ sym (canonical-meet g (w ∷ [])) ∙ ap (λ (l : List ℕ). meet l (w ∷ [])) (sym (pair-wires g p e))
    ∙ meets-one (wires_of (as_gate p)) w ∙ h

-- ------------------------------------------------------------ what is given

-- A live pair and its live partner after it.
pub record Meant (bytes words : List ℕ) (k : Extent) (slot partner : ℕ) (pair : CommutingPair) : Type 0 where
  pub live : Live bytes words k
  pub here : is_live words k slot ≡ true
  pub there : is_live words k partner ≡ true
  pub before : slot < partner
  pub is : pair_of (gate_at bytes slot) ≡ Some pair
  pub alike : equal (gate_at bytes slot) (gate_at bytes partner) ≡ true

-- The operands' wires, in the order in which they are walked.
abbrev pub wires : CommutingPair → List ℕ
wires pair = wires_of (as_gate pair)

module _ (bytes words : List ℕ) (k : Extent) (slot partner : ℕ) (pair : CommutingPair) where
  -- The gates between the two, and the answer that is asked for.
  abbrev pub walk_is : Walk
  walk_is = walk_past (gate_at bytes slot) (cells_from (is_live words k) (gate_at bytes) (suc slot) (partner - suc slot))

  abbrev pub queue_at : ℕ → List ℕ → List (List Gate)
  queue_at op at = queue (track_at bytes words k partner) op (wires pair) at

  -- In a round, with the turn at an operand: so many tracks are unfinished, and so many looks have been taken.
  pub record Walking (at : List ℕ) (unfinished looks op : ℕ) : Type 0 where
    pub long : length at ≡ 3
    pub stands : (i : ℕ) → i < length (wires pair) → (get_or at i 0 ≡ 0 → ⊥) →
        Stands bytes words k slot partner (get_or (wires pair) i 0) (get_or at i 0)
    pub answer : walk_is ≡ adds looks (walk_of (gate_at bytes slot) (queue_at op at))
    pub left : unfinished ≡ length (queue_at op at)
    pub few : looks + room (queue_at op at) ≤ 3 * k.gates

  module _ (m : Meant bytes words k slot partner pair) where
    pub touched : (w : ℕ) → has w (wires pair) ≡ true → touches w (gate_at bytes slot) ≡ true
    touched w h = pair-touches (gate_at bytes slot) pair m.is w h

    pub small : (w : ℕ) → has w (wires pair) ≡ true → w < k.wires
    small w h = wires-small k.wires bytes slot (m.live.loaded.sound slot m.here) w (touched w h)

    pub on-slot : (w : ℕ) → has w (wires pair) ≡ true → on_wire bytes words k w slot ≡ true
    on-slot w h = ap₂ ◌&&◌ m.here (touched w h)

    pub on-partner : (w : ℕ) → has w (wires pair) ≡ true → on_wire bytes words k w partner ≡ true
    on-partner w h =
        ap₂ ◌&&◌ m.there
        (pair-touches (gate_at bytes partner) pair (same-pair (gate_at bytes slot) (gate_at bytes partner) pair m.is m.alike) w h)

    -- The answer by records is the rules', of a live gate on a wire of the pair's.
    passes : (w i : ℕ) → has w (wires pair) ≡ true → on_wire bytes words k w i ≡ true →
        passes_by (past_of pair) (record_at bytes i) ≡ may_pass (gate_at bytes slot) (gate_at bytes i)
    passes w i h on =
        let live = and_left (is_live words k i) (touches w (gate_at bytes i)) on in
        let sound = m.live.loaded.sound i live in
        ap (passes_by (past_of pair)) (sym (record_is k.wires bytes i sound))
        ∙ quick-passes pair (gate_at bytes i)
        (pair-once (gate_at bytes slot) pair m.is (wires-once k.wires bytes slot (m.live.loaded.sound slot m.here)))
        (both-share w (wires pair) (wires_of (gate_at bytes i)) h (and_right (is_live words k i) (touches w (gate_at bytes i)) on))
        (λ v t. omega (arith, wires-small k.wires bytes i sound v t, m.live.loaded.narrow))
        ∙ pair-passes (gate_at bytes slot) pair (gate_at bytes i) m.is

    -- ------------------------------------------------------------ a turn

    module _ (at : List ℕ) (unfinished looks op : ℕ) (w : Walking at unfinished looks op) (turn : op < length (wires pair)) where
      -- The wire and the node whose turn it is, and what waits.
      abbrev wire : ℕ
      wire = get_or (wires pair) op 0

      abbrev node : ℕ
      node = get_or at op 0

      abbrev waiting : List (List Gate)
      waiting = others (track_at bytes words k partner) op (wires pair) at

      abbrev p : Gate
      p = gate_at bytes slot

      its : has wire (wires pair) ≡ true
      its = operand-there (wires pair) op turn

      inside : op < length at
      inside = omega (arith, w.long, at-most-three (as_gate pair), turn)

      next-op : op + 1 ≡ suc op
      next-op = omega arith

      -- The queue before and after.
      was : (ts : List (List Gate)) → open_of (track_at bytes words k partner) wire node ≡ ts → queue_at op at ≡ ts ++ waiting
      was ts e = queue-here (track_at bytes words k partner) op (wires pair) at turn inside ∙ ap (λ (us : List (List Gate)). us ++ waiting) e

      becomes : (new : ℕ) (ts : List (List Gate)) → open_of (track_at bytes words k partner) wire new ≡ ts →
          queue_at (op + 1) (set at op new) ≡ waiting ++ ts
      becomes new ts e =
          ap (λ (n : ℕ). queue_at n (set at op new)) next-op ∙ queue-set (track_at bytes words k partner) op (wires pair) at new turn inside
          ∙ ap (λ (us : List (List Gate)). waiting ++ us) e

      -- What holds of the nodes holds after the turn's own has changed.
      stands_set : (new : ℕ) → ((new ≡ 0 → ⊥) → Stands bytes words k slot partner wire new) → (i : ℕ) → i < length (wires pair) →
          (get_or (set at op new) i 0 ≡ 0 → ⊥) → Stands bytes words k slot partner (get_or (wires pair) i 0) (get_or (set at op new) i 0)
      stands_set new h i l d = go (eqb i op) refl
        where
          go : (b : Bool) → eqb i op ≡ b → Stands bytes words k slot partner (get_or (wires pair) i 0) (get_or (set at op new) i 0)
          go true e = rw (eqb-true i op e, same) (h (λ z. d (ap (λ (j : ℕ). get_or (set at op new) j 0) (eqb-true i op e) ∙ same ∙ z)))
            where
              same : get_or (set at op new) op 0 ≡ new
              same = get_or-set_same at op new 0 inside
          go false e = rw same (w.stands i l (λ z. d (same ∙ z)))
            where
              same : get_or (set at op new) i 0 ≡ get_or at i 0
              same = get_or-set_other at op i new 0 (eqb-false i op e)

      -- A finished track has no turn.
      pub skipped : node ≡ 0 → Walking at unfinished looks (op + 1)
      skipped e =
          subst (λ (n : ℕ). Walking at unfinished looks n) (sym next-op)
          (record {
            long = w.long;
            stands = w.stands;
            answer = rw same w.answer;
            left = rw same w.left;
            few = rw same w.few;
          })
        where
          nothing : open_of (track_at bytes words k partner) wire node ≡ []
          nothing = open_none (track_at bytes words k partner) wire node e

          same : queue_at (suc op) at ≡ queue_at op at
          same = queue-stays (track_at bytes words k partner) op (wires pair) at turn inside
              ∙ ap (λ (ts : List (List Gate)). waiting ++ ts) nothing ∙ append-nil waiting ∙ sym (was [] nothing)

      module _ (busy : node ≡ 0 → ⊥) where
        stand : Stands bytes words k slot partner wire node
        stand = w.stands op turn busy

        first : queue_at op at ≡ track_at bytes words k partner wire node ∷ waiting
        first = was (track_at bytes words k partner wire node ∷ []) (open-one (track_at bytes words k partner) wire node busy)

        -- There is a track, and room for a look.
        pub one_left : 1 ≤ unfinished
        one_left = omega (arith, w.left, ap length first)

        pub room-left : looks + 1 ≤ 3 * k.gates
        room-left = omega (arith, w.few, ap room first, room-one (track_at bytes words k partner wire node) waiting)

        pub may-look : (node < length words) × (16 * (node / 3) + 16 ≤ length bytes) × (node / 3 < 1048576)
        may-look =
            let low = live_below words k (node / 3) (and_left (is_live words k (node / 3)) (touches wire (gate_at bytes (node / 3))) stand.on) in
            (omega (arith, low, m.live.loaded.room), omega (arith, low, m.live.loaded.long), omega (arith, low, m.live.loaded.few))

        -- The partner finishes a track.
        pub partner-seen : node / 3 ≡ partner → Walking (set at op 0) (unfinished - 1) (looks + 1) (op + 1)
        partner-seen e =
            record {
              long = length-set at op 0 ∙ w.long;
              stands = stands_set 0 (λ d. absurd (d refl));
              answer =
                  w.answer ∙ ap (λ (ts : List (List Gate)). adds looks (walk_of p ts)) before ∙ ap (adds looks) (walk-done p waiting)
                  ∙ adds-more looks (walk_of p waiting) ∙ ap (λ (ts : List (List Gate)). adds (looks + 1) (walk_of p ts)) (sym after);
              left = omega (arith, w.left, ap length before, ap length after);
              few = omega (arith, w.few, ap room before, ap room after, room-one [] waiting);
            }
          where
            before : queue_at op at ≡ [] ∷ waiting
            before = first ∙ ap (λ (t : List Gate). t ∷ waiting) (at-partner bytes words k m.live.forward partner wire (small wire its) (on-partner wire its) node e)

            after : queue_at (op + 1) (set at op 0) ≡ waiting
            after = becomes 0 [] (open_none (track_at bytes words k partner) wire 0 refl) ∙ append-nil waiting

        module _ (other : node / 3 ≡ partner → ⊥) where
          abbrev g : Gate
          g = gate_at bytes (node / 3)

          abbrev behind : ℕ
          behind = word words 0 node

          abbrev rest : List Gate
          rest = track_at bytes words k partner wire behind

          before : queue_at op at ≡ (g ∷ rest) ∷ waiting
          before = first ∙ ap (λ (t : List Gate). t ∷ waiting)
              (next-track bytes words k m.live.forward partner wire (small wire its) (on-partner wire its) slot node stand other)

          -- A gate that may pass gives the turn to the one behind it.
          pub passed-seen : (new : ℕ) → passes_by (past_of pair) (record_at bytes (node / 3)) ≡ true → new ≡ get_or words node 0 →
              Walking (set at op new) unfinished (looks + 1) (op + 1)
          passed-seen new t e =
              record {
                long = length-set at op new ∙ w.long;
                stands = stands_set new (λ d. rw is on);
                answer =
                    w.answer ∙ ap (λ (ts : List (List Gate)). adds looks (walk_of p ts)) before
                    ∙ ap (adds looks) (walk-passed p g rest waiting (sym (passes wire (node / 3) its stand.on) ∙ t))
                    ∙ adds-more looks (walk_of p (waiting ++ (rest ∷ [])))
                    ∙ ap (λ (ts : List (List Gate)). adds (looks + 1) (walk_of p ts)) (sym after);
                left = omega (arith, w.left, ap length before, ap length after, length-append waiting (rest ∷ []));
                few = omega
                    (arith, w.few, ap room before, ap room after, room-one (g ∷ rest) waiting, room-append waiting (rest ∷ []), room-one rest [], room-none);
              }
            where
              start : node ≡ 0 + node
              start = omega arith

              is : new ≡ behind
              is = e ∙ ap (λ (x : ℕ). get_or words x 0) start

              on : Stands bytes words k slot partner wire behind
              on = next-stands bytes words k m.live.forward partner wire (small wire its) (on-partner wire its) slot node stand other

              not-zero : new ≡ 0 → ⊥
              not-zero z = omega (arith, z, is, on.past)

              after : queue_at (op + 1) (set at op new) ≡ waiting ++ (rest ∷ [])
              after = becomes new (rest ∷ [])
                  (open-one (track_at bytes words k partner) wire new not-zero
                  ∙ ap (λ (x : ℕ). track_at bytes words k partner wire x ∷ []) is)

          -- A gate that may not ends the walk.
          pub blocker-seen : passes_by (past_of pair) (record_at bytes (node / 3)) ≡ false → walk_is ≡ blocked (looks + 1)
          blocker-seen f =
              w.answer ∙ ap (λ (ts : List (List Gate)). adds looks (walk_of p ts)) before
              ∙ ap (adds looks) (walk-blocked p g rest waiting (sym (passes wire (node / 3) its stand.on) ∙ f))

    -- ------------------------------------------------------------ a round, the start and the end

    pub round : (at : List ℕ) (unfinished looks op : ℕ) → op ≡ length (wires pair) → Walking at unfinished looks op → Walking at unfinished looks 0
    round at unfinished looks op e w =
        record {
          long = w.long;
          stands = w.stands;
          answer = rw (← same) w.answer;
          left = rw (← same) w.left;
          few = rw (← same) w.few;
        }
      where
        same : queue_at op at ≡ queue_at 0 at
        same = ap (λ (n : ℕ). queue_at n at) e ∙ queue-round (track_at bytes words k partner) (wires pair) at

    -- With all tracks finished none is left.
    pub all_finished : (at : List ℕ) (unfinished looks : ℕ) → Walking at unfinished looks 0 →
        ((i : ℕ) → i < length (wires pair) → get_or at i 0 ≡ 0) → unfinished ≡ 0
    all_finished at unfinished looks w h = w.left ∙ ap length (queue-none (track_at bytes words k partner) (wires pair) at h)

    no-track : (ts : List (List Gate)) → 0 ≡ length ts → ts ≡ []
    no-track [] e = refl
    no-track (t ∷ ts) e = absurd (omega (arith, e))

    pub ended : (at : List ℕ) (unfinished looks : ℕ) → Walking at unfinished looks 0 → unfinished ≡ 0 → walk_is ≡ reached looks
    ended at unfinished looks w e =
        w.answer ∙ ap (λ (ts : List (List Gate)). adds looks (walk_of (gate_at bytes slot) ts)) (no-track (queue_at 0 at) (sym e ∙ w.left))
        ∙ ap (adds looks) (walk_none (gate_at bytes slot)) ∙ ap reached (omega arith)
