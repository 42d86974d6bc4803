-- A gate goes from a linked list: the list that is left.
use mathlib.Core.Path.{◌≡◌, refl, sym, ap, subst, ◌∙◌}
use mathlib.Core.Bool.{Bool, true, false, cond, not, ◌&&◌, false≢true}
use mathlib.Core.List.{List, [], ◌∷◌}
use Prim.Native.Nat.{ℕ, suc, ◌+◌, ◌*◌, ◌≤◌, ◌<◌, ◌/◌}
use native.Mathlib.Omega.{arith}
use lib.Dec.{eqb}
use lib.ListN.{length, get_or, set}
use Rattle.gates.specs.declared.Gate.{Gate}
use Rattle.gates.specs.declared.records.Record.{Record}
use Rattle.gates.specs.Gates.{has, wires_of}
use Rattle.gates.specs.Records.{record_at, operand_words}
use Rattle.rules.specs.Equal.{is_pair}
use Rattle.links.specs.Words.{word, Within}
use Rattle.links.proofs.WordLaws.{within_none, within-then, within-set, past_first}
use Rattle.links.proofs.SeekLaws.{without}
use Rattle.ranks.specs.Ranks.{Ranks, marks, Marked}
use Rattle.ranks.proofs.KeepLaws.{ranks-same}
use Rattle.slots.specs.declared.Extent.{Extent}
use Rattle.slots.specs.Slots.{gate_at, Sound, left_out}
use Rattle.slots.specs.Live.{words_for, nodes_for, prev_at, ranks_at, pairs_at, pair_prev_at, spare_at, is_live, end_of, on_wire, held, Partners, Live}
use Rattle.slots.specs.Nodes.{joined_past, CanPass, passed_by, CanPassAll}
use Rattle.slots.proofs.WireLaws.{node, end, Touching, apart}
use Rattle.slots.proofs.RingsLaws.{Back, Ahead, back-same, ahead-same, kept_on, kept-first}
use Rattle.slots.proofs.RunLaws.{just, at_slot, has-none}
use Rattle.slots.proofs.DropLaws.{just-touching, PassedAll, pass_all}
use Rattle.slots.proofs.SpareLaws.{partners-kept}
use Rattle.slots.proofs.StateLaws.{live_same, live-mark, live_below, touching, loaded-back, forward-ahead, run_of, wires-are, record_is}
use Rattle.live.proofs.GoneLaws.{before_small, after_small, can-unpair, gone-partners}
use Rattle.live.proofs.LoadLaws.{back-stays}
use Rattle.live.proofs.PopLaws.{live_then, live-gone, live-without, held-without, just-none}

-- Links forward in words that agree at the nodes and the ends.
pub ahead-stays : (gates : ℕ → Gate) (slots wires : ℕ) (f g : ℕ → ℕ) (on : ℕ → ℕ → Bool) →
    ((w i : ℕ) → w < wires → i < slots → on w i ≡ true → g (node gates slots wires w i) ≡ f (node gates slots wires w i)) →
    ((w : ℕ) → w < wires → g (end gates slots wires w) ≡ f (end gates slots wires w)) →
    Ahead gates slots wires f on → Ahead gates slots wires g on
ahead-stays gates slots wires f g on nodes ends h =
    record {
      each = λ w m. kept_on gates slots wires on on w (λ i k. refl) f g (λ i k t. nodes w i m k t) (h.each w m);
      first = λ w m. kept-first gates slots wires on on w (λ i k. refl) f g (ends w m) (h.first w m);
    }

-- ------------------------------------------------------------ its nodes are passed by

-- The code counts the nodes by the record that it has read, so the laws take that record and that count.
module _ (k : Extent) (bytes was : List ℕ) (slot : ℕ) (live : is_live was k slot ≡ true) (list : Live bytes was k)
    (r : Record) (read : r ≡ record_at bytes slot) (count : ℕ) (counted : count ≡ length (operand_words r)) where
  abbrev gate : ℕ → Gate
  gate = gate_at bytes

  abbrev ws : List ℕ
  ws = wires_of (gate_at bytes slot)

  sound : Sound k.wires (record_at bytes slot)
  sound = list.loaded.sound slot live

  slot< : slot < k.gates
  slot< = live_below was k slot live

  room : words_for k ≤ length was
  room = list.loaded.room

  just-on : (w i : ℕ) → w < k.wires → i < k.gates → on_wire bytes was k w i ≡ just ws slot (on_wire bytes was k) w i
  just-on w i m l = at_slot (λ b. on_wire bytes was k w i ≡ cond b (has w ws) (on_wire bytes was k w i)) i slot
      (λ e. ap (on_wire bytes was k w) e ∙ ap (λ (b : Bool). b && has w ws) live) (λ d. refl)

  all-passed : PassedAll gate k.gates k.wires slot slot< (on_wire bytes was k) (touching bytes was k) ws (3 * slot) was
  all-passed =
      pass_all gate k.gates k.wires slot slot< (on_wire bytes was k) (touching bytes was k) ws (3 * slot) was (two room) (run_of bytes k slot sound)
      (back-same gate k.gates k.wires (word was (prev_at k)) (on_wire bytes was k) (just ws slot (on_wire bytes was k)) just-on (loaded-back bytes was k list.loaded))
      (ahead-same gate k.gates k.wires (word was 0) (on_wire bytes was k) (just ws slot (on_wire bytes was k)) just-on (forward-ahead bytes was k list.forward))
    where
      two : words_for k ≤ length was → 2 * nodes_for k ≤ length was
      two l = omega (arith, l)

  count-is : length ws ≡ count
  count-is = ap length (wires-are k.wires bytes slot sound) ∙ ap (λ (x : Record). length (operand_words x)) (sym read) ∙ sym counted

  pub drop-can : CanPassAll (prev_at k) (3 * slot) count was
  drop-can = subst (λ (n : ℕ). CanPassAll (prev_at k) (3 * slot) n was) count-is all-passed.can

  -- ------------------------------------------------------------ it is passed by among its equals

  module _ (passed : List ℕ) (is : passed ≡ passed_by (prev_at k) (3 * slot) count was) where
    passed_is : passed ≡ passed_by (prev_at k) (3 * slot) (length ws) was
    passed_is = is ∙ ap (λ (n : ℕ). passed_by (prev_at k) (3 * slot) n was) (sym count-is)

    passed-kept : Within 0 (2 * nodes_for k) was passed
    passed-kept = subst (λ (l : List ℕ). Within 0 (2 * nodes_for k) was l) (sym passed_is) all-passed.kept

    passed-lives : (i : ℕ) → is_live passed k i ≡ is_live was k i
    passed-lives = live_same was passed k (λ x a b. passed-kept.same x (λ l. absurd (omega arith)))

    passed-live : is_live passed k slot ≡ true
    passed-live = passed-lives slot ∙ live

    passed-partners : Partners bytes passed k
    passed-partners =
        partners-kept k bytes was passed passed-lives (λ i m. passed-kept.same (pair_prev_at k + suc i) (λ l. absurd (omega arith)))
        (λ i m. passed-kept.same (pairs_at k + suc i) (λ l. absurd (omega arith))) list.partners

    pairs-room : pair_prev_at k + (k.gates + 1) ≤ length passed
    pairs-room = rw passed-kept.long (enough slot< room)
      where
        enough : slot < k.gates → words_for k ≤ length was → pair_prev_at k + (k.gates + 1) ≤ length was
        enough a b = omega (arith, a, b)

    same_kind : is_pair (gate_at bytes slot) ≡ has r.kind (8 ∷ 9 ∷ 10 ∷ 11 ∷ [])
    same_kind = ap (λ (x : Record). has x.kind (8 ∷ 9 ∷ 10 ∷ 11 ∷ [])) (record_is k.wires bytes slot sound ∙ sym read)

    pub unpair-can : has r.kind (8 ∷ 9 ∷ 10 ∷ 11 ∷ []) ≡ true → CanPass (pairs_at k) (pair_prev_at k) (slot + 1) passed
    unpair-can h =
        subst (λ (x : ℕ). CanPass (pairs_at k) (pair_prev_at k) x passed) (omega arith)
        (can-unpair k bytes passed passed-partners slot passed-live (same_kind ∙ h) pairs-room)

    -- ---------------------------------------------------------- its mark goes

    module _ (unpaired : List ℕ)
        (unpair : unpaired ≡ cond (has r.kind (8 ∷ 9 ∷ 10 ∷ 11 ∷ [])) (joined_past (pairs_at k) (pair_prev_at k) (slot + 1) passed) passed) where
      unpaired-is : unpaired ≡ cond (is_pair (gate_at bytes slot)) (joined_past (pairs_at k) (pair_prev_at k) (suc slot) passed) passed
      unpaired-is =
          unpair
          ∙ ap (λ (b : Bool). cond b (joined_past (pairs_at k) (pair_prev_at k) (slot + 1) passed) passed) (sym same_kind)
          ∙ ap (λ (x : ℕ). cond (is_pair (gate_at bytes slot)) (joined_past (pairs_at k) (pair_prev_at k) x passed) passed) one
        where
          one : slot + 1 ≡ suc slot
          one = omega arith

      unpaired-kept : Within (pairs_at k) (2 * (k.gates + 1)) passed unpaired
      unpaired-kept = subst (λ (l : List ℕ). Within (pairs_at k) (2 * (k.gates + 1)) passed l) (sym unpaired-is) (go (is_pair (gate_at bytes slot)) refl)
        where
          go : (b : Bool) → is_pair (gate_at bytes slot) ≡ b → Within (pairs_at k) (2 * (k.gates + 1)) passed (cond b (joined_past (pairs_at k) (pair_prev_at k) (suc slot) passed) passed)
          go true e =
              let p = before_small k bytes passed passed-partners slot passed-live e in
              let q = after_small k bytes passed passed-partners slot passed-live e in
              within-then (pairs_at k) (2 * (k.gates + 1)) passed (set passed (pairs_at k + word passed (pair_prev_at k) (suc slot)) (word passed (pairs_at k) (suc slot))) (joined_past (pairs_at k) (pair_prev_at k) (suc slot) passed)
              (within-set (pairs_at k) (2 * (k.gates + 1)) passed (pairs_at k + word passed (pair_prev_at k) (suc slot)) (word passed (pairs_at k) (suc slot)) (omega arith) (omega (arith, p)))
              (within-set (pairs_at k) (2 * (k.gates + 1)) (set passed (pairs_at k + word passed (pair_prev_at k) (suc slot)) (word passed (pairs_at k) (suc slot))) (pair_prev_at k + word passed (pairs_at k) (suc slot)) (word passed (pair_prev_at k) (suc slot)) (omega arith) (omega (arith, q)))
          go false e = within_none (pairs_at k) (2 * (k.gates + 1)) passed

      -- Below the room for pairs nothing has changed since the nodes were passed by, so the ranks are as they were.
      unpaired-below : (x : ℕ) → x < pairs_at k → get_or unpaired x 0 ≡ get_or passed x 0
      unpaired-below x m = unpaired-kept.same x (λ l. m)

      ranks-kept : (x : ℕ) → ranks_at k ≤ x → x < pairs_at k → get_or unpaired x 0 ≡ get_or was x 0
      ranks-kept x a b = unpaired-below x b ∙ passed-kept.same x (λ l. absurd (omega (arith, a, l)))

      marks-kept : (x : ℕ) → ranks_at k ≤ x → x < ranks_at k + (k.gates / 32 + 1) → get_or unpaired x 0 ≡ get_or was x 0
      marks-kept x a b = ranks-kept x a (omega (arith, b))

      -- What taking the mark out asks.
      pub take-can : Ranks unpaired (ranks_at k) k.gates × ((slot < k.gates) × (marks unpaired (ranks_at k) k.gates slot ≡ 1))
      take-can = (
        ranks-same was unpaired (ranks_at k) k.gates (unpaired-kept.long ∙ passed-kept.long) ranks-kept (list.loaded.ranks (omega (arith, slot<))),
        (slot<, live-mark unpaired k slot (live_same was unpaired k marks-kept slot ∙ live)),
      )

      module _ (now : List ℕ) (marked : Marked (ranks_at k) k.gates slot 0 unpaired now) where
        -- Below the ranks the words are as after the nodes were passed by, past them as after the equals were joined.
        now-below : (x : ℕ) → x < ranks_at k → get_or now x 0 ≡ get_or passed x 0
        now-below x m = marked.within.same x (λ l. m) ∙ unpaired-below x (omega (arith, m))

        now-past : (x : ℕ) → pairs_at k ≤ x → get_or now x 0 ≡ get_or unpaired x 0
        now-past x m = marked.within.same x (λ l. absurd (omega (arith, m, l)))

        now-long : length now ≡ length was
        now-long = marked.within.long ∙ unpaired-kept.long ∙ passed-kept.long

        none-on : Touching gate k.gates k.wires (just [] slot (on_wire bytes was k))
        none-on = just-touching gate k.gates k.wires slot slot< (on_wire bytes was k) (touching bytes was k) [] (λ x h. absurd (false≢true (sym (has-none x) ∙ h)))

        small-node : (w i : ℕ) → w < k.wires → i < k.gates → just [] slot (on_wire bytes was k) w i ≡ true → node gate k.gates k.wires w i < nodes_for k
        small-node w i m l t = (apart gate k.gates k.wires (just [] slot (on_wire bytes was k)) none-on w m).small i l t

        now-back : Back gate k.gates k.wires (word now (prev_at k)) (on_wire bytes now k)
        now-back =
            back-same gate k.gates k.wires (word now (prev_at k)) (just [] slot (on_wire bytes was k)) (on_wire bytes now k) (just-none k bytes was unpaired now slot live marks-kept marked)
            (back-stays gate k.gates k.wires (word passed (prev_at k)) (word now (prev_at k)) (just [] slot (on_wire bytes was k))
            (λ w i m l t. now-below (prev_at k + node gate k.gates k.wires w i) (omega (arith, small-node w i m l t)))
            (λ w m. now-below (prev_at k + end_of k w) (omega (arith, m)))
            (subst (λ (l : List ℕ). Back gate k.gates k.wires (word l (prev_at k)) (just [] slot (on_wire bytes was k))) (sym passed_is) all-passed.back))

        now-ahead : Ahead gate k.gates k.wires (word now 0) (on_wire bytes now k)
        now-ahead =
            ahead-same gate k.gates k.wires (word now 0) (just [] slot (on_wire bytes was k)) (on_wire bytes now k) (just-none k bytes was unpaired now slot live marks-kept marked)
            (ahead-stays gate k.gates k.wires (word passed 0) (word now 0) (just [] slot (on_wire bytes was k))
            (λ w i m l t. now-below (0 + node gate k.gates k.wires w i) (omega (arith, small-node w i m l t)))
            (λ w m. now-below (0 + end_of k w) (omega (arith, m)))
            (subst (λ (l : List ℕ). Ahead gate k.gates k.wires (word l 0) (just [] slot (on_wire bytes was k))) (sym passed_is) all-passed.ahead))

        now-partners : Partners bytes now k
        now-partners =
            gone-partners k bytes passed passed-partners slot passed-live now lives pairs-room
            (λ i m. now-past (pair_prev_at k + suc i) (omega arith) ∙ ap (λ (l : List ℕ). word l (pair_prev_at k) (suc i)) unpaired-is
            ∙ by-pair (is_pair (gate_at bytes slot)) (pair_prev_at k) i)
            (λ i m. now-past (pairs_at k + suc i) (omega arith) ∙ ap (λ (l : List ℕ). word l (pairs_at k) (suc i)) unpaired-is
            ∙ by-pair (is_pair (gate_at bytes slot)) (pairs_at k) i)
          where
            lives : (i : ℕ) → without (is_live passed k) slot i ≡ is_live now k i
            lives i = ap (λ (b : Bool). b && not (eqb i slot)) (passed-lives i) ∙ live-without k bytes was unpaired now slot live marks-kept marked i

            by-pair : (b : Bool) (at i : ℕ) → word (cond b (joined_past (pairs_at k) (pair_prev_at k) (suc slot) passed) passed) at (suc i)
                ≡ cond b (word (joined_past (pairs_at k) (pair_prev_at k) (suc slot) passed) at (suc i)) (word passed at (suc i))
            by-pair true at i = refl
            by-pair false at i = refl

        pub drop-live : Live bytes now k
        drop-live =
            record {
              loaded =
                  record {
                    few = list.loaded.few;
                    narrow = list.loaded.narrow;
                    long = list.loaded.long;
                    room = subst (λ (x : ℕ). words_for k ≤ x) (sym now-long) room;
                    ranks = λ some. marked.ranks;
                    sound = λ i t. at_slot (λ b. is_live now k i ≡ true → Sound k.wires (record_at bytes i)) i slot
                        (λ e u. absurd (false≢true (sym (live-gone k bytes was unpaired now slot live marks-kept marked) ∙ sym (ap (is_live now k) e) ∙ u)))
                        (λ d u. list.loaded.sound i (sym (live_then k bytes was unpaired now slot live marks-kept marked i d) ∙ u)) t;
                    back = now-back.each;
                    last = now-back.last;
                  };
              forward = record { each = now-ahead.each; first = now-ahead.first };
              partners = now-partners;
            }

        pub drop-held : held bytes now k ≡ left_out slot (held bytes was k)
        drop-held = held-without k bytes was unpaired now slot live marks-kept marked

        -- Past the links between equals no step has changed a word.
        pub drop-within : Within 0 (spare_at k) was now
        drop-within = record { long = now-long; same = λ x o. past x (past_first (spare_at k) x o) }
          where
            past : (x : ℕ) → spare_at k ≤ x → get_or now x 0 ≡ get_or was x 0
            past x b =
                now-past x (omega (arith, b)) ∙ unpaired-kept.same x (λ l. absurd (omega (arith, b, l))) ∙ passed-kept.same x (λ l. absurd (omega (arith, b, l)))

        -- All that the code promises of a gate that it drops.
        pub dropped : Live bytes now k × ((held bytes now k ≡ left_out slot (held bytes was k)) × Within 0 (spare_at k) was now)
        dropped = (drop-live, (drop-held, drop-within))
