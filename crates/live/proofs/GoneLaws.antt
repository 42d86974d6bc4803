-- A gate goes from a linked list: the rings of its wires and the links to its equals close behind it.
use mathlib.Core.Path.{◌≡◌, refl, sym, ap, subst, ◌∙◌}
use mathlib.Core.Bool.{Bool, true, false, cond, not, ◌&&◌, false≢true}
use mathlib.Core.List.{List}
use mathlib.Core.Option.{Option, some, none}
use Prim.Native.Nat.{ℕ, suc, ◌+◌, ◌-◌, ◌≤◌, ◌<◌}
use native.Mathlib.Omega.{arith}
use lib.Dec.{eqb}
use lib.ListN.{length}
use Rattle.gates.specs.declared.Gate.{Gate}
use Rattle.gates.proofs.Joined.{and_left, and_right}
use Rattle.rules.specs.Equal.{equal, is_pair}
use Rattle.rules.proofs.EqualLaws.{equal-self, equal-turned, equal-same, equal-pair}
use Rattle.links.specs.Words.{word}
use Rattle.links.specs.Seek.{latest, earliest, node_at, LinkedBack, LinkedOn}
use Rattle.links.proofs.SeekLaws.{IsLatest, IsEarliest, latest-is, earliest-is, latest-same, earliest-same, without, without-there, without_other, without-itself}
use Rattle.links.proofs.RingLaws.{Apart, Passed, back-passed, on-passed, latest-small, earliest-small}
use Rattle.slots.specs.declared.Extent.{Extent}
use Rattle.slots.specs.Slots.{gate_at}
use Rattle.slots.specs.Live.{pairs_at, pair_prev_at, is_live, equal_to, Partners}
use Rattle.slots.specs.Nodes.{joined_past, CanPass}
use Rattle.slots.proofs.RunLaws.{pass-words, at_slot}
use Rattle.slots.proofs.StateLaws.{live_below}

-- ------------------------------------------------------------ links to equals

module _ (k : Extent) (bytes was : List ℕ) (partners : Partners bytes was k) (slot : ℕ) (live : is_live was k slot ≡ true) where
  abbrev gate : ℕ → Gate
  gate = gate_at bytes

  -- The equals of the slot, with their nodes.
  abbrev on : ℕ → Bool
  on = equal_to bytes was k slot

  pub pairs-apart : Apart suc 0 (k.gates + 1) on k.gates
  pairs-apart =
      record {
        nodes = λ i j a b t u e. one i j e;
        ends = λ i a t e. above i e;
        small = λ i a t. omega (arith, a);
        low = omega arith;
      }
    where
      one : (i j : ℕ) → suc i ≡ suc j → i ≡ j
      one i j e = omega (arith, e)

      above : (i : ℕ) → suc i ≡ 0 → ⊥
      above i e = omega (arith, e)

  -- The equals of an equal slot are the same.
  same-equals : (i : ℕ) → on i ≡ true → (j : ℕ) → equal_to bytes was k i j ≡ on j
  same-equals i t j =
      ap (λ (b : Bool). is_live was k j && b) (sym (equal-same (gate slot) (gate i) (gate j) (and_right (is_live was k i) (equal (gate slot) (gate i)) t)))

  module _ (pair : is_pair (gate_at bytes slot) ≡ true) where
    pair-of : (i : ℕ) → on i ≡ true → is_pair (gate i) ≡ true
    pair-of i t = sym (equal-pair (gate slot) (gate i) (and_right (is_live was k i) (equal (gate slot) (gate i)) t)) ∙ pair

    linked-back : LinkedBack (word was (pair_prev_at k)) suc 0 on k.gates
    linked-back i m t =
        partners.back i (and_left (is_live was k i) (equal (gate slot) (gate i)) t) (pair-of i t)
        ∙ ap (node_at suc 0) (latest-same (equal_to bytes was k i) on i (λ l n. same-equals i t l))

    linked_on : LinkedOn (word was (pairs_at k)) suc 0 on k.gates
    linked_on i m t =
        partners.on i (and_left (is_live was k i) (equal (gate slot) (gate i)) t) (pair-of i t)
        ∙ ap (node_at suc 0) (earliest-same (equal_to bytes was k i) on (suc i) (k.gates - suc i) k.gates (omega arith) (λ l a n. same-equals i t l))

    there : on slot ≡ true
    there = ap (λ (b : Bool). b && equal (gate slot) (gate slot)) live ∙ equal-self (gate slot)

    slot< : slot < k.gates
    slot< = live_below was k slot live

    pub before_small : word was (pair_prev_at k) (suc slot) < k.gates + 1
    before_small =
        rw (linked-back slot slot< there) (latest-small suc 0 (k.gates + 1) on k.gates pairs-apart slot (before slot<))
      where
        before : slot < k.gates → slot ≤ k.gates
        before l = omega (arith, l)

    pub after_small : word was (pairs_at k) (suc slot) < k.gates + 1
    after_small =
        rw (linked_on slot slot< there) (earliest-small suc 0 (k.gates + 1) on k.gates pairs-apart (suc slot) (k.gates - suc slot) (rest slot<))
      where
        rest : slot < k.gates → suc slot + (k.gates - suc slot) ≡ k.gates
        rest l = omega (arith, l)

    abbrev after : List ℕ
    after = joined_past (pairs_at k) (pair_prev_at k) (suc slot) was

    module _ (room : pair_prev_at k + (k.gates + 1) ≤ length was) where
      pub can-unpair : CanPass (pairs_at k) (pair_prev_at k) (suc slot) was
      can-unpair = go slot< before_small after_small
        where
          go : slot < k.gates → word was (pair_prev_at k) (suc slot) < k.gates + 1 → word was (pairs_at k) (suc slot) < k.gates + 1 →
              CanPass (pairs_at k) (pair_prev_at k) (suc slot) was
          go l p q = (omega (arith, l, room), omega (arith, l, room), omega (arith, p, room), omega (arith, q, room))

      past : Passed (k.gates + 1) (word was (pair_prev_at k) (suc slot)) (word was (pairs_at k) (suc slot)) (word was (pairs_at k)) (word was (pair_prev_at k)) (word after (pairs_at k)) (word after (pair_prev_at k))
      past = pass-words was (pairs_at k) (pair_prev_at k) (k.gates + 1) (word was (pair_prev_at k) (suc slot)) (word was (pairs_at k) (suc slot)) (omega arith) room before_small after_small

      -- Among the equals of the slot the links close behind it.
      unpaired-back : LinkedBack (word after (pair_prev_at k)) suc 0 (without on slot) k.gates
      unpaired-back = back-passed suc 0 (k.gates + 1) on k.gates pairs-apart (word was (pairs_at k)) (word was (pair_prev_at k)) (word after (pairs_at k)) (word after (pair_prev_at k)) slot slot< there linked-back linked_on past

      unpaired-on : LinkedOn (word after (pairs_at k)) suc 0 (without on slot) k.gates
      unpaired-on = on-passed suc 0 (k.gates + 1) on k.gates pairs-apart (word was (pairs_at k)) (word was (pair_prev_at k)) (word after (pairs_at k)) (word after (pair_prev_at k)) slot slot< there linked-back linked_on past

      -- A slot that is not among them keeps its links.
      not_at : (i : ℕ) (r : Option ℕ) → on i ≡ false → ((j : ℕ) → r ≡ some j → on j ≡ true) → suc i ≡ node_at suc 0 r → ⊥
      not_at i none off told e = omega (arith, e)
      not_at i (some j) off told e = false≢true (sym off ∙ subst (λ (x : ℕ). on x ≡ true) (sym (one e)) (told j refl))
        where
          one : suc i ≡ suc j → i ≡ j
          one q = omega (arith, q)

      before-told : (j : ℕ) → latest on slot ≡ some j → on j ≡ true
      before-told j e = (subst (λ (r : Option ℕ). IsLatest on slot r) e (latest-is on slot)).1

      after-told : (j : ℕ) → earliest on (suc slot) (k.gates - suc slot) ≡ some j → on j ≡ true
      after-told j e = (subst (λ (r : Option ℕ). IsEarliest on (suc slot) k.gates r) e (earliest-is on (suc slot) (k.gates - suc slot) k.gates (rest slot<))).2
        where
          rest : slot < k.gates → suc slot + (k.gates - suc slot) ≡ k.gates
          rest l = omega (arith, l)

      other-back : (i : ℕ) → i < k.gates → on i ≡ false → word after (pair_prev_at k) (suc i) ≡ word was (pair_prev_at k) (suc i)
      other-back i m off = past.prev-other (suc i) (omega (arith, m)) (λ e. not_at i (earliest on (suc slot) (k.gates - suc slot)) off after-told (e ∙ linked_on slot slot< there))

      other-on : (i : ℕ) → i < k.gates → on i ≡ false → word after (pairs_at k) (suc i) ≡ word was (pairs_at k) (suc i)
      other-on i m off = past.next-other (suc i) (omega (arith, m)) (λ e. not_at i (latest on slot) off before-told (e ∙ linked-back slot slot< there))

  -- ------------------------------------------------------------ the list without the slot

  -- Words in which the slot is not live any more, and was passed by among its equals if it is a pair.
  module _ (now : List ℕ) (lives : (i : ℕ) → without (is_live was k) slot i ≡ is_live now k i)
      (room : pair_prev_at k + (k.gates + 1) ≤ length was)
      (backs : (i : ℕ) → i < k.gates → word now (pair_prev_at k) (suc i) ≡ cond (is_pair (gate_at bytes slot)) (word (joined_past (pairs_at k) (pair_prev_at k) (suc slot) was) (pair_prev_at k) (suc i)) (word was (pair_prev_at k) (suc i)))
      (ons : (i : ℕ) → i < k.gates → word now (pairs_at k) (suc i) ≡ cond (is_pair (gate_at bytes slot)) (word (joined_past (pairs_at k) (pair_prev_at k) (suc slot) was) (pairs_at k) (suc i)) (word was (pairs_at k) (suc i))) where
    was-live : (i : ℕ) → is_live now k i ≡ true → (is_live was k i ≡ true) × (i ≡ slot → ⊥)
    was-live i t = without-there (is_live was k) slot i (lives i ∙ t)

    -- The equals of a slot that stays, without the one that goes.
    equals-then : (i j : ℕ) → without (equal_to bytes was k i) slot j ≡ equal_to bytes now k i j
    equals-then i j = go (is_live was k j) (equal (gate i) (gate j)) (not (eqb j slot)) (is_live now k j) (lives j)
      where
        go : (a b c d : Bool) → a && c ≡ d → (a && b) && c ≡ d && b
        go true true true d e = ap (λ (x : Bool). x && true) e
        go true true false d e = ap (λ (x : Bool). x && true) e
        go true false c d e = sym (and_none d)
          where
            and_none : (x : Bool) → x && false ≡ false
            and_none true = refl
            and_none false = refl
        go false b c d e = ap (λ (x : Bool). x && b) e

    -- Links of a slot whose equals are not the slot's.
    apart-equals : (i : ℕ) → is_live now k i ≡ true → on i ≡ false → (j : ℕ) → equal_to bytes was k i j ≡ equal_to bytes now k i j
    apart-equals i t off j = at_slot (λ b. equal_to bytes was k i j ≡ equal_to bytes now k i j) j slot
        (λ e. ap (equal_to bytes was k i) e ∙ not_equal ∙ sym (ap (equal_to bytes now k i) e ∙ ap (λ (b : Bool). b && equal (gate i) (gate slot)) (sym (lives slot) ∙ without-itself (is_live was k) slot)))
        (λ d. without_other (equal_to bytes was k i) slot j d ∙ equals-then i j)
      where
        not_equal : equal_to bytes was k i slot ≡ false
        not_equal = go (equal (gate i) (gate slot)) refl
          where
            go : (b : Bool) → equal (gate i) (gate slot) ≡ b → is_live was k slot && b ≡ false
            go true e =
                absurd (false≢true (sym off ∙ ap (λ (b : Bool). b && equal (gate slot) (gate i)) (was-live i t).0 ∙ equal-turned (gate i) (gate slot) e))
            go false e = and_none (is_live was k slot)
              where
                and_none : (x : Bool) → x && false ≡ false
                and_none true = refl
                and_none false = refl

    pub gone-partners : Partners bytes now k
    gone-partners =
        record {
          back = λ i t p. by-pair i t p (is_pair (gate slot)) refl (on i) refl;
          on = λ i t p. by-pair-on i t p (is_pair (gate slot)) refl (on i) refl;
        }
      where
        small : (i : ℕ) → is_live now k i ≡ true → i < k.gates
        small i t = live_below was k i (was-live i t).0

        same_class : (i : ℕ) → on i ≡ true → (j : ℕ) → without on slot j ≡ equal_to bytes now k i j
        same_class i u j = ap (λ (b : Bool). b && not (eqb j slot)) (sym (same-equals i u j)) ∙ equals-then i j

        stays : (i : ℕ) → is_live now k i ≡ true → on i ≡ true → without on slot i ≡ true
        stays i t u = sym (without_other on slot i (was-live i t).1) ∙ u

        by-pair : (i : ℕ) → is_live now k i ≡ true → is_pair (gate i) ≡ true → (b : Bool) → is_pair (gate slot) ≡ b → (c : Bool) → on i ≡ c →
            word now (pair_prev_at k) (suc i) ≡ node_at suc 0 (latest (equal_to bytes now k i) i)
        by-pair i t p true q true u =
            backs i (small i t) ∙ ap (λ (b : Bool). cond b (word (joined_past (pairs_at k) (pair_prev_at k) (suc slot) was) (pair_prev_at k) (suc i)) (word was (pair_prev_at k) (suc i))) q
            ∙ unpaired-back q room i (small i t) (stays i t u)
            ∙ ap (node_at suc 0) (latest-same (without on slot) (equal_to bytes now k i) i (λ l n. same_class i u l))
        by-pair i t p true q false u =
            backs i (small i t) ∙ ap (λ (b : Bool). cond b (word (joined_past (pairs_at k) (pair_prev_at k) (suc slot) was) (pair_prev_at k) (suc i)) (word was (pair_prev_at k) (suc i))) q
            ∙ other-back q room i (small i t) u ∙ partners.back i (was-live i t).0 p
            ∙ ap (node_at suc 0) (latest-same (equal_to bytes was k i) (equal_to bytes now k i) i (λ l n. apart-equals i t u l))
        by-pair i t p false q true u =
            absurd (false≢true (sym q ∙ equal-pair (gate slot) (gate i) (and_right (is_live was k i) (equal (gate slot) (gate i)) u) ∙ p))
        by-pair i t p false q false u =
            backs i (small i t) ∙ ap (λ (b : Bool). cond b (word (joined_past (pairs_at k) (pair_prev_at k) (suc slot) was) (pair_prev_at k) (suc i)) (word was (pair_prev_at k) (suc i))) q
            ∙ partners.back i (was-live i t).0 p
            ∙ ap (node_at suc 0) (latest-same (equal_to bytes was k i) (equal_to bytes now k i) i (λ l n. apart-equals i t u l))

        by-pair-on : (i : ℕ) → is_live now k i ≡ true → is_pair (gate i) ≡ true → (b : Bool) → is_pair (gate slot) ≡ b → (c : Bool) → on i ≡ c →
            word now (pairs_at k) (suc i) ≡ node_at suc 0 (earliest (equal_to bytes now k i) (suc i) (k.gates - suc i))
        by-pair-on i t p true q true u =
            ons i (small i t) ∙ ap (λ (b : Bool). cond b (word (joined_past (pairs_at k) (pair_prev_at k) (suc slot) was) (pairs_at k) (suc i)) (word was (pairs_at k) (suc i))) q
            ∙ unpaired-on q room i (small i t) (stays i t u)
            ∙ ap (node_at suc 0) (earliest-same (without on slot) (equal_to bytes now k i) (suc i) (k.gates - suc i) k.gates (omega (arith, small i t)) (λ l a n. same_class i u l))
        by-pair-on i t p true q false u =
            ons i (small i t) ∙ ap (λ (b : Bool). cond b (word (joined_past (pairs_at k) (pair_prev_at k) (suc slot) was) (pairs_at k) (suc i)) (word was (pairs_at k) (suc i))) q
            ∙ other-on q room i (small i t) u ∙ partners.on i (was-live i t).0 p
            ∙ ap (node_at suc 0) (earliest-same (equal_to bytes was k i) (equal_to bytes now k i) (suc i) (k.gates - suc i) k.gates (omega (arith, small i t)) (λ l a n. apart-equals i t u l))
        by-pair-on i t p false q true u =
            absurd (false≢true (sym q ∙ equal-pair (gate slot) (gate i) (and_right (is_live was k i) (equal (gate slot) (gate i)) u) ∙ p))
        by-pair-on i t p false q false u =
            ons i (small i t) ∙ ap (λ (b : Bool). cond b (word (joined_past (pairs_at k) (pair_prev_at k) (suc slot) was) (pairs_at k) (suc i)) (word was (pairs_at k) (suc i))) q
            ∙ partners.on i (was-live i t).0 p
            ∙ ap (node_at suc 0) (earliest-same (equal_to bytes was k i) (equal_to bytes now k i) (suc i) (k.gates - suc i) k.gates (omega (arith, small i t)) (λ l a n. apart-equals i t u l))
