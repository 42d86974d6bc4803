-- The list of pairs: which slots it has, and what one slot more does to the words.
use mathlib.Core.Path.{◌≡◌, refl, sym, ap, ap₂, subst, ◌∙◌}
use mathlib.Core.Bool.{Bool, true, false, cond, ◌&&◌, ◌||◌, or-false, false≢true}
use mathlib.Core.List.{List, [], ◌∷◌, ◌++◌, append-nil}
use Prim.Native.Nat.{ℕ, zero, suc, ◌+◌, ◌*◌, ◌≤◌, ◌<◌}
use native.Mathlib.Nat.{add-zero}
use native.Mathlib.Numerals.{add-one}
use native.Mathlib.Omega.{arith}
use lib.Dec.{eqb}
use lib.ListN.{length, get_or, set, drop, length-set, length-drop}
use lib.Seq.{get_or-set_same, get_or-set_other, take-suc, get_or-drop}
use borrow.Author.Tests.{eqb-true, eqb-false, eq-eqb, ne_eqb}
use Rattle.gates.specs.Gates.{has}
use Rattle.rules.specs.Equal.{is_pair}
use Rattle.links.specs.Words.{word}
use Rattle.links.proofs.WordLaws.{within-set, within-then}
use Rattle.order.specs.Order.{key, listed, list_at}
use Rattle.order.proofs.ListLaws.{has-append, Pairwise, pairwise_append, listed_same}
use Rattle.slots.specs.declared.Extent.{Extent}
use Rattle.partners.specs.declared.Keys.{Keys}
use Rattle.slots.specs.Slots.{gate_at}
use Rattle.slots.specs.Live.{words_for, nodes_for, pairs_at, is_live, Loaded}
use Rattle.slots.specs.Keeping.{KeepsLoaded}
use Rattle.partners.specs.Pairs.{live_pair, pairs_below, keys_of, room_for, put_in, ListedTo}
use Rattle.slots.proofs.StateLaws.{room-enough, keeps-marks, keeps_then, keeps-links, keeps-pairs}

-- ------------------------------------------------------------ which slots the list has

-- One slot more.
pairs-more : (bytes words : List ℕ) (k : Extent) (slot : ℕ) →
    pairs_below bytes words k (slot + 1) ≡ pairs_below bytes words k slot ++ cond (live_pair bytes words k slot) (slot ∷ []) []
unfolding pairs_below
pairs-more bytes words k slot = rw (add-one slot)

-- Words that agree on the marks have the same pairs.
pairs-same : (bytes was now : List ℕ) (k : Extent) → ((i : ℕ) → is_live now k i ≡ is_live was k i) → (slot : ℕ) →
    pairs_below bytes now k slot ≡ pairs_below bytes was k slot
unfolding pairs_below
pairs-same bytes was now k same zero = refl
pairs-same bytes was now k same (suc i) =
    ap₂ (λ (l : List ℕ) (live : Bool). l ++ cond (live && is_pair (gate_at bytes i)) (i ∷ []) []) (pairs-same bytes was now k same i) (same i)

-- What a slot adds to the list is that slot.
one_has : (x i : ℕ) (b : Bool) → has x (cond b (i ∷ []) []) ≡ true → x ≡ i
unfolding has
one_has x i true h = eqb-true x i (sym (or-false (eqb x i)) ∙ h)
one_has x i false h = absurd (false≢true h)

module _ (bytes words : List ℕ) (k : Extent) where
  -- It has only slots below.
  pub pairs_below_lem : (x slot : ℕ) → has x (pairs_below bytes words k slot) ≡ true → x < slot
  unfolding pairs_below has
  pairs_below_lem x zero h = absurd (false≢true h)
  pairs_below_lem x (suc i) h = go (has x (pairs_below bytes words k i)) refl (pairs_below_lem x i)
      (sym (has-append x (pairs_below bytes words k i) (cond (live_pair bytes words k i) (i ∷ []) [])) ∙ h)
    where
      go : (b : Bool) → has x (pairs_below bytes words k i) ≡ b → (has x (pairs_below bytes words k i) ≡ true → x < i) →
          has x (pairs_below bytes words k i) || has x (cond (live_pair bytes words k i) (i ∷ []) []) ≡ true → x < suc i
      go true e rest t = omega (arith, rest e)
      go false e rest t =
          omega (arith, one_has x i (live_pair bytes words k i) (sym (ap (λ (b : Bool). b || has x (cond (live_pair bytes words k i) (i ∷ []) [])) e) ∙ t))

  -- Of those it has the live pairs and no others.
  pub has-pairs : (x slot : ℕ) → x < slot → has x (pairs_below bytes words k slot) ≡ live_pair bytes words k x
  unfolding pairs_below has
  has-pairs x zero l = absurd (omega arith)
  has-pairs x (suc i) l =
      has-append x (pairs_below bytes words k i) (cond (live_pair bytes words k i) (i ∷ []) [])
      ∙ go (eqb x i) refl (has-pairs x i)
    where
      here : (b : Bool) → has i (cond b (i ∷ []) []) ≡ b
      here true = ap (λ (t : Bool). t || false) (eq-eqb i i refl)
      here false = refl

      other : (b : Bool) → (x ≡ i → ⊥) → has x (cond b (i ∷ []) []) ≡ false
      other true d = ap (λ (t : Bool). t || false) (ne_eqb x i d)
      other false d = refl

      none : has i (pairs_below bytes words k i) ≡ false
      none = not_so (has i (pairs_below bytes words k i)) (λ h. omega (arith, pairs_below_lem i i h))
        where
          not_so : (b : Bool) → (b ≡ true → ⊥) → b ≡ false
          not_so true f = absurd (f refl)
          not_so false f = refl

      go : (b : Bool) → eqb x i ≡ b → (x < i → has x (pairs_below bytes words k i) ≡ live_pair bytes words k x) →
          has x (pairs_below bytes words k i) || has x (cond (live_pair bytes words k i) (i ∷ []) []) ≡ live_pair bytes words k x
      go true e rest = rw (eqb-true x i e, none) (here (live_pair bytes words k i))
      go false e rest =
          ap₂ ◌||◌ (rest (omega (arith, eqb-false x i e))) (other (live_pair bytes words k i) (eqb-false x i e))
          ∙ or-false (live_pair bytes words k x)

  -- They stand in ascending order.
  pub pairs-ascend : (slot : ℕ) → Pairwise (λ x y. x < y) (pairs_below bytes words k slot)
  unfolding pairs_below has
  pairs-ascend zero = tt
  pairs-ascend (suc i) =
      pairwise_append (λ x y. x < y) (pairs_below bytes words k i) (cond (live_pair bytes words k i) (i ∷ []) []) (pairs-ascend i)
      (alone (live_pair bytes words k i))
      (λ x y s t. below x y (pairs_below_lem x i s) (one_has y i (live_pair bytes words k i) t))
    where
      alone : (b : Bool) → Pairwise (λ x y. x < y) (cond b (i ∷ []) [])
      alone true = (λ z h. absurd (false≢true h), tt)
      alone false = tt

      below : (x y : ℕ) → x < i → y ≡ i → x < y
      below x y l e = omega (arith, e)

-- ------------------------------------------------------------ one slot more

-- What holds below a slot and at it holds below the next.
up : (P : ℕ → Type 0) (slot : ℕ) → ((i : ℕ) → i < slot → P i) → P slot → (i : ℕ) → i < slot + 1 → P i
up P slot h p i l = go (eqb i slot) refl
  where
    go : (b : Bool) → eqb i slot ≡ b → P i
    go true e = rw (eqb-true i slot e) p
    go false e = h i (omega (arith, eqb-false i slot e))

-- Before the first slot nothing is listed.
pub none-listed : (bytes words : List ℕ) (k : Extent) → ListedTo bytes words k 0 0
unfolding pairs_below
none-listed bytes words k =
    record {
      list = refl;
      short = omega arith;
      first = λ i m t. absurd (omega arith);
      middle = λ i m t. absurd (omega arith);
      last = λ i m t. absurd (omega arith);
    }

-- After the last slot all are.
pub all_listed : (bytes words : List ℕ) (k : Extent) (slot count : ℕ) → slot ≤ k.gates → k.gates ≤ slot → ListedTo bytes words k slot count →
    ListedTo bytes words k k.gates count
all_listed bytes words k slot count l m p = subst (λ (n : ℕ). ListedTo bytes words k n count) (omega arith) p

-- A slot that is no live pair adds nothing.
pub none_more : (bytes words : List ℕ) (k : Extent) (slot count : ℕ) → live_pair bytes words k slot ≡ false → ListedTo bytes words k slot count →
    ListedTo bytes words k (slot + 1) count
none_more bytes words k slot count off p =
    record {
      list =
          p.list ∙ sym (append-nil (pairs_below bytes words k slot))
          ∙ sym (pairs-more bytes words k slot ∙ ap (λ (b : Bool). pairs_below bytes words k slot ++ cond b (slot ∷ []) []) off);
      short = omega (arith, p.short);
      first = up (λ i. live_pair bytes words k i ≡ true → key words 0 i ≡ (keys_of k.wires (gate_at bytes i)).first) slot p.first (λ t. absurd (never t));
      middle = up (λ i. live_pair bytes words k i ≡ true → key words 1 i ≡ (keys_of k.wires (gate_at bytes i)).middle) slot p.middle (λ t. absurd (never t));
      last = up (λ i. live_pair bytes words k i ≡ true → key words 2 i ≡ (keys_of k.wires (gate_at bytes i)).last) slot p.last (λ t. absurd (never t));
    }
  where
    never : live_pair bytes words k slot ≡ true → ⊥
    never t = false≢true (sym off ∙ t)

-- A list of one word more.
listed_more : (words : List ℕ) (at count : ℕ) → at + count < length words → listed words at (count + 1) ≡ listed words at count ++ (word words at count ∷ [])
listed_more words at count l =
    rw (add-one count)
    (take-suc (drop at words) count 0 (rw (length-drop at words) (omega arith))
    ∙ ap (λ (x : ℕ). listed words at count ++ (x ∷ [])) (get_or-drop at words count 0))

-- The words once a slot's keys and the slot are written. The keys stand below the links back and the list behind the ranks, so the
-- list stays loaded and all marks stay.
module _ (words : List ℕ) (k : Extent) (slot count : ℕ) (r : Keys) (room : words_for k ≤ length words) (inside : slot < k.gates) (short : count ≤ slot) where
  abbrev end : ℕ
  end = list_at (room_for k) + count

  abbrev one : List ℕ
  one = set words (3 * slot) r.first

  abbrev two : List ℕ
  two = set one (3 * slot + 1) r.middle

  abbrev three : List ℕ
  three = set two (3 * slot + 2) r.last

  abbrev put : List ℕ
  put = put_in slot r end words

  fits : end < length words
  fits = omega (arith, room-enough k (omega arith))

  long-two : length two ≡ length words
  long-two = simp length-set

  long-three : length three ≡ length words
  long-three = simp length-set

  put_keeps : KeepsLoaded k words put
  put_keeps =
      keeps_then k words three put
      (keeps-links k words three
      (within-then 0 (nodes_for k) words two three
      (within-then 0 (nodes_for k) words one two
      (within-set 0 (nodes_for k) words (3 * slot) r.first (omega arith) (omega arith))
      (within-set 0 (nodes_for k) one (3 * slot + 1) r.middle (omega arith) (omega arith)))
      (within-set 0 (nodes_for k) two (3 * slot + 2) r.last (omega arith) (omega arith))))
      (keeps-pairs k three put (omega arith)
      (within-set (pairs_at k) (2 * (k.gates + 1) + 2 * k.gates + 2 * k.wires) three end slot (omega arith) (omega arith)))

  put_other : (x : ℕ) → (x ≡ 3 * slot → ⊥) → (x ≡ 3 * slot + 1 → ⊥) → (x ≡ 3 * slot + 2 → ⊥) → (x ≡ end → ⊥) → get_or put x 0 ≡ get_or words x 0
  put_other x a b c d =
      get_or-set_other three end x slot 0 d
      ∙ get_or-set_other two (3 * slot + 2) x r.last 0 c
      ∙ get_or-set_other one (3 * slot + 1) x r.middle 0 b
      ∙ get_or-set_other words (3 * slot) x r.first 0 a

  put_first_lem : get_or put (3 * slot + 0) 0 ≡ r.first
  put_first_lem =
      rw (add-zero (3 * slot))
      (get_or-set_other three end (3 * slot) slot 0 (λ e. omega (arith, e))
      ∙ get_or-set_other two (3 * slot + 2) (3 * slot) r.last 0 (λ e. omega (arith, e))
      ∙ get_or-set_other one (3 * slot + 1) (3 * slot) r.middle 0 (λ e. omega (arith, e))
      ∙ get_or-set_same words (3 * slot) r.first 0 (omega (arith, fits)))

  put-middle : get_or put (3 * slot + 1) 0 ≡ r.middle
  put-middle =
      get_or-set_other three end (3 * slot + 1) slot 0 (λ e. omega (arith, e))
      ∙ get_or-set_other two (3 * slot + 2) (3 * slot + 1) r.last 0 (λ e. omega (arith, e))
      ∙ get_or-set_same one (3 * slot + 1) r.middle 0 (omega (arith, fits, length-set words (3 * slot) r.first))

  put_last : get_or put (3 * slot + 2) 0 ≡ r.last
  put_last =
      get_or-set_other three end (3 * slot + 2) slot 0 (λ e. omega (arith, e))
      ∙ get_or-set_same two (3 * slot + 2) r.last 0 (omega (arith, fits, long-two))

  put-slot : get_or put end 0 ≡ slot
  put-slot = get_or-set_same three end slot 0 (omega (arith, fits, long-three))

  -- Keys of slots below stay.
  put-below : (field i : ℕ) → field < 3 → i < slot → key put field i ≡ key words field i
  put-below field i f m =
      put_other (3 * i + field) (λ e. omega (arith, e)) (λ e. omega (arith, e)) (λ e. omega (arith, e)) (λ e. omega (arith, e))

  put-list : listed put (list_at (room_for k)) (count + 1) ≡ listed words (list_at (room_for k)) count ++ (slot ∷ [])
  put-list =
      listed_more put (list_at (room_for k)) count (omega (arith, fits, put_keeps.long))
      ∙ ap₂ (λ (l : List ℕ) (x : ℕ). l ++ (x ∷ []))
      (listed_same words put (list_at (room_for k)) count (omega (arith, fits)) put_keeps.long same)
      put-slot
    where
      same : (i : ℕ) → i < count → word put (list_at (room_for k)) i ≡ word words (list_at (room_for k)) i
      same i m =
          put_other (list_at (room_for k) + i) (λ e. omega (arith, e)) (λ e. omega (arith, e)) (λ e. omega (arith, e)) (λ e. omega (arith, e))

-- A slot that is a live pair: its keys are written, and it stands at the end of the list.
pub one_more : (bytes words now : List ℕ) (k : Extent) (slot count list : ℕ) (r : Keys) → Loaded bytes words k → slot < k.gates →
    list ≡ list_at (room_for k) → ListedTo bytes words k slot count → live_pair bytes words k slot ≡ true →
    r ≡ keys_of k.wires (gate_at bytes slot) → now ≡ put_in slot r (list + count) words →
    ListedTo bytes now k (slot + 1) (count + 1) × KeepsLoaded k words now
one_more bytes words now k slot count list r l inside at p pair e written =
    subst (λ (now : List ℕ). ListedTo bytes now k (slot + 1) (count + 1) × KeepsLoaded k words now) (sym same-put) (more, keeps)
  where
    after : List ℕ
    after = put_in slot r (list_at (room_for k) + count) words

    same-put : now ≡ after
    same-put = written ∙ ap (λ (x : ℕ). put_in slot r (x + count) words) at

    keeps : KeepsLoaded k words after
    keeps = put_keeps words k slot count r l.room inside p.short

    marks : (i : ℕ) → is_live after k i ≡ is_live words k i
    marks = keeps-marks k words after keeps

    was-pair : (i : ℕ) → live_pair bytes after k i ≡ true → live_pair bytes words k i ≡ true
    was-pair i t = sym (ap (λ (b : Bool). b && is_pair (gate_at bytes i)) (marks i)) ∙ t

    more : ListedTo bytes after k (slot + 1) (count + 1)
    more =
        record {
          list =
              put-list words k slot count r l.room inside p.short
              ∙ ap₂ (λ (xs : List ℕ) (b : Bool). xs ++ cond b (slot ∷ []) []) p.list (sym pair)
              ∙ sym (pairs-more bytes words k slot)
              ∙ sym (pairs-same bytes words after k marks (slot + 1));
          short = omega (arith, p.short);
          first = up (λ i. live_pair bytes after k i ≡ true → key after 0 i ≡ (keys_of k.wires (gate_at bytes i)).first) slot
              (λ i m t. put-below words k slot count r l.room inside p.short 0 i (omega arith) m ∙ p.first i m (was-pair i t))
              (λ t. put_first_lem words k slot count r l.room inside p.short ∙ ap (λ (x : Keys). x.first) e);
          middle = up (λ i. live_pair bytes after k i ≡ true → key after 1 i ≡ (keys_of k.wires (gate_at bytes i)).middle) slot
              (λ i m t. put-below words k slot count r l.room inside p.short 1 i (omega arith) m ∙ p.middle i m (was-pair i t))
              (λ t. put-middle words k slot count r l.room inside p.short ∙ ap (λ (x : Keys). x.middle) e);
          last = up (λ i. live_pair bytes after k i ≡ true → key after 2 i ≡ (keys_of k.wires (gate_at bytes i)).last) slot
              (λ i m t. put-below words k slot count r l.room inside p.short 2 i (omega arith) m ∙ p.last i m (was-pair i t))
              (λ t. put_last words k slot count r l.room inside p.short ∙ ap (λ (x : Keys). x.last) e);
        }
