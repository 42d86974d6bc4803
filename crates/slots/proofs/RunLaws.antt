-- A slot's nodes one after another: put on the stacks of its wires, taken off, passed by, or put in front.
use mathlib.Core.Path.{◌≡◌, refl, sym, ap, subst, ◌∙◌}
use mathlib.Core.Bool.{Bool, true, false, cond, ◌||◌, false≢true}
use mathlib.Core.List.{List, [], ◌∷◌}
use Prim.Native.Nat.{ℕ, suc, ◌+◌, ◌*◌, ◌≤◌, ◌<◌}
use native.Mathlib.Omega.{arith}
use lib.Dec.{eqb}
use lib.ListN.{length, get_or, set, length-set}
use lib.Seq.{get_or-set_same, get_or-set_other}
use borrow.Author.Tests.{eqb-true, eqb-false, eq-eqb, ne_eqb}
use Rattle.gates.specs.declared.Gate.{Gate}
use Rattle.gates.specs.Gates.{has, touches, twice}
use Rattle.links.specs.Words.{word, Within}
use Rattle.links.proofs.WordLaws.{within_none, within-then, within-set}
use Rattle.links.proofs.RingLaws.{Passed}
use Rattle.slots.specs.Live.{operand_of}
use Rattle.slots.specs.Nodes.{hung}
use Rattle.slots.proofs.WireLaws.{node, end, size, Touching, node-below}
use Rattle.slots.proofs.RingsLaws.{Back, back-same}
use Rattle.slots.proofs.PutLaws.{Put, Off, put_back}

-- ------------------------------------------------------------ one store after another, as words

-- A node's cell takes the end's word, and the end takes the node.
pub put-words : (words : List ℕ) (side size nd e h : ℕ) → h ≡ side + e → side + size ≤ length words → nd < size → e < size →
    (nd ≡ e → ⊥) → Put size nd e (word words side) (word (set (set words (side + nd) (get_or words h 0)) h nd) side)
put-words words side size nd e h q room m k d =
    record {
      cell =
          get_or-set_other (set words (side + nd) (get_or words h 0)) h (side + nd) nd 0 (λ x. d (omega (arith, x, q)))
          ∙ get_or-set_same words (side + nd) (get_or words h 0) 0 (omega arith) ∙ ap (λ (x : ℕ). get_or words x 0) q;
      head =
          ap (λ (x : ℕ). get_or (set (set words (side + nd) (get_or words h 0)) h nd) x 0) (sym q)
          ∙ get_or-set_same (set words (side + nd) (get_or words h 0)) h nd 0 (rw (length-set words (side + nd) (get_or words h 0)) (omega (arith, q)));
      other = λ x l a b.
          get_or-set_other (set words (side + nd) (get_or words h 0)) h (side + x) nd 0 (λ y. b (omega (arith, y, q)))
          ∙ get_or-set_other words (side + nd) (side + x) (get_or words h 0) 0 (λ y. a (omega (arith, y)));
    }

pub off-words : (words : List ℕ) (side size nd e h : ℕ) → h ≡ side + e → side + size ≤ length words → e < size →
    Off size nd e (word words side) (word (set words h (word words side nd)) side)
off-words words side size nd e h q room k =
    record {
      head =
          ap (λ (x : ℕ). get_or (set words h (word words side nd)) x 0) (sym q)
          ∙ get_or-set_same words h (word words side nd) 0 (omega (arith, q));
      other = λ x l b. get_or-set_other words h (side + x) (word words side nd) 0 (λ y. b (omega (arith, y, q)));
    }

-- Two nodes are joined: links forward stand from `next` on, links back from `prev` on, past the others.
pub pass-words : (words : List ℕ) (next prev size p q : ℕ) → next + size ≤ prev → prev + size ≤ length words → p < size → q < size →
    Passed size p q (word words next) (word words prev) (word (set (set words (next + p) q) (prev + q) p) next)
    (word (set (set words (next + p) q) (prev + q) p) prev)
pass-words words next prev size p q room long m k =
    record {
      ahead =
          get_or-set_other (set words (next + p) q) (prev + q) (next + p) p 0 (λ x. omega (arith, x))
          ∙ get_or-set_same words (next + p) q 0 (omega arith);
      back = get_or-set_same (set words (next + p) q) (prev + q) p 0 (rw (length-set words (next + p) q) (omega arith));
      next-other = λ x l d.
          get_or-set_other (set words (next + p) q) (prev + q) (next + x) p 0 (λ y. omega (arith, y))
          ∙ get_or-set_other words (next + p) (next + x) q 0 (λ y. d (omega (arith, y)));
      prev-other = λ x l d.
          get_or-set_other (set words (next + p) q) (prev + q) (prev + x) p 0 (λ y. d (omega (arith, y)))
          ∙ get_or-set_other words (next + p) (prev + x) q 0 (λ y. omega (arith, y));
    }

-- The words after a node has been put on the stack of a wire.
abbrev pub on_stack : ℕ → ℕ → ℕ → ℕ → List ℕ → List ℕ
on_stack side ends nd w words = set (set words (side + nd) (word words (side + ends) w)) (side + ends + w) nd

-- ------------------------------------------------------------ tests of a slot on some wires

-- A slot is on some wires more; a slot is on just some wires.
abbrev pub plus : List ℕ → ℕ → (ℕ → ℕ → Bool) → ℕ → ℕ → Bool
plus ws t on x i = cond (eqb i t) (has x ws || on x t) (on x i)

abbrev pub just : List ℕ → ℕ → (ℕ → ℕ → Bool) → ℕ → ℕ → Bool
just ws s on x i = cond (eqb i s) (has x ws) (on x i)

pub has-front : (x w : ℕ) (ws : List ℕ) → has x (w ∷ ws) ≡ eqb x w || has x ws
unfolding has
has-front x w ws = refl

pub has-none : (x : ℕ) → has x [] ≡ false
unfolding has
has-none x = refl

twice-front : (w : ℕ) (ws : List ℕ) → twice (w ∷ ws) ≡ has w ws || twice ws
unfolding twice
twice-front w ws = refl

pub first-once : (w : ℕ) (ws : List ℕ) → twice (w ∷ ws) ≡ false → has w ws ≡ false
first-once w ws d = go (has w ws) (sym (twice-front w ws) ∙ d)
  where
    go : (b : Bool) → b || twice ws ≡ false → b ≡ false
    go true k = absurd (false≢true (sym k))
    go false k = refl

pub rest-once : (w : ℕ) (ws : List ℕ) → twice (w ∷ ws) ≡ false → twice ws ≡ false
rest-once w ws d = go (has w ws) (sym (twice-front w ws) ∙ d)
  where
    go : (b : Bool) → b || twice ws ≡ false → twice ws ≡ false
    go true k = absurd (false≢true (sym k))
    go false k = k

pub has_first : (w : ℕ) (ws : List ℕ) → has w (w ∷ ws) ≡ true
has_first w ws = has-front w w ws ∙ ap (λ (b : Bool). b || has w ws) (eq-eqb w w refl)

pub has_rest : (x w : ℕ) (ws : List ℕ) → has x ws ≡ true → has x (w ∷ ws) ≡ true
has_rest x w ws h = has-front x w ws ∙ go (eqb x w) h
  where
    go : (b : Bool) → has x ws ≡ true → b || has x ws ≡ true
    go true k = refl
    go false k = k

-- The only wire of a list of one is the first of any list that begins with it.
pub has_one : (x w : ℕ) (ws : List ℕ) → has x (w ∷ []) ≡ true → has x (w ∷ ws) ≡ true
has_one x w ws h = has-front x w ws ∙ go (eqb x w) (sym (has-front x w []) ∙ h)
  where
    go : (b : Bool) → b || has x [] ≡ true → b || has x ws ≡ true
    go true k = refl
    go false k = absurd (false≢true (sym (has-none x) ∙ k))

pub has_other : (x w : ℕ) (ws : List ℕ) → (x ≡ w → ⊥) → has x (w ∷ ws) ≡ has x ws
has_other x w ws d = has-front x w ws ∙ ap (λ (b : Bool). b || has x ws) (ne_eqb x w d)

-- One of the rest is not the first.
pub not_first : (x w : ℕ) (ws : List ℕ) → twice (w ∷ ws) ≡ false → has x ws ≡ true → x ≡ w → ⊥
not_first x w ws d h e = false≢true (sym (first-once w ws d) ∙ subst (λ (y : ℕ). has y ws ≡ true) e h)

operand-first : (w : ℕ) (ws : List ℕ) → operand_of w (w ∷ ws) ≡ 0
unfolding operand_of
operand-first w ws = ap (λ (b : Bool). cond b 0 (suc (operand_of w ws))) (eq-eqb w w refl)

operand-rest : (x w : ℕ) (ws : List ℕ) → (x ≡ w → ⊥) → operand_of x (w ∷ ws) ≡ suc (operand_of x ws)
unfolding operand_of
operand-rest x w ws d = ap (λ (b : Bool). cond b 0 (suc (operand_of x ws))) (ne_eqb x w d)

-- By cases: the slot in question, or another.
pub at_slot : (P : Bool → Type 0) (i s : ℕ) → (i ≡ s → P true) → ((i ≡ s → ⊥) → P false) → P (eqb i s)
at_slot P i s f g = go (eqb i s) refl
  where
    go : (b : Bool) → eqb i s ≡ b → P b
    go true e = f (eqb-true i s e)
    go false e = g (eqb-false i s e)

-- Putting nodes on stacks changes only the words of links on that side.
pub hung-within : (side ends wires : ℕ) (ws : List ℕ) (nd : ℕ) (words : List ℕ) → nd + length ws ≤ ends →
    ((w : ℕ) → has w ws ≡ true → w < wires) → Within side (ends + wires) words (hung side ends nd ws words)
unfolding hung
hung-within side ends wires [] nd words room small = within_none side (ends + wires) words
hung-within side ends wires (w ∷ ws) nd words room small =
    within-then side (ends + wires) words (on_stack side ends nd w words) (hung side ends (suc nd) ws (on_stack side ends nd w words))
    (within-then side (ends + wires) words (set words (side + nd) (word words (side + ends) w)) (on_stack side ends nd w words)
    (within-set side (ends + wires) words (side + nd) (word words (side + ends) w) (omega arith) (omega arith))
    (within-set side (ends + wires) (set words (side + nd) (word words (side + ends) w)) (side + ends + w) nd (omega arith) (omega (arith, small w (has_first w ws)))))
    (hung-within side ends wires ws (suc nd) (on_stack side ends nd w words) (omega arith) (λ x h. small x (has_rest x w ws h)))

-- ------------------------------------------------------------ what is asked of the wires of a slot

module _ (gates : ℕ → Gate) (slots wires : ℕ) where
  -- The wires of a slot, or the last of them: each is on the slot's gate, and its node is so many from `nd` on.
  pub record Run (s : ℕ) (ws : List ℕ) (nd : ℕ) : Type 0 where
    pub once : twice ws ≡ false
    pub small : (x : ℕ) → has x ws ≡ true → x < wires
    pub touched : (x : ℕ) → has x ws ≡ true → touches x (gates s) ≡ true
    pub nodes : (x : ℕ) → has x ws ≡ true → node gates slots wires x s ≡ nd + operand_of x ws

  pub run-rest : (s w : ℕ) (ws : List ℕ) (nd : ℕ) → Run s (w ∷ ws) nd → Run s ws (suc nd)
  run-rest s w ws nd r =
      record {
        once = rest-once w ws r.once;
        small = λ x h. r.small x (has_rest x w ws h);
        touched = λ x h. r.touched x (has_rest x w ws h);
        nodes = λ x h. next x (r.nodes x (has_rest x w ws h)) (operand-rest x w ws (not_first x w ws r.once h));
      }
    where
      next : (x : ℕ) → node gates slots wires x s ≡ nd + operand_of x (w ∷ ws) → operand_of x (w ∷ ws) ≡ suc (operand_of x ws) →
          node gates slots wires x s ≡ suc nd + operand_of x ws
      next x e f = omega (arith, e, f)

  pub run-node : (s w : ℕ) (ws : List ℕ) (nd : ℕ) → Run s (w ∷ ws) nd → nd ≡ node gates slots wires w s
  run-node s w ws nd r = go (r.nodes w (has_first w ws)) (operand-first w ws)
    where
      go : node gates slots wires w s ≡ nd + operand_of w (w ∷ ws) → operand_of w (w ∷ ws) ≡ 0 → nd ≡ node gates slots wires w s
      go e f = omega (arith, e, f)

  module _ (s : ℕ) (s< : s < slots) (w : ℕ) (ws : List ℕ) (nd : ℕ) (r : Run s (w ∷ ws) nd) where
    pub w< : w < wires
    w< = r.small w (has_first w ws)

    pub nd< : nd < 3 * slots
    nd< = rw (run-node s w ws nd r) (node-below gates slots wires w s s< (r.touched w (has_first w ws)))

    -- The words after one node has been put on.
    pub put_one : (words : List ℕ) (side : ℕ) → side + size gates slots wires ≤ length words →
        Put (size gates slots wires) (node gates slots wires w s) (end gates slots wires w) (word words side)
        (word (set (set words (side + nd) (word words (side + 3 * slots) w)) (side + 3 * slots + w) nd) side)
    put_one words side room =
        subst
        (λ (x : ℕ). Put (size gates slots wires) x (end gates slots wires w) (word words side) (word (set (set words (side + nd) (word words (side + 3 * slots) w)) (side + 3 * slots + w) nd) side))
        (run-node s w ws nd r)
        (put-words words side (size gates slots wires) nd (end gates slots wires w) (side + 3 * slots + w) (omega arith) room (omega (arith, nd<)) (omega (arith, w<)) (λ e. omega (arith, nd<, e)))

  -- ------------------------------------------------------------ put on

  pub plus-touching : (t : ℕ) (ws : List ℕ) (on : ℕ → ℕ → Bool) → ((x : ℕ) → has x ws ≡ true → touches x (gates t) ≡ true) →
      t < slots → Touching gates slots wires on → Touching gates slots wires (plus ws t on)
  plus-touching t ws on touched t< touching x i m h = go (eqb i t) refl h
    where
      both : (a b : Bool) → (a ≡ true → touches x (gates t) ≡ true) → (b ≡ true → touches x (gates t) ≡ true) → a || b ≡ true →
          touches x (gates t) ≡ true
      both true b f g k = f refl
      both false b f g k = g k

      go : (b : Bool) → eqb i t ≡ b → cond b (has x ws || on x t) (on x i) ≡ true → touches x (gates i) ≡ true
      go true e k =
          subst (λ (j : ℕ). touches x (gates j) ≡ true) (sym (eqb-true i t e))
          (both (has x ws) (on x t) (touched x) (touching x t t<) k)
      go false e k = touching x i m k

  -- First one wire, then the others.
  plus-both : (t w : ℕ) (ws : List ℕ) (on : ℕ → ℕ → Bool) (x i : ℕ) → plus ws t (plus (w ∷ []) t on) x i ≡ plus (w ∷ ws) t on x i
  plus-both t w ws on x i = at_slot (λ b. cond b (has x ws || plus (w ∷ []) t on x t) (cond b (has x (w ∷ []) || on x t) (on x i)) ≡ cond b (has x (w ∷ ws) || on x t) (on x i)) i t
      (λ e. ap (λ (b : Bool). has x ws || cond b (has x (w ∷ []) || on x t) (on x t)) (eq-eqb t t refl)
      ∙ joined (eqb x w) (has x (w ∷ [])) (has x ws) (has x (w ∷ ws)) (on x t) (has-front x w [] ∙ ap (λ (b : Bool). eqb x w || b) (has-none x)) (has-front x w ws))
      (λ d. refl)
    where
      joined : (e one rest all o : Bool) → one ≡ e || false → all ≡ e || rest → rest || (one || o) ≡ all || o
      joined true one rest all o p q = joined-true one rest all o p q
        where
          joined-true : (one rest all o : Bool) → one ≡ true → all ≡ true → rest || (one || o) ≡ all || o
          joined-true true true true o p q = refl
          joined-true true false true o p q = refl
          joined-true true rest false o p q = absurd (false≢true q)
          joined-true false rest all o p q = absurd (false≢true p)
      joined false one rest all o p q = joined-false one rest all o p q
        where
          joined-false : (one rest all o : Bool) → one ≡ false → all ≡ rest → rest || (one || o) ≡ all || o
          joined-false true rest all o p q = absurd (false≢true (sym p))
          joined-false false true true o p q = refl
          joined-false false false false o p q = refl
          joined-false false true false o p q = absurd (false≢true q)
          joined-false false false true o p q = absurd (false≢true (sym q))

  pub hung-back : (side t : ℕ) → t < slots → (ws : List ℕ) (nd : ℕ) (words : List ℕ) (on : ℕ → ℕ → Bool) →
      side + size gates slots wires ≤ length words → Run t ws nd →
      ((x i : ℕ) → i < slots → has x ws ≡ true → on x i ≡ true → i < t) → Touching gates slots wires on →
      Back gates slots wires (word words side) on →
      Back gates slots wires (word (hung side (3 * slots) nd ws words) side) (plus ws t on)
  unfolding hung
  hung-back side t t< [] nd words on room r top touching back =
      back-same gates slots wires (word words side) on (plus [] t on) same back
    where
      same : (x i : ℕ) → x < wires → i < slots → on x i ≡ plus [] t on x i
      same x i m k = at_slot (λ b. on x i ≡ cond b (has x [] || on x t) (on x i)) i t
          (λ e. ap (on x) e ∙ sym (ap (λ (b : Bool). b || on x t) (has-none x))) (λ d. refl)
  hung-back side t t< (w ∷ ws) nd words on room r top touching back =
      back-same gates slots wires (word (hung side (3 * slots) (suc nd) ws (on_stack side (3 * slots) nd w words)) side) (plus ws t (plus (w ∷ []) t on)) (plus (w ∷ ws) t on) (λ x i m k. plus-both t w ws on x i)
      (hung-back side t t< ws (suc nd) (on_stack side (3 * slots) nd w words) (plus (w ∷ []) t on) (rw long room) (run-rest t w ws nd r) later one-touching
      (put_back gates slots wires on (plus (w ∷ []) t on) one-touching (word words side) (word (on_stack side (3 * slots) nd w words) side) w (r.small w (has_first w ws)) t t< there
      (λ i m u. top w i m (has_first w ws) u) same others (put_one t t< w ws nd r words side room) back))
    where
      long : length (on_stack side (3 * slots) nd w words) ≡ length words
      long = length-set (set words (side + nd) (word words (side + 3 * slots) w)) (side + 3 * slots + w) nd ∙ length-set words (side + nd) (word words (side + 3 * slots) w)

      one-touching : Touching gates slots wires (plus (w ∷ []) t on)
      one-touching = plus-touching t (w ∷ []) on (λ x h. r.touched x (has_one x w ws h)) t< touching

      there : plus (w ∷ []) t on w t ≡ true
      there =
          ap (λ (b : Bool). cond b (has w (w ∷ []) || on w t) (on w t)) (eq-eqb t t refl)
          ∙ ap (λ (b : Bool). b || on w t) (has_first w [])

      same : (i : ℕ) → (i ≡ t → ⊥) → plus (w ∷ []) t on w i ≡ on w i
      same i d = ap (λ (b : Bool). cond b (has w (w ∷ []) || on w t) (on w i)) (ne_eqb i t d)

      others : (x i : ℕ) → (x ≡ w → ⊥) → i < slots → on x i ≡ plus (w ∷ []) t on x i
      others x i d m = at_slot (λ b. on x i ≡ cond b (has x (w ∷ []) || on x t) (on x i)) i t
          (λ e. ap (on x) e ∙ sym (ap (λ (b : Bool). b || on x t) (has_other x w [] d ∙ has-none x))) (λ n. refl)

      later : (x i : ℕ) → i < slots → has x ws ≡ true → plus (w ∷ []) t on x i ≡ true → i < t
      later x i m h u = top x i m (has_rest x w ws h) (others x i (not_first x w ws r.once h) m ∙ u)
