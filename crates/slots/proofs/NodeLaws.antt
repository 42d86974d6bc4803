-- Laws of nodes: the words of a record that are wires, ends that are closed, nodes that are taken off or passed by.
use mathlib.Core.Path.{◌≡◌, refl, sym, ap, subst, ◌∙◌}
use mathlib.Core.Bool.{Bool, true, false}
use mathlib.Core.List.{List, [], ◌∷◌}
use Prim.Native.Nat.{ℕ, zero, suc, ◌+◌, ◌*◌, ◌-◌, ◌≤◌, ◌<◌}
use native.Mathlib.Nat.{not-suc-le-zero, le_of_suc-le-suc, add-zero, add-suc, sub-zero}
use native.Mathlib.Numerals.{add-one}
use native.Mathlib.Omega.{arith}
use lib.Dec.{eqb}
use lib.ListN.{length, get_or, take, drop, set, length-set, drop_of_length-le}
use lib.Seq.{get_or-set_same, get_or-set_other, get_or-take, drop-cons}
use borrow.Author.Tests.{eqb-true, eqb-false}
use Rattle.gates.specs.declared.kinds.Row.{Row}
use Rattle.gates.specs.declared.records.Record.{Record}
use Rattle.gates.specs.Kinds.{row_of}
use Rattle.gates.specs.Gates.{All}
use Rattle.gates.specs.Records.{operand_words}
use Rattle.gates.proofs.RecordLaws.{row_small, one-to-three}
use Rattle.links.specs.Words.{word, Within}
use Rattle.links.proofs.WordLaws.{within_none, within-then, within_wider, within-set}
use Rattle.slots.specs.declared.Extent.{Extent}
use Rattle.slots.specs.Nodes.{Closed, taken_off, joined_past, CanPass, passed_by, CanPassAll}

-- ------------------------------------------------------------ the words that are wires

abbrev pub three_words : Record → List ℕ
three_words r = r.first ∷ r.second ∷ r.third ∷ []

as_many : (r : Record) (n : ℕ) → 1 ≤ n → n ≤ 3 → n ≡ length (take n (three_words r))
as_many r = one-to-three (λ (n : ℕ). n ≡ length (take n (three_words r))) refl refl refl

-- A kind has as many wires as its row in the table says: one to three.
table-counts : (r : Record) → r.kind < 27 → (row_of r.kind).operands ≡ length (operand_words r)
table-counts r h =
    let few = row_small (row_of r.kind) r.kind refl h in as_many r (row_of r.kind).operands few.0 few.1

pub operands-counted : (r : Record) (row : Row) → row ≡ row_of r.kind → r.kind < 27 →
    (row.operands ≡ length (operand_words r)) × (row.operands ≤ 3)
operands-counted r row e h = (ap (λ (x : Row). x.operands) e ∙ table-counts r h, (row_small row r.kind e h).1)

-- What is known of a count of them.
pub record Counted (r : Record) (count : ℕ) : Type 0 where
  pub some : 1 ≤ count
  pub few : count ≤ 3
  pub long : count ≡ length (operand_words r)
  pub are : operand_words r ≡ take count (three_words r)

pub counted : (r : Record) (count : ℕ) → r.kind < 27 → count ≡ length (operand_words r) → Counted r count
counted r count h e =
    let same : count ≡ (row_of r.kind).operands = e ∙ sym (table-counts r h) in
    let few = row_small (row_of r.kind) r.kind refl h in
    record { some = rw same few.0; few = rw same few.1; long = e; are = rw same }

all-at : (n : ℕ) (ws : List ℕ) (op : ℕ) → op < length ws → All (λ w. w < n) ws → get_or ws op 0 < n
all-at n [] op l a = absurd (not-suc-le-zero l)
all-at n (w ∷ ws) zero l a = a.0
all-at n (w ∷ ws) (suc op) l a = all-at n ws op (le_of_suc-le-suc l) a.1

-- A word is the operand at a place, below n.
pub record IsOperand (n : ℕ) (r : Record) (op w : ℕ) : Type 0 where
  pub inside : op < length (operand_words r)
  pub which : w ≡ get_or (operand_words r) op 0
  pub below : w < n

-- The record's word at the place of an operand is that operand.
pub operand_at : (n : ℕ) (r : Record) (count op w : ℕ) → r.kind < 27 → All (λ v. v < n) (operand_words r) →
    count ≡ length (operand_words r) → op < count → w ≡ get_or (three_words r) op 0 → IsOperand n r op w
operand_at n r count op w h a e l q =
    let same = (counted r count h e).are in
    let inside = subst (λ (m : ℕ). op < m) e l in
    let which = q ∙ sym (get_or-take count (three_words r) op 0 l) ∙ ap (λ (ws : List ℕ). get_or ws op 0) (sym same) in
    record { inside = inside; which = which; below = rw which (all-at n (operand_words r) op inside a) }

-- A place that is neither the first nor the second of three is the third.
pub third-word : (a b c op : ℕ) → op < 3 → (op ≡ 0 → ⊥) → (op ≡ 1 → ⊥) → c ≡ get_or (a ∷ b ∷ c ∷ []) op 0
third-word a b c op l no0 no1 = let e : op ≡ 2 = omega arith in rw e

-- ------------------------------------------------------------ ends that are closed

-- The first so many wires are empty on a side.
pub record ClosedFirst (side ends count : ℕ) (was now : List ℕ) : Type 0 where
  pub each : (w : ℕ) → w < count → word now side (ends + w) ≡ ends + w
  pub within : Within (side + ends) count was now

pub closed_none : (side ends : ℕ) (words : List ℕ) → ClosedFirst side ends 0 words words
closed_none side ends words = record { each = λ w l. omega arith; within = within_none (side + ends) 0 words }

pub closed-more : (side ends w : ℕ) (was now : List ℕ) → side + ends + w < length now → ClosedFirst side ends w was now →
    ClosedFirst side ends (w + 1) was (set now (side + ends + w) (ends + w))
closed-more side ends w was now l p =
    record {
      each = λ v m. closed v m;
      within =
          within-then (side + ends) (w + 1) was now (set now (side + ends + w) (ends + w))
          (within_wider (side + ends) w (side + ends) (w + 1) was now (omega arith) (omega arith) p.within)
          (within-set (side + ends) (w + 1) now (side + ends + w) (ends + w) (omega arith) (omega arith));
    }
  where
    closed : (v : ℕ) → v < w + 1 → word (set now (side + ends + w) (ends + w)) side (ends + v) ≡ ends + v
    closed v m = go (eqb v w) refl
      where
        go : (b : Bool) → eqb v w ≡ b → word (set now (side + ends + w) (ends + w)) side (ends + v) ≡ ends + v
        go true e =
            let here : side + (ends + v) ≡ side + ends + w = omega (arith, eqb-true v w e) in
            rw (here, get_or-set_same now (side + ends + w) (ends + w) 0 l) (omega (arith, eqb-true v w e))
        go false d =
            get_or-set_other now (side + ends + w) (side + (ends + v)) (ends + w) 0 (λ e. eqb-false v w d (omega (arith, e)))
            ∙ p.each v (omega (arith, eqb-false v w d))

pub closed_all : (side w : ℕ) (k : Extent) (was now : List ℕ) → w ≤ k.wires → k.wires ≤ w →
    ClosedFirst side (3 * k.gates) w was now → Closed side k was now
closed_all side w k was now l m p =
    let e : w ≡ k.wires = omega arith in
    record {
      each = λ v h. p.each v (omega arith);
      within = subst (λ (n : ℕ). Within (side + 3 * k.gates) n was now) e p.within;
    }

-- ------------------------------------------------------------ nodes that are taken off

-- So many nodes of a slot are taken off, and to take off the rest is to take off all. The loop sees where the links of the
-- ends stand, and not how far past those of the nodes that is.
pub record Taken (side ends node op : ℕ) (ws was now : List ℕ) : Type 0 where
  pub long : length now ≡ length was
  pub left : (gap : ℕ) → ends ≡ side + gap → taken_off side gap node ws was ≡ taken_off side gap (node + op) (drop op ws) now

module _ (side ends node : ℕ) (ws : List ℕ) where
  pub taken_none : (words : List ℕ) → Taken side ends node 0 ws words words
  taken_none words = record { long = refl; left = λ gap e. rw (add-zero node) }

  one-taken : (gap op w : ℕ) (words : List ℕ) → op < length ws → w ≡ get_or ws op 0 →
      taken_off side gap (node + op) (drop op ws) words
      ≡ taken_off side gap (node + (op + 1)) (drop (op + 1) ws) (set words (side + gap + w) (get_or words (side + (node + op)) 0))
  unfolding taken_off
  one-taken gap op w words l e = rw (add-one op, add-suc node op, drop-cons ws op 0 l, e)

  pub taken_more : (op w : ℕ) (was now : List ℕ) → op < length ws → w ≡ get_or ws op 0 → Taken side ends node op ws was now →
      Taken side ends node (op + 1) ws was (set now (ends + w) (get_or now (side + (node + op)) 0))
  taken_more op w was now l e p =
      record {
        long = length-set now (ends + w) (get_or now (side + (node + op)) 0) ∙ p.long;
        left = λ gap q. p.left gap q ∙ rw q (one-taken gap op w now l e);
      }

  nothing_left : (gap op : ℕ) (words : List ℕ) → length ws ≤ op → taken_off side gap (node + op) (drop op ws) words ≡ words
  unfolding taken_off
  nothing_left gap op words l = rw (drop_of_length-le ws l)

  pub taken-all : (gap op : ℕ) (was now : List ℕ) → ends ≡ side + gap → length ws ≤ op → Taken side ends node op ws was now →
      now ≡ taken_off side gap node ws was
  taken-all gap op was now q l p = sym (p.left gap q ∙ nothing_left gap op now l)

-- ------------------------------------------------------------ nodes that are passed by

-- So many of them are passed by, the rest can be, and to pass the rest by is to pass all by.
pub record Passed (prev node count op : ℕ) (was now : List ℕ) : Type 0 where
  pub long : length now ≡ length was
  pub can : CanPassAll prev (node + op) (count - op) now
  pub left : passed_by prev node count was ≡ passed_by prev (node + op) (count - op) now

module _ (prev node count : ℕ) where
  pub passed_none : (words : List ℕ) → CanPassAll prev node count words → Passed prev node count 0 words words
  passed_none words p =
      record { long = refl; can = rw (add-zero node, sub-zero count) p; left = rw (add-zero node, sub-zero count) }

  one_less : (op : ℕ) → op < count → count - op ≡ suc (count - (op + 1))
  one_less op l = omega arith

  next-node : (op : ℕ) → node + (op + 1) ≡ suc (node + op)
  next-node op = omega arith

  one-passed : (op : ℕ) (words : List ℕ) → op < count →
      passed_by prev (node + op) (count - op) words
      ≡ passed_by prev (node + (op + 1)) (count - (op + 1)) (joined_past 0 prev (node + op) words)
  unfolding passed_by
  one-passed op words l = rw (one_less op l, next-node op)

  can-pass : (op : ℕ) (words : List ℕ) → op < count → CanPassAll prev (node + op) (count - op) words →
      CanPass 0 prev (node + op) words ×
      CanPassAll prev (node + (op + 1)) (count - (op + 1)) (joined_past 0 prev (node + op) words)
  unfolding CanPassAll
  can-pass op words l p = rw (next-node op) (rw (one_less op l) at p)

  pub passed-next : (op : ℕ) (was now : List ℕ) → op < count → Passed prev node count op was now → CanPass 0 prev (node + op) now
  passed-next op was now l p = (can-pass op now l p.can).0

  pub passed-more : (op : ℕ) (was now then : List ℕ) → op < count → then ≡ joined_past 0 prev (node + op) now →
      Passed prev node count op was now → Passed prev node count (op + 1) was then
  passed-more op was now then l e p =
      let before = word now prev (node + op) in
      let after = word now 0 (node + op) in
      rw e (record {
        long =
            length-set (set now (0 + before) after) (prev + after) before ∙ length-set now (0 + before) after ∙ p.long;
        can = (can-pass op now l p.can).1;
        left = p.left ∙ one-passed op now l;
      })

  nothing-more : (op : ℕ) (words : List ℕ) → count ≤ op → passed_by prev (node + op) (count - op) words ≡ words
  unfolding passed_by
  nothing-more op words l = let e : count - op ≡ 0 = omega arith in rw e

  pub passed-all : (op : ℕ) (was now : List ℕ) → count ≤ op → Passed prev node count op was now →
      now ≡ passed_by prev node count was
  passed-all op was now l p = sym (p.left ∙ nothing-more op now l)
