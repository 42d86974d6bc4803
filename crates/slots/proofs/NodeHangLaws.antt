-- Laws of nodes that are put on the stacks of their wires: what the code does for all three words of a record is what is
-- meant for those that are wires, but for the cells past them.
use mathlib.Core.Path.{◌≡◌, refl}
use mathlib.Core.Bool.{cond}
use mathlib.Core.List.{List, [], ◌∷◌}
use Prim.Native.Nat.{ℕ, zero, suc, ◌+◌, ◌*◌, ◌-◌, ◌/◌, ◌≤◌, ◌<◌}
use native.Mathlib.Numerals.{add-one}
use native.Mathlib.Omega.{arith}
use lib.Dec.{eqb, ltb}
use lib.ListN.{length, get_or, take, set}
use Rattle.gates.specs.declared.records.Record.{Record}
use Rattle.gates.specs.Gates.{All}
use Rattle.gates.specs.Records.{operand_words}
use Rattle.gates.proofs.RecordLaws.{one-to-three}
use Rattle.links.specs.Words.{Within}
use Rattle.links.proofs.WordLaws.{within_none, within-then, within-set}
use Rattle.slots.specs.Nodes.{hung}
use Rattle.slots.proofs.NodeLaws.{Counted}

-- ------------------------------------------------------------ where a node is put

-- On the end of its wire; past the wires, on its own cell.
abbrev pub head_of : ℕ → ℕ → ℕ → ℕ → ℕ
head_of op count end cell = cond (ltb op count) end cell

-- The code has the one or the other by a product with 0 or 1.
zero-or-one : (P : ℕ → Type 0) → P 0 → P 1 → (n : ℕ) → n ≤ 1 → P n
zero-or-one P p q zero l = p
zero-or-one P p q (suc zero) l = q
zero-or-one P p q (suc (suc n)) l = absurd (omega arith)

pub one-small : (n w : ℕ) → n ≤ 1 → n * w ≤ w
one-small n w = zero-or-one (λ (n : ℕ). n * w ≤ w) (omega arith) (omega arith) n

pub one_of : (n one other : ℕ) → n ≤ 1 → other ≤ one → other + n * (one - other) ≡ cond (eqb n 1) one other
one_of n one other m l =
    zero-or-one (λ (n : ℕ). other + n * (one - other) ≡ cond (eqb n 1) one other) (omega arith) (omega arith) n m

pub second_head : (count end cell : ℕ) → 1 ≤ count → count ≤ 3 → cond (eqb (count / 2) 1) end cell ≡ head_of 1 count end cell
second_head count end cell =
    one-to-three (λ (count : ℕ). cond (eqb (count / 2) 1) end cell ≡ head_of 1 count end cell) refl refl refl count

pub third-head : (count end cell : ℕ) → 1 ≤ count → count ≤ 3 → cond (eqb ((count + 1) / 4) 1) end cell ≡ head_of 2 count end cell
third-head count end cell =
    one-to-three (λ (count : ℕ). cond (eqb ((count + 1) / 4) 1) end cell ≡ head_of 2 count end cell) refl refl refl count

-- Each place is within the words.
pub record Heads (size a b c : ℕ) : Type 0 where
  pub first : a < size
  pub second : b < size
  pub third : c < size

pub heads-in : (size n ends cell a b c count : ℕ) → ends + n ≤ size → cell + 2 < ends → 1 ≤ count → count ≤ 3 →
    All (λ w. w < n) (take count (a ∷ b ∷ c ∷ [])) →
    Heads size (ends + a) (head_of 1 count (ends + b) (cell + 1)) (head_of 2 count (ends + c) (cell + 2))
heads-in size n ends cell a b c count fits low =
    one-to-three
    (λ (count : ℕ).
    All (λ w. w < n) (take count (a ∷ b ∷ c ∷ [])) →
    Heads size (ends + a) (head_of 1 count (ends + b) (cell + 1)) (head_of 2 count (ends + c) (cell + 2)))
    (λ p. record { first = omega (arith, p.0); second = omega arith; third = omega arith })
    (λ p. record { first = omega (arith, p.0); second = omega (arith, p.1.0); third = omega arith })
    (λ p. record { first = omega (arith, p.0); second = omega (arith, p.1.0); third = omega (arith, p.1.1.0) }) count

-- ------------------------------------------------------------ a node is put on

-- What `push_on` does.
abbrev pub put_on : List ℕ → ℕ → ℕ → ℕ → List ℕ
put_on words head cell node = set (set words cell (get_or words head 0)) head node

-- On its own cell: nothing else changes.
own-within : (at size : ℕ) (words : List ℕ) (cell node : ℕ) → at ≤ cell → cell < at + size → Within at size words (put_on words cell cell node)
own-within at size words cell node from to =
    within-then at size words (set words cell (get_or words cell 0)) (put_on words cell cell node)
    (within-set at size words cell (get_or words cell 0) from to)
    (within-set at size (set words cell (get_or words cell 0)) cell node from to)

-- ------------------------------------------------------------ all three in a row

module _ (side ends node a b c : ℕ) (words : List ℕ) where
  -- The words after each step, as the code has them.
  abbrev once : List ℕ
  once = put_on words (side + ends + a) (side + node) node

  abbrev twice : ℕ → List ℕ
  twice count = put_on once (head_of 1 count (side + ends + b) (side + node + 1)) (side + node + 1) (node + 1)

  abbrev thrice : ℕ → List ℕ
  thrice count = put_on (twice count) (head_of 2 count (side + ends + c) (side + node + 2)) (side + node + 2) (node + 2)

  abbrev Hangs : ℕ → Type 0
  Hangs count =
      Within (side + node + count) (3 - count) (hung side ends node (take count (a ∷ b ∷ c ∷ [])) words) (thrice count)

  -- The code counts cells and nodes by + 1 and + 2.
  second-cell : side + node + 1 ≡ side + suc node
  second-cell = omega arith

  third-cell : side + node + 2 ≡ side + suc (suc node)
  third-cell = omega arith

  third-node : node + 2 ≡ suc (suc node)
  third-node = omega arith

  hung-twice : hung side ends node (a ∷ b ∷ []) words ≡ twice 2
  unfolding hung
  hung-twice = rw (second-cell, add-one node)

  hung-thrice : hung side ends node (a ∷ b ∷ c ∷ []) words ≡ thrice 3
  unfolding hung
  hung-thrice = rw (second-cell, add-one node, third-cell, third-node)

  hangs-1 : Hangs 1
  unfolding hung
  hangs-1 =
      within-then (side + node + 1) 2 once (twice 1) (thrice 1)
      (own-within (side + node + 1) 2 once (side + node + 1) (node + 1) (omega arith) (omega arith))
      (own-within (side + node + 1) 2 (twice 1) (side + node + 2) (node + 2) (omega arith) (omega arith))

  hangs-2 : Hangs 2
  hangs-2 = rw hung-twice (own-within (side + node + 2) 1 (twice 2) (side + node + 2) (node + 2) (omega arith) (omega arith))

  hangs-3 : Hangs 3
  hangs-3 = rw hung-thrice (within_none (side + node + 3) 0 (thrice 3))

  hangs : (count : ℕ) → 1 ≤ count → count ≤ 3 → Hangs count
  hangs = one-to-three Hangs hangs-1 hangs-2 hangs-3

-- The same where the words after each step, and the second place and the third, have names of their own.
pub hangs-as : (side ends node : ℕ) (r : Record) (count b c : ℕ) (words words₁ words₂ words₃ : List ℕ) → Counted r count →
    b ≡ head_of 1 count (side + ends + r.second) (side + node + 1) → c ≡ head_of 2 count (side + ends + r.third) (side + node + 2) →
    words₁ ≡ put_on words (side + ends + r.first) (side + node) node → words₂ ≡ put_on words₁ b (side + node + 1) (node + 1) →
    words₃ ≡ put_on words₂ c (side + node + 2) (node + 2) →
    Within (side + node + length (operand_words r)) (3 - length (operand_words r)) (hung side ends node (operand_words r) words) words₃
hangs-as side ends node r count b c words words₁ words₂ words₃ counted eb ec e₁ e₂ e₃ =
    rw (← counted.long, counted.are, e₃, e₂, e₁, eb, ec)
    (hangs side ends node r.first r.second r.third words count counted.some counted.few)
