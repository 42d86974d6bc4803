-- What the words of marks and sums say of each other, where the code reads them.
use mathlib.Core.Path.{◌≡◌, refl, ap, ◌∙◌}
use mathlib.Core.Bool.{Bool, true, false, cond}
use mathlib.Core.List.{List}
use Prim.Native.Nat.{ℕ, zero, suc, ◌+◌, ◌*◌, ◌-◌, ◌/◌, ◌%◌, ◌≤◌, ◌<◌}
use native.Mathlib.Decide.{dec_lt}
use native.Mathlib.Omega.{arith}
use lib.Dec.{ltb}
use borrow.Author.Tests.{ltb-true, ltb-false, lt-ltb, le-ltb}
use Rattle.links.specs.Words.{word}
use Rattle.ranks.specs.Ranks.{bit, below, marks, Ranks}
use Rattle.ranks.proofs.SumLaws.{below_none, below-mono, below_next, below-marks}
use Rattle.ranks.proofs.RegionLaws.{region-in, mark-in, mark-past, over, over-least, level, level-least, place32, place1024, place32768, region32768, Levels, levels}

-- The parts of a slot's position, level by level: what a level has below the slot's block, the level under it has below
-- that block's start. So the sums of the words from there on add up.
pub record Parts (words : List ℕ) (at slots slot : ℕ) : Type 0 where
  pub none : below (word words (place32768 at slots)) 0 ≡ 0
  pub by32768 : below (word words (place1024 at slots)) (32 * (slot / 32768))
      ≡ below (word words (place32768 at slots)) (slot / 32768)
  pub to1024 : below (word words (place1024 at slots)) (32 * (slot / 32768))
      ≤ below (word words (place1024 at slots)) (slot / 1024)
  pub by1024 : below (word words (place32 at slots)) (32 * (slot / 1024))
      ≡ below (word words (place1024 at slots)) (slot / 1024)
  pub to32 : below (word words (place32 at slots)) (32 * (slot / 1024)) ≤ below (word words (place32 at slots)) (slot / 32)
  pub by32 : below (marks words at slots) (32 * (slot / 32)) ≡ below (word words (place32 at slots)) (slot / 32)
  pub whole : below (marks words at slots) slot
      ≡ below (marks words at slots) (32 * (slot / 32)) + below (bit (word words at (slot / 32))) (slot % 32)
  pub most : below (marks words at slots) slot ≤ 1048576

-- A slot's mark is in each of its sums, so these are no less; and they are small.
pub record Holds (words : List ℕ) (at slots slot : ℕ) : Type 0 where
  pub by32 : marks words at slots slot ≤ word words (place32 at slots) (slot / 32)
  pub by1024 : word words (place32 at slots) (slot / 32) ≤ word words (place1024 at slots) (slot / 1024)
  pub by32768 : word words (place1024 at slots) (slot / 1024) ≤ word words (place32768 at slots) (slot / 32768)
  pub most : word words (place32768 at slots) (slot / 32768) ≤ 1048576

-- A slot's block and its place there.
place_of : (j m : ℕ) → m < 32 → (32 * j + m) / 32 ≡ j
place_of j m l = omega arith

rest_of : (j m : ℕ) → m < 32 → (32 * j + m) % 32 ≡ m
rest_of j m l = omega arith

parted : (slot : ℕ) → slot ≡ 32 * (slot / 32) + slot % 32
parted slot = omega arith

start_of : (j : ℕ) → 32 * j + 0 ≡ 32 * j
start_of j = omega arith

after : (j m : ℕ) → 32 * j + suc m ≡ suc (32 * j + m)
after j m = omega arith

next : (j : ℕ) → 32 * j + 32 ≡ 32 * (j + 1)
next j = omega arith

-- A block has 32 slots, or those that are left.
abbrev block_size : ℕ → ℕ → ℕ
block_size slots j = cond (ltb (slots - 32 * j) 32) (slots - 32 * j) 32

pub block-fits : (slots j count : ℕ) → 32 * j ≤ slots → count ≡ block_size slots j → (count ≤ 32) × (32 * j + count ≤ slots)
block-fits slots j count l e = go (ltb (slots - 32 * j) 32) refl
  where
    go : (b : Bool) → ltb (slots - 32 * j) 32 ≡ b → (count ≤ 32) × (32 * j + count ≤ slots)
    go true t =
        let is = e ∙ ap (λ (b : Bool). cond b (slots - 32 * j) 32) t in
        (omega (arith, is, ltb-true (slots - 32 * j) 32 t), omega (arith, is))
    go false t =
        let is = e ∙ ap (λ (b : Bool). cond b (slots - 32 * j) 32) t in
        (omega (arith, is), omega (arith, is, ltb-false (slots - 32 * j) 32 t))

module _ (words : List ℕ) (at slots : ℕ) (ranks : Ranks words at slots) where
  end : (j : ℕ) → j ≤ slots / 32 → 32 * j + (slots - 32 * j) ≡ slots
  end j l = omega arith

  -- The marks of a block are the bits of its word.
  block-mark : (j m : ℕ) → m < 32 → 32 * j + m < slots → marks words at slots (32 * j + m) ≡ bit (word words at j) m
  block-mark j m l fits = rw (place_of j m l, rest_of j m l) at (mark-in words at slots (32 * j + m) fits)

  pub block : (j m : ℕ) → m ≤ 32 → 32 * j + m ≤ slots →
      below (marks words at slots) (32 * j + m) ≡ below (marks words at slots) (32 * j) + below (bit (word words at j)) m
  unfolding below
  block j zero l fits = omega (arith, ap (below (marks words at slots)) (start_of j))
  block j (suc m) l fits =
      omega (
        arith,
        ap (below (marks words at slots)) (after j m),
        block j m (omega arith) (omega arith),
        block-mark j m (omega arith) (omega arith),
      )

  pub level32 : (j : ℕ) → j ≤ slots / 32 → below (marks words at slots) (32 * j) ≡ below (word words (place32 at slots)) j
  level32 j l =
      over (marks words at slots) words (place32 at slots) (slots / 32 + 1) (levels words at slots ranks).by32 j (omega arith)

  pub level1024 : (j : ℕ) → j ≤ slots / 1024 →
      below (word words (place32 at slots)) (32 * j) ≡ below (word words (place1024 at slots)) j
  level1024 j l =
      level words (place32 at slots) (slots / 32 + 1) (place1024 at slots) (slots / 1024 + 1)
      (levels words at slots ranks).by1024 j (omega arith) (omega arith)

  pub level32768 : (j : ℕ) → j ≤ slots / 32768 →
      below (word words (place1024 at slots)) (32 * j) ≡ below (word words (place32768 at slots)) j
  level32768 j l =
      level words (place1024 at slots) (slots / 1024 + 1) (place32768 at slots) (slots / 32768 + 1)
      (levels words at slots ranks).by32768 j (omega arith) (omega arith)

  marks-most : (i : ℕ) → below (marks words at slots) i ≤ 1048576
  marks-most i =
      omega (
        arith,
        below-marks (marks words at slots) slots ranks.small (λ k l. mark-past words at slots k l) i,
        ranks.few,
      )

  pub parts : (slot : ℕ) → slot ≤ slots → Parts words at slots slot
  parts slot l =
      record {
        none = below_none (word words (place32768 at slots));
        by32768 = level32768 (slot / 32768) (omega arith);
        to1024 = below-mono (word words (place1024 at slots)) (32 * (slot / 32768)) (slot / 1024) (omega arith);
        by1024 = level1024 (slot / 1024) (omega arith);
        to32 = below-mono (word words (place32 at slots)) (32 * (slot / 1024)) (slot / 32) (omega arith);
        by32 = level32 (slot / 32) (omega arith);
        whole = ap (below (marks words at slots)) (parted slot) ∙ block (slot / 32) (slot % 32) (omega arith) (omega arith);
        most = marks-most slot;
      }

  pub holds : (slot : ℕ) → slot < slots → Holds words at slots slot
  holds slot l =
      record {
        by32 =
            over-least (marks words at slots) words (place32 at slots) (slots / 32 + 1) sums.by32 slot (slot / 32)
            (omega arith) (omega arith) (omega arith);
        by1024 =
            level-least words (place32 at slots) (slots / 32 + 1) (place1024 at slots) (slots / 1024 + 1) sums.by1024
            (slot / 32) (slot / 1024) (omega arith) (omega arith) (omega arith) (omega arith);
        by32768 =
            level-least words (place1024 at slots) (slots / 1024 + 1) (place32768 at slots) (slots / 32768 + 1) sums.by32768
            (slot / 1024) (slot / 32768) (omega arith) (omega arith) (omega arith) (omega arith);
        most = top (slot / 32768) (omega arith);
      }
    where
      sums : Levels words at slots
      sums = levels words at slots ranks

      top : (j : ℕ) → j < slots / 32768 + 1 → word words (place32768 at slots) j ≤ 1048576
      top j l =
          omega (
            arith,
            region-in words (place32768 at slots) (slots / 32768 + 1) j l,
            below_next (region32768 words at slots) j,
            sums.by32768 (j + 1),
            sums.by1024 (32 * (j + 1)),
            sums.by32 (32 * (32 * (j + 1))),
            marks-most (32 * (32 * (32 * (j + 1)))),
          )

  -- A search of the sums stops at a block that the position is in: what is left is less than the block's marks.
  pub reached : (j left position count : ℕ) → j ≤ slots / 32 → left + below (marks words at slots) (32 * j) ≡ position →
      (j < slots / 32 → left < word words (place32 at slots) j) → position < below (marks words at slots) slots →
      count ≡ block_size slots j → position < below (marks words at slots) (32 * j + count)
  reached j left position count to sum here some e =
      elim (dec_lt j (slots / 32)) [
        | yes h ↦ omega (arith, whole h, here h, sum, level32 j to, level32 (j + 1) (omega (arith, h)), below_next (word words (place32 at slots)) j)
        | no h ↦ omega (arith, last h, some)
      ]
    where
      whole : j < slots / 32 → below (marks words at slots) (32 * j + count) ≡ below (marks words at slots) (32 * (j + 1))
      whole h =
          ap (below (marks words at slots))
          (ap (λ (x : ℕ). 32 * j + x) (e ∙ ap (λ (b : Bool). cond b (slots - 32 * j) 32) (le-ltb (slots - 32 * j) 32 (omega (arith, h)))) ∙ next j)

      last : (j < slots / 32 → ⊥) → below (marks words at slots) (32 * j + count) ≡ below (marks words at slots) slots
      last h =
          ap (below (marks words at slots))
          (ap (λ (x : ℕ). 32 * j + x) (e ∙ ap (λ (b : Bool). cond b (slots - 32 * j) 32) (lt-ltb (slots - 32 * j) 32 (omega (arith, h)))) ∙ end j to)

  -- Where a search of that block's bits stops: at the slot.
  pub found : (j count place left sum position : ℕ) → count ≤ 32 → 32 * j + count ≤ slots →
      position < below (marks words at slots) (32 * j + count) → sum + below (marks words at slots) (32 * j) ≡ position → place ≤ count →
      left + below (bit (word words at j)) place ≡ sum → (place < count → left < bit (word words at j) place) →
      (32 * j + place < slots) × (marks words at slots (32 * j + place) ≡ 1) × (below (marks words at slots) (32 * j + place) ≡ position)
  found j count place left sum position small fits some start to rest here =
      elim (dec_lt place count) [
        | yes h ↦
            omega (arith, h, here h, block-mark j place (omega (arith, h)) (omega (arith, h)), ranks.small (32 * j + place), block j place (omega arith) (omega arith))
        | no h ↦ omega (arith, some, block j count small fits, ap (below (bit (word words at j))) (all h))
      ]
    where
      all : (place < count → ⊥) → place ≡ count
      all h = omega (arith, h)
