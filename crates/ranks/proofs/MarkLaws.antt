-- Another mark for one slot, its three sums changed alike; and no marks at all.
use mathlib.Core.Path.{◌≡◌, refl, sym, ap, subst, ◌∙◌}
use mathlib.Core.Bool.{Bool, true, false, cond}
use mathlib.Core.List.{List}
use Prim.Native.Nat.{ℕ, ◌+◌, ◌-◌, ◌/◌, ◌%◌, ◌≤◌, ◌<◌}
use native.Mathlib.Decide.{dec_lt}
use native.Mathlib.Omega.{arith}
use lib.Dec.{eqb}
use lib.ListN.{length, get_or}
use borrow.Author.Tests.{eqb-true, eqb-false}
use Rattle.links.specs.Words.{word, Outside, Within, Cleared}
use Rattle.ranks.specs.Ranks.{bit, region, marks, size_for, Ranks, Marked, Blank}
use Rattle.ranks.proofs.BitLaws.{no_bits}
use Rattle.ranks.proofs.SumLaws.{Moved, sums_moved, sums_none}
use Rattle.ranks.proofs.RegionLaws.{region-none, region-moved, mark-in, mark-past, marks-same, spot, place32, place1024, place32768, region32, region1024, region32768, spot32, spot1024, spot32768, inside, Levels, levels, ranks-of}
use Rattle.ranks.proofs.LevelLaws.{Holds, holds}
use Rattle.ranks.proofs.StoreLaws.{one, two, three, four, read-b, read-c, read-d, Stored, stored}

-- ------------------------------------------------------------ another mark

-- What a sum is before it is changed: no less than the mark that the slot had, and small.
abbrev pub Room : ℕ → ℕ → Type 0
Room mark sum = (mark ≤ sum) × (sum ≤ 1048576)

-- The new word of the slot's mark has that mark, and the others as they were.
pub record Turned (mark i was now : ℕ) : Type 0 where
  pub here : bit now i ≡ mark
  pub other : (j : ℕ) → (j ≡ i → ⊥) → bit now j ≡ bit was j

module _ (op : ℕ → ℕ) (v : ℕ) (words : List ℕ) (at slots slot : ℕ) (ranks : Ranks words at slots) (l : slot < slots) where
  -- The words after the store of the mark, and after each change of a sum.
  abbrev with-mark : List ℕ
  with-mark = one op v (spot at slot) (spot32 at slots slot) (spot1024 at slots slot) (spot32768 at slots slot) words

  abbrev with-32 : List ℕ
  with-32 = two op v (spot at slot) (spot32 at slots slot) (spot1024 at slots slot) (spot32768 at slots slot) words

  abbrev with-1024 : List ℕ
  with-1024 = three op v (spot at slot) (spot32 at slots slot) (spot1024 at slots slot) (spot32768 at slots slot) words

  abbrev with_all : List ℕ
  with_all = four op v (spot at slot) (spot32 at slots slot) (spot1024 at slots slot) (spot32768 at slots slot) words

  holding : Holds words at slots slot
  holding = holds words at slots ranks slot l

  past-mark : spot at slot < spot32 at slots slot
  past-mark = omega arith

  past-32 : spot32 at slots slot < spot1024 at slots slot
  past-32 = omega arith

  past-1024 : spot1024 at slots slot < spot32768 at slots slot
  past-1024 = omega arith

  pub room32 : Room (marks words at slots slot) (get_or with-mark (spot32 at slots slot) 0)
  room32 = omega (arith, holding, read-b op v _ _ _ _ words past-mark past-32 past-1024)

  pub room1024 : Room (marks words at slots slot) (get_or with-32 (spot1024 at slots slot) 0)
  room1024 = omega (arith, holding, read-c op v _ _ _ _ words past-mark past-32 past-1024)

  pub room32768 : Room (marks words at slots slot) (get_or with-1024 (spot32768 at slots slot) 0)
  room32768 = omega (arith, holding, read-d op v _ _ _ _ words past-mark past-32 past-1024)

  stores : Stored op v (spot at slot) (spot32 at slots slot) (spot1024 at slots slot) (spot32768 at slots slot) words with_all
  stores =
      stored op v _ _ _ _ words past-mark past-32 past-1024
      (inside (length words) at slots slot ranks.within (omega arith)).by32768

  within-stores : Within at (size_for slots) words with_all
  within-stores =
      record {
        long = stores.long;
        same = λ x o.
            stores.other x (apart x o _ (omega arith) (omega arith)) (apart x o _ (omega arith) (omega arith))
            (apart x o _ (omega arith) (omega arith)) (apart x o _ (omega arith) (omega arith));
      }
    where
      apart : (x : ℕ) → Outside at (size_for slots) x → (y : ℕ) → at ≤ y → y < at + size_for slots → x ≡ y → ⊥
      apart x o y from to q = omega (arith, q, o (omega (arith, q)))

  -- The mark and each of its sums: what it was, plus d, is what it becomes, plus e. So one law serves both functions:
  -- put_in has d = 1 and e = 0, take_out d = 0 and e = 1.
  module _ (new d e : ℕ) (turned : Turned new (slot % 32) (word words at (slot / 32)) v) (held : e ≤ marks words at slots slot)
      (mark : marks words at slots slot + d ≡ new + e) (sums : (x : ℕ) → e ≤ x → x + d ≡ op x + e) where
    mark-now : marks with_all at slots slot ≡ new
    mark-now = mark-in with_all at slots slot l ∙ ap (λ (x : ℕ). bit x (slot % 32)) stores.at_a ∙ turned.here

    -- Another slot's bit stands in another word, or in the same one at another place.
    bit-same : (i : ℕ) → (i ≡ slot → ⊥) → i < slots →
        bit (word words at (i / 32)) (i % 32) ≡ bit (word with_all at (i / 32)) (i % 32)
    bit-same i ne m = go (eqb (i / 32) (slot / 32)) refl
      where
        go : (b : Bool) → eqb (i / 32) (slot / 32) ≡ b → bit (word words at (i / 32)) (i % 32) ≡ bit (word with_all at (i / 32)) (i % 32)
        go true q =
            let block = eqb-true (i / 32) (slot / 32) q in
            rw block
            (sym (turned.other (i % 32) (λ r. ne (omega (arith, r, block)))) ∙ sym (ap (λ (x : ℕ). bit x (i % 32)) stores.at_a))
        go false q =
            ap (λ (x : ℕ). bit x (i % 32))
            (sym (stores.other (at + i / 32) (λ r. eqb-false (i / 32) (slot / 32) q (omega (arith, r))) (omega arith) (omega arith) (omega arith)))

    moved_marks : Moved slot d e (marks words at slots) (marks with_all at slots)
    moved_marks =
        record {
          here = omega (arith, mark, mark-now);
          other = λ i ne. marks-same words with_all at slots i (bit-same i ne);
        }

    moved-32 : Moved (slot / 32) d e (region32 words at slots) (region32 with_all at slots)
    moved-32 =
        region-moved words with_all (place32 at slots) (slots / 32 + 1) (slot / 32) d e (omega arith)
        (omega (arith, stores.at_b, sums (word words (place32 at slots) (slot / 32)) (omega (arith, holding))))
        (λ i m ne. sym (stores.other (place32 at slots + i) (omega arith) (λ q. ne (omega arith)) (omega arith) (omega arith)))

    moved-1024 : Moved (slot / 1024) d e (region1024 words at slots) (region1024 with_all at slots)
    moved-1024 =
        region-moved words with_all (place1024 at slots) (slots / 1024 + 1) (slot / 1024) d e (omega arith)
        (omega (arith, stores.at_c, sums (word words (place1024 at slots) (slot / 1024)) (omega (arith, holding))))
        (λ i m ne. sym (stores.other (place1024 at slots + i) (omega arith) (omega arith) (λ q. ne (omega arith)) (omega arith)))

    moved-32768 : Moved (slot / 32768) d e (region32768 words at slots) (region32768 with_all at slots)
    moved-32768 =
        region-moved words with_all (place32768 at slots) (slots / 32768 + 1) (slot / 32768) d e (omega arith)
        (omega (arith, stores.at-d, sums (word words (place32768 at slots) (slot / 32768)) (omega (arith, holding))))
        (λ i m ne. sym (stores.other (place32768 at slots + i) (apart i) (omega arith) (omega arith) (λ q. ne (omega arith))))
      where
        -- By itself, since omega meets a bound of its own where `ne` is in reach.
        apart : (i : ℕ) → place32768 at slots + i ≡ spot at slot → ⊥
        apart i = omega arith

    levels-after : Levels with_all at slots
    levels-after =
        let was = levels words at slots ranks in
        record {
          by32 = sums_moved slot (slot / 32) d e _ _ _ _ (omega arith) (omega arith) moved_marks moved-32 was.by32;
          by1024 =
              sums_moved (slot / 32) (slot / 1024) d e _ _ _ _ (omega arith) (omega arith) moved-32 moved-1024 was.by1024;
          by32768 =
              sums_moved (slot / 1024) (slot / 32768) d e _ _ _ _ (omega arith) (omega arith) moved-1024 moved-32768
              was.by32768;
        }

    marks-after : (i : ℕ) → marks with_all at slots i ≡ cond (eqb i slot) new (marks words at slots i)
    marks-after i = go (eqb i slot) refl
      where
        go : (b : Bool) → eqb i slot ≡ b → marks with_all at slots i ≡ cond b new (marks words at slots i)
        go true q = rw (eqb-true i slot q) mark-now
        go false q = sym (moved_marks.other i (eqb-false i slot q))

    pub marked : new ≤ 1 → Marked at slots slot new words with_all
    marked small =
        record {
          ranks =
              ranks-of with_all at slots (omega (arith, stores.long, ranks.within)) ranks.few
              (λ i. omega (arith, marks-after i, either i (eqb i slot))) levels-after;
          marked = marks-after;
          within = within-stores;
        }
      where
        either : (i : ℕ) (b : Bool) → cond b new (marks words at slots i) ≤ 1
        either i true = small
        either i false = ranks.small i

-- ------------------------------------------------------------ no marks

module _ (was now : List ℕ) (at slots : ℕ) (fits : at + size_for slots ≤ length was)
    (cleared : Cleared at (size_for slots) was now) where
  zeros : (x : ℕ) → at ≤ x → x < at + size_for slots → get_or now x 0 ≡ 0
  zeros x from to = subst (λ (n : ℕ). get_or now n 0 ≡ 0) (back x from) (cleared.zero (x - at) (omega arith))
    where
      back : (x : ℕ) → at ≤ x → at + (x - at) ≡ x
      back x from = omega arith

  none : (place size : ℕ) → at ≤ place → place + size ≤ at + size_for slots → (i : ℕ) → region now place size i ≡ 0
  none place size from to = region-none now place size (λ i l. zeros (place + i) (omega arith) (omega arith))

  pub blank : slots ≤ 1048576 → Blank at slots was now
  blank few =
      record {
        ranks =
            ranks-of now at slots (omega (arith, cleared.within.long)) few (λ i. omega (arith, no-marks i))
            (record {
              by32 = sums_none _ _ no-marks no-32;
              by1024 = sums_none _ _ no-32 no-1024;
              by32768 = sums_none _ _ no-1024 no-32768;
            });
        none = no-marks;
        within = cleared.within;
      }
    where
      no-marks : (i : ℕ) → marks now at slots i ≡ 0
      no-marks i =
          elim (dec_lt i slots) [
            | yes h ↦
                mark-in now at slots i h ∙ ap (λ (x : ℕ). bit x (i % 32)) (zeros (at + i / 32) (omega arith) (omega (arith, h)))
                ∙ no_bits (i % 32)
            | no h ↦ mark-past now at slots i (omega (arith, h))
          ]

      no-32 : (i : ℕ) → region32 now at slots i ≡ 0
      no-32 = none (place32 at slots) (slots / 32 + 1) (omega arith) (omega arith)

      no-1024 : (i : ℕ) → region1024 now at slots i ≡ 0
      no-1024 = none (place1024 at slots) (slots / 1024 + 1) (omega arith) (omega arith)

      no-32768 : (i : ℕ) → region32768 now at slots i ≡ 0
      no-32768 = none (place32768 at slots) (slots / 32768 + 1) (omega arith) (omega arith)
