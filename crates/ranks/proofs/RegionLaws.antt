-- Laws of regions of words, and the regions of marks and sums at the places that the code computes.
use mathlib.Core.Path.{◌≡◌, refl, ap}
use mathlib.Core.Bool.{Bool, true, false, cond}
use mathlib.Core.List.{List}
use Prim.Native.Nat.{ℕ, ◌+◌, ◌*◌, ◌/◌, ◌%◌, ◌≤◌, ◌<◌}
use native.Mathlib.Omega.{arith}
use lib.ListN.{length}
use lib.Dec.{ltb}
use borrow.Author.Tests.{ltb-true, lt-ltb, le-ltb}
use Rattle.links.specs.Words.{word}
use Rattle.ranks.specs.Ranks.{bit, below, region, marks, sums32, sums1024_at, sums1024, sums32768_at, sums32768, size_for, SumsOf, Ranks}
use Rattle.ranks.proofs.SumLaws.{below-same, Moved, sums-least}

-- ------------------------------------------------------------ a region

pub region-in : (words : List ℕ) (at size i : ℕ) → i < size → region words at size i ≡ word words at i
region-in words at size i l = rw (lt-ltb i size l)

pub region-past : (words : List ℕ) (at size i : ℕ) → size ≤ i → region words at size i ≡ 0
region-past words at size i l = rw (le-ltb i size l)

pub below-region : (words : List ℕ) (at size i : ℕ) → i ≤ size → below (region words at size) i ≡ below (word words at) i
below-region words at size i l =
    below-same (region words at size) (word words at) i (λ k m. region-in words at size k (omega arith))

pub region-none : (words : List ℕ) (at size : ℕ) → ((i : ℕ) → i < size → word words at i ≡ 0) → (i : ℕ) →
    region words at size i ≡ 0
region-none words at size none i = go (ltb i size) refl
  where
    go : (b : Bool) → ltb i size ≡ b → cond b (word words at i) 0 ≡ 0
    go true e = none i (ltb-true i size e)
    go false e = refl

-- A region of sums over any numbers, as its words say it.
pub over : (low : ℕ → ℕ) (words : List ℕ) (up size : ℕ) → SumsOf low (region words up size) → (j : ℕ) → j ≤ size →
    below low (32 * j) ≡ below (word words up) j
over low words up size sums j m = omega (arith, below-region words up size j m, sums j)

pub over-least : (low : ℕ → ℕ) (words : List ℕ) (up size : ℕ) → SumsOf low (region words up size) → (s t : ℕ) → t < size →
    32 * t ≤ s → s < 32 * (t + 1) → low s ≤ word words up t
over-least low words up size sums s t m from to =
    omega (arith, region-in words up size t m, sums-least s t low (region words up size) from to sums)

-- A region of sums over another.
pub level : (words : List ℕ) (low size up size' : ℕ) → SumsOf (region words low size) (region words up size') → (j : ℕ) →
    32 * j ≤ size → j ≤ size' → below (word words low) (32 * j) ≡ below (word words up) j
level words low size up size' sums j l m =
    omega (arith, below-region words low size (32 * j) l, over (region words low size) words up size' sums j m)

pub level-least : (words : List ℕ) (low size up size' : ℕ) → SumsOf (region words low size) (region words up size') →
    (s t : ℕ) → s < size → t < size' → 32 * t ≤ s → s < 32 * (t + 1) → word words low s ≤ word words up t
level-least words low size up size' sums s t l m from to =
    omega (
      arith,
      region-in words low size s l,
      over-least (region words low size) words up size' sums s t m from to,
    )

-- Words before and after a change, of which one place of a region has another.
pub region-moved : (was now : List ℕ) (at size s d e : ℕ) → s < size → word was at s + d ≡ word now at s + e →
    ((i : ℕ) → i < size → (i ≡ s → ⊥) → word was at i ≡ word now at i) →
    Moved s d e (region was at size) (region now at size)
region-moved was now at size s d e l here other =
    record {
      here = omega (arith, region-in was at size s l, region-in now at size s l);
      other = λ i apart. go i apart (ltb i size) refl;
    }
  where
    go : (i : ℕ) → (i ≡ s → ⊥) → (b : Bool) → ltb i size ≡ b → cond b (word was at i) 0 ≡ cond b (word now at i) 0
    go i apart true e = other i (ltb-true i size e) apart
    go i apart false e = refl

-- ------------------------------------------------------------ marks

pub mark-in : (words : List ℕ) (at slots i : ℕ) → i < slots → marks words at slots i ≡ bit (word words at (i / 32)) (i % 32)
unfolding marks
mark-in words at slots i l = rw (lt-ltb i slots l)

pub mark-past : (words : List ℕ) (at slots i : ℕ) → slots ≤ i → marks words at slots i ≡ 0
unfolding marks
mark-past words at slots i l = rw (le-ltb i slots l)

-- Where the words have the same bits, the marks are the same.
pub marks-same : (was now : List ℕ) (at slots i : ℕ) →
    (i < slots → bit (word was at (i / 32)) (i % 32) ≡ bit (word now at (i / 32)) (i % 32)) →
    marks was at slots i ≡ marks now at slots i
unfolding marks
marks-same was now at slots i same = go (ltb i slots) refl
  where
    go : (b : Bool) → ltb i slots ≡ b →
        cond b (bit (word was at (i / 32)) (i % 32)) 0 ≡ cond b (bit (word now at (i / 32)) (i % 32)) 0
    go true e = same (ltb-true i slots e)
    go false e = refl

-- ------------------------------------------------------------ where the code has them

-- Where the sums stand, as the code adds it up.
abbrev pub place32 : ℕ → ℕ → ℕ
place32 at slots = at + (slots / 32 + 1)

abbrev pub place1024 : ℕ → ℕ → ℕ
place1024 at slots = place32 at slots + (slots / 32 + 1)

abbrev pub place32768 : ℕ → ℕ → ℕ
place32768 at slots = place1024 at slots + (slots / 1024 + 1)

abbrev pub region32 : List ℕ → ℕ → ℕ → ℕ → ℕ
region32 words at slots = region words (place32 at slots) (slots / 32 + 1)

abbrev pub region1024 : List ℕ → ℕ → ℕ → ℕ → ℕ
region1024 words at slots = region words (place1024 at slots) (slots / 1024 + 1)

abbrev pub region32768 : List ℕ → ℕ → ℕ → ℕ → ℕ
region32768 words at slots = region words (place32768 at slots) (slots / 32768 + 1)

-- Where a slot's mark and its sums stand.
abbrev pub spot : ℕ → ℕ → ℕ
spot at slot = at + slot / 32

abbrev pub spot32 : ℕ → ℕ → ℕ → ℕ
spot32 at slots slot = place32 at slots + slot / 32

abbrev pub spot1024 : ℕ → ℕ → ℕ → ℕ
spot1024 at slots slot = place1024 at slots + slot / 1024

abbrev pub spot32768 : ℕ → ℕ → ℕ → ℕ
spot32768 at slots slot = place32768 at slots + slot / 32768

-- They stand within the words.
pub record Inside (size at slots slot : ℕ) : Type 0 where
  pub mark : spot at slot < size
  pub by32 : spot32 at slots slot < size
  pub by1024 : spot1024 at slots slot < size
  pub by32768 : spot32768 at slots slot < size

pub inside : (size at slots slot : ℕ) → at + size_for slots ≤ size → slot ≤ slots → Inside size at slots slot
inside size at slots slot within l =
    record { mark = omega arith; by32 = omega arith; by1024 = omega arith; by32768 = omega arith }

-- ------------------------------------------------------------ the levels

-- The three levels of sums, each over the one before it.
pub record Levels (words : List ℕ) (at slots : ℕ) : Type 0 where
  pub by32 : SumsOf (marks words at slots) (region32 words at slots)
  pub by1024 : SumsOf (region32 words at slots) (region1024 words at slots)
  pub by32768 : SumsOf (region1024 words at slots) (region32768 words at slots)

-- The definitions have the same places, their terms grouped otherwise.
sums1024-at : (words : List ℕ) (at slots : ℕ) → sums1024 words at slots ≡ region1024 words at slots
unfolding sums1024
sums1024-at words at slots = ap (λ (a : ℕ). region words a (slots / 1024 + 1)) (regrouped at slots)
  where
    regrouped : (at slots : ℕ) → at + sums1024_at slots ≡ place1024 at slots
    regrouped at slots = omega arith

sums32768-at : (words : List ℕ) (at slots : ℕ) → sums32768 words at slots ≡ region32768 words at slots
unfolding sums32768
sums32768-at words at slots = ap (λ (a : ℕ). region words a (slots / 32768 + 1)) (regrouped at slots)
  where
    regrouped : (at slots : ℕ) → at + sums32768_at slots ≡ place32768 at slots
    regrouped at slots = omega arith

pub levels : (words : List ℕ) (at slots : ℕ) → Ranks words at slots → Levels words at slots
unfolding sums32
levels words at slots ranks =
    record {
      by32 = ranks.by32;
      by1024 = rw sums1024-at at ranks.by1024;
      by32768 = rw (sums1024-at, sums32768-at) at ranks.by32768;
    }

pub ranks-of : (words : List ℕ) (at slots : ℕ) → at + size_for slots ≤ length words → slots ≤ 1048576 →
    ((i : ℕ) → marks words at slots i ≤ 1) → Levels words at slots → Ranks words at slots
unfolding sums32
ranks-of words at slots within few small levels =
    record {
      within = within;
      few = few;
      small = small;
      by32 = levels.by32;
      by1024 = rw sums1024-at levels.by1024;
      by32768 = rw (sums1024-at, sums32768-at) levels.by32768;
    }
