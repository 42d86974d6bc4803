-- Laws of sums: of numbers that agree, of more of them, of a slice of words, of numbers that differ at one index, and of the
-- sums of 32.
use mathlib.Core.Path.{◌≡◌, refl, ap}
use mathlib.Core.List.{List}
use Prim.Native.Nat.{ℕ, zero, suc, ◌+◌, ◌-◌, ◌*◌, ◌≤◌, ◌<◌}
use native.Mathlib.Decide.{dec_lt}
use native.Mathlib.Nat.{add_assoc}
use native.Mathlib.Numerals.{add-one}
use native.Mathlib.Omega.{arith}
use lib.ListN.{length, take, drop, length-drop}
use Rattle.std.specs.List.{sum}
use Rattle.std.proofs.lemmas.List.{get_or-drop}
use Rattle.std.proofs.lemmas.List.Sums.{sum_by_more}
use Rattle.links.specs.Words.{word}
use Rattle.ranks.specs.Ranks.{below, SumsOf}

-- ------------------------------------------------------------ one list of numbers

pub below_none : (f : ℕ → ℕ) → below f 0 ≡ 0
unfolding below
below_none f = refl

pub below_next : (f : ℕ → ℕ) (i : ℕ) → below f (i + 1) ≡ below f i + f i
unfolding below
below_next f i = ap (below f) (add-one i)

pub below-mono : (f : ℕ → ℕ) (i j : ℕ) → i ≤ j → below f i ≤ below f j
unfolding below
below-mono f i zero l = omega (arith, ap (below f) (only_zero i l))
  where
    only_zero : (i : ℕ) → i ≤ 0 → i ≡ 0
    only_zero i l = omega arith
below-mono f i (suc j) l =
    elim (dec_lt j i) [
      | yes h ↦ omega (arith, ap (below f) (last h))
      | no h ↦ omega (arith, below-mono f i j (omega (arith, h)))
    ]
  where
    last : j < i → i ≡ suc j
    last h = omega arith

-- One of those between is no more than their sum.
below-between : (f : ℕ → ℕ) (a s b : ℕ) → a ≤ s → s < b → below f a + f s ≤ below f b
below-between f a s b l m =
    omega (arith, below-mono f a s l, below_next f s, below-mono f (s + 1) b (omega arith))

below_each : (f : ℕ → ℕ) → ((i : ℕ) → f i ≤ 1) → (i : ℕ) → below f i ≤ i
unfolding below
below_each f small zero = omega arith
below_each f small (suc i) = omega (arith, below_each f small i, small i)

-- Marks: each is 0 or 1, and past so many each is 0.
pub below-marks : (f : ℕ → ℕ) (size : ℕ) → ((i : ℕ) → f i ≤ 1) → ((i : ℕ) → size ≤ i → f i ≡ 0) → (i : ℕ) →
    below f i ≤ size
unfolding below
below-marks f size small past zero = omega arith
below-marks f size small past (suc i) =
    elim (dec_lt i size) [
      | yes h ↦ omega (arith, below_each f small i, small i)
      | no h ↦ omega (arith, past i (omega (arith, h)), below-marks f size small past i)
    ]

-- ------------------------------------------------------------ a slice of words

-- So many words after the first.
sum-next : (words : List ℕ) (at from n : ℕ) → at + from + n ≤ length words →
    sum (take n (drop (at + from) words)) + below (word words at) from ≡ below (word words at) (from + n)
sum-next words at from zero l = grind arith
sum-next words at from (suc n) l =
    let more = simp add-one at (sum_by_more (λ x. x) (drop (at + from) words) n 0 (simp length-drop (omega arith))) in
    let here = simp add_assoc at (get_or-drop (at + from) words n 0) in
    let next = simp (add_assoc, add-one) at (below_next (word words at) (from + n)) in
    omega (arith, sum-next words at from n (omega arith))

-- The words of a slice.
pub sum-slice : (words : List ℕ) (at from to : ℕ) → from ≤ to → at + to ≤ length words →
    sum (take (at + to - (at + from)) (drop (at + from) words)) + below (word words at) from ≡ below (word words at) to
sum-slice words at from to m l =
    let e : at + to - (at + from) ≡ to - from = omega arith in
    let f : from + (to - from) ≡ to = omega arith in
    rw e (rw f at (sum-next words at from (to - from) (omega arith)))

-- ------------------------------------------------------------ two lists of numbers

pub below-same : (f g : ℕ → ℕ) (i : ℕ) → ((k : ℕ) → k < i → f k ≡ g k) → below f i ≡ below g i
unfolding below
below-same f g zero same = refl
below-same f g (suc i) same = omega (arith, below-same f g i (λ k l. same k (omega arith)), same i (omega arith))

-- They differ at one index: one plus d is the other plus e. With d = 1 and e = 0 it goes up by one, with 0 and 1 down.
pub record Moved (s d e : ℕ) (f g : ℕ → ℕ) : Type 0 where
  pub here : f s + d ≡ g s + e
  pub other : (i : ℕ) → (i ≡ s → ⊥) → f i ≡ g i

moved_before : (s d e : ℕ) (f g : ℕ → ℕ) → Moved s d e f g → (j : ℕ) → j ≤ s → below f j ≡ below g j
moved_before s d e f g m j l = below-same f g j (λ k h. m.other k (λ q. omega arith))

moved-after : (s d e : ℕ) (f g : ℕ → ℕ) → Moved s d e f g → (j : ℕ) → s < j → below f j + d ≡ below g j + e
unfolding below
moved-after s d e f g m zero l = omega arith
moved-after s d e f g m (suc j) l =
    elim (dec_lt s j) [
      | yes h ↦ omega (arith, moved-after s d e f g m j h, m.other j (λ q. omega arith))
      | no h ↦ omega (arith, moved_before s d e f g m j (omega (arith, h)), m.here, ap f (same h), ap g (same h))
    ]
  where
    same : (s < j → ⊥) → s ≡ j
    same h = omega arith

-- ------------------------------------------------------------ sums of 32

-- The sums stay those of the numbers that they add, where a number and its sum are moved alike.
pub sums_moved : (s t d e : ℕ) (lower lower' upper upper' : ℕ → ℕ) → 32 * t ≤ s → s < 32 * (t + 1) →
    Moved s d e lower lower' → Moved t d e upper upper' → SumsOf lower upper → SumsOf lower' upper'
sums_moved s t d e lower lower' upper upper' from to low up sums j =
    elim (dec_lt t j) [
      | yes h ↦
          omega (
            arith,
            moved-after s d e lower lower' low (32 * j) (omega arith),
            moved-after t d e upper upper' up j h,
            sums j,
          )
      | no h ↦
          omega (
            arith,
            moved_before s d e lower lower' low (32 * j) (omega (arith, h)),
            moved_before t d e upper upper' up j (omega (arith, h)),
            sums j,
          )
    ]

-- A sum is no less than one of those that it adds.
pub sums-least : (s t : ℕ) (lower upper : ℕ → ℕ) → 32 * t ≤ s → s < 32 * (t + 1) → SumsOf lower upper → lower s ≤ upper t
sums-least s t lower upper from to sums =
    omega (arith, below_next upper t, sums t, sums (t + 1), below-between lower (32 * t) s (32 * (t + 1)) from to)

pub sums_none : (lower upper : ℕ → ℕ) → ((i : ℕ) → lower i ≡ 0) → ((i : ℕ) → upper i ≡ 0) → SumsOf lower upper
sums_none lower upper low up j = omega (arith, zeros lower low (32 * j), zeros upper up j)
  where
    zeros : (f : ℕ → ℕ) → ((i : ℕ) → f i ≡ 0) → (i : ℕ) → below f i ≤ 0
    zeros f none i = below-marks f 0 (λ k. omega (arith, none k)) (λ k l. none k) i
