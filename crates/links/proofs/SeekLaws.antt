-- The latest below a slot and the earliest from a slot on: what they are, and what one slot more or less does to them.
use mathlib.Core.Path.{◌≡◌, refl, sym, ap, subst, ◌∙◌}
use mathlib.Core.Bool.{Bool, true, false, not, cond, ◌&&◌, false≢true}
use mathlib.Core.Option.{Option, some, none}
use Prim.Native.Nat.{ℕ, zero, suc, ◌+◌, ◌-◌, ◌≤◌, ◌<◌}
use native.Mathlib.Omega.{arith}
use lib.Dec.{eqb, ltb}
use borrow.Author.Tests.{eqb-true, eqb-false, eq-eqb, ne_eqb, ltb-true, ltb-false}
use Rattle.links.specs.Seek.{latest, earliest}

-- ------------------------------------------------------------ what an answer says

abbrev pub IsLatest : (ℕ → Bool) → ℕ → Option ℕ → Type 0
IsLatest on i none = (l : ℕ) → l < i → on l ≡ false
IsLatest on i (some j) = (j < i) × (on j ≡ true) × ((l : ℕ) → j < l → l < i → on l ≡ false)

abbrev pub IsEarliest : (ℕ → Bool) → ℕ → ℕ → Option ℕ → Type 0
IsEarliest on i e none = (l : ℕ) → i ≤ l → l < e → on l ≡ false
IsEarliest on i e (some j) = (i ≤ j) × (j < e) × (on j ≡ true) × ((l : ℕ) → i ≤ l → l < j → on l ≡ false)

-- What holds below i and at i holds below the next number.
up : (P : ℕ → Type 0) (i : ℕ) → ((l : ℕ) → l < i → P l) → P i → (l : ℕ) → l < suc i → P l
up P i h p l m = go (eqb l i) refl
  where
    go : (b : Bool) → eqb l i ≡ b → P l
    go true e = rw (eqb-true l i e) p
    go false d = h l (omega (arith, eqb-false l i d))

-- What holds at i and from the next number on holds from i on.
down : (P : ℕ → Type 0) (i e : ℕ) → P i → ((l : ℕ) → suc i ≤ l → l < e → P l) → (l : ℕ) → i ≤ l → l < e → P l
down P i e p h l m k = go (eqb l i) refl
  where
    go : (b : Bool) → eqb l i ≡ b → P l
    go true q = rw (eqb-true l i q) p
    go false d = h l (omega (arith, eqb-false l i d)) k

-- By cases: below a number, or not.
pub parted : {P : Type 0} (l s : ℕ) → (l < s → P) → (s ≤ l → P) → P
parted {P} l s f g = go (ltb l s) refl
  where
    go : (b : Bool) → ltb l s ≡ b → P
    go true e = f (ltb-true l s e)
    go false e = g (ltb-false l s e)

step-latest : (on : ℕ → Bool) (i : ℕ) (r : Option ℕ) → on i ≡ false → IsLatest on i r → IsLatest on (suc i) r
step-latest on i none off h = up (λ (l : ℕ). on l ≡ false) i h off
step-latest on i (some j) off h = (
  omega (arith, h.0),
  h.1,
  λ l m k. up (λ (x : ℕ). j < x → on x ≡ false) i (λ x y z. h.2 x z y) (λ z. off) l k m,
)

pub latest-is : (on : ℕ → Bool) (i : ℕ) → IsLatest on i (latest on i)
unfolding latest
latest-is on zero = λ l m. absurd (omega arith)
latest-is on (suc i) = go (on i) refl (latest-is on i)
  where
    go : (b : Bool) → on i ≡ b → IsLatest on i (latest on i) → IsLatest on (suc i) (cond b (some i) (latest on i))
    go true e h = (omega arith, e, λ l m k. absurd (omega arith))
    go false e h = step-latest on i (latest on i) e h

step-earliest : (on : ℕ → Bool) (i e : ℕ) (r : Option ℕ) → on i ≡ false → IsEarliest on (suc i) e r → IsEarliest on i e r
step-earliest on i e none off h = down (λ (l : ℕ). on l ≡ false) i e off h
step-earliest on i e (some j) off h = (
  omega (arith, h.0),
  h.1,
  h.2,
  λ l m k. down (λ (x : ℕ). x < j → on x ≡ false) i e (λ z. off) (λ x y z u. h.3 x y u) l m (omega (arith, h.1)) k,
)

pub earliest-is : (on : ℕ → Bool) (i count e : ℕ) → i + count ≡ e → IsEarliest on i e (earliest on i count)
unfolding earliest
earliest-is on i zero e q = λ l m k. absurd (omega arith)
earliest-is on i (suc count) e q = go (on i) refl (earliest-is on (suc i) count e (omega (arith, q)))
  where
    go : (b : Bool) → on i ≡ b → IsEarliest on (suc i) e (earliest on (suc i) count) →
        IsEarliest on i e (cond b (some i) (earliest on (suc i) count))
    go true t h = (omega arith, omega (arith, q), t, λ l m k. absurd (omega arith))
    go false t h = step-earliest on i e (earliest on (suc i) count) t h

-- ------------------------------------------------------------ there is one answer

two : (b : Bool) → b ≡ true → b ≡ false → ⊥
two b t f = false≢true (sym f ∙ t)

one-latest : (on : ℕ → Bool) (i : ℕ) (r s : Option ℕ) → IsLatest on i r → IsLatest on i s → r ≡ s
one-latest on i none none h k = refl
one-latest on i none (some j) h k = absurd (two (on j) k.1 (h j k.0))
one-latest on i (some j) none h k = absurd (two (on j) h.1 (k j h.0))
one-latest on i (some j) (some l) h k = ap some (same (λ m. two (on l) k.1 (h.2 l m k.0)) (λ m. two (on j) h.1 (k.2 j m h.0)))
  where
    same : (j < l → ⊥) → (l < j → ⊥) → j ≡ l
    same p q = omega (arith, p, q)

one-earliest : (on : ℕ → Bool) (i e : ℕ) (r s : Option ℕ) → IsEarliest on i e r → IsEarliest on i e s → r ≡ s
one-earliest on i e none none h k = refl
one-earliest on i e none (some j) h k = absurd (two (on j) k.2 (h j k.0 k.1))
one-earliest on i e (some j) none h k = absurd (two (on j) h.2 (k j h.0 h.1))
one-earliest on i e (some j) (some l) h k =
    ap some (same (λ m. two (on j) h.2 (k.3 j h.0 m)) (λ m. two (on l) k.2 (h.3 l k.0 m)))
  where
    same : (j < l → ⊥) → (l < j → ⊥) → j ≡ l
    same p q = omega (arith, p, q)

pub latest-one : (on : ℕ → Bool) (i : ℕ) (r : Option ℕ) → IsLatest on i r → latest on i ≡ r
latest-one on i r h = one-latest on i (latest on i) r (latest-is on i) h

pub earliest-one : (on : ℕ → Bool) (i count e : ℕ) (r : Option ℕ) → i + count ≡ e → IsEarliest on i e r → earliest on i count ≡ r
earliest-one on i count e r q h = one-earliest on i e (earliest on i count) r (earliest-is on i count e q) h

-- ------------------------------------------------------------ tests that agree

same-latest : (on off : ℕ → Bool) (i : ℕ) (r : Option ℕ) → ((l : ℕ) → l < i → on l ≡ off l) → IsLatest on i r → IsLatest off i r
same-latest on off i none e h = λ l m. sym (e l m) ∙ h l m
same-latest on off i (some j) e h = (h.0, sym (e j h.0) ∙ h.1, λ l m k. sym (e l k) ∙ h.2 l m k)

same-earliest : (on off : ℕ → Bool) (i e : ℕ) (r : Option ℕ) → ((l : ℕ) → i ≤ l → l < e → on l ≡ off l) →
    IsEarliest on i e r → IsEarliest off i e r
same-earliest on off i e none q h = λ l m k. sym (q l m k) ∙ h l m k
same-earliest on off i e (some j) q h = (
  h.0,
  h.1,
  sym (q j h.0 h.1) ∙ h.2,
  λ l m k. sym (q l m (omega (arith, h.1))) ∙ h.3 l m k,
)

-- Below a slot only what lies below it counts.
pub latest-same : (on off : ℕ → Bool) (i : ℕ) → ((l : ℕ) → l < i → on l ≡ off l) → latest on i ≡ latest off i
latest-same on off i e = sym (latest-one off i (latest on i) (same-latest on off i (latest on i) e (latest-is on i)))

pub earliest-same : (on off : ℕ → Bool) (i count e : ℕ) → i + count ≡ e → ((l : ℕ) → i ≤ l → l < e → on l ≡ off l) →
    earliest on i count ≡ earliest off i count
earliest-same on off i count e q s =
    sym (earliest-one off i count e (earliest on i count) q (same-earliest on off i e (earliest on i count) s (earliest-is on i count e q)))

-- ------------------------------------------------------------ one slot less

abbrev pub without : (ℕ → Bool) → ℕ → ℕ → Bool
without on s i = on i && not (eqb i s)

pub without-there : (on : ℕ → Bool) (s i : ℕ) → without on s i ≡ true → (on i ≡ true) × (i ≡ s → ⊥)
without-there on s i h = go (on i) (eqb i s) refl h
  where
    go : (a b : Bool) → eqb i s ≡ b → a && not b ≡ true → (a ≡ true) × (i ≡ s → ⊥)
    go true true q k = absurd (false≢true k)
    go true false q k = (refl, eqb-false i s q)
    go false b q k = absurd (false≢true k)

pub without_other : (on : ℕ → Bool) (s i : ℕ) → (i ≡ s → ⊥) → on i ≡ without on s i
without_other on s i d = go (on i)
  where
    go : (a : Bool) → a ≡ a && not (eqb i s)
    go true = sym (ap not (ne_eqb i s d))
    go false = refl

pub without-itself : (on : ℕ → Bool) (s : ℕ) → without on s s ≡ false
without-itself on s = go (on s)
  where
    go : (a : Bool) → a && not (eqb s s) ≡ false
    go true = ap not (eq-eqb s s refl)
    go false = refl

-- The latest is another where that slot was the latest: then the one below it.
pub latest-without : (on : ℕ → Bool) (s i : ℕ) → latest on i ≡ some s → latest (without on s) i ≡ latest on s
latest-without on s i h = latest-one (without on s) i (latest on s) (go (latest on s) (latest-is on s))
  where
    at : IsLatest on i (some s)
    at = subst (λ (r : Option ℕ). IsLatest on i r) h (latest-is on i)

    off : (l : ℕ) → s ≤ l → l < i → without on s l ≡ false
    off l m k = down (λ (x : ℕ). without on s x ≡ false) s i (without-itself on s)
        (λ x y z. sym (without_other on s x (λ q. omega (arith, q))) ∙ at.2 x y z) l m k

    below : (l : ℕ) → l < s → on l ≡ without on s l
    below l m = without_other on s l (λ q. omega (arith, q))

    go : (r : Option ℕ) → IsLatest on s r → IsLatest (without on s) i r
    go none k = λ l m. parted l s (λ a. sym (below l a) ∙ k l a) (λ a. off l a m)
    go (some j) k = (
      omega (arith, at.0, k.0),
      sym (below j k.0) ∙ k.1,
      λ l m n. parted l s (λ a. sym (below l a) ∙ k.2 l m a) (λ a. off l a n),
    )

-- It is the same where that slot was not the latest.
pub latest-without-other : (on : ℕ → Bool) (s i : ℕ) → (latest on i ≡ some s → ⊥) → latest (without on s) i ≡ latest on i
latest-without-other on s i d = latest-one (without on s) i (latest on i) (go (latest on i) d (latest-is on i))
  where
    off : (l : ℕ) → on l ≡ false → without on s l ≡ false
    off l e = ap (λ (b : Bool). b && not (eqb l s)) e

    go : (r : Option ℕ) → (r ≡ some s → ⊥) → IsLatest on i r → IsLatest (without on s) i r
    go none n k = λ l m. off l (k l m)
    go (some j) n k = (
      k.0,
      sym (without_other on s j (λ e. n (ap some e))) ∙ k.1,
      λ l m p. off l (k.2 l m p),
    )

-- The same of the earliest.
pub earliest-without : (on : ℕ → Bool) (s i count slots : ℕ) → i + count ≡ slots → s < slots → earliest on i count ≡ some s →
    earliest (without on s) i count ≡ earliest on (suc s) (slots - suc s)
earliest-without on s i count slots q m h =
    earliest-one (without on s) i count slots (earliest on (suc s) (slots - suc s)) q
    (go (earliest on (suc s) (slots - suc s)) (earliest-is on (suc s) (slots - suc s) slots (omega arith)))
  where
    at : IsEarliest on i slots (some s)
    at = subst (λ (r : Option ℕ). IsEarliest on i slots r) h (earliest-is on i count slots q)

    off : (l : ℕ) → i ≤ l → l < suc s → without on s l ≡ false
    off l a b = up (λ (x : ℕ). i ≤ x → without on s x ≡ false) s
        (λ x y z. sym (without_other on s x (λ e. omega (arith, e))) ∙ at.3 x z y) (λ z. without-itself on s) l b a

    above : (l : ℕ) → suc s ≤ l → on l ≡ without on s l
    above l a = without_other on s l (λ e. omega (arith, e))

    go : (r : Option ℕ) → IsEarliest on (suc s) slots r → IsEarliest (without on s) i slots r
    go none k = λ l a b. parted l (suc s) (λ c. off l a c) (λ c. sym (above l c) ∙ k l c b)
    go (some j) k = (
      omega (arith, at.0, k.0),
      k.1,
      sym (above j k.0) ∙ k.2,
      λ l a b. parted l (suc s) (λ c. off l a c) (λ c. sym (above l c) ∙ k.3 l c b),
    )

pub earliest-without-other : (on : ℕ → Bool) (s i count : ℕ) → (earliest on i count ≡ some s → ⊥) →
    earliest (without on s) i count ≡ earliest on i count
earliest-without-other on s i count d =
    earliest-one (without on s) i count (i + count) (earliest on i count) refl
    (go (earliest on i count) d (earliest-is on i count (i + count) refl))
  where
    off : (l : ℕ) → on l ≡ false → without on s l ≡ false
    off l e = ap (λ (b : Bool). b && not (eqb l s)) e

    go : (r : Option ℕ) → (r ≡ some s → ⊥) → IsEarliest on i (i + count) r → IsEarliest (without on s) i (i + count) r
    go none n k = λ l a b. off l (k l a b)
    go (some j) n k = (
      k.0,
      k.1,
      sym (without_other on s j (λ e. n (ap some e))) ∙ k.2,
      λ l a b. off l (k.3 l a b),
    )

-- ------------------------------------------------------------ two that stand beside each other

-- A slot's latest is another exactly where the other's earliest is that slot.
pub beside_back : (on : ℕ → Bool) (s i slots : ℕ) → i < slots → on i ≡ true → latest on i ≡ some s →
    earliest on (suc s) (slots - suc s) ≡ some i
beside_back on s i slots m t h = earliest-one on (suc s) (slots - suc s) slots (some i) (omega (arith, at.0)) (at.0, m, t, at.2)
  where
    at : IsLatest on i (some s)
    at = subst (λ (r : Option ℕ). IsLatest on i r) h (latest-is on i)

pub beside-on : (on : ℕ → Bool) (s i slots : ℕ) → s < slots → on s ≡ true → earliest on (suc s) (slots - suc s) ≡ some i →
    latest on i ≡ some s
beside-on on s i slots m t h = latest-one on i (some s) (at.0, t, at.3)
  where
    at : IsEarliest on (suc s) slots (some i)
    at = subst (λ (r : Option ℕ). IsEarliest on (suc s) slots r) h (earliest-is on (suc s) (slots - suc s) slots (omega arith))

-- A slot is the latest of all exactly where it has no earliest after it; the earliest of all where it has no latest before it.
pub last-has-none : (on : ℕ → Bool) (s slots : ℕ) → latest on slots ≡ some s → earliest on (suc s) (slots - suc s) ≡ none
last-has-none on s slots h = earliest-one on (suc s) (slots - suc s) slots none (omega (arith, at.0)) at.2
  where
    at : IsLatest on slots (some s)
    at = subst (λ (r : Option ℕ). IsLatest on slots r) h (latest-is on slots)

pub none-is-last : (on : ℕ → Bool) (s slots : ℕ) → s < slots → on s ≡ true → earliest on (suc s) (slots - suc s) ≡ none →
    latest on slots ≡ some s
none-is-last on s slots m t h = latest-one on slots (some s) (m, t, at)
  where
    at : IsEarliest on (suc s) slots none
    at = subst (λ (r : Option ℕ). IsEarliest on (suc s) slots r) h (earliest-is on (suc s) (slots - suc s) slots (omega arith))

pub first-has-none : (on : ℕ → Bool) (s slots : ℕ) → earliest on 0 slots ≡ some s → latest on s ≡ none
first-has-none on s slots h = latest-one on s none (λ l m. at.3 l (omega arith) m)
  where
    at : IsEarliest on 0 slots (some s)
    at = subst (λ (r : Option ℕ). IsEarliest on 0 slots r) h (earliest-is on 0 slots slots (omega arith))

pub none-is-first : (on : ℕ → Bool) (s slots : ℕ) → s < slots → on s ≡ true → latest on s ≡ none → earliest on 0 slots ≡ some s
none-is-first on s slots m t h = earliest-one on 0 slots slots (some s) (omega arith) (omega arith, m, t, λ l a b. at l b)
  where
    at : IsLatest on s none
    at = subst (λ (r : Option ℕ). IsLatest on s r) h (latest-is on s)
