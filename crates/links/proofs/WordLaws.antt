-- Laws of words: a store at one place, and changes that stay within a region.
use mathlib.Core.Path.{◌≡◌, refl, subst, ◌∙◌}
use mathlib.Core.Bool.{Bool, true, false}
use mathlib.Core.List.{List}
use Prim.Native.Nat.{ℕ, ◌+◌, ◌≤◌, ◌<◌}
use native.Mathlib.Omega.{arith}
use lib.Dec.{eqb, ltb}
use borrow.Author.Tests.{eqb-true, eqb-false, ltb-true, ltb-false}
use lib.ListN.{length, set, length-set}
use lib.Seq.{get_or-set_same, get_or-set_other}
use Rattle.links.specs.Words.{word, Outside, Within, Cleared}

pub within_none : (at size : ℕ) (words : List ℕ) → Within at size words words
within_none at size words = record { long = refl; same = λ x o. refl }

pub within-then : (at size : ℕ) (a b c : List ℕ) → Within at size a b → Within at size b c → Within at size a c
within-then at size a b c p q = record { long = q.long ∙ p.long; same = λ x o. q.same x o ∙ p.same x o }

-- A change within a region is one within any that holds it.
pub within_wider : (at size at' size' : ℕ) (a b : List ℕ) → at' ≤ at → at + size ≤ at' + size' → Within at size a b →
    Within at' size' a b
within_wider at size at' size' a b from to p =
    record { long = p.long; same = λ x o. p.same x (λ l. wider x o l) }
  where
    wider : (x : ℕ) → Outside at' size' x → x < at + size → x < at
    wider x o l = omega (arith, o (omega arith))

pub within-set : (at size : ℕ) (words : List ℕ) (x v : ℕ) → at ≤ x → x < at + size → Within at size words (set words x v)
within-set at size words x v from to =
    record { long = length-set words x v; same = λ y o. get_or-set_other words x y v 0 (λ e. apart y o e) }
  where
    apart : (y : ℕ) → Outside at size y → y ≡ x → ⊥
    apart y o e = omega (arith, e, o (omega (arith, e)))

-- Outside the first so many words is past them.
pub past_first : (size x : ℕ) → Outside 0 size x → size ≤ x
past_first size x o = go (ltb x size) refl
  where
    go : (b : Bool) → ltb x size ≡ b → size ≤ x
    go true e = absurd (none (o (inside (ltb-true x size e))))
      where
        none : x < 0 → ⊥
        none l = omega arith

        inside : x < size → x < 0 + size
        inside l = omega arith
    go false e = ltb-false x size e

pub cleared-none : (at : ℕ) (words : List ℕ) → Cleared at 0 words words
cleared-none at words = record { within = within_none at 0 words; zero = λ i l. omega arith }

pub cleared_more : (at i : ℕ) (was now : List ℕ) → at + i < length now → Cleared at i was now →
    Cleared at (i + 1) was (set now (at + i) 0)
cleared_more at i was now l p =
    record {
      within =
          within-then at (i + 1) was now (set now (at + i) 0) (within_wider at i at (i + 1) was now (omega arith) (omega arith) p.within)
          (within-set at (i + 1) now (at + i) 0 (omega arith) (omega arith));
      zero = λ j m. zeroed j m;
    }
  where
    zeroed : (j : ℕ) → j < i + 1 → word (set now (at + i) 0) at j ≡ 0
    zeroed j m = go (eqb j i) refl
      where
        go : (b : Bool) → eqb j i ≡ b → word (set now (at + i) 0) at j ≡ 0
        go true e = rw (eqb-true j i e) (get_or-set_same now (at + i) 0 0 l)
        go false d =
            get_or-set_other now (at + i) (at + j) 0 0 (λ e. eqb-false j i d (omega (arith, e)))
            ∙ p.zero j (omega (arith, eqb-false j i d))

-- A region named by an equal number.
pub cleared-all : (at i count : ℕ) (was now : List ℕ) → i ≤ count → count ≤ i → Cleared at i was now → Cleared at count was now
cleared-all at i count was now l m p = subst (λ (n : ℕ). Cleared at n was now) (omega arith) p
