-- Laws of bits: those below one and their number, and a word with one bit more or less.
use mathlib.Core.Path.{◌≡◌, refl, sym, ap, ap₂, ◌∙◌}
use Prim.Native.Nat.{ℕ, zero, suc, ◌+◌, ◌*◌, ◌-◌, ◌/◌, ◌%◌, ◌^◌, ◌≤◌, ◌<◌}
use native.Mathlib.Nat.{add_comm, mod-lt, mod-one, zero-div, div-one, one-mul}
use native.Mathlib.Omega.{arith}
use lib.Pow.{pow_pos, shl_exact, shr-shr, mod-pow-add}
use lib.Count.{ones, ones_cat}
use Rattle.ranks.specs.Ranks.{bit, below}

pub bit-small : (w i : ℕ) → bit w i ≤ 1
bit-small w i = omega arith

pub no_bits : (i : ℕ) → bit 0 i ≡ 0
no_bits i = ap (λ (x : ℕ). x % 2) (zero-div (2 ^ i))

one_more : (i : ℕ) → suc i ≡ 1 + i
one_more i = omega arith

-- A bit but the lowest is one of the half.
bit-half : (w i : ℕ) → bit w (suc i) ≡ bit (w / 2) i
bit-half w i = ap (λ (x : ℕ). w / 2 ^ x % 2) (one_more i) ∙ ap (λ (x : ℕ). x % 2) (sym (shr-shr w 1 i))

-- One, shifted within a word.
pub one_shifted : (i : ℕ) → i < 32 → (1 * 2 ^ i) % 2 ^ 32 ≡ 2 ^ i
one_shifted i l = shl_exact 1 i 32 (omega arith) (omega arith) ∙ one-mul (2 ^ i)

pub shift_none : (w : ℕ) → w / 2 ^ 0 ≡ w
shift_none w = div-one w

-- The next shift by one.
pub shift-next : (w i : ℕ) → w / 2 ^ i / 2 ≡ w / 2 ^ (i + 1)
shift-next w i = shr-shr w i 1

twice-pow : (i : ℕ) → 2 ^ suc i ≡ 2 * 2 ^ i
twice-pow i = omega arith

-- ------------------------------------------------------------ the lowest bits

ones_small : (b : ℕ) → b < 2 → ones b ≡ b
unfolding ones
ones_small zero l = refl
ones_small (suc zero) l = refl
ones_small (suc (suc b)) l = absurd (omega (arith, l))

-- The set bits of the lowest so many: the highest of these is counted apart from the others.
pub ones_below : (n w : ℕ) → ones (w % 2 ^ n) ≡ below (bit w) n
unfolding below
ones_below zero w = ap ones (mod-one w) ∙ ones_small 0 (omega arith)
ones_below (suc n) w =
    ap ones (ap (λ (x : ℕ). w % 2 ^ x) (one_more n) ∙ mod-pow-add w 1 n)
    ∙ ones_cat n (bit w n) (w % 2 ^ n) (mod-lt w (pow_pos n))
    ∙ ap₂ (λ (x y : ℕ). x + y) (ones_small (bit w n) (omega arith)) (ones_below n w)
    ∙ add_comm (bit w n) (below (bit w) n)

-- ------------------------------------------------------------ one bit more

pub bit-on : (i w : ℕ) → bit w i ≡ 0 → bit (w + 2 ^ i) i ≡ 1
bit-on zero w off = omega (arith, off)
bit-on (suc i) w off =
    bit-half (w + 2 ^ suc i) i ∙ ap (λ (x : ℕ). bit x i) half ∙ bit-on i (w / 2) (sym (bit-half w i) ∙ off)
  where
    half : (w + 2 ^ suc i) / 2 ≡ w / 2 + 2 ^ i
    half = omega (arith, twice-pow i)

pub bit-stays : (i w j : ℕ) → bit w i ≡ 0 → (j ≡ i → ⊥) → bit (w + 2 ^ i) j ≡ bit w j
bit-stays zero w zero off other = absurd (other refl)
bit-stays zero w (suc j) off other = bit-half (w + 1) j ∙ ap (λ (x : ℕ). bit x j) half ∙ sym (bit-half w j)
  where
    half : (w + 1) / 2 ≡ w / 2
    half = omega (arith, off)
bit-stays (suc i) w zero off other = omega (arith, twice-pow i)
bit-stays (suc i) w (suc j) off other =
    bit-half (w + 2 ^ suc i) j ∙ ap (λ (x : ℕ). bit x j) half
    ∙ bit-stays i (w / 2) j (sym (bit-half w i) ∙ off) (λ e. other (ap suc e)) ∙ sym (bit-half w j)
  where
    half : (w + 2 ^ suc i) / 2 ≡ w / 2 + 2 ^ i
    half = omega (arith, twice-pow i)

-- There is room for it.
pub bit-fits : (i n w : ℕ) → i < n → w < 2 ^ n → bit w i ≡ 0 → w + 2 ^ i < 2 ^ n
bit-fits i zero w l m off = absurd (omega arith)
bit-fits zero (suc n) w l m off = omega (arith, twice-pow n, off)
bit-fits (suc i) (suc n) w l m off =
    omega (
      arith,
      twice-pow i,
      twice-pow n,
      bit-fits i n (w / 2) (omega arith) (omega (arith, twice-pow n)) (sym (bit-half w i) ∙ off),
    )

-- ------------------------------------------------------------ one bit less

pub bit-there : (i w : ℕ) → bit w i ≡ 1 → 2 ^ i ≤ w
bit-there zero w on = omega (arith, on)
bit-there (suc i) w on = omega (arith, twice-pow i, bit-there i (w / 2) (sym (bit-half w i) ∙ on))

pub bit-off : (i w : ℕ) → bit w i ≡ 1 → bit (w - 2 ^ i) i ≡ 0
bit-off zero w on = omega (arith, on)
bit-off (suc i) w on =
    bit-half (w - 2 ^ suc i) i ∙ ap (λ (x : ℕ). bit x i) half ∙ bit-off i (w / 2) (sym (bit-half w i) ∙ on)
  where
    half : (w - 2 ^ suc i) / 2 ≡ w / 2 - 2 ^ i
    half = omega (arith, twice-pow i)

pub bit-rests : (i w j : ℕ) → bit w i ≡ 1 → (j ≡ i → ⊥) → bit (w - 2 ^ i) j ≡ bit w j
bit-rests i w j on other =
    sym (bit-stays i (w - 2 ^ i) j (bit-off i w on) other) ∙ ap (λ (x : ℕ). bit x j) whole
  where
    whole : w - 2 ^ i + 2 ^ i ≡ w
    whole = omega (arith, bit-there i w on)
