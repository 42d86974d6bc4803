-- Amplitudes. Document 01, "What a list does".
use Rattle.std.specs.Prelude.{◌≡◌, ℕ, zero, suc, ◌-◌, max, ℤ, pos, neg_ℤ, ◌+ℤ◌}

-- ------------------------------------------------------------ what a list asks of amplitudes

-- None at all, a sum, a turn by an eighth (times w), and a division by √2.
pub record Ops (A : Type 0) : Type 0 where
  pub none : A
  pub add : A → A → A
  pub turn : A → A
  pub over_root : A → A

-- So many times.
module _ {A : Type 0} where
  unfoldable pub times : (A → A) → ℕ → A → A
  times f zero x = x
  times f (suc k) x = f (times f k x)

-- ------------------------------------------------------------ four whole numbers

-- "four whole numbers standing for 1, w, w², w³"
pub record Four : Type 0 where
  pub n0 : ℤ
  pub n1 : ℤ
  pub n2 : ℤ
  pub n3 : ℤ

abbrev pub four : ℤ → ℤ → ℤ → ℤ → Four
four a b c d = record { n0 = a; n1 = b; n2 = c; n3 = d }

unfoldable pub plus : Four → Four → Four
plus x y = four (x.n0 +ℤ y.n0) (x.n1 +ℤ y.n1) (x.n2 +ℤ y.n2) (x.n3 +ℤ y.n3)

unfoldable pub minus : Four → Four
minus x = four (neg_ℤ x.n0) (neg_ℤ x.n1) (neg_ℤ x.n2) (neg_ℤ x.n3)

-- "w an eighth turn, w⁴ = -1"
unfoldable pub times_w : Four → Four
times_w x = four (neg_ℤ x.n3) x.n0 x.n1 x.n2

-- "√2 = w - w³"
unfoldable pub times_root : Four → Four
times_root x = plus (times_w x) (minus (times_w (times_w (times_w x))))

-- ------------------------------------------------------------ over a power of √2

pub record Amplitude : Type 0 where
  pub numbers : Four
  pub power : ℕ

abbrev pub over : Four → ℕ → Amplitude
over x p = record { numbers = x; power = p }

-- The numbers, over a power that is higher by k.
abbrev pub raised : ℕ → Amplitude → Four
raised k x = times times_root k x.numbers

-- "powers are first made equal"
unfoldable pub sum_of_two : Amplitude → Amplitude → Amplitude
sum_of_two x y =
    let p = max x.power y.power in
    over (plus (raised (p - x.power) x) (raised (p - y.power) y)) p

abbrev pub Amplitudes : Ops Amplitude
Amplitudes =
    record {
      none = over (four (pos 0) (pos 0) (pos 0) (pos 0)) 0;
      add = sum_of_two;
      turn = λ x. over (times_w x.numbers) x.power;
      over_root = λ x. over x.numbers (suc x.power);
    }

-- "amplitudes are compared as values, so powers are first made equal": over the sum of the two powers.
infix 50 ◌≈◌
abbrev pub ◌≈◌ : Amplitude → Amplitude → Type 0
x ≈ y = raised y.power x ≡ raised x.power y
