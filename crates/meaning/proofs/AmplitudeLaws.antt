-- The laws of amplitudes, up to their values.
use mathlib.Core.Path.{◌≡◌, refl, sym, ◌∙◌, ap, ap₂}
use Prim.Native.Nat.{ℕ, zero, suc, ◌+◌, ◌-◌, max, ◌≤◌}
use native.Mathlib.Omega.{arith}
use lib.IntN.{ℤ, pos, negsuc, ◌+ℤ◌, +ℤ_comm, +ℤ_assoc, +ℤ_idl, +ℤ_invr, neg_ℤ-+ℤ, neg_ℤ-neg_ℤ, ℤ_set, pos-ne-negsuc}
use Rattle.meaning.specs.Amplitudes.{times, Four, four, plus, minus, times_w, times_root, Amplitude, Amplitudes, sum_of_two, ◌≈◌}
use Rattle.meaning.proofs.SumLaws.{times-plus, times-past, times-add, times_none}

-- ------------------------------------------------------------ four whole numbers

four-path : (x y : Four) → x.n0 ≡ y.n0 → x.n1 ≡ y.n1 → x.n2 ≡ y.n2 → x.n3 ≡ y.n3 → x ≡ y
four-path x y p q r s = λ i. record { n0 = p i; n1 = q i; n2 = r i; n3 = s i }

pub Four-set : IsSet Four
Four-set x y p q = λ i j. record {
  n0 = ℤ_set x.n0 y.n0 (ap (λ f. f.n0) p) (ap (λ f. f.n0) q) i j;
  n1 = ℤ_set x.n1 y.n1 (ap (λ f. f.n1) p) (ap (λ f. f.n1) q) i j;
  n2 = ℤ_set x.n2 y.n2 (ap (λ f. f.n2) p) (ap (λ f. f.n2) q) i j;
  n3 = ℤ_set x.n3 y.n3 (ap (λ f. f.n3) p) (ap (λ f. f.n3) q) i j;
}

zeros : Four
zeros = four (pos 0) (pos 0) (pos 0) (pos 0)

-- Half a turn is the opposite: w⁴ = -1.
w-four : (x : Four) → times_w (times_w (times_w (times_w x))) ≡ minus x
unfolding times_w minus
w-four x = refl

plus_comm : (x y : Four) → plus x y ≡ plus y x
unfolding plus
plus_comm x y = four-path _ _ (+ℤ_comm x.n0 y.n0) (+ℤ_comm x.n1 y.n1) (+ℤ_comm x.n2 y.n2) (+ℤ_comm x.n3 y.n3)

plus_assoc : (x y z : Four) → plus (plus x y) z ≡ plus x (plus y z)
unfolding plus
plus_assoc x y z = four-path _ _ (+ℤ_assoc x.n0 y.n0 z.n0) (+ℤ_assoc x.n1 y.n1 z.n1) (+ℤ_assoc x.n2 y.n2 z.n2) (+ℤ_assoc x.n3 y.n3 z.n3)

plus_none : (x : Four) → plus zeros x ≡ x
unfolding plus zeros
plus_none x = four-path _ _ (+ℤ_idl x.n0) (+ℤ_idl x.n1) (+ℤ_idl x.n2) (+ℤ_idl x.n3)

w-plus : (x y : Four) → times_w (plus x y) ≡ plus (times_w x) (times_w y)
unfolding plus times_w
w-plus x y = four-path _ _ (neg_ℤ-+ℤ x.n3 y.n3) refl refl refl

w-none : times_w zeros ≡ zeros
unfolding times_w zeros
w-none = refl

plus-minus : (x : Four) → plus x (minus x) ≡ zeros
unfolding plus minus zeros
plus-minus x = four-path _ _ (+ℤ_invr x.n0) (+ℤ_invr x.n1) (+ℤ_invr x.n2) (+ℤ_invr x.n3)

minus_minus : (x : Four) → minus (minus x) ≡ x
unfolding minus
minus_minus x = four-path _ _ (neg_ℤ-neg_ℤ x.n0) (neg_ℤ-neg_ℤ x.n1) (neg_ℤ-neg_ℤ x.n2) (neg_ℤ-neg_ℤ x.n3)

minus_plus : (x y : Four) → minus (plus x y) ≡ plus (minus x) (minus y)
unfolding plus minus
minus_plus x y = four-path _ _ (neg_ℤ-+ℤ x.n0 y.n0) (neg_ℤ-+ℤ x.n1 y.n1) (neg_ℤ-+ℤ x.n2 y.n2) (neg_ℤ-+ℤ x.n3 y.n3)

w-minus : (x : Four) → times_w (minus x) ≡ minus (times_w x)
unfolding minus times_w
w-minus x = refl

plus-left : (x y z : Four) → plus x (plus y z) ≡ plus y (plus x z)
plus-left x y z = sym (plus_assoc x y z) ∙ ap (λ a. plus a z) (plus_comm x y) ∙ plus_assoc y x z

root-plus : (x y : Four) → times_root (plus x y) ≡ plus (times_root x) (times_root y)
unfolding times_root
root-plus x y = simp (w-plus, minus_plus, plus_assoc, plus_comm)

root-w : (x : Four) → times_root (times_w x) ≡ times_w (times_root x)
unfolding times_root
root-w x = simp (w-plus, w-minus)

root_none : times_root zeros ≡ zeros
unfolding times_root zeros times_w minus plus
root_none = refl

-- √2 times itself is 2.
root-root : (x : Four) → times_root (times_root x) ≡ plus x x
unfolding times_root
root-root x = simp (w-plus, w-minus, minus_plus, w-four, minus_minus, plus_assoc, plus_comm, plus-left, plus-minus, plus_none)

-- So √2 cancels.
double : (a b : ℤ) → a +ℤ a ≡ b +ℤ b → a ≡ b
double (pos a) (pos b) e = let h : a + a ≡ b + b = cc in ap pos (omega arith)
double (pos a) (negsuc b) e = absurd (pos-ne-negsuc _ _ e)
double (negsuc a) (pos b) e = absurd (pos-ne-negsuc _ _ (sym e))
double (negsuc a) (negsuc b) e = let h : suc (a + a) ≡ suc (b + b) = cc in ap negsuc (omega arith)

double-four : (x y : Four) → plus x x ≡ plus y y → x ≡ y
unfolding plus
double-four x y e = four-path x y (double x.n0 y.n0 (ap (λ f. f.n0) e)) (double x.n1 y.n1 (ap (λ f. f.n1) e))
    (double x.n2 y.n2 (ap (λ f. f.n2) e)) (double x.n3 y.n3 (ap (λ f. f.n3) e))

root-injective : (x y : Four) → times_root x ≡ times_root y → x ≡ y
root-injective x y e = double-four x y (sym (root-root x) ∙ ap times_root e ∙ root-root y)

-- ------------------------------------------------------------ powers of √2

abbrev turn : Amplitude → Amplitude
turn = Amplitudes.turn

abbrev over_root : Amplitude → Amplitude
over_root = Amplitudes.over_root

abbrev nothing : Amplitude
nothing = Amplitudes.none

abbrev roots : ℕ → Four → Four
roots = times times_root

roots-injective : (n : ℕ) (x y : Four) → roots n x ≡ roots n y → x ≡ y
unfolding times
roots-injective zero x y e = e
roots-injective (suc n) x y e = roots-injective n x y (root-injective _ _ e)

roots-plus : (n : ℕ) (x y : Four) → roots n (plus x y) ≡ plus (roots n x) (roots n y)
roots-plus n x y = times-add zeros plus times_root root_none root-plus n x y

roots-w : (n : ℕ) (x : Four) → roots n (times_w x) ≡ times_w (roots n x)
roots-w n x = sym (times-past times_w times_root (λ y. sym (root-w y)) n x)

roots-none : (n : ℕ) → roots n zeros ≡ zeros
roots-none n = times_none zeros plus times_root root_none root-plus n

roots-join : (i j k : ℕ) (x : Four) → i + j ≡ k → roots i (roots j x) ≡ roots k x
roots-join i j k x e = sym (times-plus times_root i j x) ∙ ap (λ n. times times_root n x) e

-- The numbers of x over the power n.
at : ℕ → Amplitude → Four
at n x = roots (n - x.power) x.numbers

same_at : (n : ℕ) (x y : Amplitude) → x.power ≤ n → y.power ≤ n → at n x ≡ at n y → x ≈ y
unfolding at
same_at n x y p q e = roots-injective n _ _ (
    roots-join n y.power (n + y.power) x.numbers refl
    ∙ sym (roots-join (x.power + y.power) (n - x.power) (n + y.power) x.numbers (omega arith))
    ∙ ap (roots (x.power + y.power)) e
    ∙ roots-join (x.power + y.power) (n - y.power) (n + x.power) y.numbers (omega arith)
    ∙ sym (roots-join n x.power (n + x.power) y.numbers refl))

at_same : (n : ℕ) (x y : Amplitude) → x.power ≤ n → y.power ≤ n → x ≈ y → at n x ≡ at n y
unfolding at
at_same n x y p q e = roots-injective n _ _ (
    roots-join n (n - x.power) (n + (n - x.power)) x.numbers refl
    ∙ sym (roots-join ((n - x.power) + (n - y.power)) y.power (n + (n - x.power)) x.numbers (omega arith))
    ∙ ap (roots ((n - x.power) + (n - y.power))) e
    ∙ roots-join ((n - x.power) + (n - y.power)) x.power (n + (n - y.power)) y.numbers (omega arith)
    ∙ sym (roots-join n (n - y.power) (n + (n - y.power)) y.numbers refl))

at-add : (n : ℕ) (x y : Amplitude) → x.power ≤ n → y.power ≤ n → at n (sum_of_two x y) ≡ plus (at n x) (at n y)
unfolding at sum_of_two
at-add n x y p q = let m : ℕ = max x.power y.power in
    roots-plus (n - m) (roots (m - x.power) x.numbers) (roots (m - y.power) y.numbers)
    ∙ ap₂ plus (roots-join (n - m) (m - x.power) (n - x.power) x.numbers (omega arith))
    (roots-join (n - m) (m - y.power) (n - y.power) y.numbers (omega arith))

at_turn : (n : ℕ) (x : Amplitude) → at n (turn x) ≡ times_w (at n x)
unfolding at
at_turn n x = roots-w (n - x.power) x.numbers

at-root : (n : ℕ) (x : Amplitude) → at (suc n) (over_root x) ≡ at n x
unfolding at
at-root n x = ap (λ k. roots k x.numbers) (omega arith)

-- ------------------------------------------------------------ the same value

pub ≈-refl : (x : Amplitude) → x ≈ x
≈-refl x = refl

pub ≈-sym : (x y : Amplitude) → x ≈ y → y ≈ x
≈-sym x y e = sym e

pub ≈-trans : (x y z : Amplitude) → x ≈ y → y ≈ z → x ≈ z
≈-trans x y z e f = let n : ℕ = x.power + y.power + z.power in
    same_at n x z (omega arith) (omega arith) (at_same n x y (omega arith) (omega arith) e ∙ at_same n y z (omega arith) (omega arith) f)

pub ≈-prop : (x y : Amplitude) → IsProp (x ≈ y)
≈-prop x y = Four-set _ _

pub ≈-of : (x y : Amplitude) → x ≡ y → x ≈ y
≈-of x y e = rw e refl

pub add_same : (x y x' y' : Amplitude) → x ≈ x' → y ≈ y' → sum_of_two x y ≈ sum_of_two x' y'
unfolding sum_of_two
add_same x y x' y' e f = let n : ℕ = x.power + y.power + x'.power + y'.power in
    same_at n (sum_of_two x y) (sum_of_two x' y') (omega arith) (omega arith) (
    at-add n x y (omega arith) (omega arith)
    ∙ ap₂ plus (at_same n x x' (omega arith) (omega arith) e) (at_same n y y' (omega arith) (omega arith) f)
    ∙ sym (at-add n x' y' (omega arith) (omega arith)))

pub turn-same : (x y : Amplitude) → x ≈ y → turn x ≈ turn y
turn-same x y e = roots-w y.power x.numbers ∙ ap times_w e ∙ sym (roots-w x.power y.numbers)

pub root-same : (x y : Amplitude) → x ≈ y → over_root x ≈ over_root y
unfolding times
root-same x y e = ap times_root e

-- ------------------------------------------------------------ the laws

pub add_comm : (x y : Amplitude) → sum_of_two x y ≈ sum_of_two y x
unfolding sum_of_two
add_comm x y = let n : ℕ = x.power + y.power in
    same_at n (sum_of_two x y) (sum_of_two y x) (omega arith) (omega arith)
    (at-add n x y (omega arith) (omega arith) ∙ plus_comm _ _ ∙ sym (at-add n y x (omega arith) (omega arith)))

pub add_assoc : (x y z : Amplitude) → sum_of_two (sum_of_two x y) z ≈ sum_of_two x (sum_of_two y z)
unfolding sum_of_two
add_assoc x y z = let n : ℕ = x.power + y.power + z.power in
    same_at n (sum_of_two (sum_of_two x y) z) (sum_of_two x (sum_of_two y z)) (omega arith) (omega arith) (
    at-add n (sum_of_two x y) z (omega arith) (omega arith)
    ∙ ap (λ f. plus f (at n z)) (at-add n x y (omega arith) (omega arith))
    ∙ plus_assoc (at n x) (at n y) (at n z)
    ∙ ap (plus (at n x)) (sym (at-add n y z (omega arith) (omega arith)))
    ∙ sym (at-add n x (sum_of_two y z) (omega arith) (omega arith)))

pub add_none : (x : Amplitude) → sum_of_two nothing x ≈ x
unfolding sum_of_two at zeros
add_none x = let n : ℕ = x.power in
    same_at n (sum_of_two nothing x) x (omega arith) (omega arith) (
    at-add n nothing x (omega arith) (omega arith)
    ∙ ap (λ f. plus f (at n x)) (roots-none (n - 0))
    ∙ plus_none (at n x))

pub turn-none : turn nothing ≈ nothing
unfolding times_w times
turn-none = refl

pub over_root-none : over_root nothing ≈ nothing
unfolding times times_root times_w minus plus
over_root-none = refl

pub turn-add : (x y : Amplitude) → turn (sum_of_two x y) ≈ sum_of_two (turn x) (turn y)
unfolding sum_of_two
turn-add x y = let n : ℕ = x.power + y.power in
    same_at n (turn (sum_of_two x y)) (sum_of_two (turn x) (turn y)) (omega arith) (omega arith) (
    at_turn n (sum_of_two x y) ∙ ap times_w (at-add n x y (omega arith) (omega arith)) ∙ w-plus (at n x) (at n y)
    ∙ ap₂ plus (sym (at_turn n x)) (sym (at_turn n y)) ∙ sym (at-add n (turn x) (turn y) (omega arith) (omega arith)))

pub over_root-add : (x y : Amplitude) → over_root (sum_of_two x y) ≈ sum_of_two (over_root x) (over_root y)
unfolding sum_of_two
over_root-add x y = let n : ℕ = x.power + y.power in
    same_at (suc n) (over_root (sum_of_two x y)) (sum_of_two (over_root x) (over_root y)) (omega arith) (omega arith) (
    at-root n (sum_of_two x y) ∙ at-add n x y (omega arith) (omega arith)
    ∙ ap₂ plus (sym (at-root n x)) (sym (at-root n y)) ∙ sym (at-add (suc n) (over_root x) (over_root y) (omega arith) (omega arith)))

pub over_root-turn : (x : Amplitude) → over_root (turn x) ≈ turn (over_root x)
over_root-turn x = refl

turns-power : (k : ℕ) (x : Amplitude) → (times turn k x).power ≡ x.power
unfolding times
turns-power zero x = refl
turns-power (suc k) x = turns-power k x

turns_at_lem : (k n : ℕ) (x : Amplitude) → at n (times turn k x) ≡ times times_w k (at n x)
unfolding times
turns_at_lem zero n x = refl
turns_at_lem (suc k) n x = at_turn n (times turn k x) ∙ ap times_w (turns_at_lem k n x)

pub turn-four : (x : Amplitude) → sum_of_two x (times turn 4 x) ≈ nothing
unfolding sum_of_two times zeros at
turn-four x = let n : ℕ = x.power in let e : (times turn 4 x).power ≡ n = turns-power 4 x in
    same_at n (sum_of_two x (times turn 4 x)) nothing (omega arith) (omega arith) (
    at-add n x (times turn 4 x) (omega arith) (omega arith)
    ∙ ap (plus (at n x)) (turns_at_lem 4 n x ∙ w-four (at n x)) ∙ plus-minus (at n x) ∙ sym (roots-none (n - 0)))

pub root-back : (x : Amplitude) → over_root (sum_of_two (turn x) (times turn 7 x)) ≈ x
unfolding sum_of_two times at times_root
root-back x =
    let n : ℕ = x.power in
    let e : (times turn 7 x).power ≡ n = turns-power 7 x in
    let d : (turn x).power ≡ n = turns-power 1 x in
    same_at (suc n) (over_root (sum_of_two (turn x) (times turn 7 x))) x (omega arith) (omega arith) (
    at-root n (sum_of_two (turn x) (times turn 7 x))
    ∙ at-add n (turn x) (times turn 7 x) (omega arith) (omega arith)
    ∙ ap₂ plus (at_turn n x) (turns_at_lem 7 n x ∙ w-four (times_w (times_w (times_w (at n x)))))
    ∙ roots-join 1 (n - n) (suc n - n) x.numbers (omega arith))
