-- The values of amplitudes: amplitudes up to `◌≈◌`. There every law is an equation, and what a list does to amplitudes it does
-- to their values; so what is proved of lists over anything that obeys the laws holds of amplitudes, up to `◌≈◌`.
use mathlib.Core.Path.{◌≡◌, refl, sym, ◌∙◌, ap, ap₂, fun_ext}
use mathlib.Core.Quot.Quotient
use mathlib.Core.Quot.{Setoid, Quotient, Quotient-set}
use mathlib.Core.Bool.{Bool, true, false, cond}
use mathlib.Core.List.{List, [], ◌∷◌}
use Prim.Native.Nat.{ℕ, zero, suc}
use lib.ListN.{length}
use Rattle.gates.specs.declared.Gate.{Gate}
use Rattle.gates.specs.Gates.{wires_of}
use Rattle.meaning.specs.Amplitudes.{Ops, times, Amplitude, Amplitudes, ◌≈◌}
use Rattle.meaning.specs.Matrices.{Matrix, Factor, same_bit, first_bit}
use Rattle.meaning.specs.States.{Setting, with, bits_at, all_bits, Doing, by, measure, reset, doing, Config, on, drawn, sum, scale, through, kept, zeroed, does, run, SameBut}
use Rattle.meaning.proofs.SumLaws.{Laws}
use Rattle.meaning.proofs.Operators.{turned}
use Rattle.meaning.proofs.AmplitudeLaws as L
use Rattle.meaning.proofs.AmplitudeLaws.{≈-refl, ≈-sym, ≈-trans, ≈-prop, add_same, turn-same, root-same}

abbrev Same : Setoid {0, 0} Amplitude
Same = record { r = ◌≈◌; iseqv = record { refl = ≈-refl; symm = ≈-sym; trans = ≈-trans } }

abbrev pub Value : Type 0
Value = Quotient Same

abbrev pub value : Amplitude → Value
value x = Quotient.mk Same x

value_same : (x y : Amplitude) → x ≈ y → value x ≡ value y
value_same x y e = Quotient.sound Same e

same-value : (x y : Amplitude) → value x ≡ value y → x ≈ y
same-value x y e = Quotient.exact Same ≈-prop e

-- ------------------------------------------------------------ the operations on values, and their laws

add_v : Value → Value → Value
add_v = Quotient.lift₂ Same Same (Quotient-set Same) (λ x y. value (Amplitudes.add x y))
    (λ x y x' y' e f. value_same _ _ (add_same x y x' y' e f))

turn_v : Value → Value
turn_v = Quotient.lift Same (Quotient-set Same) (λ x. value (Amplitudes.turn x)) (λ x y e. value_same _ _ (turn-same x y e))

root_v : Value → Value
root_v = Quotient.lift Same (Quotient-set Same) (λ x. value (Amplitudes.over_root x)) (λ x y e. value_same _ _ (root-same x y e))

pub Values : Ops Value
Values = record { none = value Amplitudes.none; add = add_v; turn = turn_v; over_root = root_v }

-- What holds of the values of two amplitudes, or of three, holds of any values.
of_two : (P : Value → Value → Type 0) → ((q r : Value) → IsProp (P q r)) → ((x y : Amplitude) → P (value x) (value y)) →
    (q r : Value) → P q r
of_two P p h q r = Quotient.induction_on₂ Same Same {motive = P} p q r h

of_three : (P : Value → Value → Value → Type 0) → ((q r v : Value) → IsProp (P q r v)) →
    ((x y z : Amplitude) → P (value x) (value y) (value z)) → (q r v : Value) → P q r v
of_three P p h q r v = Quotient.induction_on₃ Same Same Same {motive = P} p q r v h

pub values-laws : Laws Values
unfolding Values add_v turn_v root_v Quotient.lift Quotient.lift₂ times
values-laws = record {
  add_none = Quotient.ind Same (λ q. set _ _) (λ x. value_same _ _ (L.add_none x));
  add_comm = of_two (λ q r. add_v q r ≡ add_v r q) (λ q r. set _ _) λ x y. value_same _ _ (L.add_comm x y);
  add_assoc = of_three (λ q r v. add_v (add_v q r) v ≡ add_v q (add_v r v)) (λ q r v. set _ _)
      λ x y z. value_same _ _ (L.add_assoc x y z);
  turn-none = value_same _ _ L.turn-none;
  turn-add = of_two (λ q r. turn_v (add_v q r) ≡ add_v (turn_v q) (turn_v r)) (λ q r. set _ _)
      λ x y. value_same _ _ (L.turn-add x y);
  root_none = value_same _ _ L.over_root-none;
  root-add = of_two (λ q r. root_v (add_v q r) ≡ add_v (root_v q) (root_v r)) (λ q r. set _ _)
      λ x y. value_same _ _ (L.over_root-add x y);
  root-turn = Quotient.ind Same (λ q. set _ _) (λ x. value_same _ _ (L.over_root-turn x));
  turn-four = Quotient.ind Same (λ q. set _ _) (λ x. value_same _ _ (L.turn-four x));
  root-back = Quotient.ind Same (λ q. set _ _) (λ x. value_same _ _ (L.root-back x));
}
  where
    set : IsSet Value
    set = Quotient-set Same

-- ------------------------------------------------------------ what a list does to values

turns-value : (k : ℕ) (x : Amplitude) → times Values.turn k (value x) ≡ value (times Amplitudes.turn k x)
unfolding times Values turn_v Quotient.lift
turns-value zero x = refl
turns-value (suc k) x = ap turn_v (turns-value k x)

roots-value : (k : ℕ) (x : Amplitude) → times Values.over_root k (value x) ≡ value (times Amplitudes.over_root k x)
unfolding times Values root_v Quotient.lift
roots-value zero x = refl
roots-value (suc k) x = ap root_v (roots-value k x)

scale-value : (e : Factor) (x : Amplitude) → scale Values e (value x) ≡ value (scale Amplitudes e x)
unfolding scale
scale-value e x = ap (times Values.turn e.turns) (roots-value e.roots x) ∙ turns-value e.turns _

sum-value : {X : Type 0} (f : X → Amplitude) (g : X → Value) → ((x : X) → g x ≡ value (f x)) → (l : List X) →
    sum Values g l ≡ value (sum Amplitudes f l)
unfolding sum Values add_v Quotient.lift₂
sum-value f g h [] = refl
sum-value f g h (x ∷ l) = ap₂ add_v (h x) (sum-value f g h l)

through-value : (M : Matrix) (ws : List ℕ) (ψ : Setting → Amplitude) (s : Setting) →
    through Values M ws (λ u. value (ψ u)) s ≡ value (through Amplitudes M ws ψ s)
unfolding through
through-value M ws ψ s = sum-value _ _ (λ before. sum-value _ _ (λ e. scale-value e _) (M (bits_at s ws) before)) (all_bits (length ws))

kept-value : (w : ℕ) (o : Bool) (ψ : Setting → Amplitude) (s : Setting) →
    kept Values w o (λ u. value (ψ u)) s ≡ value (kept Amplitudes w o ψ s)
unfolding kept Values
kept-value w o ψ s = go (same_bit (s w) o)
  where
    go : (b : Bool) → cond b (value (ψ s)) (value Amplitudes.none) ≡ value (cond b (ψ s) Amplitudes.none)
    go true = refl
    go false = refl

zeroed-value : (w : ℕ) (ψ : Setting → Amplitude) (s : Setting) →
    zeroed Values w (λ u. value (ψ u)) s ≡ value (zeroed Amplitudes w ψ s)
unfolding zeroed Values add_v Quotient.lift₂
zeroed-value w ψ s = go (s w)
  where
    both : Amplitude
    both = Amplitudes.add (ψ (with w false s)) (ψ (with w true s))

    go : (b : Bool) → cond b (value Amplitudes.none) (value both) ≡ value (cond b Amplitudes.none both)
    go true = refl
    go false = refl

abbrev pub values : Config Amplitude → Config Value
values c = record { outcomes = c.outcomes; bits = c.bits; state = λ u. value (c.state u) }

does-value : (d : Doing) (ws : List ℕ) (c : Config Amplitude) → does Values d ws (values c) ≡ values (does Amplitudes d ws c)
does-value (by M) ws c = ap (on (values c)) (fun_ext λ s. through-value M ws c.state s)
does-value (measure w b) ws c = let o = first_bit c.outcomes in
    ap (drawn (values c) (with b o c.bits)) (fun_ext λ s. kept-value w o c.state s)
does-value (reset w) ws c = let o = first_bit c.outcomes in
    ap (drawn (values c) c.bits) (
    ap (zeroed Values w) (fun_ext λ s. kept-value w o c.state s)
    ∙ fun_ext λ s. zeroed-value w (kept Amplitudes w o c.state) s)

pub run_value : (l : List Gate) (c : Config Amplitude) → run Values l (values c) ≡ values (run Amplitudes l c)
unfolding run
run_value [] c = refl
run_value (g ∷ l) c = ap (run Values l) (does-value (doing g) (wires_of g) c) ∙ run_value l (does Amplitudes (doing g) (wires_of g) c)

pub turned-value : (k : ℕ) (c : Config Amplitude) → turned Values k (values c) ≡ values (turned Amplitudes k c)
unfolding turned
turned-value k c = ap (on (values c)) (fun_ext λ s. turns-value k (c.state s))

-- ------------------------------------------------------------ ends that are the same

same-values : (k : ℕ) (c d : Config Amplitude) → values c ≡ values (turned Amplitudes k d) → SameBut k c d
unfolding turned
same-values k c d q = record {
  outcomes = ap (λ e. e.outcomes) q;
  bits = λ b. ap (λ e. e.bits b) q;
  amplitudes = λ s. same-value _ _ (ap (λ e. e.state s) q);
}

-- Lists that do the same to values, but for a turn, do the same to amplitudes.
pub same-run : (l m : List Gate) (k : ℕ) → ((c : Config Value) → run Values l c ≡ turned Values k (run Values m c)) →
    (c : Config Amplitude) → SameBut k (run Amplitudes l c) (run Amplitudes m c)
same-run l m k h c = same-values k _ _
    (sym (run_value l c) ∙ h (values c) ∙ ap (turned Values k) (run_value m c) ∙ turned-value k (run Amplitudes m c))
