-- The fuel of a sweep's walk over its cells is enough: more changes nothing.
use mathlib.Core.Path.{◌≡◌, refl, sym, ◌∙◌, ap}
use mathlib.Core.Bool.{Bool, true, false}
use mathlib.Core.List.{List, [], ◌∷◌, ◌++◌}
use mathlib.Core.Option.{Option, some, none}
use Prim.Native.Nat.{ℕ, zero, suc, ◌+◌, ◌≤◌}
use native.Mathlib.Omega.{arith}
use lib.ListN.{length, length-append}
use Rattle.rules.specs.Equal.{equal, is_pair}
use Rattle.rules.specs.Steps.{Cell, Cut}
use Rattle.rules.specs.Sweeps.{Done, Walk, fire, stay, walked, cut, hadamards_from, walk_past, commuting_from}
use Rattle.rules.proofs.Names.{kept, com-walk, com-with, com-open}
use Rattle.rules.proofs.Cuts.{Parts, cut-is}
use Rattle.rules.proofs.HadamardForm.{enough, hadamards-next-h}

module _ {A : Type 0} where
  -- Two walks that agree on shorter lists agree on this one.
  module _ (f g : ℕ → List (Cell A) → Done A) (i : ℕ) (e : Cell A) (l : List (Cell A))
      (same : (j : ℕ) (m : List (Cell A)) → length m ≤ length l → f j m ≡ g j m) where
    shorter : (c : Cut A) → Parts (equal e.gate) l (some c) → length (c.before ++ c.after) ≤ length l
    shorter c p = omega (
      arith,
      ap length p.0,
      length-append c.before c.after,
      length-append c.before (c.here ∷ c.after),
    )

    kept_same : kept f i e l ≡ kept g i e l
    kept_same = ap (stay (e ∷ [])) (same (suc i) l (omega arith))

    walk_same : (c : Cut A) → Parts (equal e.gate) l (some c) → (w : Walk) → com-walk f i e l c w ≡ com-walk g i e l c w
    walk_same c p w = λ x. walked w
        (fire 2 i (suc i + length c.before) (same i (c.before ++ c.after) (shorter c p) x))
        (kept_same x)

    with-same : (o : Option (Cut A)) → Parts (equal e.gate) l o → com-with f i e l o ≡ com-with g i e l o
    with-same none p = kept_same
    with-same (some c) p = walk_same c p (walk_past e.gate c.before)

    open-same : (b : Bool) → com-open f i e l b ≡ com-open g i e l b
    open-same true = with-same (cut (equal e.gate) l) (cut-is (equal e.gate) l)
    open-same false = kept_same

  pub commuting-enough : (n m i : ℕ) (l : List (Cell A)) → length l ≤ n → length l ≤ m → commuting_from n i l ≡ commuting_from m i l
  unfolding commuting_from
  commuting-enough zero zero i l p q = refl
  commuting-enough zero (suc m) i [] p q = refl
  commuting-enough zero (suc m) i (e ∷ l) p q = absurd (omega arith)
  commuting-enough (suc n) zero i [] p q = refl
  commuting-enough (suc n) zero i (e ∷ l) p q = absurd (omega arith)
  commuting-enough (suc n) (suc m) i [] p q = refl
  commuting-enough (suc n) (suc m) i (e ∷ l) p q =
      open-same (commuting_from n) (commuting_from m) i e l (λ j k h. commuting-enough n m j k (omega arith) (omega arith)) (is_pair e.gate)

  pub hadamards-enough : (n m w i : ℕ) (l : List (Cell A)) → length l ≤ n → length l ≤ m → hadamards_from n w i l ≡ hadamards_from m w i l
  hadamards-enough n m w i l p q = hadamards-next-h n w i l p ∙ enough n m w i l p q ∙ sym (hadamards-next-h m w i l q)
