-- Turns are summed as whole numbers, also below zero, and taken modulo 8.
use mathlib.Core.Path.{◌≡◌, refl, sym, ◌∙◌, ap, ap₂}
use mathlib.Core.Bool.{Bool, true, false, cond}
use mathlib.Core.List.{List, ◌∷◌, ◌++◌}
use Prim.Native.Nat.{ℕ, suc, ◌+◌, ◌-◌, ◌*◌, ◌/◌, ◌%◌, ◌<◌}
use native.Mathlib.Omega.{arith}
use lib.Dec.{ltb}
use lib.IntN.{ℤ, pos, negsuc, neg_ℤ, ◌+ℤ◌, ◌*ℤ◌, sub_ℕ}
use borrow.Author.Tests.{ltb-true, ltb-false, lt-ltb}
use Rattle.rules.specs.Steps.{Cell, Step, try, cut_at}
use Rattle.rules.proofs.Cuts.{cut-at-is}
use Rattle.rules.proofs.Acts.{Acted}
use Rattle.meaning.specs.Amplitudes.{Ops}
use Rattle.meaning.specs.States.{Config}
use Rattle.meaning.proofs.SumLaws.{Laws}
use Rattle.meaning.proofs.Operators.{turned}
use Rattle.meaning.proofs.Lists.{turned-plus, turned-mod}
use Rattle.promises.specs.Turns.{turns_at, turns_of_step, modulo8}

pub modulo8-small : (z : ℤ) → modulo8 z < 8
unfolding modulo8
modulo8-small (pos n) = omega arith
modulo8-small (negsuc n) = omega arith

modulo8-sub : (a b : ℕ) → modulo8 (sub_ℕ a (suc b)) ≡ (a % 8 + (7 - b % 8)) % 8
unfolding modulo8
modulo8-sub a b = go (ltb a (suc b)) refl
  where
    go : (t : Bool) → ltb a (suc b) ≡ t → modulo8 (cond t (negsuc (suc b - suc a)) (pos (a - suc b))) ≡ (a % 8 + (7 - b % 8)) % 8
    go true e = omega (arith, ltb-true a (suc b) e)
    go false e = omega (arith, ltb-false a (suc b) e)

pub modulo8-plus : (a b : ℤ) → modulo8 (a +ℤ b) ≡ (modulo8 a + modulo8 b) % 8
unfolding modulo8
modulo8-plus (pos a) (pos b) = omega arith
modulo8-plus (pos a) (negsuc b) = modulo8-sub a b
modulo8-plus (negsuc a) (pos b) = modulo8-sub b a ∙ omega arith
modulo8-plus (negsuc a) (negsuc b) = omega arith

pub eights : ℤ → ℤ
eights (pos n) = pos (n / 8)
eights (negsuc n) = negsuc (n / 8)

-- What modulo 8 means, also below zero: a number is what it is modulo 8, and eights.
pub modulo8-exact : (z : ℤ) → pos (modulo8 z) +ℤ (pos 8 *ℤ eights z) ≡ z
unfolding modulo8 eights
modulo8-exact (pos n) = ap pos (omega arith)
modulo8-exact (negsuc n) =
    let a : ℕ = 7 - n % 8 in
    let k : ℕ = 8 * (n / 8) + 7 in
    let e : 8 * suc (n / 8) ≡ suc k = omega arith in
    ap (λ m. pos a +ℤ neg_ℤ (pos m)) e
    ∙ ap (λ t. cond t (negsuc (suc k - suc a)) (pos (a - suc k))) (lt-ltb a (suc k) (omega arith))
    ∙ ap negsuc (omega arith)

module _ {B : Type 0} (O : Ops B) (L : Laws O) where
  pub turned-sum : (a b : ℤ) (c : Config B) → turned O (modulo8 a) (turned O (modulo8 b) c) ≡ turned O (modulo8 (a +ℤ b)) c
  turned-sum a b c =
      turned-plus O L (modulo8 a) (modulo8 b) c
      ∙ sym (turned-mod O L (modulo8 a + modulo8 b) c)
      ∙ ap (λ n. turned O n c) (sym (modulo8-plus a b))

module _ {A : Type 0} (kinds : List ℕ) where
  -- The turns of an allowed step are those of what it found.
  pub turns-of-step : (s : Step) (l r : List (Cell A)) (p : Acted kinds s l r) → turns_of_step s l ≡ turns_at s.kind p.e p.m
  unfolding turns_of_step
  turns-of-step s l r p =
      ap₂ (λ n o. try o (pos 0) λ c. try (cut_at n c.after) (pos 0) λ d. turns_at s.kind c.here d.before)
      (omega (arith, p.at, p.to))
      (ap₂ cut_at (sym p.at) p.found ∙ cut-at-is p.a p.e (p.m ++ (p.f ∷ p.b)))
      ∙ ap (λ o. try o (pos 0) λ d. turns_at s.kind p.e d.before) (cut-at-is p.m p.f p.b)
