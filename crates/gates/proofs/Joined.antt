-- Tests joined by `and` and `or`, and lists of wires that do not meet: laws that the crates above use too.
use mathlib.Core.Path.{◌≡◌, refl, sym}
use mathlib.Core.Bool.{Bool, false≢true, true, false, ◌||◌, ◌&&◌, and-eq-true_iff}
use mathlib.Core.List.{List, [], ◌∷◌}
use Prim.Native.Nat.{ℕ}
use lib.Dec.{T, eqb}
use borrow.Author.Tests.{eqb-true}
use Rattle.gates.specs.Gates.{has, meet}

pub and_left : (a b : Bool) → a && b ≡ true → a ≡ true
and_left a b e = ((and-eq-true_iff a b).0 e).0

pub and_right : (a b : Bool) → a && b ≡ true → b ≡ true
and_right a b e = ((and-eq-true_iff a b).0 e).1

pub and_both : (a b : Bool) → T (a && b) → T a × T b
and_both true b t = (tt, t)
and_both false b t = absurd t

pub neither : (a b : Bool) → a || b ≡ false → (a ≡ false) × (b ≡ false)
neither true b e = absurd (false≢true (sym e))
neither false b e = (refl, e)

-- A wire of the one is none of the other's.
pub apart : (ps gs : List ℕ) (w : ℕ) → meet ps gs ≡ false → has w ps ≡ true → has w gs ≡ false
unfolding has meet
apart [] gs w m h = absurd (false≢true h)
apart (p ∷ ps) gs w m h = go (apart ps gs w (neither (has p gs) (meet ps gs) m).1) (eqb w p) refl
  where
    go : (has w ps ≡ true → has w gs ≡ false) → (t : Bool) → eqb w p ≡ t → has w gs ≡ false
    go rest true e = rw (eqb-true w p e) (neither (has p gs) (meet ps gs) m).0
    go rest false e = rest (rw e at h)
