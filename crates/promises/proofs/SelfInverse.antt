-- The cancelling kinds, and the kinds of pairs, are among those that undo themselves.
use mathlib.Core.Path.{◌≡◌, refl, ◌∙◌, ap}
use mathlib.Core.Bool.{Bool, false≢true, true, false, ◌||◌, ◌&&◌}
use mathlib.Core.List.{List, [], ◌∷◌}
use Prim.Native.Nat.{ℕ}
use lib.Dec.{eqb}
use borrow.Author.Tests.{eqb-true}
use Rattle.gates.specs.declared.Gate.{Gate}
use Rattle.gates.specs.Gates.{has}
use Rattle.gates.specs.Records.{kind_of}
use Rattle.rules.specs.Equal.{seven, is_pair}
use Rattle.gates.proofs.Joined.{and_left, and_right}
use Rattle.meaning.proofs.Undo.{self_inverse}

-- Every kind of a list undoes itself.
abbrev pub SelfInverse : List ℕ → Type 0
SelfInverse kinds = (k : ℕ) → has k kinds ≡ true → has k self_inverse ≡ true

unfoldable among : List ℕ → List ℕ → Bool
unfolding has
among [] m = true
among (k ∷ l) m = has k m && among l m

among-has : (l m : List ℕ) → among l m ≡ true → (k : ℕ) → has k l ≡ true → has k m ≡ true
unfolding among has
among-has [] m h k q = absurd (false≢true q)
among-has (j ∷ l) m h k q = go (eqb k j) refl q (among-has l m (and_right (has j m) _ h) k)
  where
    go : (b : Bool) → eqb k j ≡ b → b || has k l ≡ true → (has k l ≡ true → has k m ≡ true) → has k m ≡ true
    go true e q ih = ap (λ i. has i m) (eqb-true k j e) ∙ and_left (has j m) _ h
    go false e q ih = ih q

pub seven-undo : SelfInverse seven
unfolding among
seven-undo = among-has seven self_inverse refl

pub pair-undoes : (g : Gate) → is_pair g ≡ true → has (kind_of g) self_inverse ≡ true
unfolding among
pair-undoes g = among-has (8 ∷ 9 ∷ 10 ∷ 11 ∷ []) self_inverse refl (kind_of g)
