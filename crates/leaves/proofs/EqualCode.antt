-- What the code compares of two gates: their kinds, and the words of their records in canonical order.
use mathlib.Core.Path.{◌≡◌, refl, ap, ap₂, ◌∙◌}
use mathlib.Core.Bool.{Bool, true, false, ◌&&◌}
use mathlib.Core.List.{List, [], ◌∷◌, ◌++◌, append-nil}
use Prim.Native.Nat.{ℕ}
use native.Mathlib.Omega.{arith}
use Rattle.std.proofs.lemmas.Grind.{common_steps}
use lib.Dec.{eqb}
use lib.ListN.{drop}
use borrow.Author.Tests.{eqb-true}
use Rattle.gates.specs.declared.Gate.{Gate}
use Rattle.gates.specs.Kinds.{shapes, shape_of, wires_in}
use Rattle.gates.specs.Gates.{wires_of, has}
use Rattle.gates.specs.Records.{kind_of, record_of}
use Rattle.rules.specs.Equal.{ordered, canonical, same, equal, seven, cancels}
use Rattle.leaves.specs.Answers.{words_of, cancels_by}
use Rattle.rules.proofs.EqualLaws.{same-append}

-- the last of three tests matters only where the first two pass
and-under : (a b c d : Bool) → (a ≡ true → b ≡ true → c ≡ d) → a && (b && c) ≡ a && (b && d)
and-under true true c d e = e refl refl
and-under true false c d e = refl
and-under false b c d e = refl

-- ------------------------------------------------------------ the words of a gate's record

-- a record's three words, in the order that its kind asks for
abbrev words : Gate → List ℕ
words g = ordered (kind_of g) (words_of (record_of g))

-- the words beyond a kind's wires
abbrev unused : ℕ → List ℕ
unused kind = drop (wires_in (shape_of kind)) (0 ∷ 0 ∷ 0 ∷ [])

-- a gate of the seven has its wires in its words, and zeros; a measure has its bit there
words_are : (g : Gate) → has (kind_of g) seven ≡ true → words g ≡ canonical g ++ unused (kind_of g)
unfolding record_of wires_of has ordered canonical shape_of shapes
words_are g e = grind (arith, common_steps, append-nil)

-- ------------------------------------------------------------ equal gates by their words

-- gates of the seven kinds are equal where their kinds and all their words are
pub records-cancel : (a b : Gate) → cancels_by (record_of a) (record_of b) ≡ cancels seven a b
unfolding cancels equal cancels_by
records-cancel a b = and-under _ _ _ _ same-words
  where
    same-words : has (kind_of a) seven ≡ true → eqb (kind_of a) (kind_of b) ≡ true
        → same (words a) (words b) ≡ same (canonical a) (canonical b)
    same-words self e =
        let kinds-equal : kind_of a ≡ kind_of b = eqb-true (kind_of a) (kind_of b) e in
        let self-too : has (kind_of b) seven ≡ true = rw kinds-equal at self in
        let left = words_are a self ∙ ap (λ (kind : ℕ). canonical a ++ unused kind) kinds-equal in
        ap₂ same left (words_are b self-too) ∙ same-append (canonical a) (canonical b) (unused (kind_of b))
