-- Sums of turned values over powers of √2 are compared by computing.
use mathlib.Core.Path.{◌≡◌, refl, sym, ◌∙◌, ap, ap₂}
use mathlib.Core.Bool.{Bool, true, false, cond, ◌&&◌}
use mathlib.Core.List.{List, [], ◌∷◌, ◌++◌}
use Prim.Native.Nat.{ℕ, zero, suc, ◌+◌, ◌-◌, ◌%◌}
use native.Mathlib.Nat as NatL
use lib.Dec.{T, eqb, eqb→eq}
use Rattle.gates.proofs.Joined.{and_both}
use Rattle.meaning.specs.Amplitudes.{Ops, times}
use Rattle.meaning.specs.Matrices.{same_bit, same_bits}
use Rattle.meaning.specs.States.{sum}
use Rattle.meaning.proofs.SumLaws.{Laws, times-plus, times-past, add-none-right, add_left, turns-mod, turns-none, turns-add}

-- The value at some bits, turned by so many eighths and over so many powers of √2.
pub record Term : Type 0 where
  pub turns : ℕ
  pub roots : ℕ
  pub bits : List Bool

abbrev pub term : ℕ → ℕ → List Bool → Term
term k p b = record { turns = k; roots = p; bits = b }

-- The one is the other turned by half a turn: together they are none.
unfoldable pub opposite : Term → Term → Bool
opposite t u = eqb ((4 + t.turns) % 8) u.turns && eqb t.roots u.roots && same_bits t.bits u.bits

-- A term meets its opposite, or joins the others.
unfoldable pub put_in : Term → List Term → List Term
put_in t [] = t ∷ []
put_in t (u ∷ l) = cond (opposite t u) l (u ∷ put_in t l)

unfoldable pub settle : List Term → List Term → List Term
settle [] a = a
settle (t ∷ l) a = settle l (put_in t a)

abbrev pub is_nil : List Term → Bool
is_nil [] = true
is_nil (t ∷ l) = false

-- Turned by j more, over one more power of √2.
abbrev more : ℕ → Term → Term
more j t = term ((j + t.turns) % 8) (suc t.roots) t.bits

-- A term as terms over a power of √2 that is higher by n: √2 = w + w⁷.
unfoldable pub raise : ℕ → Term → List Term
raise zero t = t ∷ []
raise (suc n) t = raise n (more 1 t) ++ raise n (more 7 t)

unfoldable pub raise_all : ℕ → List Term → List Term
raise_all n [] = []
raise_all n (t ∷ l) = raise (n - t.roots) t ++ raise_all n l

unfoldable pub opposed : List Term → List Term
opposed [] = []
opposed (t ∷ l) = term ((4 + t.turns) % 8) t.roots t.bits ∷ opposed l

-- The test: over the power n the one sum takes away the other.
unfoldable pub same_sum : ℕ → List Term → List Term → Bool
same_sum n l m = is_nil (settle (raise_all n l ++ opposed (raise_all n m)) [])

-- ------------------------------------------------------------ the test is right

same_bit-eq : (a b : Bool) → T (same_bit a b) → a ≡ b
same_bit-eq true true h = refl
same_bit-eq true false h = absurd h
same_bit-eq false true h = absurd h
same_bit-eq false false h = refl

same_bits-eq : (l m : List Bool) → T (same_bits l m) → l ≡ m
unfolding same_bits
same_bits-eq [] [] h = refl
same_bits-eq [] (b ∷ m) h = absurd h
same_bits-eq (a ∷ l) [] h = absurd h
same_bits-eq (a ∷ l) (b ∷ m) h = let k = and_both (same_bit a b) (same_bits l m) h in
    ap₂ ◌∷◌ (same_bit-eq a b k.0) (same_bits-eq l m k.1)

module _ {A : Type 0} (O : Ops A) (L : Laws O) (f : List Bool → A) where
  open O use {none, add, turn, over_root}

  unfoldable pub weight : Term → A
  weight t = times turn t.turns (times over_root t.roots (f t.bits))

  unfoldable pub total : List Term → A
  total l = sum O weight l

  four-more : (t : Term) → weight (term ((4 + t.turns) % 8) t.roots t.bits) ≡ times turn 4 (weight t)
  unfolding weight
  four-more t = turns-mod O L (4 + t.turns) _ ∙ times-plus turn 4 t.turns _

  opposite-none : (t u : Term) → T (opposite t u) → add (weight t) (weight u) ≡ none
  unfolding opposite weight
  opposite-none t u h =
      let n = (4 + t.turns) % 8 in
      let k = and_both (eqb n u.turns && eqb t.roots u.roots) (same_bits t.bits u.bits) h in
      let j = and_both (eqb n u.turns) (eqb t.roots u.roots) k.0 in
      ap (add (weight t)) (
      ap₂ (λ n p. times turn n (times over_root p (f u.bits))) (sym (eqb→eq n u.turns j.0)) (sym (eqb→eq t.roots u.roots j.1))
      ∙ ap (λ b. times turn n (times over_root t.roots (f b))) (sym (same_bits-eq t.bits u.bits k.1))
      ∙ four-more t)
      ∙ L.turn-four (weight t)

  put_in-is : (t : Term) (l : List Term) → total (put_in t l) ≡ add (weight t) (total l)
  unfolding put_in total sum
  put_in-is t [] = refl
  put_in-is t (u ∷ l) = go (opposite t u) (opposite-none t u) (put_in-is t l)
    where
      go : (b : Bool) → (T b → add (weight t) (weight u) ≡ none) → total (put_in t l) ≡ add (weight t) (total l) →
          total (cond b l (u ∷ put_in t l)) ≡ add (weight t) (add (weight u) (total l))
      go true h e = sym (sym (L.add_assoc _ _ _) ∙ ap (λ y. add y (total l)) (h tt) ∙ L.add_none _)
      go false h e = ap (add (weight u)) e ∙ add_left O L _ _ _

  settle_is : (l a : List Term) → total (settle l a) ≡ add (total l) (total a)
  unfolding settle total sum
  settle_is [] a = sym (L.add_none _)
  settle_is (t ∷ l) a =
      settle_is l (put_in t a) ∙ ap (add (total l)) (put_in-is t a) ∙ add_left O L _ _ _ ∙ sym (L.add_assoc _ _ _)

  pub total-append : (l m : List Term) → total (l ++ m) ≡ add (total l) (total m)
  unfolding total sum
  total-append [] m = sym (L.add_none _)
  total-append (t ∷ l) m = ap (add (weight t)) (total-append l m) ∙ sym (L.add_assoc _ _ _)

  more-is : (j : ℕ) (t : Term) → weight (more j t) ≡ times turn t.turns (over_root (times turn j (times over_root t.roots (f t.bits))))
  unfolding weight times
  more-is j t = let y = times over_root t.roots (f t.bits) in
      turns-mod O L (j + t.turns) (over_root y)
      ∙ ap (λ n. times turn n (over_root y)) (NatL.add_comm j t.turns)
      ∙ times-plus turn t.turns j (over_root y)
      ∙ ap (times turn t.turns) (sym (times-past over_root turn L.root-turn j y))

  both-more : (t : Term) → add (weight (more 1 t)) (weight (more 7 t)) ≡ weight t
  unfolding weight times
  both-more t =
      ap₂ add (more-is 1 t) (more-is 7 t)
      ∙ sym (turns-add O L t.turns _ _)
      ∙ ap (times turn t.turns) (sym (L.root-add _ _) ∙ L.root-back _)

  raise-is : (n : ℕ) (t : Term) → total (raise n t) ≡ weight t
  unfolding raise total sum
  raise-is zero t = add-none-right O L _
  raise-is (suc n) t = total-append (raise n _) (raise n _) ∙ ap₂ add (raise-is n _) (raise-is n _) ∙ both-more t

  raise_all-is : (n : ℕ) (l : List Term) → total (raise_all n l) ≡ total l
  unfolding raise_all total sum
  raise_all-is n [] = refl
  raise_all-is n (t ∷ l) =
      total-append (raise (n - t.roots) t) (raise_all n l) ∙ ap₂ add (raise-is (n - t.roots) t) (raise_all-is n l)

  opposed-is : (l : List Term) → total (opposed l) ≡ times turn 4 (total l)
  unfolding opposed total sum
  opposed-is [] = sym (turns-none O L 4)
  opposed-is (t ∷ l) = ap₂ add (four-more t) (opposed-is l) ∙ sym (turns-add O L 4 _ _)

  nil-none : (l : List Term) → T (is_nil l) → total l ≡ none
  unfolding total sum
  nil-none [] h = refl
  nil-none (t ∷ l) h = absurd h

  pub same_sum_lem : (n : ℕ) (l m : List Term) → T (same_sum n l m) → total l ≡ total m
  unfolding same_sum total sum
  same_sum_lem n l m h =
      sym (add-none-right O L (total l))
      ∙ ap (add (total l)) (sym (L.add_comm _ (total m) ∙ L.turn-four (total m)))
      ∙ sym (L.add_assoc _ _ _)
      ∙ ap (λ y. add y (total m)) (
      ap₂ add (sym (raise_all-is n l)) (ap (times turn 4) (sym (raise_all-is n m)) ∙ sym (opposed-is (raise_all n m)))
      ∙ sym (total-append (raise_all n l) (opposed (raise_all n m)))
      ∙ sym (add-none-right O L _)
      ∙ sym (settle_is (raise_all n l ++ opposed (raise_all n m)) [])
      ∙ nil-none (settle (raise_all n l ++ opposed (raise_all n m)) []) h)
      ∙ L.add_none (total m)
