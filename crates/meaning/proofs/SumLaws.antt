-- The laws of amplitudes as equations, and what follows of sums and of factors.
use mathlib.Core.Path.{◌≡◌, refl, sym, ◌∙◌, ap}
use mathlib.Core.List.{List, [], ◌∷◌}
use Prim.Native.Nat.{ℕ, zero, suc, ◌+◌, ◌*◌, ◌/◌, ◌%◌}
use native.Mathlib.Nat as NatL
use native.Mathlib.Omega.{arith}
use Rattle.meaning.specs.Amplitudes.{Ops, times}
use Rattle.meaning.specs.Matrices.{Factor}
use Rattle.meaning.specs.States.{sum, scale}

-- What amplitudes obey up to their values; all that is proved of lists is proved of anything that obeys it.
pub record Laws {A : Type 0} (O : Ops A) : Type 0 where
  pub add_none : (x : A) → O.add O.none x ≡ x
  pub add_comm : (x y : A) → O.add x y ≡ O.add y x
  pub add_assoc : (x y z : A) → O.add (O.add x y) z ≡ O.add x (O.add y z)
  pub turn-none : O.turn O.none ≡ O.none
  pub turn-add : (x y : A) → O.turn (O.add x y) ≡ O.add (O.turn x) (O.turn y)
  pub root_none : O.over_root O.none ≡ O.none
  pub root-add : (x y : A) → O.over_root (O.add x y) ≡ O.add (O.over_root x) (O.over_root y)
  pub root-turn : (x : A) → O.over_root (O.turn x) ≡ O.turn (O.over_root x)
  -- w⁴ = -1, and √2 = w + w⁷
  pub turn-four : (x : A) → O.add x (times O.turn 4 x) ≡ O.none
  pub root-back : (x : A) → O.over_root (O.add (O.turn x) (times O.turn 7 x)) ≡ x

-- ------------------------------------------------------------ so many times

module _ {A : Type 0} where
  pub times-plus : (f : A → A) (j k : ℕ) (x : A) → times f (j + k) x ≡ times f j (times f k x)
  unfolding times
  times-plus f zero k x = ap (λ n. times f n x) (NatL.zero-add k)
  times-plus f (suc j) k x = ap (λ n. times f n x) (NatL.suc-add j k) ∙ ap f (times-plus f j k x)

module _ {A : Type 0} (f g : A → A) (fg : (x : A) → f (g x) ≡ g (f x)) where
  pub times-past : (k : ℕ) (x : A) → f (times g k x) ≡ times g k (f x)
  unfolding times
  times-past zero x = refl
  times-past (suc k) x = fg (times g k x) ∙ ap g (times-past k x)

  pub times-swap : (j k : ℕ) (x : A) → times f j (times g k x) ≡ times g k (times f j x)
  unfolding times
  times-swap zero k x = refl
  times-swap (suc j) k x = ap f (times-swap j k x) ∙ times-past k (times f j x)

module _ {A : Type 0} (none : A) (add : A → A → A) (f : A → A) (f-none : f none ≡ none)
    (f-add : (x y : A) → f (add x y) ≡ add (f x) (f y)) where
  pub times_none : (k : ℕ) → times f k none ≡ none
  unfolding times
  times_none zero = refl
  times_none (suc k) = ap f (times_none k) ∙ f-none

  pub times-add : (k : ℕ) (x y : A) → times f k (add x y) ≡ add (times f k x) (times f k y)
  unfolding times
  times-add zero x y = refl
  times-add (suc k) x y = ap f (times-add k x y) ∙ f-add (times f k x) (times f k y)

module _ {A : Type 0} (O : Ops A) (f : A → A) (f-none : f O.none ≡ O.none)
    (f-add : (x y : A) → f (O.add x y) ≡ O.add (f x) (f y)) where
  sum_through : {X : Type 0} (h : X → A) (l : List X) → f (sum O h l) ≡ sum O (λ x. f (h x)) l
  unfolding sum
  sum_through h [] = f-none
  sum_through h (x ∷ l) = f-add (h x) (sum O h l) ∙ ap (O.add (f (h x))) (sum_through h l)

module _ {A : Type 0} (O : Ops A) (L : Laws O) where
  open O use {none, add, turn, over_root}

  -- ------------------------------------------------------------ sums

  pub add-none-right : (x : A) → add x none ≡ x
  add-none-right x = L.add_comm x none ∙ L.add_none x

  pub add_left : (x y z : A) → add x (add y z) ≡ add y (add x z)
  add_left x y z = sym (L.add_assoc x y z) ∙ ap (λ a. add a z) (L.add_comm x y) ∙ L.add_assoc y x z

  add-middle : (a b c d : A) → add (add a b) (add c d) ≡ add (add a c) (add b d)
  add-middle a b c d = L.add_assoc a b _ ∙ ap (add a) (add_left b c d) ∙ sym (L.add_assoc a c _)

  pub turn-eight : (x : A) → times turn 8 x ≡ x
  unfolding times
  turn-eight x =
      sym (L.add_none (times turn 8 x))
      ∙ ap (λ y. add y (times turn 8 x)) (sym (L.turn-four x))
      ∙ L.add_assoc x (times turn 4 x) (times turn 8 x)
      ∙ ap (add x) (L.turn-four (times turn 4 x))
      ∙ add-none-right x

  turns-eights : (q r : ℕ) (x : A) → times turn (8 * q + r) x ≡ times turn r x
  turns-eights zero r x = ap (λ n. times turn n x) (omega arith)
  turns-eights (suc q) r x =
      ap (λ n. times turn n x) (omega arith)
      ∙ times-plus turn 8 (8 * q + r) x
      ∙ turn-eight _
      ∙ turns-eights q r x

  -- Turns are counted modulo 8.
  pub turns-mod : (k : ℕ) (x : A) → times turn (k % 8) x ≡ times turn k x
  turns-mod k x = sym (turns-eights (k / 8) (k % 8) x) ∙ ap (λ n. times turn n x) (omega arith)

  module _ {X : Type 0} where
    sum-none : (l : List X) → sum O (λ x. none) l ≡ none
    unfolding sum
    sum-none [] = refl
    sum-none (x ∷ l) = L.add_none _ ∙ sum-none l

    sum-add : (f g : X → A) (l : List X) → sum O (λ x. add (f x) (g x)) l ≡ add (sum O f l) (sum O g l)
    unfolding sum
    sum-add f g [] = sym (L.add_none none)
    sum-add f g (x ∷ l) = ap (add (add (f x) (g x))) (sum-add f g l) ∙ add-middle (f x) (g x) (sum O f l) (sum O g l)

  -- A double sum, in either order.
  pub sum-swap : {X Y : Type 0} (f : X → Y → A) (l : List X) (m : List Y) →
      sum O (λ x. sum O (f x) m) l ≡ sum O (λ y. sum O (λ x. f x y) l) m
  unfolding sum
  sum-swap f [] m = sym (sum-none m)
  sum-swap f (x ∷ l) m = ap (add (sum O (f x) m)) (sum-swap f l m) ∙ sym (sum-add (f x) (λ y. sum O (λ z. f z y) l) m)

  -- ------------------------------------------------------------ turns and factors

  pub turn-past-root : (x : A) → turn (over_root x) ≡ over_root (turn x)
  turn-past-root x = sym (L.root-turn x)

  pub turns-none : (k : ℕ) → times turn k none ≡ none
  turns-none = times_none none add turn L.turn-none L.turn-add

  pub turns-add : (k : ℕ) (x y : A) → times turn k (add x y) ≡ add (times turn k x) (times turn k y)
  turns-add = times-add none add turn L.turn-none L.turn-add

  pub turns-sum : {X : Type 0} (k : ℕ) (h : X → A) (l : List X) → times turn k (sum O h l) ≡ sum O (λ x. times turn k (h x)) l
  turns-sum k h l = sum_through O (times turn k) (turns-none k) (turns-add k) h l

  pub scale-none : (c : Factor) → scale O c none ≡ none
  unfolding scale
  scale-none c = ap (times turn c.turns) (times_none none add over_root L.root_none L.root-add c.roots) ∙ turns-none c.turns

  pub scale-add : (c : Factor) (x y : A) → scale O c (add x y) ≡ add (scale O c x) (scale O c y)
  unfolding scale
  scale-add c x y = ap (times turn c.turns) (times-add none add over_root L.root_none L.root-add c.roots x y) ∙ turns-add c.turns _ _

  pub scale-sum : {X : Type 0} (c : Factor) (h : X → A) (l : List X) → scale O c (sum O h l) ≡ sum O (λ x. scale O c (h x)) l
  scale-sum c h l = sum_through O (scale O c) (scale-none c) (scale-add c) h l

  pub scale-turns : (c : Factor) (k : ℕ) (x : A) → scale O c (times turn k x) ≡ times turn k (scale O c x)
  unfolding scale
  scale-turns c k x =
      ap (times turn c.turns) (sym (times-swap turn over_root turn-past-root k c.roots x))
      ∙ times-swap turn turn (λ y. refl) c.turns k _

  pub scale-swap : (c d : Factor) (x : A) → scale O c (scale O d x) ≡ scale O d (scale O c x)
  unfolding scale
  scale-swap c d x =
      scale-turns c d.turns (times over_root d.roots x)
      ∙ ap (times turn d.turns) (
      ap (times turn c.turns) (times-swap over_root over_root (λ y. refl) c.roots d.roots x)
      ∙ times-swap turn over_root turn-past-root c.turns d.roots (times over_root c.roots x))
