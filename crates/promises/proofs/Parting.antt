-- The partition law: the gates on a wire, where they are on it alone, move together past the gates off it.
use mathlib.Core.Path.{◌≡◌, refl, sym, ◌∙◌, ap}
use mathlib.Core.Bool.{Bool, false≢true, true, false, cond, or-false}
use mathlib.Core.List.{List, [], ◌∷◌, ◌++◌, append-nil}
use mathlib.Core.Option.{some, none}
use Prim.Native.Nat.{ℕ}
use lib.Dec.{eqb}
use borrow.Author.Tests.{eqb-true}
use Rattle.gates.specs.declared.Gate.{Gate}
use Rattle.gates.specs.Gates.{wires_of, has, meet, touches, All}
use Rattle.rules.specs.Steps.{Cell, gates_of, track, off_wire, put, put_first}
use Rattle.meaning.specs.Amplitudes.{Ops}
use Rattle.meaning.specs.States.{Config}
use Rattle.meaning.proofs.SumLaws.{Laws}
use Rattle.meaning.proofs.Operators.{step}
use Rattle.meaning.proofs.GateOperators.{operator}
use Rattle.meaning.proofs.Lists.{Passes, Undrawn, drive, drive-append, pass-list}
use Rattle.promises.proofs.Apart.{apart-passes}

-- ------------------------------------------------------------ gates on one wire alone

-- A gate that takes no outcome and is on wire w alone.
pub record Only (w : ℕ) (g : Gate) : Type 0 where
  pub undrawn : Undrawn g
  pub alone : wires_of g ≡ w ∷ []

only-passes : (w : ℕ) (g k : Gate) → Only w g → touches w k ≡ false → Passes g k
unfolding meet
only-passes w g k o h = apart-passes g k (ap (λ l. meet l (wires_of k)) o.alone ∙ or-false (touches w k) ∙ h)

pub on-wire : (w : ℕ) (g : Gate) (v : ℕ) → wires_of g ≡ v ∷ [] → touches w g ≡ true → v ≡ w
unfolding has
on-wire w g v e h = sym (eqb-true w v (sym (or-false (eqb w v)) ∙ sym (ap (has w) e) ∙ h))

-- ------------------------------------------------------------ cells on a wire and off it

module _ {A : Type 0} where
  pub track-on : (w : ℕ) (m : List (Cell A)) → All (λ g. touches w g ≡ true) (track w m)
  unfolding track
  track-on w [] = tt
  track-on w (e ∷ m) = go (touches w e.gate) refl (track-on w m)
    where
      go : (b : Bool) → touches w e.gate ≡ b → All (λ g. touches w g ≡ true) (track w m) →
          All (λ g. touches w g ≡ true) (cond b (e.gate ∷ track w m) (track w m))
      go true q h = (q, h)
      go false q h = h

  off-passes : (w : ℕ) (g : Gate) (m : List (Cell A)) → Only w g → All (Passes g) (gates_of (off_wire w m))
  unfolding off_wire
  off-passes w g [] o = tt
  off-passes w g (e ∷ m) o = go (touches w e.gate) refl (off-passes w g m o)
    where
      go : (b : Bool) → touches w e.gate ≡ b → All (Passes g) (gates_of (off_wire w m)) →
          All (Passes g) (gates_of (cond b (off_wire w m) (e ∷ off_wire w m)))
      go true q h = h
      go false q h = (only-passes w g e.gate o q, h)

  -- Where nothing is put in, the cells off the wire are left.
  pub put-none : (w : ℕ) (m : List (Cell A)) → put_first w none m ≡ off_wire w m
  unfolding put_first off_wire
  put-none w [] = refl
  put-none w (e ∷ m) = go (touches w e.gate) (put-none w m)
    where
      go : (b : Bool) → put_first w none m ≡ off_wire w m →
          cond b (off_wire w m) (e ∷ put_first w none m) ≡ cond b (off_wire w m) (e ∷ off_wire w m)
      go true h = refl
      go false h = ap (◌∷◌ e) h

abbrev pub busy : List Gate → Bool
busy [] = false
busy (g ∷ t) = true

-- ------------------------------------------------------------ lists that do the same

module _ {B : Type 0} (O : Ops B) (L : Laws O) where
  abbrev pub Runs : List Gate → List Gate → Type 0
  Runs l m = (c : Config B) → drive O l c ≡ drive O m c

  pub runs-cons : (g : Gate) (l m : List Gate) → Runs l m → Runs (g ∷ l) (g ∷ m)
  unfolding drive
  runs-cons g l m h c = h (step O (operator g) c)

  pub runs-before : (a l m : List Gate) → Runs l m → Runs (a ++ l) (a ++ m)
  runs-before a l m h c = drive-append O a l c ∙ h (drive O a c) ∙ sym (drive-append O a m c)

  pub runs_after : (l m b : List Gate) → Runs l m → Runs (l ++ b) (m ++ b)
  runs_after l m b h c = drive-append O l b c ∙ ap (drive O b) (h c) ∙ sym (drive-append O m b c)

  swap-two : (w : ℕ) (t g : Gate) (r : List Gate) → Only w t → touches w g ≡ false → Runs (g ∷ t ∷ r) (t ∷ g ∷ r)
  swap-two w t g r o h c = sym (pass-list O L t (g ∷ []) r c o.undrawn (only-passes w t g o h, tt))

  -- Gates on the wire move before a gate off it.
  move-before : (w : ℕ) (k : Gate) (t r : List Gate) → touches w k ≡ false → All (Only w) t → Runs (k ∷ (t ++ r)) (t ++ (k ∷ r))
  move-before w k [] r h o c = refl
  move-before w k (g ∷ t) r h o c =
      swap-two w g k (t ++ r) o.0 h c
      ∙ runs-cons g (k ∷ (t ++ r)) (t ++ (k ∷ r)) (move-before w k t r h o.1) c

  module _ {A : Type 0} (w : ℕ) where
    -- The gates on the wire, then those off it.
    pub parted : (m : List (Cell A)) → All (Only w) (track w m) → Runs (gates_of m) (track w m ++ gates_of (off_wire w m))
    unfolding track off_wire
    parted [] o c = refl
    parted (e ∷ m) o c = go (touches w e.gate) refl o (parted m)
      where
        go : (b : Bool) → touches w e.gate ≡ b → All (Only w) (cond b (e.gate ∷ track w m) (track w m)) →
            (All (Only w) (track w m) → Runs (gates_of m) (track w m ++ gates_of (off_wire w m))) →
            drive O (e.gate ∷ gates_of m) c ≡
            drive O (cond b (e.gate ∷ track w m) (track w m) ++ gates_of (cond b (off_wire w m) (e ∷ off_wire w m))) c
        go true q o ih = runs-cons e.gate _ _ (ih o.1) c
        go false q o ih = runs-cons e.gate _ _ (ih o) c ∙ move-before w e.gate (track w m) (gates_of (off_wire w m)) q o c

    -- A gate put in place of the first on the wire moves before those off it.
    pub first-moved : (g : Gate) (m : List (Cell A)) → Only w g → busy (track w m) ≡ true →
        Runs (gates_of (put_first w (some g) m)) (g ∷ gates_of (off_wire w m))
    unfolding track off_wire put_first
    first-moved g [] o h c = absurd (false≢true h)
    first-moved g (e ∷ m) o h c = go (touches w e.gate) refl h (first-moved g m o)
      where
        go : (b : Bool) → touches w e.gate ≡ b → busy (cond b (e.gate ∷ track w m) (track w m)) ≡ true →
            (busy (track w m) ≡ true → Runs (gates_of (put_first w (some g) m)) (g ∷ gates_of (off_wire w m))) →
            drive O (gates_of (cond b (put (some g) e (off_wire w m)) (e ∷ put_first w (some g) m))) c ≡
            drive O (g ∷ gates_of (cond b (off_wire w m) (e ∷ off_wire w m))) c
        go true q h ih = refl
        go false q h ih =
            runs-cons e.gate _ _ (ih h) c ∙ swap-two w g e.gate (gates_of (off_wire w m)) o q c

    -- A gate on the wire moves from behind the gates off it to before them.
    pub last-moved : (g : Gate) (m : List (Cell A)) → Only w g →
        Runs (gates_of (off_wire w m) ++ (g ∷ [])) (g ∷ gates_of (off_wire w m))
    last-moved g m o c = sym (
        ap (λ x. drive O (g ∷ x) c) (sym (append-nil (gates_of (off_wire w m))))
        ∙ pass-list O L g (gates_of (off_wire w m)) [] c o.undrawn (off-passes w g m o))
