-- Gates that stand between the two h of a step: an x, or those of a run.
use Rattle.std.specs.Prelude.{Ok}
use mathlib.Core.Path.{◌≡◌, refl, sym, ◌∙◌, ap, ap₂}
use mathlib.Core.Bool.{Bool, true, false, not, cond, ◌||◌, ◌&&◌}
use mathlib.Core.List.{List, [], ◌∷◌}
use mathlib.Core.Option.{Option, some, none}
use Prim.Native.Nat.{ℕ, ◌%◌}
use lib.Dec.{eqb}
use borrow.Author.Tests.{eqb-true}
use Rattle.gates.specs.declared.Wire.{Wire}
use Rattle.gates.specs.declared.Gate.{Gate}
use Rattle.gates.specs.declared.Gate.TheVariants.{X, H, S, Sdg, Z, T, Tdg, Cnot, Cz, Ccx, Ccz, Measure, Reset, Y, Sx, Swap, Cy, Ch, Cswap}
use Rattle.gates.specs.Kinds.{on1, shapes, shape_of}
use Rattle.gates.specs.Gates.{wire, wires_of, has, touches}
use Rattle.gates.specs.Records.{record_of, kind_of, is_h, decoded_as, named_by}
use Rattle.gates.proofs.RoundTrip.{named-by-record}
use Rattle.rules.specs.Runs.{Rewrite, rewrite, is_h_on, worth, plus, sum_of, by_eighths, by_sum, lone_x, rewrite_of}
use Rattle.rules.specs.Steps.{Cell, first_of, all, track}
use Rattle.rules.specs.Sweeps.{in_run}
use Rattle.gates.proofs.Joined.{and_left, and_right, neither}
use Rattle.rules.proofs.EqualLaws.{none-not-some}

-- ------------------------------------------------------------ an h on a wire

-- A gate of a kind of one wire is that kind on its wire.
pub of-one-wire : (k : ℕ) (f : Wire → Gate) → shape_of k ≡ on1 f → ((w : Wire) → wires_of (f w) ≡ w.0 ∷ []) → (g : Gate) →
    eqb (kind_of g) k ≡ true → g ≡ f (wire (first_of (wires_of g)))
unfolding named_by
of-one-wire k f s ws g h =
    let r = record_of g in
    let e : Ok (f (wire r.first)) ≡ Ok g =
    ap (λ z. decoded_as z r.first r.second r.third) (sym s)
    ∙ ap (λ n. decoded_as (shape_of n) r.first r.second r.third) (sym (eqb-true (kind_of g) k h))
    ∙ named-by-record g in
    let q : f (wire r.first) ≡ g = cc in
    sym q ∙ ap (λ v. f (wire v)) (ap first_of (sym (ws (wire r.first))) ∙ ap (λ x. first_of (wires_of x)) q)

pub is-h : (g : Gate) → is_h g ≡ true → g ≡ H (wire (first_of (wires_of g)))
unfolding shape_of shapes wires_of
is-h = of-one-wire 1 H refl (λ w. refl)

-- The wire that a step of kind 3 takes from its first h.
pub h-wire : (w : ℕ) (g : Gate) → is_h_on w g ≡ true → first_of (wires_of g) ≡ w
unfolding wires_of has
h-wire w g h =
    sym (eqb-true w _ (or-false _ (ap (touches w) (sym (is-h g (and_left (is_h g) _ h))) ∙ and_right (is_h g) _ h)))
  where
    or-false : (b : Bool) → b || false ≡ true → b ≡ true
    or-false true h = refl
    or-false false h = h

-- ------------------------------------------------------------ single gates

abbrev pub inside : Gate → Bool
inside g = eqb (kind_of g) 0 || in_run (worth g)

-- A measure or a reset.
abbrev pub is_reading : Gate → Bool
is_reading g = has (kind_of g) (12 ∷ 13 ∷ [])

-- An h, a measure and a reset are none of them.
inside-kind : (g : Gate) → inside g ≡ true → eqb (kind_of g) 1 || is_reading g ≡ false
unfolding record_of worth has
inside-kind (X w) h = refl
inside-kind (H w) h = sym h
inside-kind (S w) h = refl
inside-kind (Sdg w) h = refl
inside-kind (Z w) h = refl
inside-kind (T w) h = refl
inside-kind (Tdg w) h = refl
inside-kind (Cnot c t) h = refl
inside-kind (Cz c t) h = refl
inside-kind (Ccx c d t) h = refl
inside-kind (Ccz c d t) h = refl
inside-kind (Measure w b) h = sym h
inside-kind (Reset w) h = sym h
inside-kind (Y w) h = refl
inside-kind (Sx w) h = refl
inside-kind (Swap a b) h = refl
inside-kind (Cy c t) h = refl
inside-kind (Ch c t) h = refl
inside-kind (Cswap c a b) h = refl

pub inside-no-h : (g : Gate) → inside g ≡ true → is_h g ≡ false
inside-no-h g h = (neither (is_h g) (is_reading g) (inside-kind g h)).0

pub inside-no-reading : (g : Gate) → inside g ≡ true → is_reading g ≡ false
inside-no-reading g h = (neither (is_h g) (is_reading g) (inside-kind g h)).1

-- ------------------------------------------------------------ rows of gates

abbrev pub every : (Gate → Bool) → List Gate → Bool
every p [] = true
every p (g ∷ l) = p g && every p l

or-true : (a b : Bool) → b ≡ true → a || b ≡ true
or-true true b h = refl
or-true false b h = h

abbrev Inside : List Gate → Option ℕ → Type 0
Inside l none = Unit {0}
Inside l (some k) = every inside l ≡ true

sum_inside : (l : List Gate) → Inside l (sum_of l)
unfolding sum_of
sum_inside [] = refl
sum_inside (g ∷ l) = go (worth g) refl (sum_of l) (sum_inside l)
  where
    go : (a : Option ℕ) → worth g ≡ a → (b : Option ℕ) → Inside l b → Inside (g ∷ l) (plus a b)
    go none p b h = tt
    go (some i) p none h = tt
    go (some i) p (some j) h = ap₂ ◌&&◌ (or-true (eqb (kind_of g) 0) (in_run (worth g)) (ap in_run p)) h

lone-inside : (l : List Gate) → lone_x l ≡ true → every inside l ≡ true
lone-inside [] h = refl
lone-inside (g ∷ []) h = ap (λ b. (b || in_run (worth g)) && true) h
lone-inside (g ∷ k ∷ l) h = cc

-- What a step of kind 3 rewrites is an x or a run.
pub between-inside : (w : Wire) (l : List Gate) (r : Rewrite) → rewrite_of w l ≡ some r → every inside l ≡ true
unfolding rewrite_of
between-inside w l r h = go (lone_x l) refl (sum_of l) (sum_inside l) h
  where
    go : (b : Bool) → lone_x l ≡ b → (o : Option ℕ) → Inside l o →
        cond b (some (record { ends = none; first = some (Z w) })) (by_sum w o) ≡ some r → every inside l ≡ true
    go true q o i p = lone-inside l q
    go false q none i p = absurd (none-not-some r p)
    go false q (some k) i p = i

-- ------------------------------------------------------------ what a step of kind 3 puts in

abbrev pub Fits : (Gate → Type 0) → Option Gate → Type 0
Fits P none = Unit {0}
Fits P (some g) = P g

-- Of what stands in place of the two h, and of what stands in place of the first gate between them.
abbrev pub Fit : (Gate → Type 0) → (Gate → Type 0) → Option Rewrite → Type 0
Fit E F none = Unit {0}
Fit E F (some r) = Fits E r.ends × Fits F r.first

module _ (E F : Gate → Type 0) (w : Wire) where
  pub record PutIn : Type 0 where
    pub s : E (S w)
    pub sdg : E (Sdg w)
    pub x : F (X w)
    pub z : F (Z w)
    pub h : F (H w)

  eighths-fit : (k : ℕ) → PutIn → Fit E F (by_eighths w k)
  unfolding by_eighths
  eighths-fit k p = go (eqb k 0) (eqb k 4) (eqb k 2) (eqb k 6)
    where
      go : (a b c d : Bool) → Fit E F (cond a (rewrite none none) (cond b (rewrite none (some (X w)))
          (cond c (rewrite (some (Sdg w)) (some (H w))) (cond d (rewrite (some (S w)) (some (H w))) none))))
      go true b c d = (tt, tt)
      go false true c d = (tt, p.x)
      go false false true d = (p.sdg, p.h)
      go false false false true = (p.s, p.h)
      go false false false false = tt

  pub rewrite-fit : (l : List Gate) → PutIn → Fit E F (rewrite_of w l)
  unfolding rewrite_of
  rewrite-fit l p = go (lone_x l) (sum_of l)
    where
      go : (b : Bool) (o : Option ℕ) → Fit E F (cond b (rewrite none (some (Z w))) (by_sum w o))
      go true o = (tt, p.z)
      go false none = tt
      go false (some k) = eighths-fit (k % 8) p

-- ------------------------------------------------------------ cells

module _ {A : Type 0} where
  -- What holds of a wire's gates holds of each cell on it.
  pub track-every : (p : Gate → Bool) (w : ℕ) (m : List (Cell A)) → every p (track w m) ≡ true →
      all (λ g. not (touches w g) || p g) m ≡ true
  unfolding track
  track-every p w [] h = refl
  track-every p w (e ∷ m) h = go (touches w e.gate) h (track-every p w m)
    where
      go : (t : Bool) → every p (cond t (e.gate ∷ track w m) (track w m)) ≡ true →
          (every p (track w m) ≡ true → all (λ g. not (touches w g) || p g) m ≡ true) →
          (not t || p e.gate) && all (λ g. not (touches w g) || p g) m ≡ true
      go true q ih = ap₂ ◌&&◌ (and_left (p e.gate) _ q) (ih (and_right (p e.gate) _ q))
      go false q ih = ih q
