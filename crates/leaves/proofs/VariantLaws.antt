-- What an arm of a match on a gate knows of it from the places of its variants in the enum.
use mathlib.Core.Path.{◌≡◌, refl, ap, ◌∙◌}
use mathlib.Core.Bool.{Bool}
use mathlib.Core.List.{List, [], ◌∷◌, map}
use mathlib.Core.Logic.{inl, inr}
use mathlib.Core.Option.{Option}
use Prim.Native.Nat.{ℕ}
use lib.ListN.{get_or}
use types.Run.{OneOf}
use denote.Enum.Declared.{tag_of}
use Rattle.gates.specs.contracts.Gate.{the_type}
use Rattle.gates.specs.declared.Gate.{Gate}
use Rattle.gates.specs.declared.Gate.TheVariants.{X, H, S, Sdg, Z, T, Tdg, Cnot, Cz, Ccx, Ccz, Measure, Reset, Y, Sx, Swap, Cy, Ch, Cswap}
use Rattle.gates.specs.Gates.{wire, bit, has}
use Rattle.gates.specs.Records.{record_of, kind_of}
use Rattle.rules.specs.Runs.{worth}
use Rattle.rules.specs.MayPass.{Class, x, cnot, ccx, diagonal, other, class_of}

-- ------------------------------------------------------------ an answer that is the same at every key

pub at-keys : {A : Type 0} (f : ℕ → A) (a : A) (ks : List ℕ) (k : ℕ) → OneOf ks k → map f ks ≡ map (λ _. a) ks → f k ≡ a
at-keys f a [] k h e = absurd h
at-keys f a (v ∷ []) k h e = cc
at-keys f a (v ∷ u ∷ ks) k (inl h) e = cc
at-keys f a (v ∷ u ∷ ks) k (inr h) e = at-keys f a (u ∷ ks) k h (cc)

-- ------------------------------------------------------------ what a gate's variant decides

abbrev pub class_number : Class → ℕ
class_number (x w) = 0
class_number (cnot c t) = 1
class_number (ccx c d t) = 2
class_number (diagonal ws) = 3
class_number other = 4

pub record Traits : Type 0 where
  pub kind : ℕ
  pub worth : Option ℕ
  pub class : ℕ

abbrev pub traits : Gate → Traits
traits g = record { kind = kind_of g; worth = worth g; class = class_number (class_of g) }

-- a gate of each variant, in the order of the enum
abbrev pub samples : List Gate
samples =
    let w = wire 0 in
    X w ∷ H w ∷ S w ∷ Sdg w ∷ Z w ∷ T w ∷ Tdg w ∷ Cnot w w ∷ Cz w w ∷ Ccx w w w ∷ Ccz w w w ∷ Measure w (bit 0) ∷ Reset w ∷ Y w ∷ Sx w
    ∷ Swap w w ∷ Cy w w ∷ Ch w w ∷ Cswap w w w ∷ []

-- the places from measure to cswap, the variants that no rule names
abbrev pub after_ccz : List ℕ
after_ccz = 11 ∷ 12 ∷ 13 ∷ 14 ∷ 15 ∷ 16 ∷ 17 ∷ 18 ∷ []

abbrev pub traits_at : ℕ → Traits
traits_at place = traits (get_or samples place (X (wire 0)))

as-sample : (g : Gate) → traits g ≡ traits_at (tag_of the_type g)
unfolding record_of worth class_of
as-sample (X w) = refl
as-sample (H w) = refl
as-sample (S w) = refl
as-sample (Sdg w) = refl
as-sample (Z w) = refl
as-sample (T w) = refl
as-sample (Tdg w) = refl
as-sample (Cnot c t) = refl
as-sample (Cz c t) = refl
as-sample (Ccx c d t) = refl
as-sample (Ccz c d t) = refl
as-sample (Measure w b) = refl
as-sample (Reset w) = refl
as-sample (Y w) = refl
as-sample (Sx w) = refl
as-sample (Swap a b) = refl
as-sample (Cy c t) = refl
as-sample (Ch c t) = refl
as-sample (Cswap c a b) = refl

-- what is read off the traits, where it is the same at each place that the arm names
pub by_place : {A : Type 0} (f : Traits → A) (a : A) (ks : List ℕ) (g : Gate) → OneOf ks (tag_of the_type g)
    → map (λ k. f (traits_at k)) ks ≡ map (λ _. a) ks → f (traits g) ≡ a
by_place f a ks g h e = ap f (as-sample g) ∙ at-keys (λ k. f (traits_at k)) a ks (tag_of the_type g) h e

-- whether a gate is of one of some kinds, by the places of an arm
pub kind-among : (g : Gate) (among : List ℕ) (b : Bool) (places : List ℕ)
    → map (λ k. has (traits_at k).kind among) places ≡ map (λ _. b) places → OneOf places (tag_of the_type g) → has (kind_of g) among ≡ b
kind-among g among b places e h = by_place (λ (t : Traits). has t.kind among) b places g h e
