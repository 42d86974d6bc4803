-- What may pass a pair changes places with it.
use mathlib.Core.Path.{◌≡◌, refl, sym, ◌∙◌, subst, subst₂}
use mathlib.Core.Logic.{◌≢◌}
use mathlib.Core.Bool.{Bool, false≢true, true, false, not, ◌||◌}
use mathlib.Core.List.{List, [], ◌∷◌}
use Prim.Native.Nat.{ℕ}
use borrow.Author.Tests.{eqb-true, not-true}
use Rattle.gates.specs.declared.Gate.{Gate}
use Rattle.gates.specs.declared.Gate.TheVariants.{X, H, S, Sdg, Z, T, Tdg, Cnot, Cz, Ccx, Ccz, Measure, Reset, Y, Sx, Swap, Cy, Ch, Cswap}
use Rattle.gates.specs.Gates.{wires_of, has, shares}
use Rattle.rules.specs.Equal.{is_pair}
use Rattle.rules.specs.MayPass as Rules
use Rattle.rules.specs.MayPass.{Class, class_of, past, off, may_pass}
use Rattle.gates.proofs.Joined.{and_left, and_right}
use Rattle.meaning.specs.Amplitudes.{Ops}
use Rattle.meaning.specs.States.{Config, run}
use Rattle.meaning.proofs.SumLaws.{Laws}
use Rattle.meaning.proofs.Operators.{Apart}
use Rattle.meaning.proofs.GateOperators.{operator, not-among, distinct-wires}
use Rattle.meaning.proofs.Lists.{Proper, Passes, run-drive, pass-list}
use Rattle.meaning.proofs.Undo.{undrawn}
use Rattle.promises.proofs.SelfInverse.{pair-undoes}
use Rattle.promises.proofs.Apart.{apart-passes}

-- ------------------------------------------------------------ what a class reads and turns over

abbrev reads : Class → List ℕ
reads (Rules.x w) = []
reads (Rules.cnot c t) = c ∷ []
reads (Rules.ccx c d t) = c ∷ d ∷ []
reads (Rules.diagonal ws) = ws
reads Rules.other = []

abbrev flips : Class → List ℕ
flips (Rules.x w) = w ∷ []
flips (Rules.cnot c t) = t ∷ []
flips (Rules.ccx c d t) = t ∷ []
flips (Rules.diagonal ws) = []
flips Rules.other = []

abbrev Known : Class → Type 0
Known (Rules.x w) = Unit {0}
Known (Rules.cnot c t) = Unit {0}
Known (Rules.ccx c d t) = Unit {0}
Known (Rules.diagonal ws) = Unit {0}
Known Rules.other = ⊥

-- A gate of one of the rules' classes reads and turns over what its class says.
known : (g : Gate) → Known (class_of g) → ((operator g).reads ≡ reads (class_of g)) × ((operator g).flips ≡ flips (class_of g))
unfolding class_of operator
known (X w) k = (refl, refl)
known (H w) k = absurd k
known (S w) k = (refl, refl)
known (Sdg w) k = (refl, refl)
known (Z w) k = (refl, refl)
known (T w) k = (refl, refl)
known (Tdg w) k = (refl, refl)
known (Cnot c t) k = (refl, refl)
known (Cz c t) k = (refl, refl)
known (Ccx c d t) k = (refl, refl)
known (Ccz c d t) k = (refl, refl)
known (Measure w b) k = absurd k
known (Reset w) k = absurd k
known (Y w) k = absurd k
known (Sx w) k = absurd k
known (Swap a b) k = absurd k
known (Cy c t) k = absurd k
known (Ch c t) k = absurd k
known (Cswap c a b) k = absurd k

-- A ccx has its target off its controls.
abbrev Own : Class → Type 0
Own (Rules.x w) = Unit {0}
Own (Rules.cnot c t) = Unit {0}
Own (Rules.ccx c d t) = (c ≢ t) × (d ≢ t)
Own (Rules.diagonal ws) = Unit {0}
Own Rules.other = Unit {0}

own : (g : Gate) → Proper g → Own (class_of g)
unfolding class_of wires_of
own (Ccx c d t) p = let x = distinct-wires (c.0 ∷ d.0 ∷ t.0 ∷ []) p in (λ e. x.0.1.0 (sym e), λ e. x.1.0.0 (sym e))
own (X w) p = tt
own (H w) p = tt
own (S w) p = tt
own (Sdg w) p = tt
own (Z w) p = tt
own (T w) p = tt
own (Tdg w) p = tt
own (Cnot c t) p = tt
own (Cz c t) p = tt
own (Ccz c d t) p = tt
own (Measure w b) p = tt
own (Reset w) p = tt
own (Y w) p = tt
own (Sx w) p = tt
own (Swap a b) p = tt
own (Cy c t) p = tt
own (Ch c t) p = tt
own (Cswap c a b) p = tt

-- ------------------------------------------------------------ the rules

-- Both classes are known, and neither turns over what the other reads.
record Clear (p g : Class) : Type 0 where
  first : Known p
  second : Known g
  there : Apart (flips p) (reads g)
  back : Apart (flips g) (reads p)

one-off : (t : ℕ) (ws : List ℕ) → off t ws ≡ true → Apart (t ∷ []) ws
one-off t ws h = (not-among t ws (not-true (has t ws) h), tt)

past-clear : (p g : Class) → Own p → past p g ≡ true → Clear p g
unfolding past
past-clear (Rules.x w) g o h = absurd (false≢true h)
past-clear Rules.other g o h = absurd (false≢true h)
past-clear (Rules.cnot c t) (Rules.x w) o h = record { first = tt; second = tt; there = (tt, tt); back = one-off w (c ∷ []) h }
past-clear (Rules.cnot c t) (Rules.diagonal ws) o h = record { first = tt; second = tt; there = one-off t ws h; back = tt }
past-clear (Rules.cnot c t) (Rules.cnot d u) o h = record {
  first = tt;
  second = tt;
  there = one-off t (d ∷ []) (and_left (off t (d ∷ [])) _ h);
  back = one-off u (c ∷ []) (and_right (off t (d ∷ [])) _ h);
}
past-clear (Rules.cnot c t) (Rules.ccx d e u) o h = absurd (false≢true h)
past-clear (Rules.cnot c t) Rules.other o h = absurd (false≢true h)
past-clear (Rules.diagonal vs) (Rules.x w) o h = absurd (false≢true h)
past-clear (Rules.diagonal vs) (Rules.diagonal ws) o h = record { first = tt; second = tt; there = tt; back = tt }
past-clear (Rules.diagonal vs) (Rules.cnot d u) o h = record { first = tt; second = tt; there = tt; back = one-off u vs h }
past-clear (Rules.diagonal vs) (Rules.ccx d e u) o h = record { first = tt; second = tt; there = tt; back = one-off u vs h }
past-clear (Rules.diagonal vs) Rules.other o h = absurd (false≢true h)
past-clear (Rules.ccx a b t) (Rules.x w) o h = record {
  first = tt;
  second = tt;
  there = (tt, tt);
  back = subst (λ v. Apart (v ∷ []) (a ∷ b ∷ [])) (sym (eqb-true w t h)) ((o.0, (o.1, tt)), tt);
}
past-clear (Rules.ccx a b t) (Rules.diagonal ws) o h = record { first = tt; second = tt; there = one-off t ws h; back = tt }
past-clear (Rules.ccx a b t) (Rules.cnot d u) o h = record {
  first = tt;
  second = tt;
  there = one-off t (d ∷ []) (and_right (off u (a ∷ b ∷ [])) _ h);
  back = one-off u (a ∷ b ∷ []) (and_left (off u (a ∷ b ∷ [])) _ h);
}
past-clear (Rules.ccx a b t) (Rules.ccx d e u) o h = record {
  first = tt;
  second = tt;
  there = one-off t (d ∷ e ∷ []) (and_right (off u (a ∷ b ∷ [])) _ h);
  back = one-off u (a ∷ b ∷ []) (and_left (off u (a ∷ b ∷ [])) _ h);
}
past-clear (Rules.ccx a b t) Rules.other o h = absurd (false≢true h)

pub may-pass : (p g : Gate) → Proper p → may_pass p g ≡ true → Passes p g
may-pass p g d h = go (shares p g) refl h
  where
    go : (b : Bool) → shares p g ≡ b → not b || past (class_of p) (class_of g) ≡ true → Passes p g
    go false e q = apart-passes p g e
    go true e q =
        let c = past-clear (class_of p) (class_of g) (own p d) q in
        let x = known p c.first in
        let y = known g c.second in
        (subst₂ Apart (sym x.1) (sym y.0) c.there, subst₂ Apart (sym y.1) (sym x.0) c.back)

-- ------------------------------------------------------------ the statement

module _ {A : Type 0} (O : Ops A) (L : Laws O) where
  -- A cnot, cz, ccx or ccz and a gate of any kind that may pass it do the same in either order.
  pub passing : (p g : Gate) → is_pair p ≡ true → Proper p → Proper g → may_pass p g ≡ true → (c : Config A) →
      run O (p ∷ g ∷ []) c ≡ run O (g ∷ p ∷ []) c
  passing p g i d e h c =
      run-drive O L (p ∷ g ∷ []) (d, (e, tt)) c
      ∙ pass-list O L p (g ∷ []) [] c (undrawn p (pair-undoes p i)) (may-pass p g d h, tt)
      ∙ sym (run-drive O L (g ∷ p ∷ []) (e, (d, tt)) c)
