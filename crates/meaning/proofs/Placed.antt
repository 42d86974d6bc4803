-- Words of gates on the wires 0, 1, 2 that a test finds to do the same, do the same on any distinct wires.
use mathlib.Core.Path.{◌≡◌, refl, sym, ◌∙◌, ap, ap₂, fun_ext, subst}
use mathlib.Core.Logic.{◌≢◌}
use mathlib.Core.Bool.{Bool, true, false, not, ◌||◌, ◌&&◌}
use mathlib.Core.List.{List, [], ◌∷◌, map}
use Prim.Native.Nat.{ℕ, zero, suc}
use lib.Dec.{T as So, eqb}
use lib.ListN.{length}
use borrow.Author.Tests.{ne_eqb, eqb-false}
use Rattle.gates.specs.declared.Gate.{Gate}
use Rattle.gates.specs.declared.Gate.TheVariants.{X, H, S, Sdg, Z, T, Tdg, Cnot, Cz, Ccx, Ccz, Measure, Reset, Y, Sx, Swap, Cy, Ch, Cswap}
use Rattle.gates.specs.Gates.{wire, wires_of, has, twice, All}
use Rattle.gates.proofs.Joined.{and_both, neither}
use Rattle.meaning.specs.Amplitudes.{Ops, times, Amplitude, Amplitudes}
use Rattle.meaning.specs.States.{Setting, bits_at, Config, on, sum, scale, run, SameBut}
use Rattle.meaning.proofs.SumLaws.{Laws, add-none-right}
use Rattle.meaning.proofs.Values.{Values, values-laws, same-run}
use Rattle.meaning.proofs.Operators.{Operator, apply, toggles, step, plain_step, turned}
use Rattle.meaning.proofs.Paths.{pick, picks, place, word, within, all_within, Distinct, pick_other, alike, same-words}
use Rattle.meaning.proofs.GateOperators.{operator, everything, distinct-wires}
use Rattle.meaning.proofs.Lists.{Proper, drive, run-drive}

-- ------------------------------------------------------------ a gate on other wires

-- The gate on the wires that its own wires number.
unfoldable pub placed : List ℕ → Gate → Gate
placed ws (X w) = X (wire (pick ws w.0))
placed ws (H w) = H (wire (pick ws w.0))
placed ws (S w) = S (wire (pick ws w.0))
placed ws (Sdg w) = Sdg (wire (pick ws w.0))
placed ws (Z w) = Z (wire (pick ws w.0))
placed ws (T w) = T (wire (pick ws w.0))
placed ws (Tdg w) = Tdg (wire (pick ws w.0))
placed ws (Cnot c t) = Cnot (wire (pick ws c.0)) (wire (pick ws t.0))
placed ws (Cz c t) = Cz (wire (pick ws c.0)) (wire (pick ws t.0))
placed ws (Ccx c d t) = Ccx (wire (pick ws c.0)) (wire (pick ws d.0)) (wire (pick ws t.0))
placed ws (Ccz c d t) = Ccz (wire (pick ws c.0)) (wire (pick ws d.0)) (wire (pick ws t.0))
placed ws (Measure w b) = Measure (wire (pick ws w.0)) b
placed ws (Reset w) = Reset (wire (pick ws w.0))
placed ws (Y w) = Y (wire (pick ws w.0))
placed ws (Sx w) = Sx (wire (pick ws w.0))
placed ws (Swap a b) = Swap (wire (pick ws a.0)) (wire (pick ws b.0))
placed ws (Cy c t) = Cy (wire (pick ws c.0)) (wire (pick ws t.0))
placed ws (Ch c t) = Ch (wire (pick ws c.0)) (wire (pick ws t.0))
placed ws (Cswap c a b) = Cswap (wire (pick ws c.0)) (wire (pick ws a.0)) (wire (pick ws b.0))

placed-operator : (ws : List ℕ) (g : Gate) → operator (placed ws g) ≡ place ws (operator g)
unfolding placed operator place picks
placed-operator ws (X w) = refl
placed-operator ws (H w) = refl
placed-operator ws (S w) = refl
placed-operator ws (Sdg w) = refl
placed-operator ws (Z w) = refl
placed-operator ws (T w) = refl
placed-operator ws (Tdg w) = refl
placed-operator ws (Cnot c t) = refl
placed-operator ws (Cz c t) = refl
placed-operator ws (Ccx c d t) = refl
placed-operator ws (Ccz c d t) = refl
placed-operator ws (Measure w b) = refl
placed-operator ws (Reset w) = refl
placed-operator ws (Y w) = refl
placed-operator ws (Sx w) = refl
placed-operator ws (Swap a b) = refl
placed-operator ws (Cy c t) = refl
placed-operator ws (Ch c t) = refl
placed-operator ws (Cswap c a b) = refl

placed-wires : (ws : List ℕ) (g : Gate) → wires_of (placed ws g) ≡ picks ws (wires_of g)
unfolding placed wires_of picks
placed-wires ws (X w) = refl
placed-wires ws (H w) = refl
placed-wires ws (S w) = refl
placed-wires ws (Sdg w) = refl
placed-wires ws (Z w) = refl
placed-wires ws (T w) = refl
placed-wires ws (Tdg w) = refl
placed-wires ws (Cnot c t) = refl
placed-wires ws (Cz c t) = refl
placed-wires ws (Ccx c d t) = refl
placed-wires ws (Ccz c d t) = refl
placed-wires ws (Measure w b) = refl
placed-wires ws (Reset w) = refl
placed-wires ws (Y w) = refl
placed-wires ws (Sx w) = refl
placed-wires ws (Swap a b) = refl
placed-wires ws (Cy c t) = refl
placed-wires ws (Ch c t) = refl
placed-wires ws (Cswap c a b) = refl

-- ------------------------------------------------------------ distinct wires

so-not : (b : Bool) → So (not b) → b ≡ false
so-not true h = absurd h
so-not false h = refl

pick-apart : (ws : List ℕ) (i j : ℕ) → Distinct ws → So (within (length ws) i) → So (within (length ws) j) → i ≢ j →
    pick ws i ≢ pick ws j
unfolding within
pick-apart [] i j d h k n = absurd h
pick-apart (w ∷ ws) zero zero d h k n = absurd (n refl)
pick-apart (w ∷ ws) zero (suc j) d h k n = λ e. pick_other ws j w k d.0 (sym e)
pick-apart (w ∷ ws) (suc i) zero d h k n = pick_other ws i w h d.0
pick-apart (w ∷ ws) (suc i) (suc j) d h k n = pick-apart ws i j d.1 h k (λ e. n (ap suc e))

has-picks : (ws : List ℕ) (i : ℕ) (l : List ℕ) → Distinct ws → So (within (length ws) i) → So (all_within (length ws) l) →
    has i l ≡ false → has (pick ws i) (picks ws l) ≡ false
unfolding has picks all_within
has-picks ws i [] d h k n = refl
has-picks ws i (j ∷ l) d h k n =
    let b = and_both (within (length ws) j) (all_within (length ws) l) k in
    let m = neither (eqb i j) (has i l) n in
    ap₂ ◌||◌ (ne_eqb (pick ws i) (pick ws j) (pick-apart ws i j d h b.0 (eqb-false i j m.0)))
    (has-picks ws i l d h b.1 m.1)

twice-picks : (ws l : List ℕ) → Distinct ws → So (all_within (length ws) l) → twice l ≡ false → twice (picks ws l) ≡ false
unfolding twice picks all_within
twice-picks ws [] d h n = refl
twice-picks ws (i ∷ l) d h n =
    let b = and_both (within (length ws) i) (all_within (length ws) l) h in
    let m = neither (has i l) (twice l) n in
    ap₂ ◌||◌ (has-picks ws i l d b.0 b.1 m.0) (twice-picks ws l d b.1 m.1)

-- ------------------------------------------------------------ words

-- A gate that takes no outcome, on distinct wires below n.
abbrev well_placed : ℕ → Gate → Bool
well_placed n g = not (operator g).draws && (not (twice (wires_of g)) && all_within n (wires_of g))

unfoldable pub all_well_placed : ℕ → List Gate → Bool
unfolding operator wires_of twice has all_within within
all_well_placed n [] = true
all_well_placed n (g ∷ l) = well_placed n g && all_well_placed n l

-- The operators of a list, the last gate's first, in front of others.
unfoldable pub backwards : List Gate → List Operator → List Operator
unfolding operator
backwards [] l = l
backwards (g ∷ gs) l = backwards gs (operator g ∷ l)

all-proper : (ws : List ℕ) (l : List Gate) → Distinct ws → So (all_well_placed (length ws) l) → All Proper (map (placed ws) l)
unfolding all_well_placed
all-proper ws [] d h = tt
all-proper ws (g ∷ l) d h =
    let k = and_both (well_placed (length ws) g) (all_well_placed (length ws) l) h in
    let j = and_both (not (operator g).draws) (not (twice (wires_of g)) && all_within (length ws) (wires_of g)) k.0 in
    let i = and_both (not (twice (wires_of g))) (all_within (length ws) (wires_of g)) j.1 in
    (ap twice (placed-wires ws g) ∙ twice-picks ws (wires_of g) d i.1 (so-not (twice (wires_of g)) i.0), all-proper ws l d k.1)

module _ {A : Type 0} (O : Ops A) (L : Laws O) where
  drive-word : (ws : List ℕ) (l : List Gate) (m : List Operator) (c : Config A) → So (all_well_placed (length ws) l) →
      drive O (map (placed ws) l) (on c (word O ws m c.state)) ≡ on c (word O ws (backwards l m) c.state)
  unfolding drive backwards all_well_placed word
  drive-word ws [] m c h = refl
  drive-word ws (g ∷ l) m c h =
      let k = and_both (well_placed (length ws) g) (all_well_placed (length ws) l) h in
      let j = and_both (not (operator g).draws) _ k.0 in
      let e : (place ws (operator g)).draws ≡ false = so-not (operator g).draws j.0 in
      ap (λ p. drive O (map (placed ws) l) (step O p (on c (word O ws m c.state)))) (placed-operator ws g)
      ∙ ap (drive O (map (placed ws) l)) (plain_step O (place ws (operator g)) _ e)
      ∙ drive-word ws l (operator g ∷ m) c k.1

-- ------------------------------------------------------------ identities

-- On so many wires, numbered from 0, two words; the first is the second turned by so many eighths.
pub record Identity : Type 0 where
  pub wires : ℕ
  pub left : List Gate
  pub right : List Gate
  pub turns : ℕ

-- The test on n wires, over the fourth power of √2, which none of the words passes.
unfoldable pub tested_on : ℕ → Identity → Bool
unfolding all_well_placed backwards alike
tested_on n r =
    all_well_placed n r.left && (all_well_placed n r.right &&
    alike n 4 (backwards r.left []) (everything r.turns ∷ backwards r.right []))

unfoldable pub all_tested : List Identity → Bool
unfolding tested_on
all_tested [] = true
all_tested (r ∷ l) = tested_on r.wires r && all_tested l

module _ {A : Type 0} (O : Ops A) (L : Laws O) where
  -- On any distinct wires, from any configuration.
  abbrev pub Holds : Identity → Type 0
  Holds r = (ws : List ℕ) → length ws ≡ r.wires → twice ws ≡ false → (c : Config A) →
      run O (map (placed ws) r.left) c ≡ turned O r.turns (run O (map (placed ws) r.right) c)

  everything-is : (ws : List ℕ) (k : ℕ) (l : List Operator) (ψ : Setting → A) (u : Setting) →
      word O ws (everything k ∷ l) ψ u ≡ times O.turn k (word O ws l ψ u)
  unfolding word place picks apply sum scale times toggles bits_at
  everything-is ws k l ψ u = add-none-right O L _

  -- What the test says, as operators; then as the definition has it.
  drive-same : (r : Identity) (ws : List ℕ) → So (tested_on (length ws) r) → Distinct ws → (c : Config A) →
      drive O (map (placed ws) r.left) c ≡ turned O r.turns (drive O (map (placed ws) r.right) c)
  unfolding tested_on turned word
  drive-same r ws h d c =
      let a = and_both (all_well_placed (length ws) r.left) _ h in
      let b = and_both (all_well_placed (length ws) r.right) _ a.1 in
      drive-word O L ws r.left [] c a.0
      ∙ ap (on c) (fun_ext λ u.
      same-words O L ws d 4 (backwards r.left []) (everything r.turns ∷ backwards r.right []) b.1 c.state u
      ∙ everything-is ws r.turns (backwards r.right []) c.state u)
      ∙ ap (turned O r.turns) (sym (drive-word O L ws r.right [] c b.0))

  run-same : (r : Identity) (ws : List ℕ) → So (tested_on (length ws) r) → Distinct ws → (c : Config A) →
      run O (map (placed ws) r.left) c ≡ turned O r.turns (run O (map (placed ws) r.right) c)
  unfolding tested_on
  run-same r ws h d c =
      let a = and_both (all_well_placed (length ws) r.left) _ h in
      let b = and_both (all_well_placed (length ws) r.right) _ a.1 in
      run-drive O L (map (placed ws) r.left) (all-proper ws r.left d a.0) c
      ∙ drive-same r ws h d c
      ∙ ap (turned O r.turns) (sym (run-drive O L (map (placed ws) r.right) (all-proper ws r.right d b.0) c))

  pub holds : (r : Identity) → So (tested_on r.wires r) → Holds r
  holds r h ws n d c = run-same r ws (subst (λ m. So (tested_on m r)) (sym n) h) (distinct-wires ws d) c

  -- The same of operators.
  pub drives : (r : Identity) → So (tested_on r.wires r) → (ws : List ℕ) → length ws ≡ r.wires → Distinct ws →
      (c : Config A) → drive O (map (placed ws) r.left) c ≡ turned O r.turns (drive O (map (placed ws) r.right) c)
  drives r h ws n d c = drive-same r ws (subst (λ m. So (tested_on m r)) (sym n) h) d c

  pub all_hold : (l : List Identity) → So (all_tested l) → All Holds l
  unfolding all_tested
  all_hold [] h = tt
  all_hold (r ∷ l) h = let k = and_both (tested_on r.wires r) (all_tested l) h in (holds r k.0, all_hold l k.1)

-- Of amplitudes: the same outcomes left, the same classical bits, the same values but for the turns.
abbrev pub HoldsOfAmplitudes : Identity → Type 0
HoldsOfAmplitudes r = (ws : List ℕ) → length ws ≡ r.wires → twice ws ≡ false → (c : Config Amplitude) →
    SameBut r.turns (run Amplitudes (map (placed ws) r.left) c) (run Amplitudes (map (placed ws) r.right) c)

pub of-amplitudes : (l : List Identity) → All (Holds Values values-laws) l → All HoldsOfAmplitudes l
of-amplitudes [] h = tt
of-amplitudes (r ∷ l) h = (
  λ ws n d. same-run (map (placed ws) r.left) (map (placed ws) r.right) r.turns (h.0 ws n d),
  of-amplitudes l h.1,
)
