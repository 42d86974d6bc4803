-- Local operators on states, and the one theorem by which two of them change places.
use mathlib.Core.Path.{◌≡◌, refl, sym, ◌∙◌, ap, ap₂, fun_ext}
use mathlib.Core.Logic.{◌≢◌}
use mathlib.Core.Bool.{Bool, true, false, not, cond}
use mathlib.Core.List.{List, [], ◌∷◌}
use Prim.Native.Nat.{ℕ}
use lib.Dec.{eqb}
use borrow.Author.Tests.{ne_eqb}
use Rattle.gates.specs.Gates.{All}
use Rattle.meaning.specs.Amplitudes.{Ops, times}
use Rattle.meaning.specs.Matrices.{Factor, first_bit}
use Rattle.meaning.specs.States.{Setting, with, bits_at, Config, on, drawn, sum, scale}
use Rattle.meaning.proofs.SumLaws.{Laws, scale-sum, scale-swap, sum-swap}

-- ------------------------------------------------------------ operators

-- A bit, turned over if the first says so.
abbrev pub flipped : Bool → Bool → Bool
flipped true b = not b
flipped false b = b

-- The setting with wire w turned over, if b says so.
unfoldable pub toggle : ℕ → Bool → Setting → Setting
toggle w false s = s
toggle w true s = λ v. flipped (eqb v w) (s v)

unfoldable pub toggles : List ℕ → List Bool → Setting → Setting
toggles [] m s = s
toggles (w ∷ ws) [] s = s
toggles (w ∷ ws) (b ∷ m) s = toggles ws m (toggle w b s)

-- A factor, and which of the wires are turned over to find the amplitude that it takes.
pub record Entry : Type 0 where
  pub factor : Factor
  pub mask : List Bool

-- The wires whose bits an operator looks at, the wires that it may turn over, and for the bits that it sees its entries.
-- One that draws takes the next outcome, on which its entries may depend, and stores it.
pub record Operator : Type 0 where
  pub reads : List ℕ
  pub flips : List ℕ
  pub draws : Bool
  pub stores : List ℕ
  pub table : Bool → List Bool → List Entry

unfoldable pub stored : List ℕ → Bool → (ℕ → Bool) → ℕ → Bool
unfolding with
stored [] o k = k
stored (b ∷ l) o k = stored l o (with b o k)

module _ {A : Type 0} (O : Ops A) where
  unfoldable pub apply : Operator → Bool → (Setting → A) → Setting → A
  apply p o ψ s = sum O (λ e. scale O e.factor (ψ (toggles p.flips e.mask s))) (p.table o (bits_at s p.reads))

  abbrev pub plain : Operator → Config A → Config A
  plain p c = on c (apply p false c.state)

  abbrev pub drawing : Operator → Config A → Config A
  drawing p c = let o = first_bit c.outcomes in drawn c (stored p.stores o c.bits) (apply p o c.state)

  unfoldable pub step : Operator → Config A → Config A
  step p c = cond p.draws (drawing p c) (plain p c)

  -- Every amplitude turned by so many eighths.
  unfoldable pub turned : ℕ → Config A → Config A
  turned k c = on c (λ s. times O.turn k (c.state s))

  pub plain_step : (p : Operator) (c : Config A) → p.draws ≡ false → step p c ≡ plain p c
  unfolding step
  plain_step p c e = ap (λ d. cond d (drawing p c) (plain p c)) e

-- ------------------------------------------------------------ settings

flipped-swap : (a b x : Bool) → flipped a (flipped b x) ≡ flipped b (flipped a x)
flipped-swap true true x = refl
flipped-swap true false x = refl
flipped-swap false true x = refl
flipped-swap false false x = refl

toggle-swap : (v w : ℕ) (b c : Bool) (s : Setting) → toggle v b (toggle w c s) ≡ toggle w c (toggle v b s)
unfolding toggle
toggle-swap v w false c s = refl
toggle-swap v w true false s = refl
toggle-swap v w true true s = fun_ext λ u. flipped-swap (eqb u v) (eqb u w) (s u)

toggle-past : (ws : List ℕ) (m : List Bool) (v : ℕ) (b : Bool) (s : Setting) →
    toggles ws m (toggle v b s) ≡ toggle v b (toggles ws m s)
unfolding toggles
toggle-past [] m v b s = refl
toggle-past (w ∷ ws) [] v b s = refl
toggle-past (w ∷ ws) (c ∷ m) v b s = ap (toggles ws m) (toggle-swap w v c b s) ∙ toggle-past ws m v b (toggle w c s)

toggles-swap : (vs ws : List ℕ) (l m : List Bool) (s : Setting) →
    toggles vs l (toggles ws m s) ≡ toggles ws m (toggles vs l s)
unfolding toggles
toggles-swap [] ws l m s = refl
toggles-swap (v ∷ vs) ws [] m s = refl
toggles-swap (v ∷ vs) ws (b ∷ l) m s =
    ap (toggles vs l) (sym (toggle-past ws m v b s)) ∙ toggles-swap vs ws l m (toggle v b s)

-- ------------------------------------------------------------ what stands apart

-- No wire of vs is a wire of ws.
abbrev pub Apart : List ℕ → List ℕ → Type 0
Apart vs ws = All (λ v. All (λ w. w ≢ v) ws) vs

toggle-other : (v w : ℕ) (b : Bool) (s : Setting) → w ≢ v → toggle v b s w ≡ s w
unfolding toggle
toggle-other v w false s d = refl
toggle-other v w true s d = ap (λ x. flipped x (s w)) (ne_eqb w v d)

toggle-bits : (v : ℕ) (b : Bool) (s : Setting) (ws : List ℕ) → All (λ w. w ≢ v) ws → bits_at (toggle v b s) ws ≡ bits_at s ws
unfolding bits_at
toggle-bits v b s [] d = refl
toggle-bits v b s (w ∷ ws) d = ap₂ ◌∷◌ (toggle-other v w b s d.0) (toggle-bits v b s ws d.1)

toggles-bits : (vs : List ℕ) (m : List Bool) (s : Setting) (ws : List ℕ) → Apart vs ws →
    bits_at (toggles vs m s) ws ≡ bits_at s ws
unfolding toggles
toggles-bits [] m s ws d = refl
toggles-bits (v ∷ vs) [] s ws d = refl
toggles-bits (v ∷ vs) (b ∷ m) s ws d = toggles-bits vs m (toggle v b s) ws d.1 ∙ toggle-bits v b s ws d.0

-- ------------------------------------------------------------ operators that change places

-- Neither turns over what the other reads.
abbrev pub Free : Operator → Operator → Type 0
Free p q = Apart p.flips q.reads × Apart q.flips p.reads

module _ {A : Type 0} (O : Ops A) (L : Laws O) where
  -- The operators one inside the other are a double sum over what both read of s.
  double : (p q : Operator) (o v : Bool) → Apart p.flips q.reads → (ψ : Setting → A) (s : Setting) →
      apply O p o (apply O q v ψ) s ≡
      sum O (λ c. sum O (λ d. scale O c.factor (scale O d.factor (ψ (toggles q.flips d.mask (toggles p.flips c.mask s)))))
      (q.table v (bits_at s q.reads))) (p.table o (bits_at s p.reads))
  unfolding apply
  double p q o v a ψ s = ap (λ f. sum O f (p.table o (bits_at s p.reads))) (fun_ext λ c.
      ap (λ bs. scale O c.factor (sum O (λ d. scale O d.factor (ψ (toggles q.flips d.mask (toggles p.flips c.mask s)))) (q.table v bs)))
      (toggles-bits p.flips c.mask s q.reads a)
      ∙ scale-sum O L c.factor _ (q.table v (bits_at s q.reads)))

  apply-swap : (p q : Operator) (o v : Bool) → Free p q → (ψ : Setting → A) (s : Setting) →
      apply O p o (apply O q v ψ) s ≡ apply O q v (apply O p o ψ) s
  apply-swap p q o v a ψ s =
      double p q o v a.0 ψ s
      ∙ sum-swap O L _ (p.table o (bits_at s p.reads)) (q.table v (bits_at s q.reads))
      ∙ ap (λ f. sum O f (q.table v (bits_at s q.reads))) (fun_ext λ d. ap (λ f. sum O f (p.table o (bits_at s p.reads))) (fun_ext λ c.
      scale-swap O L c.factor d.factor _
      ∙ ap (λ t. scale O d.factor (scale O c.factor (ψ t))) (toggles-swap q.flips p.flips d.mask c.mask s)))
      ∙ sym (double q p v o a.1 ψ s)

  -- One that draws no outcome changes places with any other, if neither turns over what the other reads.
  pub change-places : (p q : Operator) → p.draws ≡ false → Free p q → (c : Config A) →
      step O q (step O p c) ≡ step O p (step O q c)
  unfolding step
  change-places p q e a c =
      ap (step O q) (plain_step O p c e) ∙ go q.draws ∙ sym (plain_step O p (step O q c) e)
    where
      go : (b : Bool) →
          cond b (drawing O q (plain O p c)) (plain O q (plain O p c)) ≡ plain O p (cond b (drawing O q c) (plain O q c))
      go true = ap (on (drawing O q c)) (fun_ext λ s. sym (apply-swap p q false _ a c.state s))
      go false = ap (on c) (fun_ext λ s. sym (apply-swap p q false false a c.state s))
