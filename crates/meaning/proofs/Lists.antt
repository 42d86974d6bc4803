-- Lists of gates as lists of operators: what may change places, what undoes itself, and what turns come to.
use mathlib.Core.Path.{◌≡◌, refl, sym, ◌∙◌, ap, fun_ext}
use mathlib.Core.Bool.{Bool, true, false, cond}
use mathlib.Core.List.{List, [], ◌∷◌, ◌++◌}
use Prim.Native.Nat.{ℕ, ◌+◌, ◌%◌}
use Rattle.gates.specs.declared.Gate.{Gate}
use Rattle.gates.specs.Gates.{wires_of, twice, All}
use Rattle.meaning.specs.Amplitudes.{Ops, times}
use Rattle.meaning.specs.States.{Setting, bits_at, Config, on, sum, scale, run}
use Rattle.meaning.proofs.SumLaws.{Laws, times-plus, turns-sum, turns-mod, scale-turns, add-none-right}
use Rattle.meaning.proofs.Operators.{Operator, apply, toggles, plain, drawing, step, Free, change-places, turned}
use Rattle.meaning.proofs.GateOperators.{operator, phase, acts}

-- No wire twice.
abbrev pub Proper : Gate → Type 0
Proper g = twice (wires_of g) ≡ false

-- Neither gate turns over what the other reads.
abbrev pub Passes : Gate → Gate → Type 0
Passes g k = Free (operator g) (operator k)

-- It takes no outcome.
abbrev pub Undrawn : Gate → Type 0
Undrawn g = (operator g).draws ≡ false

module _ {A : Type 0} (O : Ops A) where
  -- What a list does, as operators.
  unfoldable pub drive : List Gate → Config A → Config A
  drive [] c = c
  drive (g ∷ l) c = drive l (step O (operator g) c)

  -- Two lists do the same, the first turned by k eighths.
  abbrev pub Same : ℕ → List Gate → List Gate → Type 0
  Same k l m = (c : Config A) → drive l c ≡ turned O k (drive m c)

  pub drive-append : (l m : List Gate) (c : Config A) → drive (l ++ m) c ≡ drive m (drive l c)
  unfolding drive
  drive-append [] m c = refl
  drive-append (g ∷ l) m c = drive-append l m (step O (operator g) c)

  pub unturned : (c : Config A) → turned O 0 c ≡ c
  unfolding turned times
  unturned c = refl

  module _ (L : Laws O) where
    pub run-drive : (l : List Gate) → All Proper l → (c : Config A) → run O l c ≡ drive l c
    unfolding run drive
    run-drive [] p c = refl
    run-drive (g ∷ l) p c = ap (run O l) (acts O L g p.0 c) ∙ run-drive l p.1 (step O (operator g) c)

    -- ------------------------------------------------------------ gates that change places

    -- A gate that passes every gate of l does the same after l as before it.
    pub pass-list : (g : Gate) (l m : List Gate) (c : Config A) → Undrawn g → All (Passes g) l →
        drive (g ∷ (l ++ m)) c ≡ drive (l ++ (g ∷ m)) c
    unfolding drive
    pass-list g [] m c p a = refl
    pass-list g (k ∷ l) m c p a =
        ap (drive (l ++ m)) (change-places O L (operator g) (operator k) p a.0 c)
        ∙ pass-list g l m (step O (operator k) c) p a.1

    -- A pair that undoes itself goes, where the first passes all between.
    pub remove-pair : (b e : List Gate) (g k : Gate) (c : Config A) → Undrawn g →
        ((c : Config A) → drive (g ∷ k ∷ []) c ≡ c) → All (Passes g) b →
        drive (g ∷ (b ++ (k ∷ e))) c ≡ drive (b ++ e) c
    unfolding drive
    remove-pair b e g k c p h m =
        pass-list g b (k ∷ e) c p m
        ∙ drive-append b (g ∷ k ∷ e) c
        ∙ ap (drive e) (h (drive b c))
        ∙ sym (drive-append b e c)

    -- ------------------------------------------------------------ turns

    apply-turned : (p : Operator) (o : Bool) (k : ℕ) (ψ : Setting → A) (s : Setting) →
        apply O p o (λ u. times O.turn k (ψ u)) s ≡ times O.turn k (apply O p o ψ s)
    unfolding apply
    apply-turned p o k ψ s =
        ap (λ f. sum O f (p.table o (bits_at s p.reads))) (fun_ext λ e. scale-turns O L e.factor k _)
        ∙ sym (turns-sum O L k _ (p.table o (bits_at s p.reads)))

    step-turned : (p : Operator) (k : ℕ) (c : Config A) → step O p (turned O k c) ≡ turned O k (step O p c)
    unfolding step turned
    step-turned p k c = go p.draws
      where
        go : (b : Bool) →
            cond b (drawing O p (turned O k c)) (plain O p (turned O k c)) ≡ turned O k (cond b (drawing O p c) (plain O p c))
        go true = ap (on (drawing O p c)) (fun_ext λ s. apply-turned p _ k c.state s)
        go false = ap (on c) (fun_ext λ s. apply-turned p false k c.state s)

    drive-turned : (l : List Gate) (k : ℕ) (c : Config A) → drive l (turned O k c) ≡ turned O k (drive l c)
    unfolding drive
    drive-turned [] k c = refl
    drive-turned (g ∷ l) k c = ap (drive l) (step-turned (operator g) k c) ∙ drive-turned l k (step O (operator g) c)

    pub turned-plus : (j k : ℕ) (c : Config A) → turned O j (turned O k c) ≡ turned O (j + k) c
    unfolding turned
    turned-plus j k c = ap (on c) (fun_ext λ s. sym (times-plus O.turn j k (c.state s)))

    pub turned-mod : (k : ℕ) (c : Config A) → turned O (k % 8) c ≡ turned O k c
    unfolding turned
    turned-mod k c = ap (on c) (fun_ext λ s. turns-mod O L k (c.state s))

    pub same-trans : (l m n : List Gate) (j k : ℕ) → Same j l m → Same k m n → Same (j + k) l n
    same-trans l m n j k p q c = p c ∙ ap (turned O j) (q c) ∙ turned-plus j k (drive n c)

    pub same-inside : (a l m b : List Gate) (k : ℕ) → Same k l m → Same k (a ++ (l ++ b)) (a ++ (m ++ b))
    same-inside a l m b k p c =
        drive-append a (l ++ b) c
        ∙ drive-append l b (drive a c)
        ∙ ap (drive b) (p (drive a c))
        ∙ drive-turned b k (drive m (drive a c))
        ∙ ap (turned O k) (sym (drive-append m b (drive a c)) ∙ sym (drive-append a (m ++ b) c))

    -- ------------------------------------------------------------ phases on one wire

    phase-is : (w k : ℕ) (ψ : Setting → A) (u : Setting) → apply O (phase k w) false ψ u ≡ times O.turn (cond (u w) k 0) (ψ u)
    unfolding apply sum scale toggles bits_at times
    phase-is w k ψ u = add-none-right O L _

    pub phase-none : (w : ℕ) (c : Config A) → plain O (phase 0 w) c ≡ c
    unfolding times
    phase-none w c = ap (on c) (fun_ext λ u. phase-is w 0 c.state u ∙ go u (u w))
      where
        go : (u : Setting) (b : Bool) → times O.turn (cond b 0 0) (c.state u) ≡ c.state u
        go u true = refl
        go u false = refl

    pub phase-plus : (w j k : ℕ) (c : Config A) → plain O (phase j w) (plain O (phase k w) c) ≡ plain O (phase (j + k) w) c
    unfolding times
    phase-plus w j k c = ap (on c) (fun_ext λ u.
        phase-is w j _ u ∙ ap (times O.turn (cond (u w) j 0)) (phase-is w k c.state u) ∙ go u (u w)
        ∙ sym (phase-is w (j + k) c.state u))
      where
        go : (u : Setting) (b : Bool) →
            times O.turn (cond b j 0) (times O.turn (cond b k 0) (c.state u)) ≡ times O.turn (cond b (j + k) 0) (c.state u)
        go u true = sym (times-plus O.turn j k (c.state u))
        go u false = refl

    pub phase-mod : (w k : ℕ) (c : Config A) → plain O (phase (k % 8) w) c ≡ plain O (phase k w) c
    phase-mod w k c = ap (on c) (fun_ext λ u. phase-is w (k % 8) c.state u ∙ go u (u w) ∙ sym (phase-is w k c.state u))
      where
        go : (u : Setting) (b : Bool) → times O.turn (cond b (k % 8) 0) (c.state u) ≡ times O.turn (cond b k 0) (c.state u)
        go u true = turns-mod O L k (c.state u)
        go u false = refl
