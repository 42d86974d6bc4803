-- Two words of operators on a few distinct wires do the same if a table of paths says so, which is computed.
use mathlib.Core.Path.{◌≡◌, refl, sym, ◌∙◌, ap, ap₂, fun_ext}
use mathlib.Core.Logic.{◌≢◌}
use mathlib.Core.Bool.{Bool, true, false, not, cond, ◌&&◌}
use mathlib.Core.List.{List, [], ◌∷◌, ◌++◌}
use Prim.Native.Nat.{ℕ, zero, suc, ◌+◌, ◌%◌}
use lib.Dec.{T, eqb, eqb→eq}
use lib.ListN.{length, get_or}
use borrow.Author.Tests.{ne_eqb, eq-eqb}
use Rattle.gates.specs.Gates.{All}
use Rattle.gates.proofs.Joined.{and_both}
use Rattle.meaning.specs.Amplitudes.{Ops, times}
use Rattle.meaning.specs.Matrices.{Factor, same_bits}
use Rattle.meaning.specs.States.{Setting, with, bits_at, put, sum, scale}
use Rattle.meaning.proofs.SumLaws.{Laws, times-plus, times-swap, turn-past-root, scale-none, scale-add, add-none-right, turns-mod}
use Rattle.meaning.proofs.Operators.{Operator, Entry, apply, toggle, toggles, flipped}
use Rattle.meaning.proofs.Settle.{Term, term, same_sum, settle, put_in, opposite, raise_all, raise, opposed, weight, total, total-append, same_sum_lem}

-- ------------------------------------------------------------ words on numbered wires

-- A setting of a few wires is a list of bits; the wires of an operator are places in it.
unfoldable pub bits_of : List Bool → List ℕ → List Bool
bits_of σ [] = []
bits_of σ (i ∷ l) = get_or σ i false ∷ bits_of σ l

unfoldable pub flip : ℕ → Bool → List Bool → List Bool
flip i c [] = []
flip zero c (b ∷ l) = flipped c b ∷ l
flip (suc i) c (b ∷ l) = b ∷ flip i c l

unfoldable pub flip_all : List ℕ → List Bool → List Bool → List Bool
flip_all [] m σ = σ
flip_all (i ∷ l) [] σ = σ
flip_all (i ∷ l) (c ∷ m) σ = flip_all l m (flip i c σ)

unfoldable pub scaled : Factor → List Term → List Term
scaled c [] = []
scaled c (t ∷ l) = term ((c.turns + t.turns) % 8) (c.roots + t.roots) t.bits ∷ scaled c l

unfoldable pub gather : (List Bool → List Term) → List ℕ → List Bool → List Entry → List Term
gather f is σ [] = []
gather f is σ (c ∷ l) = scaled c.factor (f (flip_all is c.mask σ)) ++ gather f is σ l

-- The amplitudes that a word takes, with their factors; the word's head is done last.
unfoldable pub paths : List Operator → List Bool → List Term
paths [] σ = term 0 0 σ ∷ []
paths (p ∷ l) σ = gather (paths l) p.flips σ (p.table false (bits_of σ p.reads))

-- ------------------------------------------------------------ words on wires

abbrev pub pick : List ℕ → ℕ → ℕ
pick ws i = get_or ws i 0

unfoldable pub picks : List ℕ → List ℕ → List ℕ
picks ws [] = []
picks ws (i ∷ l) = pick ws i ∷ picks ws l

unfoldable pub place : List ℕ → Operator → Operator
place ws p =
    record { reads = picks ws p.reads; flips = picks ws p.flips; draws = p.draws; stores = p.stores; table = p.table }

module _ {A : Type 0} (O : Ops A) where
  unfoldable pub word : List ℕ → List Operator → (Setting → A) → Setting → A
  unfolding place picks
  word ws [] ψ = ψ
  word ws (p ∷ l) ψ = apply O (place ws p) false (word ws l ψ)

-- ------------------------------------------------------------ the test

-- The places of an operator are below the number of wires.
unfoldable pub within : ℕ → ℕ → Bool
within zero i = false
within (suc n) zero = true
within (suc n) (suc i) = within n i

unfoldable pub all_within : ℕ → List ℕ → Bool
all_within n [] = true
all_within n (i ∷ l) = within n i && all_within n l

unfoldable pub fitting : ℕ → List Operator → Bool
fitting n [] = true
fitting n (p ∷ l) = all_within n p.reads && all_within n p.flips && fitting n l

-- At every setting of n wires.
unfoldable pub everywhere : ℕ → (List Bool → Bool) → Bool
everywhere zero f = f []
everywhere (suc n) f = everywhere n (λ σ. f (false ∷ σ)) && everywhere n (λ σ. f (true ∷ σ))

-- Two words take the same amplitudes from every setting of n wires, over the power k of √2.
unfoldable pub alike : ℕ → ℕ → List Operator → List Operator → Bool
unfolding fitting all_within within everywhere same_sum settle put_in opposite same_bits raise_all raise opposed
    paths gather scaled flip_all flip bits_of
alike n k l m = fitting n l && fitting n m && everywhere n (λ σ. same_sum k (paths l σ) (paths m σ))

-- ------------------------------------------------------------ settings of some wires

abbrev pub Distinct : List ℕ → Type 0
Distinct [] = Unit {0}
Distinct (w ∷ ws) = All (λ v. v ≢ w) ws × Distinct ws

-- As many bits as wires.
abbrev pub Fit : List ℕ → List Bool → Type 0
Fit [] [] = Unit {0}
Fit [] (b ∷ σ) = ⊥
Fit (w ∷ ws) [] = ⊥
Fit (w ∷ ws) (b ∷ σ) = Fit ws σ

pub pick_other : (ws : List ℕ) (i w : ℕ) → T (within (length ws) i) → All (λ v. v ≢ w) ws → pick ws i ≢ w
unfolding within
pick_other [] i w h d = absurd h
pick_other (v ∷ ws) zero w h d = d.0
pick_other (v ∷ ws) (suc i) w h d = pick_other ws i w h d.1

put-get : (ws : List ℕ) (σ : List Bool) (u : Setting) (i : ℕ) → Distinct ws → Fit ws σ → T (within (length ws) i) →
    put ws σ u (pick ws i) ≡ get_or σ i false
unfolding put within with
put-get [] σ u i d f h = absurd h
put-get (w ∷ ws) [] u i d f h = absurd f
put-get (w ∷ ws) (b ∷ σ) u zero d f h = ap (λ e. cond e b (put ws σ u w)) (eq-eqb w w refl)
put-get (w ∷ ws) (b ∷ σ) u (suc i) d f h =
    ap (λ e. cond e b (put ws σ u (pick ws i))) (ne_eqb (pick ws i) w (pick_other ws i w h d.0)) ∙ put-get ws σ u i d.1 f h

with-toggle : (w : ℕ) (c b : Bool) (s : Setting) → toggle w c (with w b s) ≡ with w (flipped c b) s
unfolding toggle with
with-toggle w false b s = refl
with-toggle w true b s = fun_ext λ v. go (eqb v w) v
  where
    go : (e : Bool) (v : ℕ) → flipped e (cond e b (s v)) ≡ cond e (not b) (s v)
    go true v = refl
    go false v = refl

with-toggle-other : (w v : ℕ) (c b : Bool) (s : Setting) → v ≢ w → toggle v c (with w b s) ≡ with w b (toggle v c s)
unfolding toggle with
with-toggle-other w v false b s d = refl
with-toggle-other w v true b s d = fun_ext λ x. go (eqb x w) (eqb x v) x (λ p q. d (sym (eqb→eq x v q) ∙ eqb→eq x w p))
  where
    go : (e g : Bool) (x : ℕ) → (T e → T g → ⊥) → flipped g (cond e b (s x)) ≡ cond e b (flipped g (s x))
    go true true x h = absurd (h tt tt)
    go true false x h = refl
    go false true x h = refl
    go false false x h = refl

put-flip : (ws : List ℕ) (σ : List Bool) (u : Setting) (i : ℕ) (c : Bool) → Distinct ws → Fit ws σ → T (within (length ws) i) →
    toggle (pick ws i) c (put ws σ u) ≡ put ws (flip i c σ) u
unfolding put within flip
put-flip [] σ u i c d f h = absurd h
put-flip (w ∷ ws) [] u i c d f h = absurd f
put-flip (w ∷ ws) (b ∷ σ) u zero c d f h = with-toggle w c b (put ws σ u)
put-flip (w ∷ ws) (b ∷ σ) u (suc i) c d f h =
    with-toggle-other w (pick ws i) c b (put ws σ u) (pick_other ws i w h d.0) ∙ ap (with w b) (put-flip ws σ u i c d.1 f h)

flip-fit : (ws : List ℕ) (σ : List Bool) (i : ℕ) (c : Bool) → Fit ws σ → Fit ws (flip i c σ)
unfolding flip
flip-fit [] [] i c f = tt
flip-fit [] (b ∷ σ) i c f = absurd f
flip-fit (w ∷ ws) [] i c f = absurd f
flip-fit (w ∷ ws) (b ∷ σ) zero c f = f
flip-fit (w ∷ ws) (b ∷ σ) (suc i) c f = flip-fit ws σ i c f

module _ (ws : List ℕ) (d : Distinct ws) (u : Setting) where
  puts-get : (σ : List Bool) (l : List ℕ) → Fit ws σ → T (all_within (length ws) l) → bits_at (put ws σ u) (picks ws l) ≡ bits_of σ l
  unfolding bits_at bits_of picks all_within
  puts-get σ [] f h = refl
  puts-get σ (i ∷ l) f h = let k = and_both (within (length ws) i) (all_within (length ws) l) h in
      ap₂ ◌∷◌ (put-get ws σ u i d f k.0) (puts-get σ l f k.1)

  puts-flip : (σ : List Bool) (l : List ℕ) (m : List Bool) → Fit ws σ → T (all_within (length ws) l) →
      toggles (picks ws l) m (put ws σ u) ≡ put ws (flip_all l m σ) u
  unfolding toggles flip_all picks all_within
  puts-flip σ [] m f h = refl
  puts-flip σ (i ∷ l) [] f h = refl
  puts-flip σ (i ∷ l) (c ∷ m) f h = let k = and_both (within (length ws) i) (all_within (length ws) l) h in
      ap (toggles (picks ws l) m) (put-flip ws σ u i c d f k.0) ∙ puts-flip (flip i c σ) l m (flip-fit ws σ i c f) k.1

  flips-fit : (σ : List Bool) (l : List ℕ) (m : List Bool) → Fit ws σ → Fit ws (flip_all l m σ)
  unfolding flip_all
  flips-fit σ [] m f = f
  flips-fit σ (i ∷ l) [] f = f
  flips-fit σ (i ∷ l) (c ∷ m) f = flips-fit (flip i c σ) l m (flip-fit ws σ i c f)

-- ------------------------------------------------------------ a word is the sum of its paths

module _ {A : Type 0} (O : Ops A) (L : Laws O) (g : List Bool → A) where
  open O use {none, add, turn, over_root}

  scaled-one : (c : Factor) (t : Term) →
      weight O L g (term ((c.turns + t.turns) % 8) (c.roots + t.roots) t.bits) ≡ scale O c (weight O L g t)
  unfolding weight scale
  scaled-one c t = turns-mod O L (c.turns + t.turns) _ ∙ times-plus turn c.turns t.turns _
      ∙ ap (λ y. times turn c.turns (times turn t.turns y)) (times-plus over_root c.roots t.roots _)
      ∙ ap (times turn c.turns) (times-swap turn over_root (turn-past-root O L) t.turns c.roots _)

  scaled-is : (c : Factor) (l : List Term) → total O L g (scaled c l) ≡ scale O c (total O L g l)
  unfolding scaled total sum
  scaled-is c [] = sym (scale-none O L c)
  scaled-is c (t ∷ l) = ap₂ add (scaled-one c t) (scaled-is c l) ∙ sym (scale-add O L c _ _)

module _ {A : Type 0} (O : Ops A) (L : Laws O) (ws : List ℕ) (d : Distinct ws) (ψ : Setting → A) (u : Setting) where
  abbrev pub weights : List Term → A
  weights = total O L (λ σ. ψ (put ws σ u))

  gather-is : (φ : Setting → A) (f : List Bool → List Term) → ((σ : List Bool) → Fit ws σ → φ (put ws σ u) ≡ weights (f σ)) →
      (is : List ℕ) → T (all_within (length ws) is) → (σ : List Bool) → Fit ws σ → (cs : List Entry) →
      sum O (λ c. scale O c.factor (φ (toggles (picks ws is) c.mask (put ws σ u)))) cs ≡ weights (gather f is σ cs)
  unfolding sum gather total
  gather-is φ f e is h σ k [] = refl
  gather-is φ f e is h σ k (c ∷ cs) =
      ap₂ O.add
      (ap (λ v. scale O c.factor (φ v)) (puts-flip ws d u σ is c.mask k h)
      ∙ ap (scale O c.factor) (e (flip_all is c.mask σ) (flips-fit ws d u σ is c.mask k))
      ∙ sym (scaled-is O L (λ τ. ψ (put ws τ u)) c.factor (f (flip_all is c.mask σ))))
      (gather-is φ f e is h σ k cs)
      ∙ sym (total-append O L (λ τ. ψ (put ws τ u)) (scaled c.factor (f (flip_all is c.mask σ))) (gather f is σ cs))

  pub paths-is : (l : List Operator) (σ : List Bool) → Fit ws σ → T (fitting (length ws) l) →
      word O ws l ψ (put ws σ u) ≡ weights (paths l σ)
  unfolding word paths fitting total weight sum times apply place
  paths-is [] σ f h = sym (add-none-right O L _)
  paths-is (p ∷ l) σ f h =
      let k = and_both (all_within (length ws) p.reads && all_within (length ws) p.flips) (fitting (length ws) l) h in
      let j = and_both (all_within (length ws) p.reads) (all_within (length ws) p.flips) k.0 in
      ap (λ b. sum O (λ c. scale O c.factor (word O ws l ψ (toggles (picks ws p.flips) c.mask (put ws σ u)))) (p.table false b))
      (puts-get ws d u σ p.reads f j.0)
      ∙ gather-is (word O ws l ψ) (paths l) (λ τ e. paths-is l τ e k.1) p.flips j.1 σ f (p.table false (bits_of σ p.reads))

pub bits_fit : (ws : List ℕ) (u : Setting) → Fit ws (bits_at u ws)
unfolding bits_at
bits_fit [] u = tt
bits_fit (w ∷ ws) u = bits_fit ws u

pub put-bits : (ws : List ℕ) (u : Setting) → put ws (bits_at u ws) u ≡ u
unfolding put bits_at with
put-bits [] u = refl
put-bits (w ∷ ws) u = ap (with w (u w)) (put-bits ws u) ∙ fun_ext λ v. go (eqb v w) v (λ t. ap u (sym (eqb→eq v w t)))
  where
    go : (e : Bool) (v : ℕ) → (T e → u w ≡ u v) → cond e (u w) (u v) ≡ u v
    go true v h = h tt
    go false v h = refl

pub everywhere-at : (ws : List ℕ) (f : List Bool → Bool) → T (everywhere (length ws) f) → (σ : List Bool) → Fit ws σ → T (f σ)
unfolding everywhere
everywhere-at [] f h [] k = h
everywhere-at [] f h (b ∷ σ) k = absurd k
everywhere-at (w ∷ ws) f h [] k = absurd k
everywhere-at (w ∷ ws) f h (false ∷ σ) k = everywhere-at ws (λ τ. f (false ∷ τ))
    (and_both (everywhere (length ws) (λ τ. f (false ∷ τ))) _ h).0 σ k
everywhere-at (w ∷ ws) f h (true ∷ σ) k = everywhere-at ws (λ τ. f (true ∷ τ))
    (and_both (everywhere (length ws) (λ τ. f (false ∷ τ))) _ h).1 σ k

-- Words that pass the test do the same, on any distinct wires.
module _ {A : Type 0} (O : Ops A) (L : Laws O) (ws : List ℕ) (d : Distinct ws) (k : ℕ) (l m : List Operator)
    (h : T (alike (length ws) k l m)) where
  pub same-words : (ψ : Setting → A) (u : Setting) → word O ws l ψ u ≡ word O ws m ψ u
  unfolding alike
  same-words ψ u =
      let a = and_both (fitting (length ws) l && fitting (length ws) m) _ h in
      let b = and_both (fitting (length ws) l) (fitting (length ws) m) a.0 in
      ap (word O ws l ψ) (sym (put-bits ws u))
      ∙ paths-is O L ws d ψ u l (bits_at u ws) (bits_fit ws u) b.0
      ∙ same_sum_lem O L (λ σ. ψ (put ws σ u)) k _ _ (everywhere-at ws _ a.1 (bits_at u ws) (bits_fit ws u))
      ∙ sym (paths-is O L ws d ψ u m (bits_at u ws) (bits_fit ws u) b.1)
      ∙ ap (word O ws m ψ) (put-bits ws u)
