-- The list of cells that marks and gates stand for, parted: at a slot, at the first cell that meets a test.
use mathlib.Core.Path.{◌≡◌, refl, sym, ap, ap₂, subst, ◌∙◌}
use mathlib.Core.Bool.{Bool, true, false, not, cond, ◌&&◌, false≢true}
use mathlib.Core.List.{List, [], ◌∷◌, ◌++◌, reverse, append-nil, reverse-cons}
use mathlib.Core.Option.{Option, some, none}
use Prim.Native.Nat.{ℕ, zero, suc, ◌+◌, ◌-◌, ◌≤◌, ◌<◌}
use native.Mathlib.Omega.{arith}
use lib.Dec.{eqb}
use Rattle.gates.specs.declared.Gate.{Gate}
use Rattle.rules.specs.Steps.{Cell, Cut, onto}
use Rattle.rules.specs.Sweeps.{cut}
use Rattle.links.proofs.SeekLaws.{without, without_other, without-itself}
use Rattle.slots.specs.Slots.{cell_of, cells_from, cells_below, left_out}
use Rattle.slots.proofs.HeldLaws.{cells_same}

-- ------------------------------------------------------------ one slot more

module _ (live : ℕ → Bool) (gates : ℕ → Gate) where
  pub from_next : (i count : ℕ) (b : Bool) → live i ≡ b →
      cells_from live gates i (suc count) ≡ cond b (cell_of gates i ∷ cells_from live gates (suc i) count) (cells_from live gates (suc i) count)
  unfolding cells_from
  from_next i count b e =
      ap (λ (b : Bool). cond b (cell_of gates i ∷ cells_from live gates (suc i) count) (cells_from live gates (suc i) count)) e

  below_next : (i : ℕ) (b : Bool) → live i ≡ b →
      cells_below live gates (suc i) ≡ cond b (cell_of gates i ∷ cells_below live gates i) (cells_below live gates i)
  unfolding cells_below
  below_next i b e = ap (λ (b : Bool). cond b (cell_of gates i ∷ cells_below live gates i) (cells_below live gates i)) e

-- Lists of the same live slots with the same gates, the latest first.
pub below-same : (live live' : ℕ → Bool) (gates gates' : ℕ → Gate) (i : ℕ) → ((j : ℕ) → j < i → live j ≡ live' j) →
    ((j : ℕ) → j < i → live j ≡ true → gates j ≡ gates' j) → cells_below live gates i ≡ cells_below live' gates' i
unfolding cells_below
below-same live live' gates gates' zero e f = refl
below-same live live' gates gates' (suc i) e f =
    go (live i) (live' i) (e i (omega arith)) (λ t. f i (omega arith) t)
    (below-same live live' gates gates' i (λ j a. e j (omega arith)) (λ j a. f j (omega arith)))
  where
    go : (b c : Bool) → b ≡ c → (b ≡ true → gates i ≡ gates' i) → cells_below live gates i ≡ cells_below live' gates' i →
        cond b (cell_of gates i ∷ cells_below live gates i) (cells_below live gates i)
        ≡ cond c (cell_of gates' i ∷ cells_below live' gates' i) (cells_below live' gates' i)
    go true true q g h = ap₂ (λ (x : Gate) (l : List (Cell ℕ)). record { gate = x; beside = i } ∷ l) (g refl) h
    go true false q g h = absurd (false≢true (sym q))
    go false true q g h = absurd (false≢true q)
    go false false q g h = h

-- One slot less, the latest first.
pub below-without : (live : ℕ → Bool) (gates : ℕ → Gate) (s i : ℕ) →
    cells_below (without live s) gates i ≡ left_out s (cells_below live gates i)
unfolding cells_below left_out
below-without live gates s zero = refl
below-without live gates s (suc i) = go (live i) (eqb i s) refl (below-without live gates s i)
  where
    l : List (Cell ℕ)
    l = left_out s (cells_below live gates i)

    go : (b c : Bool) → eqb i s ≡ c → cells_below (without live s) gates i ≡ left_out s (cells_below live gates i) →
        cond (b && not c) (cell_of gates i ∷ cells_below (without live s) gates i) (cells_below (without live s) gates i)
        ≡ left_out s (cond b (cell_of gates i ∷ cells_below live gates i) (cells_below live gates i))
    go true true q h = h ∙ sym (ap (λ (x : Bool). cond x l (cell_of gates i ∷ l)) q)
    go true false q h = ap (λ (m : List (Cell ℕ)). cell_of gates i ∷ m) h ∙ sym (ap (λ (x : Bool). cond x l (cell_of gates i ∷ l)) q)
    go false c q h = h

-- ------------------------------------------------------------ parted at a slot

module _ (live : ℕ → Bool) (gates : ℕ → Gate) where
  -- So many slots, and those after them.
  pub cells-part : (i a b : ℕ) → cells_from live gates i (a + b) ≡ cells_from live gates i a ++ cells_from live gates (i + a) b
  unfolding cells_from
  cells-part i zero b =
      let start : i ≡ i + 0 = omega arith in
      let all : 0 + b ≡ b = omega arith in
      ap₂ (cells_from live gates) start all
  cells-part i (suc a) b =
      let one_more : suc a + b ≡ suc (a + b) = omega arith in
      let start : suc i + a ≡ i + suc a = omega arith in
      ap (cells_from live gates i) one_more
      ∙ go (live i) (cells-part (suc i) a b ∙ ap (λ (x : ℕ). cells_from live gates (suc i) a ++ cells_from live gates x b) start)
    where
      go : (c : Bool) → cells_from live gates (suc i) (a + b) ≡ cells_from live gates (suc i) a ++ cells_from live gates (i + suc a) b →
          cond c (cell_of gates i ∷ cells_from live gates (suc i) (a + b)) (cells_from live gates (suc i) (a + b))
          ≡ cond c (cell_of gates i ∷ cells_from live gates (suc i) a) (cells_from live gates (suc i) a) ++ cells_from live gates (i + suc a) b
      go true h = ap (λ (l : List (Cell ℕ)). cell_of gates i ∷ l) h
      go false h = h

  part_at : (i later : ℕ) (b : Bool) → live i ≡ b →
      cells_from live gates 0 (i + suc later)
      ≡ cells_from live gates 0 i ++ cond b (cell_of gates i ∷ cells_from live gates (suc i) later) (cells_from live gates (suc i) later)
  part_at i later b e =
      cells-part 0 i (suc later)
      ∙ ap (λ (l : List (Cell ℕ)). cells_from live gates 0 i ++ l)
      (ap (λ (x : ℕ). cells_from live gates x (suc later)) (omega arith) ∙ from_next live gates i later b e)

  -- The slots below one, turned round.
  pub below-reverse : (i : ℕ) → reverse (cells_below live gates i) ≡ cells_from live gates 0 i
  unfolding cells_below cells_from
  below-reverse zero = refl
  below-reverse (suc i) =
      let one_more : i + 1 ≡ suc i = omega arith in
      go (live i) refl (below-reverse i) ∙ ap (cells_from live gates 0) one_more
    where
      go : (b : Bool) → live i ≡ b → reverse (cells_below live gates i) ≡ cells_from live gates 0 i →
          reverse (cond b (cell_of gates i ∷ cells_below live gates i) (cells_below live gates i)) ≡ cells_from live gates 0 (i + 1)
      go true e h =
          reverse-cons (cell_of gates i) (cells_below live gates i) ∙ ap (λ (l : List (Cell ℕ)). l ++ (cell_of gates i ∷ [])) h
          ∙ sym (part_at i 0 true e)
      go false e h = h ∙ sym (append-nil (cells_from live gates 0 i)) ∙ sym (part_at i 0 false e)

  -- The list round a live slot.
  pub held-parts : (i count : ℕ) → live i ≡ true → i < count →
      cells_from live gates 0 count ≡ reverse (cells_below live gates i) ++ (cell_of gates i ∷ cells_from live gates (suc i) (count - suc i))
  held-parts i count t m =
      ap (cells_from live gates 0) (omega arith) ∙ part_at i (count - suc i) true t
      ∙ ap (λ (l : List (Cell ℕ)). l ++ (cell_of gates i ∷ cells_from live gates (suc i) (count - suc i))) (sym (below-reverse i))

  -- A mark other than the slot's at which a list is parted.
  still-off : (s i : ℕ) → live i ≡ false → without live s i ≡ false
  still-off s i e = ap (λ (b : Bool). b && not (eqb i s)) e

  still-on : (s i : ℕ) → (i ≡ s → ⊥) → live i ≡ true → without live s i ≡ true
  still-on s i d e = sym (without_other live s i d) ∙ e

  -- ------------------------------------------------------------ parted by a test, the latest first

  -- What a part at the first cell below a slot that meets a test says, in terms of the slot found.

  pub record CutBelow (p : Gate → Bool) (i : ℕ) (c : Cut ℕ) : Type 0 where
    pub inside : c.here.beside < i
    pub live_here : live c.here.beside ≡ true
    pub meets : p (gates c.here.beside) ≡ true
    pub here : c.here ≡ cell_of gates c.here.beside
    pub after : c.after ≡ cells_below live gates c.here.beside
    pub rest : c.before ++ c.after ≡ cells_below (λ j. live j && not (eqb j c.here.beside)) gates i

  abbrev BelowOf : (Gate → Bool) → ℕ → Option (Cut ℕ) → Type 0
  BelowOf p i none = Unit {0}
  BelowOf p i (some c) = CutBelow p i c

  below-here : (p : Gate → Bool) (i : ℕ) → live i ≡ true → p (gates i) ≡ true →
      CutBelow p (suc i) (record { before = []; here = cell_of gates i; after = cells_below live gates i })
  below-here p i t q =
      record {
        inside = omega arith;
        live_here = t;
        meets = q;
        here = refl;
        after = refl;
        rest = below-same live (without live i) gates gates i (λ j m. without_other live i j (λ e. omega (arith, e))) (λ j m e. refl)
            ∙ sym (below_next (without live i) gates i false (without-itself live i));
      }

  below-off : (p : Gate → Bool) (i : ℕ) (o : Option (Cut ℕ)) → live i ≡ false → BelowOf p i o → BelowOf p (suc i) o
  below-off p i none e h = tt
  below-off p i (some c) e h =
      record {
        inside = omega (arith, h.inside);
        live_here = h.live_here;
        meets = h.meets;
        here = h.here;
        after = h.after;
        rest = h.rest
            ∙ sym (below_next (without live c.here.beside) gates i false (still-off c.here.beside i e));
      }

  below_on : (p : Gate → Bool) (i : ℕ) (o : Option (Cut ℕ)) → live i ≡ true → BelowOf p i o → BelowOf p (suc i) (onto (cell_of gates i) o)
  below_on p i none e h = tt
  below_on p i (some c) e h =
      record {
        inside = omega (arith, h.inside);
        live_here = h.live_here;
        meets = h.meets;
        here = h.here;
        after = h.after;
        rest = ap (λ (l : List (Cell ℕ)). cell_of gates i ∷ l) h.rest
            ∙ sym (below_next (without live c.here.beside) gates i true (still-on c.here.beside i (λ q. omega (arith, q, h.inside)) e));
      }

  below-is : (p : Gate → Bool) (i : ℕ) → BelowOf p i (cut p (cells_below live gates i))
  unfolding cells_below cut
  below-is p zero = tt
  below-is p (suc i) = go (live i) refl (below-is p i)
    where
      meet : (q : Bool) → p (gates i) ≡ q → live i ≡ true → BelowOf p i (cut p (cells_below live gates i)) →
          BelowOf p (suc i)
          (cond q (some (record { before = []; here = cell_of gates i; after = cells_below live gates i }))
          (onto (cell_of gates i) (cut p (cells_below live gates i))))
      meet true q e h = below-here p i e q
      meet false q e h = below_on p i (cut p (cells_below live gates i)) e h

      go : (b : Bool) → live i ≡ b → BelowOf p i (cut p (cells_below live gates i)) →
          BelowOf p (suc i) (cut p (cond b (cell_of gates i ∷ cells_below live gates i) (cells_below live gates i)))
      go true e h = meet (p (gates i)) refl e h
      go false e h = below-off p i (cut p (cells_below live gates i)) e h

  pub cut-below-parts : (p : Gate → Bool) (i : ℕ) (c : Cut ℕ) → cut p (cells_below live gates i) ≡ some c → CutBelow p i c
  cut-below-parts p i c e = subst (BelowOf p i) e (below-is p i)

  -- ------------------------------------------------------------ parted by a test, in order

  -- The same of so many slots from one on.
  pub record CutFrom (p : Gate → Bool) (i count : ℕ) (c : Cut ℕ) : Type 0 where
    pub from : i ≤ c.here.beside
    pub inside : c.here.beside < i + count
    pub live_here : live c.here.beside ≡ true
    pub meets : p (gates c.here.beside) ≡ true
    pub here : c.here ≡ cell_of gates c.here.beside
    pub before : c.before ≡ cells_from live gates i (c.here.beside - i)
    pub after : c.after ≡ cells_from live gates (suc c.here.beside) (i + count - suc c.here.beside)
    pub rest : c.before ++ c.after ≡ cells_from (λ j. live j && not (eqb j c.here.beside)) gates i count

  abbrev FromOf : (Gate → Bool) → ℕ → ℕ → Option (Cut ℕ) → Type 0
  FromOf p i count none = Unit {0}
  FromOf p i count (some c) = CutFrom p i count c

  from-here : (p : Gate → Bool) (i count : ℕ) → live i ≡ true → p (gates i) ≡ true →
      CutFrom p i (suc count) (record { before = []; here = cell_of gates i; after = cells_from live gates (suc i) count })
  unfolding cells_from
  from-here p i count t q =
      record {
        from = omega arith;
        inside = omega arith;
        live_here = t;
        meets = q;
        here = refl;
        before = let nothing : 0 ≡ i - i = omega arith in ap (cells_from live gates i) nothing;
        after = let later : count ≡ i + suc count - suc i = omega arith in ap (cells_from live gates (suc i)) later;
        rest = cells_same live (without live i) gates gates (suc i) count (λ j m n. without_other live i j (λ e. omega (arith, e))) (λ j m n e. refl)
            ∙ sym (from_next (without live i) gates i count false (without-itself live i));
      }

  from-off : (p : Gate → Bool) (i count : ℕ) (o : Option (Cut ℕ)) → live i ≡ false → FromOf p (suc i) count o → FromOf p i (suc count) o
  from-off p i count none e h = tt
  from-off p i count (some c) e h =
      record {
        from = omega (arith, h.from);
        inside = omega (arith, h.inside);
        live_here = h.live_here;
        meets = h.meets;
        here = h.here;
        before = h.before ∙ sym (from_next live gates i (c.here.beside - suc i) false e)
            ∙ ap (cells_from live gates i) (omega (arith, h.from));
        after = h.after ∙ ap (cells_from live gates (suc c.here.beside)) (omega arith);
        rest = h.rest
            ∙ sym (from_next (without live c.here.beside) gates i count false (still-off c.here.beside i e));
      }

  from_on : (p : Gate → Bool) (i count : ℕ) (o : Option (Cut ℕ)) → live i ≡ true → FromOf p (suc i) count o →
      FromOf p i (suc count) (onto (cell_of gates i) o)
  from_on p i count none e h = tt
  from_on p i count (some c) e h =
      record {
        from = omega (arith, h.from);
        inside = omega (arith, h.inside);
        live_here = h.live_here;
        meets = h.meets;
        here = h.here;
        before = ap (λ (l : List (Cell ℕ)). cell_of gates i ∷ l) h.before ∙ sym (from_next live gates i (c.here.beside - suc i) true e)
            ∙ ap (cells_from live gates i) (omega (arith, h.from));
        after = h.after ∙ ap (cells_from live gates (suc c.here.beside)) (omega arith);
        rest = ap (λ (l : List (Cell ℕ)). cell_of gates i ∷ l) h.rest
            ∙ sym (from_next (without live c.here.beside) gates i count true (still-on c.here.beside i (λ q. omega (arith, q, h.from)) e));
      }

  from_is : (p : Gate → Bool) (i count : ℕ) → FromOf p i count (cut p (cells_from live gates i count))
  unfolding cells_from cut
  from_is p i zero = tt
  from_is p i (suc count) = go (live i) refl (from_is p (suc i) count)
    where
      l : List (Cell ℕ)
      l = cells_from live gates (suc i) count

      meet : (q : Bool) → p (gates i) ≡ q → live i ≡ true → FromOf p (suc i) count (cut p l) →
          FromOf p i (suc count) (cond q (some (record { before = []; here = cell_of gates i; after = l })) (onto (cell_of gates i) (cut p l)))
      meet true q e h = from-here p i count e q
      meet false q e h = from_on p i count (cut p l) e h

      go : (b : Bool) → live i ≡ b → FromOf p (suc i) count (cut p l) → FromOf p i (suc count) (cut p (cond b (cell_of gates i ∷ l) l))
      go true e h = meet (p (gates i)) refl e h
      go false e h = from-off p i count (cut p l) e h

  pub cut-from-parts : (p : Gate → Bool) (i count : ℕ) (c : Cut ℕ) → cut p (cells_from live gates i count) ≡ some c → CutFrom p i count c
  cut-from-parts p i count c e = subst (FromOf p i count) e (from_is p i count)
