-- The list of cells that marks and gates stand for: where it is parted, and what a change of one slot does to it.
use mathlib.Core.Path.{◌≡◌, refl, sym, ap, ap₂, subst, ◌∙◌}
use mathlib.Core.Bool.{Bool, true, false, not, cond, ◌&&◌, false≢true}
use mathlib.Core.List.{List, [], ◌∷◌, ◌++◌}
use mathlib.Core.Option.{Option, some, none}
use Prim.Native.Nat.{ℕ, zero, suc, ◌+◌, ◌≤◌, ◌<◌}
use native.Mathlib.Omega.{arith}
use lib.Dec.{eqb}
use lib.ListN.{length}
use borrow.Author.Tests.{eqb-true, eqb-false}
use Rattle.gates.specs.declared.Gate.{Gate}
use Rattle.gates.specs.Gates.{All}
use Rattle.gates.proofs.Joined.{and_left, and_right}
use Rattle.rules.specs.Steps.{Cell, Cut, onto, all, cut_at}
use Rattle.rules.specs.Sweeps.{cut}
use Rattle.links.specs.Seek.{latest, earliest}
use Rattle.links.proofs.SeekLaws.{without}
use Rattle.ranks.specs.Ranks.{below}
use Rattle.ranks.proofs.SumLaws.{below-mono}
use Rattle.slots.specs.Slots.{cell_of, cells_from, cells_below, slot_of, left_out, rewritten}

-- ------------------------------------------------------------ where the list is parted

-- A cell in front does not change the slot at which a list is parted further on.
onto-slot : (e : Cell ℕ) (o : Option (Cut ℕ)) → slot_of (onto e o) ≡ slot_of o
onto-slot e none = refl
onto-slot e (some c) = refl

cut-front : (p : Gate → Bool) (e : Cell ℕ) (l : List (Cell ℕ)) → slot_of (cut p (e ∷ l)) ≡ cond (p e.gate) (some e.beside) (slot_of (cut p l))
unfolding cut
cut-front p e l = go (p e.gate)
  where
    go : (b : Bool) → slot_of (cond b (some (record { before = []; here = e; after = l })) (onto e (cut p l))) ≡
        cond b (some e.beside) (slot_of (cut p l))
    go true = refl
    go false = onto-slot e (cut p l)

module _ (live : ℕ → Bool) (gates : ℕ → Gate) where
  step : (p : Gate → Bool) (i : ℕ) (l : List (Cell ℕ)) (r : Option ℕ) → slot_of (cut p l) ≡ r →
      slot_of (cut p (cond (live i) (cell_of gates i ∷ l) l)) ≡ cond (live i && p (gates i)) (some i) r
  step p i l r h = go (live i)
    where
      go : (b : Bool) → slot_of (cut p (cond b (cell_of gates i ∷ l) l)) ≡ cond (b && p (gates i)) (some i) r
      go true = cut-front p (cell_of gates i) l ∙ ap (cond (p (gates i)) (some i)) h
      go false = h

  -- The first cell below a slot, the latest first, that meets a test is the latest slot that meets it.
  pub cut_below : (p : Gate → Bool) (i : ℕ) →
      slot_of (cut p (cells_below live gates i)) ≡ latest (λ j. live j && p (gates j)) i
  unfolding cells_below latest cut
  cut_below p zero = refl
  cut_below p (suc i) = step p i (cells_below live gates i) (latest (λ j. live j && p (gates j)) i) (cut_below p i)

  pub cut-from : (p : Gate → Bool) (i count : ℕ) →
      slot_of (cut p (cells_from live gates i count)) ≡ earliest (λ j. live j && p (gates j)) i count
  unfolding cells_from earliest cut
  cut-from p i zero = refl
  cut-from p i (suc count) =
      step p i (cells_from live gates (suc i) count) (earliest (λ j. live j && p (gates j)) (suc i) count) (cut-from p (suc i) count)

  -- ------------------------------------------------------------ positions

  -- Marks that say which slots are live.
  module _ (marks : ℕ → ℕ) (small : (i : ℕ) → marks i ≤ 1) (says : (i : ℕ) → live i ≡ eqb (marks i) 1) where
    pub length-below : (i : ℕ) → length (cells_below live gates i) ≡ below marks i
    unfolding cells_below below
    length-below zero = refl
    length-below (suc i) = go (live i) (says i) (length-below i)
      where
        go : (b : Bool) → b ≡ eqb (marks i) 1 → length (cells_below live gates i) ≡ below marks i →
            length (cond b (cell_of gates i ∷ cells_below live gates i) (cells_below live gates i)) ≡ below marks i + marks i
        go true e h = omega (arith, h, eqb-true (marks i) 1 (sym e))
        go false e h = omega (arith, h, eqb-false (marks i) 1 (sym e), small i)

    pub length_from : (i count e : ℕ) → i + count ≡ e → length (cells_from live gates i count) + below marks i ≡ below marks e
    unfolding cells_from below
    length_from i zero e q = let same : i ≡ e = omega (arith, q) in omega (arith, ap (below marks) same)
    length_from i (suc count) e q = go (live i) (says i) (length_from (suc i) count e (omega (arith, q)))
      where
        go : (b : Bool) → b ≡ eqb (marks i) 1 → length (cells_from live gates (suc i) count) + below marks (suc i) ≡ below marks e →
            length (cond b (cell_of gates i ∷ cells_from live gates (suc i) count) (cells_from live gates (suc i) count)) + below marks i
            ≡ below marks e
        go true t h = omega (arith, h, eqb-true (marks i) 1 (sym t))
        go false t h = omega (arith, h, eqb-false (marks i) 1 (sym t), small i)

    -- The cell at a live slot's position is that slot's.
    pub cut-at : (i count s p : ℕ) → i ≤ s → s < i + count → live s ≡ true → p + below marks i ≡ below marks s →
        slot_of (cut_at p (cells_from live gates i count)) ≡ some s
    unfolding cells_from cut_at below
    cut-at i zero s p a b t e = absurd (omega arith)
    cut-at i (suc count) s p a b t e =
        go (eqb i s) refl (live i) refl (says i) p e (λ q m f. cut-at (suc i) count s q m (omega arith) t f)
      where
        l : List (Cell ℕ)
        l = cells_from live gates (suc i) count

        go : (here : Bool) → eqb i s ≡ here → (b : Bool) → live i ≡ b → b ≡ eqb (marks i) 1 → (p : ℕ) → p + below marks i ≡ below marks s →
            ((q : ℕ) → i < s → q + below marks (suc i) ≡ below marks s → slot_of (cut_at q l) ≡ some s) →
            slot_of (cut_at p (cond b (cell_of gates i ∷ l) l)) ≡ some s
        go true q true f m zero h n = ap some (eqb-true i s q)
        go true q true f m (suc p) h n = absurd (differ (ap (below marks) (eqb-true i s q)))
          where
            differ : below marks i ≡ below marks s → ⊥
            differ d = omega (arith, h, d)
        go true q false f m p h n = absurd (false≢true (sym f ∙ ap live (eqb-true i s q) ∙ t))
        go false d true f m zero h n = absurd (too_many (below-mono marks (suc i) s (omega (arith, eqb-false i s d))))
          where
            too_many : below marks i + marks i ≤ below marks s → ⊥
            too_many k = omega (arith, k, h, eqb-true (marks i) 1 (sym m))
        go false d true f m (suc p) h n =
            onto-slot (cell_of gates i) (cut_at p l) ∙ n p (omega (arith, eqb-false i s d)) (omega (arith, h, eqb-true (marks i) 1 (sym m)))
        go false d false f m p h n =
            n p (omega (arith, eqb-false i s d)) (omega (arith, h, eqb-false (marks i) 1 (sym m), small i))

-- ------------------------------------------------------------ every cell, slot by slot

all_from : (live : ℕ → Bool) (gates : ℕ → Gate) (P : Cell ℕ → Type 0) (i count : ℕ) → All P (cells_from live gates i count) →
    (j : ℕ) → i ≤ j → j < i + count → live j ≡ true → P (cell_of gates j)
unfolding cells_from
all_from live gates P i zero h j a b t = absurd (omega arith)
all_from live gates P i (suc count) h j a b t = go (live i) refl h (eqb i j) refl (λ k m. all_from live gates P (suc i) count k j m (omega arith) t)
  where
    l : List (Cell ℕ)
    l = cells_from live gates (suc i) count

    go : (c : Bool) → live i ≡ c → All P (cond c (cell_of gates i ∷ l) l) → (here : Bool) → eqb i j ≡ here →
        (All P l → suc i ≤ j → P (cell_of gates j)) → P (cell_of gates j)
    go true f h true q n = subst (λ (x : ℕ). P (cell_of gates x)) (eqb-true i j q) h.0
    go true f h false q n = n h.1 (omega (arith, eqb-false i j q))
    go false f h true q n = absurd (false≢true (sym f ∙ ap live (eqb-true i j q) ∙ t))
    go false f h false q n = n h (omega (arith, eqb-false i j q))

-- A test of all gates is one of every cell.
tests-all : (p : Gate → Bool) (l : List (Cell ℕ)) → all p l ≡ true → All (λ (e : Cell ℕ). p e.gate ≡ true) l
tests-all p [] h = tt
tests-all p (e ∷ l) h = (and_left (p e.gate) (all p l) h, tests-all p l (and_right (p e.gate) (all p l) h))

pub test-from : (live : ℕ → Bool) (gates : ℕ → Gate) (p : Gate → Bool) (i count : ℕ) → all p (cells_from live gates i count) ≡ true →
    (j : ℕ) → i ≤ j → j < i + count → live j ≡ true → p (gates j) ≡ true
test-from live gates p i count h =
    all_from live gates (λ e. p e.gate ≡ true) i count (tests-all p (cells_from live gates i count) h)

-- All slots of a list are below a number.
pub slots-below : (live : ℕ → Bool) (gates : ℕ → Gate) (top count : ℕ) →
    All (λ (e : Cell ℕ). e.beside < top) (cells_from live gates 0 count) → (j : ℕ) → j < count → live j ≡ true → j < top
slots-below live gates top count h j m t = all_from live gates (λ e. e.beside < top) 0 count h j (omega arith) (omega arith) t

-- ------------------------------------------------------------ changes

-- Lists of the same live slots with the same gates.
pub cells_same : (live live' : ℕ → Bool) (gates gates' : ℕ → Gate) (i count : ℕ) →
    ((j : ℕ) → i ≤ j → j < i + count → live j ≡ live' j) →
    ((j : ℕ) → i ≤ j → j < i + count → live j ≡ true → gates j ≡ gates' j) →
    cells_from live gates i count ≡ cells_from live' gates' i count
unfolding cells_from
cells_same live live' gates gates' i zero e f = refl
cells_same live live' gates gates' i (suc count) e f =
    go (live i) (live' i) (e i (omega arith) (omega arith)) (λ t. f i (omega arith) (omega arith) t)
    (cells_same live live' gates gates' (suc i) count (λ j a b. e j (omega arith) (omega arith)) (λ j a b. f j (omega arith) (omega arith)))
  where
    go : (b c : Bool) → b ≡ c → (b ≡ true → gates i ≡ gates' i) →
        cells_from live gates (suc i) count ≡ cells_from live' gates' (suc i) count →
        cond b (cell_of gates i ∷ cells_from live gates (suc i) count) (cells_from live gates (suc i) count)
        ≡ cond c (cell_of gates' i ∷ cells_from live' gates' (suc i) count) (cells_from live' gates' (suc i) count)
    go true true q g h = ap₂ (λ (x : Gate) (l : List (Cell ℕ)). record { gate = x; beside = i } ∷ l) (g refl) h
    go true false q g h = absurd (false≢true (sym q))
    go false true q g h = absurd (false≢true q)
    go false false q g h = h

-- No live slot among so many.
pub cells-none : (live : ℕ → Bool) (gates : ℕ → Gate) (i count : ℕ) → ((j : ℕ) → i ≤ j → j < i + count → live j ≡ false) →
    cells_from live gates i count ≡ []
unfolding cells_from
cells-none live gates i zero e = refl
cells-none live gates i (suc count) e =
    ap (λ (b : Bool). cond b (cell_of gates i ∷ cells_from live gates (suc i) count) (cells_from live gates (suc i) count)) (e i (omega arith) (omega arith))
    ∙ cells-none live gates (suc i) count (λ j a b. e j (omega arith) (omega arith))

-- One slot less.
pub cells-without : (live : ℕ → Bool) (gates : ℕ → Gate) (s i count : ℕ) →
    cells_from (without live s) gates i count ≡ left_out s (cells_from live gates i count)
unfolding cells_from left_out
cells-without live gates s i zero = refl
cells-without live gates s i (suc count) = go (live i) (eqb i s) refl (cells-without live gates s (suc i) count)
  where
    l : List (Cell ℕ)
    l = cells_from live gates (suc i) count

    go : (b c : Bool) → eqb i s ≡ c → cells_from (without live s) gates (suc i) count ≡ left_out s (cells_from live gates (suc i) count) →
        cond (b && not c) (cell_of gates i ∷ cells_from (without live s) gates (suc i) count) (cells_from (without live s) gates (suc i) count)
        ≡ left_out s (cond b (cell_of gates i ∷ cells_from live gates (suc i) count) (cells_from live gates (suc i) count))
    go true true q h =
        h ∙ sym (ap (λ (x : Bool). cond x (left_out s (cells_from live gates (suc i) count)) (cell_of gates i ∷ left_out s (cells_from live gates (suc i) count))) q)
    go true false q h =
        ap (λ (l : List (Cell ℕ)). cell_of gates i ∷ l) h
        ∙ sym (ap (λ (x : Bool). cond x (left_out s (cells_from live gates (suc i) count)) (cell_of gates i ∷ left_out s (cells_from live gates (suc i) count))) q)
    go false c q h = h

-- Another gate in a slot.
pub cells-rewritten : (live : ℕ → Bool) (gates gates' : ℕ → Gate) (s : ℕ) (g : Gate) (i count : ℕ) → gates' s ≡ g →
    ((j : ℕ) → (j ≡ s → ⊥) → gates' j ≡ gates j) →
    cells_from live gates' i count ≡ rewritten s g (cells_from live gates i count)
unfolding cells_from rewritten
cells-rewritten live gates gates' s g i zero here other = refl
cells-rewritten live gates gates' s g i (suc count) here other =
    go (live i) (eqb i s) refl (cells-rewritten live gates gates' s g (suc i) count here other)
  where
    cell : (c : Bool) → eqb i s ≡ c → cell_of gates' i ≡ cond c (record { gate = g; beside = i }) (cell_of gates i)
    cell true q = ap (λ (x : Gate). record { gate = x; beside = i }) (ap gates' (eqb-true i s q) ∙ here)
    cell false q = ap (λ (x : Gate). record { gate = x; beside = i }) (other i (eqb-false i s q))

    go : (b c : Bool) → eqb i s ≡ c → cells_from live gates' (suc i) count ≡ rewritten s g (cells_from live gates (suc i) count) →
        cond b (cell_of gates' i ∷ cells_from live gates' (suc i) count) (cells_from live gates' (suc i) count)
        ≡ rewritten s g (cond b (cell_of gates i ∷ cells_from live gates (suc i) count) (cells_from live gates (suc i) count))
    go true c q h = ap₂ (λ (e : Cell ℕ) (l : List (Cell ℕ)). e ∷ l) (cell (eqb i s) refl) h
    go false c q h = h

-- One slot more, past all others.
pub cells-pushed : (live live' : ℕ → Bool) (gates gates' : ℕ → Gate) (t i count : ℕ) → i ≤ t → t < i + count →
    ((j : ℕ) → i ≤ j → j < t → live j ≡ live' j) → ((j : ℕ) → i ≤ j → j < t → live j ≡ true → gates j ≡ gates' j) →
    ((j : ℕ) → t ≤ j → j < i + count → live j ≡ false) → ((j : ℕ) → t < j → j < i + count → live' j ≡ false) → live' t ≡ true →
    cells_from live' gates' i count ≡ cells_from live gates i count ++ (cell_of gates' t ∷ [])
unfolding cells_from
cells-pushed live live' gates gates' t i zero a b e f g h u = absurd (omega arith)
cells-pushed live live' gates gates' t i (suc count) a b e f g h u =
    go (eqb i t) refl (live i) refl (live' i) refl
    (λ m. cells-pushed live live' gates gates' t (suc i) count m (omega arith) (λ j x y. e j (omega arith) y) (λ j x y. f j (omega arith) y)
    (λ j x y. g j x (omega arith)) (λ j x y. h j x (omega arith)) u)
    (λ m. cells-none live gates (suc i) count (λ j x y. g j (omega arith) (omega arith)))
    (λ m. cells-none live' gates' (suc i) count (λ j x y. h j (omega arith) (omega arith)))
  where
    go : (here : Bool) → eqb i t ≡ here → (b : Bool) → live i ≡ b → (c : Bool) → live' i ≡ c →
        (suc i ≤ t → cells_from live' gates' (suc i) count ≡ cells_from live gates (suc i) count ++ (cell_of gates' t ∷ [])) →
        (i ≡ t → cells_from live gates (suc i) count ≡ []) → (i ≡ t → cells_from live' gates' (suc i) count ≡ []) →
        cond c (cell_of gates' i ∷ cells_from live' gates' (suc i) count) (cells_from live' gates' (suc i) count)
        ≡ cond b (cell_of gates i ∷ cells_from live gates (suc i) count) (cells_from live gates (suc i) count) ++ (cell_of gates' t ∷ [])
    go true q true p c r on past past' = absurd (false≢true (sym (g i (omega (arith, eqb-true i t q)) (omega arith)) ∙ p))
    go true q false p true r on past past' =
        ap₂ (λ (x : ℕ) (l : List (Cell ℕ)). cell_of gates' x ∷ l) (eqb-true i t q) (past' (eqb-true i t q))
        ∙ sym (ap (λ (l : List (Cell ℕ)). l ++ (cell_of gates' t ∷ [])) (past (eqb-true i t q)))
    go true q false p false r on past past' = absurd (false≢true (sym r ∙ ap live' (eqb-true i t q) ∙ u))
    go false q true p true r on past past' =
        let m : i < t = omega (arith, eqb-false i t q) in
        ap₂ (λ (x : Gate) (l : List (Cell ℕ)). record { gate = x; beside = i } ∷ l) (sym (f i (omega arith) m p)) (on m)
    go false q true p false r on past past' =
        let m : i < t = omega (arith, eqb-false i t q) in absurd (false≢true (sym r ∙ sym (e i (omega arith) m) ∙ p))
    go false q false p true r on past past' =
        let m : i < t = omega (arith, eqb-false i t q) in absurd (false≢true (sym p ∙ e i (omega arith) m ∙ r))
    go false q false p false r on past past' = on (omega (arith, eqb-false i t q))
