-- Which pairs of h fire on a wire, as slots, is what the Hadamard sweep does on it; and only the gates on the wire count.
use mathlib.Core.Path.{◌≡◌, refl, sym, ap, ap₂, subst, ◌∙◌}
use mathlib.Core.Bool.{Bool, true, false, cond, ◌&&◌}
use mathlib.Core.List.{List, [], ◌∷◌, ◌++◌}
use mathlib.Core.Option.{Option, some, none}
use Prim.Native.Nat.{ℕ, zero, suc, ◌+◌, ◌-◌, ◌≤◌, ◌<◌}
use native.Mathlib.Omega.{arith}
use lib.Dec.{leb}
use lib.ListN.{length}
use Rattle.gates.specs.declared.Gate.{Gate}
use Rattle.gates.specs.Gates.{wire, touches}
use Rattle.gates.specs.Records.{is_h}
use Rattle.rules.specs.Runs.{Rewrite, rewrite_of, is_h_on}
use Rattle.rules.specs.Steps.{Cell, Cut, onto, track}
use Rattle.rules.specs.Sweeps.{Done, idle, stay, fire, cut, hadamards_from}
use Rattle.rules.proofs.NextH.{next_h_from}
use Rattle.rules.proofs.HadamardForm.{hadamards-next-h}
use Rattle.slots.specs.Slots.{cell_of, cells_from}
use Rattle.slots.proofs.HeldLaws.{cells_same}
use Rattle.hadamards.specs.Firings.{Close, Firing, closing_of, firings}
use Rattle.hadamards.proofs.TriedLaws.{close_by, close_at, fired, in_place, NoneBelow, closing-is, firings-if, firings-off, list-idle, Fires, list-fires, and_none, cons-is}

-- ------------------------------------------------------------ the list of slots

module _ (live : ℕ → Bool) (gates : ℕ → Gate) where
  none_below : (from i count : ℕ) → from ≤ i → NoneBelow from (cells_from live gates i count)
  unfolding cells_from
  none_below from i zero low = tt
  none_below from i (suc count) low = go (live i) (none_below from (suc i) count (omega arith))
    where
      go : (b : Bool) → NoneBelow from (cells_from live gates (suc i) count) →
          NoneBelow from (cond b (cell_of gates i ∷ cells_from live gates (suc i) count) (cells_from live gates (suc i) count))
      go true h = (low, h)
      go false h = h

  pub cells_fit : (i count : ℕ) → length (cells_from live gates i count) ≤ count
  unfolding cells_from
  cells_fit i zero = omega arith
  cells_fit i (suc count) = go (live i) (cells_fit (suc i) count)
    where
      go : (b : Bool) → length (cells_from live gates (suc i) count) ≤ count →
          length (cond b (cell_of gates i ∷ cells_from live gates (suc i) count) (cells_from live gates (suc i) count)) ≤ suc count
      go true h = omega arith
      go false h = omega arith

  one_more : (i j count : ℕ) (b : Bool) → live i ≡ b → suc count ≡ j →
      cond b (cell_of gates i ∷ cells_from live gates (suc i) count) (cells_from live gates (suc i) count) ≡ cells_from live gates i j
  unfolding cells_from
  one_more i j count b e q =
      ap (λ (c : Bool). cond c (cell_of gates i ∷ cells_from live gates (suc i) count) (cells_from live gates (suc i) count)) (sym e)
      ∙ ap (cells_from live gates i) q

  -- Wherever the list is parted, the cells before and after are those of the slots before and after.
  record Parted (i count : ℕ) (a : List (Cell ℕ)) (e : Cell ℕ) (b : List (Cell ℕ)) : Type 0 where
    from : i ≤ e.beside
    inside : e.beside < i + count
    live_here : live e.beside ≡ true
    here : e ≡ cell_of gates e.beside
    before : a ≡ cells_from live gates i (e.beside - i)
    after : b ≡ cells_from live gates (suc e.beside) (i + count - suc e.beside)

  parted-here : (i count : ℕ) → live i ≡ true → Parted i (suc count) [] (cell_of gates i) (cells_from live gates (suc i) count)
  unfolding cells_from
  parted-here i count t =
      record {
        from = omega arith;
        inside = omega arith;
        live_here = t;
        here = refl;
        before = let nothing : 0 ≡ i - i = omega arith in ap (cells_from live gates i) nothing;
        after = let later : count ≡ i + suc count - suc i = omega arith in ap (cells_from live gates (suc i)) later;
      }

  parted-on : (i count : ℕ) (a : List (Cell ℕ)) (e : Cell ℕ) (b : List (Cell ℕ)) (t : Bool) → live i ≡ t →
      Parted (suc i) count a e b → Parted i (suc count) (cond t (cell_of gates i ∷ a) a) e b
  parted-on i count a e b t q p =
      record {
        from = omega (arith, p.from);
        inside = omega (arith, p.inside);
        live_here = p.live_here;
        here = p.here;
        before = ap (λ (l : List (Cell ℕ)). cond t (cell_of gates i ∷ l) l) p.before
            ∙ one_more i (e.beside - i) (e.beside - suc i) t q (omega (arith, p.from));
        after = p.after
            ∙ let same : suc i + count - suc e.beside ≡ i + suc count - suc e.beside = omega arith in
            ap (cells_from live gates (suc e.beside)) same;
      }

  parted : (i count : ℕ) (a : List (Cell ℕ)) (e : Cell ℕ) (b : List (Cell ℕ)) → cells_from live gates i count ≡ a ++ (e ∷ b) → Parted i count a e b
  unfolding cells_from
  parted i zero [] e b h = absurd (let z : ◌≡◌ {A = ℕ} 0 1 = cc in omega arith)
  parted i zero (x ∷ a) e b h = absurd (let z : ◌≡◌ {A = ℕ} 0 1 = cc in omega arith)
  parted i (suc count) a e b h = go a (live i) refl h (λ d. parted (suc i) count d e b)
    where
      l : List (Cell ℕ)
      l = cells_from live gates (suc i) count

      go : (a : List (Cell ℕ)) (t : Bool) → live i ≡ t → cond t (cell_of gates i ∷ l) l ≡ a ++ (e ∷ b) →
          ((d : List (Cell ℕ)) → cells_from live gates (suc i) count ≡ d ++ (e ∷ b) → Parted (suc i) count d e b) → Parted i (suc count) a e b
      go [] true q h again =
          subst (λ (x : Cell ℕ). Parted i (suc count) [] x b) (cons-is h).0
          (subst (Parted i (suc count) [] (cell_of gates i)) (cons-is h).1 (parted-here i count q))
      go (x ∷ a) true q h again =
          subst (λ (y : Cell ℕ). Parted i (suc count) (y ∷ a) e b) (cons-is h).0
          (parted-on i count a e b true q (again a (cons-is h).1))
      go a false q h again = parted-on i count a e b false q (again a h)

  -- ------------------------------------------------------------ the first pair that fires, as slots

  -- The cells before a pair, those between its two h, and those after it.
  abbrev pub ahead : ℕ → Firing → List (Cell ℕ)
  ahead i f = cells_from live gates i (f.opener - i)

  abbrev pub between : Firing → List (Cell ℕ)
  between f = cells_from live gates (suc f.opener) (f.closer - suc f.opener)

  abbrev pub after : ℕ → ℕ → Firing → List (Cell ℕ)
  after i count f = cells_from live gates (suc f.closer) (i + count - suc f.closer)

  -- What stands in place of the two h and the cells between them.
  abbrev pub placed : ℕ → Rewrite → Firing → List (Cell ℕ)
  placed w r f = in_place w r (cell_of gates f.opener) (between f) (cell_of gates f.closer)

  -- The pair, what its step puts in, the pairs to come, and what the sweep does up to it and after it.
  pub record First (w i count p n : ℕ) (f : Firing) (fs : List Firing) : Type 0 where
    pub opener-from : i ≤ f.opener
    pub opener-live : live f.opener ≡ true
    pub opener-h : is_h_on w (gates f.opener) ≡ true
    pub closer-past : f.opener < f.closer
    pub closer-in : f.closer < i + count
    pub closer-live : live f.closer ≡ true
    pub closer-h : is_h_on w (gates f.closer) ≡ true
    pub rewrite : Rewrite
    pub allowed : rewrite_of (wire w) (track w (between f)) ≡ some rewrite
    pub closes : closing_of w (cells_from live gates (suc f.opener) (i + count - suc f.opener))
        ≡ some (record { closer = f.closer; rewrite = rewrite })
    pub rest : fs ≡ firings w (suc f.closer) (after i count f)
    pub goes : hadamards_from n w p (cells_from live gates i count)
        ≡ stay (ahead i f) (fire 3 (p + length (ahead i f)) (suc (p + length (ahead i f)) + length (between f))
        (stay (placed w rewrite f) (hadamards_from n w (p + length (ahead i f) + length (placed w rewrite f)) (after i count f))))

  module _ (w i count p n : ℕ) (f : Firing) (fs : List Firing) (fits : count ≤ n)
      (s : Fires w p n (cells_from live gates i count) f fs) where
    abbrev o : ℕ
    o = s.opener.beside

    abbrev c : ℕ
    c = s.closer.beside

    abbrev pair : Firing
    pair = record { opener = o; closer = c }

    outer : Parted i count s.ahead s.opener (s.between ++ (s.closer ∷ s.after))
    outer = parted i count s.ahead s.opener (s.between ++ (s.closer ∷ s.after)) s.parts

    inner : Parted (suc o) (i + count - suc o) s.between s.closer s.after
    inner = parted (suc o) (i + count - suc o) s.between s.closer s.after (sym outer.after)

    after_is : s.after ≡ after i count pair
    after_is =
        let same : suc o + (i + count - suc o) - suc c ≡ i + count - suc c = omega (arith, outer.inside) in
        inner.after ∙ ap (cells_from live gates (suc c)) same

    -- What the sweep does, from the cells of the pair and those round it.
    abbrev does : List (Cell ℕ) → Cell ℕ → List (Cell ℕ) → Cell ℕ → List (Cell ℕ) → Done ℕ
    does a e m g b =
        stay a (fire 3 (p + length a) (suc (p + length a) + length m)
        (stay (in_place w s.rewrite e m g) (next_h_from n w (p + length a + length (in_place w s.rewrite e m g)) b)))

    does-same : does s.ahead s.opener s.between s.closer s.after
        ≡ does (ahead i pair) (cell_of gates o) (between pair) (cell_of gates c) (after i count pair)
    does-same = λ x. does (outer.before x) (outer.here x) (inner.before x) (inner.here x) (after_is x)

    as-slots : First w i count p n pair fs
    as-slots =
        record {
          opener-from = outer.from;
          opener-live = outer.live_here;
          opener-h = ap (λ (e : Cell ℕ). is_h_on w e.gate) (sym outer.here) ∙ s.opens;
          closer-past = inner.from;
          closer-in = omega (arith, inner.inside, outer.inside);
          closer-live = inner.live_here;
          closer-h = ap (λ (e : Cell ℕ). is_h_on w e.gate) (sym inner.here) ∙ s.shuts;
          rewrite = s.rewrite;
          allowed = ap (λ (m : List (Cell ℕ)). rewrite_of (wire w) (track w m)) (sym inner.before) ∙ s.allowed;
          closes = ap (closing_of w) (sym outer.after) ∙ s.closes;
          rest = s.rest ∙ ap (firings w (suc c)) after_is;
          goes = hadamards-next-h n w p (cells_from live gates i count) (omega (arith, cells_fit i count)) ∙ s.goes ∙ does-same
              ∙ ap (λ (d : Done ℕ). stay (ahead i pair)
              (fire 3 (p + length (ahead i pair)) (suc (p + length (ahead i pair)) + length (between pair)) (stay (placed w s.rewrite pair) d)))
              (sym (hadamards-next-h n w _ (after i count pair)
              (omega (arith, cells_fit (suc c) (i + count - suc c), outer.from, inner.from))));
        }

  pub first-firing : (w from i count p n : ℕ) (f : Firing) (fs : List Firing) → from ≤ i → count ≤ n →
      firings w from (cells_from live gates i count) ≡ f ∷ fs → First w i count p n f fs
  first-firing w from i count p n f fs low fits h =
      let s = list-fires w from p n (cells_from live gates i count) f fs (none_below from i count low) (omega (arith, cells_fit i count)) h in
      subst (λ (g : Firing). First w i count p n g fs) (sym s.is) (as-slots w i count p n f fs fits s)

  pub no-firing : (w from i count p n : ℕ) → from ≤ i → count ≤ n → firings w from (cells_from live gates i count) ≡ [] →
      hadamards_from n w p (cells_from live gates i count) ≡ idle (cells_from live gates i count)
  no-firing w from i count p n low fits h =
      let short : length (cells_from live gates i count) ≤ n = omega (arith, cells_fit i count) in
      hadamards-next-h n w p (cells_from live gates i count) short
      ∙ list-idle w from p n (cells_from live gates i count) (none_below from i count low) short h

-- ------------------------------------------------------------ only the gates on the wire count

-- The cells on the wire.
unfoldable only : ℕ → List (Cell ℕ) → List (Cell ℕ)
only w [] = []
only w (e ∷ l) = cond (touches w e.gate) (e ∷ only w l) (only w l)

track-only : (w : ℕ) (l : List (Cell ℕ)) → track w (only w l) ≡ track w l
unfolding only track
track-only w [] = refl
track-only w (e ∷ l) = go (touches w e.gate) refl (track-only w l)
  where
    go : (t : Bool) → touches w e.gate ≡ t → track w (only w l) ≡ track w l →
        track w (cond t (e ∷ only w l) (only w l)) ≡ cond t (e.gate ∷ track w l) (track w l)
    go true q h = ap₂ (λ (b : Bool) (m : List Gate). cond b (e.gate ∷ m) m) q h
    go false q h = h

pub off-no-h : (w : ℕ) (g : Gate) → touches w g ≡ false → is_h_on w g ≡ false
off-no-h w g q = ap (λ (t : Bool). is_h g && t) q ∙ and_none (is_h g)

abbrev only_cut : ℕ → Option (Cut ℕ) → Option (Cut ℕ)
only_cut w none = none
only_cut w (some c) = some (record { before = only w c.before; here = c.here; after = only w c.after })

cut-only : (w : ℕ) (l : List (Cell ℕ)) → cut (is_h_on w) (only w l) ≡ only_cut w (cut (is_h_on w) l)
unfolding only cut
cut-only w [] = refl
cut-only w (e ∷ l) = go (touches w e.gate) refl (cut-only w l)
  where
    on : (b : Bool) (o : Option (Cut ℕ)) → touches w e.gate ≡ true →
        cond b (some (record { before = []; here = e; after = only w l })) (onto e (only_cut w o))
        ≡ only_cut w (cond b (some (record { before = []; here = e; after = l })) (onto e o))
    on true o q = refl
    on false none q = refl
    on false (some c) q =
        ap (λ (t : Bool). some (record { before = cond t (e ∷ only w c.before) (only w c.before); here = c.here; after = only w c.after })) (sym q)

    off : (o : Option (Cut ℕ)) → touches w e.gate ≡ false → only_cut w o ≡ only_cut w (onto e o)
    off none q = refl
    off (some c) q =
        ap (λ (t : Bool). some (record { before = cond t (e ∷ only w c.before) (only w c.before); here = c.here; after = only w c.after })) (sym q)

    go : (t : Bool) → touches w e.gate ≡ t → cut (is_h_on w) (only w l) ≡ only_cut w (cut (is_h_on w) l) →
        cut (is_h_on w) (cond t (e ∷ only w l) (only w l))
        ≡ only_cut w (cond (is_h_on w e.gate) (some (record { before = []; here = e; after = l })) (onto e (cut (is_h_on w) l)))
    go true q h =
        ap (λ (o : Option (Cut ℕ)). cond (is_h_on w e.gate) (some (record { before = []; here = e; after = only w l })) (onto e o)) h
        ∙ on (is_h_on w e.gate) (cut (is_h_on w) l) q
    go false q h =
        h ∙ off (cut (is_h_on w) l) q
        ∙ ap (λ (b : Bool). only_cut w (cond b (some (record { before = []; here = e; after = l })) (onto e (cut (is_h_on w) l))))
        (sym (off-no-h w e.gate q))

closing-only : (w : ℕ) (l : List (Cell ℕ)) → closing_of w (only w l) ≡ closing_of w l
closing-only w l = closing-is w (only w l) ∙ ap (close_at w) (cut-only w l) ∙ go (cut (is_h_on w) l) ∙ sym (closing-is w l)
  where
    go : (o : Option (Cut ℕ)) → close_at w (only_cut w o) ≡ close_at w o
    go none = refl
    go (some c) = ap (λ (t : List Gate). close_by c (rewrite_of (wire w) t)) (track-only w c.before)

firings-only : (w from : ℕ) (l : List (Cell ℕ)) → firings w from (only w l) ≡ firings w from l
unfolding only
firings-only w from [] = refl
firings-only w from (e ∷ l) = go (touches w e.gate) refl (λ k. firings-only w k l)
  where
    shoot : ((k : ℕ) → firings w k (only w l) ≡ firings w k l) → (o : Option Close) → fired w from e (only w l) o ≡ fired w from e l o
    shoot same none = same from
    shoot same (some c) = ap (◌∷◌ (record { opener = e.beside; closer = c.closer })) (same (suc c.closer))

    go : (t : Bool) → touches w e.gate ≡ t → ((k : ℕ) → firings w k (only w l) ≡ firings w k l) →
        firings w from (cond t (e ∷ only w l) (only w l)) ≡ firings w from (e ∷ l)
    go true q same =
        firings-if w from e (only w l) _ refl
        ∙ ap₂ (cond (is_h_on w e.gate && leb from e.beside))
        (ap (fired w from e (only w l)) (closing-only w l) ∙ shoot same (closing_of w l)) (same from)
        ∙ sym (firings-if w from e l _ refl)
    go false q same = same from ∙ sym (firings-off w from e l (off-no-h w e.gate q))

only-cells : (live : ℕ → Bool) (gates : ℕ → Gate) (w i count : ℕ) →
    only w (cells_from live gates i count) ≡ cells_from (λ j. live j && touches w (gates j)) gates i count
unfolding only cells_from
only-cells live gates w i zero = refl
only-cells live gates w i (suc count) = go (live i) (only-cells live gates w (suc i) count)
  where
    go : (b : Bool) → only w (cells_from live gates (suc i) count) ≡ cells_from (λ j. live j && touches w (gates j)) gates (suc i) count →
        only w (cond b (cell_of gates i ∷ cells_from live gates (suc i) count) (cells_from live gates (suc i) count))
        ≡ cond (b && touches w (gates i)) (cell_of gates i ∷ cells_from (λ j. live j && touches w (gates j)) gates (suc i) count)
        (cells_from (λ j. live j && touches w (gates j)) gates (suc i) count)
    go true h = ap (λ (l : List (Cell ℕ)). cond (touches w (gates i)) (cell_of gates i ∷ l) l) h
    go false h = h

module _ (live live' : ℕ → Bool) (gates gates' : ℕ → Gate) (w : ℕ) where
  only_kept : (i count : ℕ) →
      ((j : ℕ) → i ≤ j → j < i + count → (live j && touches w (gates j)) ≡ (live' j && touches w (gates' j))) →
      ((j : ℕ) → i ≤ j → j < i + count → (live j && touches w (gates j)) ≡ true → gates j ≡ gates' j) →
      only w (cells_from live gates i count) ≡ only w (cells_from live' gates' i count)
  only_kept i count e f =
      only-cells live gates w i count
      ∙ cells_same (λ j. live j && touches w (gates j)) (λ j. live' j && touches w (gates' j)) gates gates' i count e f
      ∙ sym (only-cells live' gates' w i count)

  pub firings-kept : (from i count : ℕ) →
      ((j : ℕ) → i ≤ j → j < i + count → (live j && touches w (gates j)) ≡ (live' j && touches w (gates' j))) →
      ((j : ℕ) → i ≤ j → j < i + count → (live j && touches w (gates j)) ≡ true → gates j ≡ gates' j) →
      firings w from (cells_from live gates i count) ≡ firings w from (cells_from live' gates' i count)
  firings-kept from i count e f =
      sym (firings-only w from (cells_from live gates i count)) ∙ ap (firings w from) (only_kept i count e f)
      ∙ firings-only w from (cells_from live' gates' i count)

  pub closing-kept : (i count : ℕ) →
      ((j : ℕ) → i ≤ j → j < i + count → (live j && touches w (gates j)) ≡ (live' j && touches w (gates' j))) →
      ((j : ℕ) → i ≤ j → j < i + count → (live j && touches w (gates j)) ≡ true → gates j ≡ gates' j) →
      closing_of w (cells_from live gates i count) ≡ closing_of w (cells_from live' gates' i count)
  closing-kept i count e f =
      sym (closing-only w (cells_from live gates i count)) ∙ ap (closing_of w) (only_kept i count e f)
      ∙ closing-only w (cells_from live' gates' i count)
