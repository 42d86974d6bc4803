-- The Hadamard sweep of the document and its shorter form, in which each h is tried with the next h on its wire, are the same.
use mathlib.Core.Path.{◌≡◌, refl, sym, ap, ap₂, subst, ◌∙◌}
use mathlib.Core.Bool.{Bool, true, false, not, cond, ◌&&◌}
use mathlib.Core.List.{List, [], ◌∷◌, ◌++◌, append_assoc}
use mathlib.Core.Option.{Option, some, none}
use Prim.Native.Nat.{ℕ, zero, suc, ◌+◌, ◌≤◌}
use native.Mathlib.Omega.{arith}
use lib.ListN.{length, length-append}
use lib.Dec.{eqb}
use borrow.Author.Tests.{eqb-true, not-true}
use Rattle.gates.specs.declared.Wire.{Wire}
use Rattle.gates.specs.declared.Gate.{Gate}
use Rattle.gates.specs.declared.Gate.TheVariants.{Z}
use Rattle.gates.specs.Gates.{wire, touches}
use Rattle.gates.specs.Records.{kind_of, is_h}
use Rattle.rules.specs.Runs.{is_h_on, is_x_on, worth, plus, sum_of, rewrite, by_sum, lone_x, rewrite_of}
use Rattle.rules.specs.Steps.{Cell, Cut, and_then, try, when, all, track, onto, change3}
use Rattle.rules.specs.Sweeps.{Done, idle, stay, fire, cut, in_run, ends_run, x_then_h, closed, unclosed, opened, hadamards_from, and, hadamard_sweep}
use Rattle.rules.proofs.Names.{kept, rewritten}
use Rattle.gates.proofs.Joined.{and_left, and_right}
use Rattle.rules.proofs.Cuts.{all_append, all_then, Parts, cut-is, cut-here}
use Rattle.rules.proofs.Between.{is-h, h-wire}
use Rattle.rules.proofs.NextH.{had-new, had-close, had_open, next_h_from, next_h_sweep}

-- ------------------------------------------------------------ an h on a wire

h-ends : (w : ℕ) (g : Gate) → is_h_on w g ≡ true → ends_run w g ≡ true
unfolding worth
h-ends w g h =
    ap₂ ◌&&◌ (and_right (is_h g) _ h) (ap (λ x. not (in_run (worth x))) (is-h g (and_left (is_h g) _ h)))

off-no-h : (w : ℕ) (g : Gate) → not (touches w g) ≡ true → not (is_h_on w g) ≡ true
off-no-h w g h = go (is_h g) (touches w g) h
  where
    go : (a b : Bool) → not b ≡ true → not (a && b) ≡ true
    go true b h = h
    go false b h = refl

in-run-no-h : (w : ℕ) (g : Gate) → not (ends_run w g) ≡ true → not (is_h_on w g) ≡ true
in-run-no-h w g h = go (is_h_on w g) (h-ends w g)
  where
    go : (b : Bool) → (b ≡ true → ends_run w g ≡ true) → not b ≡ true
    go true k = sym (ap not (k refl)) ∙ h
    go false k = refl

x-no-h : (w : ℕ) (g : Gate) → is_x_on w g ≡ true → not (is_h_on w g) ≡ true
x-no-h w g h = ap (λ k. not (eqb k 1 && touches w g)) (eqb-true (kind_of g) 0 (and_left (eqb (kind_of g) 0) _ h))

-- ------------------------------------------------------------ a gate that ends a run, among others

ends-worth : (w : ℕ) (g : Gate) → ends_run w g ≡ true → worth g ≡ none
ends-worth w g h = go (worth g) (and_right (touches w g) _ h)
  where
    go : (o : Option ℕ) → not (in_run o) ≡ true → o ≡ none
    go none k = refl
    go (some n) k = cc

sum-none : (a : List Gate) (g : Gate) (b : List Gate) → worth g ≡ none → sum_of (a ++ (g ∷ b)) ≡ none
unfolding sum_of
sum-none [] g b h = ap (λ o. plus o (sum_of b)) h
sum-none (f ∷ a) g b h = ap (plus (worth f)) (sum-none a g b h) ∙ go (worth f)
  where
    go : (o : Option ℕ) → plus o none ≡ none
    go none = refl
    go (some n) = refl

-- That gate is an x, and all there is.
record Lone (a : List Gate) (g : Gate) (b : List Gate) : Type 0 where
  before : a ≡ []
  after : b ≡ []
  is_x : eqb (kind_of g) 0 ≡ true

lone_is : (a : List Gate) (g : Gate) (b : List Gate) → lone_x (a ++ (g ∷ b)) ≡ true → Lone a g b
lone_is [] g [] h = record { before = refl; after = refl; is_x = h }
lone_is [] g (f ∷ b) h = record { before = refl; after = cc; is_x = cc }
lone_is (f ∷ []) g b h = record { before = cc; after = cc; is_x = cc }
lone_is (f ∷ d ∷ a) g b h = record { before = cc; after = cc; is_x = cc }

-- No rewrite, unless that gate is an x that stands alone.
rewrite-none : (v : Wire) (a : List Gate) (g : Gate) (b : List Gate) → worth g ≡ none →
    (Lone a g b → rewrite_of v (a ++ (g ∷ b)) ≡ none) → rewrite_of v (a ++ (g ∷ b)) ≡ none
unfolding rewrite_of
rewrite-none v a g b h k = go (lone_x (a ++ (g ∷ b))) refl
  where
    go : (t : Bool) → lone_x (a ++ (g ∷ b)) ≡ t → rewrite_of v (a ++ (g ∷ b)) ≡ none
    go true q = k (lone_is a g b q)
    go false q = ap₂ (λ s o. cond s (rewrite none (some (Z v))) (by_sum v o)) q (sum-none a g b h)

module _ {A : Type 0} where
  -- ------------------------------------------------------------ cells and their tracks

  track-append : (w : ℕ) (a : List (Cell A)) (x : Cell A) (b : List (Cell A)) → touches w x.gate ≡ true →
      track w (a ++ (x ∷ b)) ≡ track w a ++ (x.gate ∷ track w b)
  unfolding track
  track-append w [] x b h = ap (λ t. cond t (x.gate ∷ track w b) (track w b)) h
  track-append w (e ∷ a) x b h = go (touches w e.gate) (track-append w a x b h)
    where
      go : (t : Bool) → track w (a ++ (x ∷ b)) ≡ track w a ++ (x.gate ∷ track w b) →
          cond t (e.gate ∷ track w (a ++ (x ∷ b))) (track w (a ++ (x ∷ b)))
          ≡ cond t (e.gate ∷ track w a) (track w a) ++ (x.gate ∷ track w b)
      go true i = ap (◌∷◌ e.gate) i
      go false i = i

  track-off : (w : ℕ) (l : List (Cell A)) → track w l ≡ [] → all (λ g. not (touches w g)) l ≡ true
  unfolding track
  track-off w [] h = refl
  track-off w (e ∷ l) h = go (touches w e.gate) h (track-off w l)
    where
      go : (t : Bool) → cond t (e.gate ∷ track w l) (track w l) ≡ [] →
          (track w l ≡ [] → all (λ g. not (touches w g)) l ≡ true) → not t && all (λ g. not (touches w g)) l ≡ true
      go true q i = cc
      go false q i = i q

  cut-none : (p : Gate → Bool) (l : List (Cell A)) → all (λ g. not (p g)) l ≡ true → cut p l ≡ none
  unfolding cut
  cut-none p [] h = refl
  cut-none p (e ∷ l) h =
      ap₂ (λ t o. cond t (some (record { before = []; here = e; after = l })) (onto e o))
      (not-true (p e.gate) (and_left (not (p e.gate)) _ h)) (cut-none p l (and_right (not (p e.gate)) _ h))

  -- No h on the wire.
  abbrev Free : ℕ → List (Cell A) → Type 0
  Free w l = all (λ g. not (is_h_on w g)) l ≡ true

  free-append : (w : ℕ) (a b : List (Cell A)) → Free w a → Free w b → Free w (a ++ b)
  free-append w a b h k = all_append (λ g. not (is_h_on w g)) a b ∙ ap₂ ◌&&◌ h k

  -- ------------------------------------------------------------ "next x, then h"

  abbrev Closing : ℕ → List (Cell A) → Option (Cut A) → Type 0
  Closing w l none = Unit {0}
  Closing w l (some c) = Parts (is_h_on w) l (some c)

  -- That h is the next h on the wire.
  x-then-h-parts : (w : ℕ) (l : List (Cell A)) → Closing w l (x_then_h w l)
  unfolding x_then_h
  x-then-h-parts w l = first (cut (touches w) l) (cut-is (touches w) l)
    where
      whole : Cut A → Cut A → Cut A
      whole x h = record { before = x.before ++ (x.here ∷ h.before); here = h.here; after = h.after }

      both : (x h : Cut A) → Parts (touches w) l (some x) → Parts (touches w) x.after (some h) →
          (b : Bool) → is_x_on w x.here.gate && is_h_on w h.here.gate ≡ b → Closing w l (when b (some (whole x h)))
      both x h p q true t = (
        p.0 ∙ ap (λ m. x.before ++ (x.here ∷ m)) q.0
            ∙ sym (append_assoc x.before (x.here ∷ h.before) (h.here ∷ h.after)),
        and_right (is_x_on w x.here.gate) _ t,
        free-append w x.before (x.here ∷ h.before) (all_then _ _ x.before (off-no-h w) p.2)
            (ap₂ ◌&&◌ (x-no-h w x.here.gate (and_left (is_x_on w x.here.gate) _ t))
            (all_then _ _ h.before (off-no-h w) q.2)),
      )
      both x h p q false t = tt

      second : (x : Cut A) → Parts (touches w) l (some x) → (o : Option (Cut A)) → Parts (touches w) x.after o →
          Closing w l (and_then o λ h. when (is_x_on w x.here.gate && is_h_on w h.here.gate) (some (whole x h)))
      second x p none q = tt
      second x p (some h) q = both x h p q (is_x_on w x.here.gate && is_h_on w h.here.gate) refl

      first : (o : Option (Cut A)) → Parts (touches w) l o → Closing w l (and_then o λ x. and_then (cut (touches w) x.after) λ h.
          when (is_x_on w x.here.gate && is_h_on w h.here.gate) (some (whole x h)))
      first none p = tt
      first (some x) p = second x p (cut (touches w) x.after) (cut-is (touches w) x.after)

  -- Where that h stands.
  x-then-h-is : (w : ℕ) (a : List (Cell A)) (x : Cell A) (b : List (Cell A)) (h : Cell A) (r : List (Cell A)) →
      all (λ g. not (touches w g)) a ≡ true → is_x_on w x.gate ≡ true →
      all (λ g. not (touches w g)) b ≡ true → is_h_on w h.gate ≡ true →
      x_then_h w (a ++ (x ∷ (b ++ (h ∷ r)))) ≡ some (record { before = a ++ (x ∷ b); here = h; after = r })
  unfolding x_then_h
  x-then-h-is w a x b h r p q s t =
      ap (λ o. and_then o λ c. and_then (cut (touches w) c.after) λ d. when (is_x_on w c.here.gate && is_h_on w d.here.gate)
      (some (record { before = c.before ++ (c.here ∷ d.before); here = d.here; after = d.after })))
      (cut-here (touches w) a x (b ++ (h ∷ r)) p (and_right (eqb (kind_of x.gate) 0) _ q))
      ∙ ap (λ o. and_then o λ d. when (is_x_on w x.gate && is_h_on w d.here.gate)
      (some (record { before = a ++ (x ∷ d.before); here = d.here; after = d.after })))
      (cut-here (touches w) b h r s (and_right (is_h h.gate) _ t))
      ∙ ap (λ u. when u (some (record { before = a ++ (x ∷ b); here = h; after = r }))) (ap₂ ◌&&◌ q t)

  -- Between two h a gate that ends the run, and no "x, then h": the step is not allowed.
  change-none : (w : ℕ) (e : Cell A) (a : List (Cell A)) (x : Cell A) (b : List (Cell A)) (f : Cell A) (r : List (Cell A)) →
      is_h_on w e.gate ≡ true → ends_run w x.gate ≡ true → is_h_on w f.gate ≡ true →
      x_then_h w (a ++ (x ∷ (b ++ (f ∷ r)))) ≡ none → change3 e (a ++ (x ∷ b)) f ≡ none
  change-none w e a x b f r p q s t =
      ap (λ v. when (is_h e.gate && is_h_on v f.gate) (rewritten v e m f (rewrite_of (wire v) (track v m))))
      (h-wire w e.gate p)
      ∙ ap (λ o. when (is_h e.gate && is_h_on w f.gate) (rewritten w e m f o))
      (ap (rewrite_of (wire w)) (track-append w a x b on)
      ∙ rewrite-none (wire w) (track w a) x.gate (track w b) (ends-worth w x.gate q) lone)
      ∙ go (is_h e.gate && is_h_on w f.gate)
    where
      m : List (Cell A)
      m = a ++ (x ∷ b)

      on : touches w x.gate ≡ true
      on = and_left (touches w x.gate) _ q

      lone : Lone (track w a) x.gate (track w b) → rewrite_of (wire w) (track w a ++ (x.gate ∷ track w b)) ≡ none
      lone k =
          let found = x-then-h-is w a x b f r (track-off w a k.before) (ap₂ ◌&&◌ k.is_x on) (track-off w b k.after) s in
          cc

      go : (u : Bool) → when {X = List (Cell A)} u none ≡ none
      go true = refl
      go false = refl

  -- ------------------------------------------------------------ the shorter form, where no h stands

  free-idle : (n w i : ℕ) (l : List (Cell A)) → Free w l → next_h_from n w i l ≡ idle l
  unfolding next_h_from
  free-idle zero w i l h = refl
  free-idle (suc n) w i [] h = refl
  free-idle (suc n) w i (e ∷ l) h =
      ap (had_open (next_h_from n w) w i e l) (not-true (is_h_on w e.gate) (and_left (not (is_h_on w e.gate)) _ h))
      ∙ ap (stay (e ∷ [])) (free-idle n w (suc i) l (and_right (not (is_h_on w e.gate)) _ h))

  -- Two walks that agree on what comes later agree on the cell in front.
  open-same : (f g : ℕ → List (Cell A) → Done A) (w i : ℕ) (e : Cell A) (l : List (Cell A)) →
      ((j : ℕ) (k : List (Cell A)) → length k ≤ length l → f j k ≡ g j k) →
      (b : Bool) → had_open f w i e l b ≡ had_open g w i e l b
  open-same f g w i e l h true = close (cut (is_h_on w) l) (cut-is (is_h_on w) l)
    where
      new : (c : Cut A) → Parts (is_h_on w) l (some c) → (o : Option (List (Cell A))) → had-new f i e l c o ≡ had-new g i e l c o
      new c p none = ap (stay (e ∷ [])) (h (suc i) l (omega arith))
      new c p (some m) =
          ap (λ d. fire 3 i (suc i + length c.before) (stay m d))
          (h (i + length m) c.after (omega (arith, ap length p.0, length-append c.before (c.here ∷ c.after))))

      close : (o : Option (Cut A)) → Parts (is_h_on w) l o → had-close f i e l o ≡ had-close g i e l o
      close none p = ap (stay (e ∷ [])) (h (suc i) l (omega arith))
      close (some c) p = new c p (change3 e c.before c.here)
  open-same f g w i e l h false = ap (stay (e ∷ [])) (h (suc i) l (omega arith))

  -- Any fuel that is enough does the same.
  pub enough : (n m w i : ℕ) (l : List (Cell A)) → length l ≤ n → length l ≤ m → next_h_from n w i l ≡ next_h_from m w i l
  unfolding next_h_from
  enough zero zero w i l p q = refl
  enough zero (suc m) w i [] p q = refl
  enough zero (suc m) w i (e ∷ l) p q = absurd (omega arith)
  enough (suc n) zero w i [] p q = refl
  enough (suc n) zero w i (e ∷ l) p q = absurd (omega arith)
  enough (suc n) (suc m) w i [] p q = refl
  enough (suc n) (suc m) w i (e ∷ l) p q =
      open-same (next_h_from n w) (next_h_from m w) w i e l (λ j k h. enough n m w j k (omega arith) (omega arith))
      (is_h_on w e.gate)

  -- Cells that are no h on the wire stay, one by one.
  free-stay : (n w i j : ℕ) (a r : List (Cell A)) → Free w a → length (a ++ r) ≤ n → i + length a ≡ j →
      next_h_from n w i (a ++ r) ≡ stay a (next_h_from n w j r)
  unfolding next_h_from
  free-stay zero w i j a r h p q = refl
  free-stay (suc n) w i j [] r h p q = let s : i ≡ j = omega arith in ap (λ k. next_h_from (suc n) w k r) s
  free-stay (suc n) w i j (e ∷ a) r h p q =
      ap (had_open (next_h_from n w) w i e (a ++ r)) (not-true (is_h_on w e.gate) (and_left (not (is_h_on w e.gate)) _ h))
      ∙ ap (stay (e ∷ [])) (free-stay n w (suc i) j a r (and_right (not (is_h_on w e.gate)) _ h) (omega arith) (omega arith))
      ∙ ap (stay (e ∷ a)) (enough n (suc n) w j r (omega (arith, length-append a r)) (omega (arith, length-append a r)))

  -- ------------------------------------------------------------ at an h

  module _ (n w : ℕ) (ih : (j : ℕ) (k : List (Cell A)) → length k ≤ n → hadamards_from n w j k ≡ next_h_from n w j k)
      (i : ℕ) (e : Cell A) (l : List (Cell A)) (fits : length l ≤ n) where
    -- The walk on from here, in the two forms, and what the shorter form does with the next h.
    abbrev on : ℕ → List (Cell A) → Done A
    on = hadamards_from n w

    abbrev again : ℕ → List (Cell A) → Done A
    again = next_h_from n w

    abbrev tried : Option (Cut A) → Done A
    tried = had-close again i e l

    -- Where nothing fires, the one form goes past several cells at once and the other past the opener alone.
    passed : (a r : List (Cell A)) (j : ℕ) → l ≡ a ++ r → Free w a → suc i + length a ≡ j →
        stay (e ∷ a) (on j r) ≡ kept again i e l
    passed a r j p h q =
        ap (stay (e ∷ a)) (ih j r (omega (arith, ap length p, length-append a r)))
        ∙ sym (ap (kept again i e) p ∙ ap (stay (e ∷ [])) (free-stay n w (suc i) j a r h (subst (λ x. length x ≤ n) p fits) q))

    closed_is : (c : Cut A) → Parts (is_h_on w) l (some c) → closed on i e c ≡ tried (cut (is_h_on w) l)
    closed_is c p = go (change3 e c.before c.here) ∙ ap tried (sym (ap (cut (is_h_on w)) p.0 ∙ here))
      where
        here : cut (is_h_on w) (c.before ++ (c.here ∷ c.after)) ≡ some c
        here = cut-here (is_h_on w) c.before c.here c.after p.2 p.1

        go : (o : Option (List (Cell A))) →
            try o (stay (e ∷ c.before) (on (suc i + length c.before) (c.here ∷ c.after)))
            (λ m. fire 3 i (suc i + length c.before) (stay m (on (i + length m) c.after)))
            ≡ had-new again i e l c o
        go none = passed c.before (c.here ∷ c.after) (suc i + length c.before) p.0 p.2 refl
        go (some m) =
            ap (λ d. fire 3 i (suc i + length c.before) (stay m d))
            (ih (i + length m) c.after (omega (arith, ap length p.0, length-append c.before (c.here ∷ c.after))))

    module _ (opens : is_h_on w e.gate ≡ true) (alone : x_then_h w l ≡ none) where
      -- The next h after a gate that ended the run, if there is one, closes nothing.
      unclosed-is : (c : Cut A) → Parts (ends_run w) l (some c) → is_h c.here.gate ≡ false →
          unclosed on i e c ≡ tried (cut (is_h_on w) l)
      unclosed-is c p q =
          passed (c.before ++ (c.here ∷ [])) c.after (suc (suc i + length c.before))
          (p.0 ∙ sym (append_assoc c.before (c.here ∷ []) c.after)) (run-free [] refl)
          (omega (arith, length-append c.before (c.here ∷ [])))
          ∙ sym (go (cut (is_h_on w) c.after) (cut-is (is_h_on w) c.after))
        where
          run-free : (m : List (Cell A)) → Free w m → Free w (c.before ++ (c.here ∷ m))
          run-free m h =
              free-append w c.before (c.here ∷ m) (all_then _ _ c.before (in-run-no-h w) p.2)
              (ap₂ ◌&&◌ (ap (λ b. not (b && touches w c.here.gate)) q) h)

          go : (o : Option (Cut A)) → Parts (is_h_on w) c.after o → tried (cut (is_h_on w) l) ≡ kept again i e l
          go none s = ap tried (ap (cut (is_h_on w)) p.0 ∙ cut-none (is_h_on w) _ (run-free c.after s))
          go (some d) s =
              ap tried (ap (cut (is_h_on w)) (parts ∙ sym (append_assoc c.before (c.here ∷ d.before) (d.here ∷ d.after)))
              ∙ cut-here (is_h_on w) m d.here d.after (run-free d.before s.2) s.1)
              ∙ ap (had-new again i e l (record { before = m; here = d.here; after = d.after }))
              (change-none w e c.before c.here d.before d.here d.after opens p.1 s.1 (ap (x_then_h w) (sym parts) ∙ alone))
            where
              m : List (Cell A)
              m = c.before ++ (c.here ∷ d.before)

              parts : l ≡ c.before ++ (c.here ∷ (d.before ++ (d.here ∷ d.after)))
              parts = p.0 ∙ ap (λ x. c.before ++ (c.here ∷ x)) s.0

      run_is : (o : Option (Cut A)) → Parts (ends_run w) l o →
          try o (idle (e ∷ l)) (λ c. cond (is_h c.here.gate) (closed on i e c) (unclosed on i e c)) ≡ tried (cut (is_h_on w) l)
      run_is none p =
          let free = all_then _ (λ g. not (is_h_on w g)) l (in-run-no-h w) p in
          sym (ap tried (cut-none (is_h_on w) l free) ∙ ap (stay (e ∷ [])) (free-idle n w (suc i) l free))
      run_is (some c) p = go (is_h c.here.gate) refl
        where
          h-on : is_h c.here.gate ≡ true → is_h_on w c.here.gate ≡ true
          h-on q = ap₂ ◌&&◌ q (and_left (touches w c.here.gate) _ p.1)

          go : (b : Bool) → is_h c.here.gate ≡ b → cond b (closed on i e c) (unclosed on i e c) ≡ tried (cut (is_h_on w) l)
          go true q = closed_is c (p.0, h-on q, all_then _ _ c.before (in-run-no-h w) p.2)
          go false q = unclosed-is c p q

    opened-is : is_h_on w e.gate ≡ true → opened on w i e l ≡ tried (cut (is_h_on w) l)
    opened-is h = go (x_then_h w l) refl (x-then-h-parts w l)
      where
        go : (o : Option (Cut A)) → x_then_h w l ≡ o → Closing w l o →
            try o (try (cut (ends_run w) l) (idle (e ∷ l)) λ c. cond (is_h c.here.gate) (closed on i e c) (unclosed on i e c))
            (λ c. closed on i e c)
            ≡ tried (cut (is_h_on w) l)
        go none q p = run_is h q (cut (ends_run w) l) (cut-is (ends_run w) l)
        go (some c) q p = closed_is c p

    cell-is : (b : Bool) → is_h_on w e.gate ≡ b →
        cond b (opened on w i e l) (stay (e ∷ []) (on (suc i) l)) ≡ had_open again w i e l b
    cell-is true q = opened-is q
    cell-is false q = ap (stay (e ∷ [])) (ih (suc i) l fits)

  -- ------------------------------------------------------------ the two sweeps

  pub hadamards-next-h : (n w i : ℕ) (l : List (Cell A)) → length l ≤ n → hadamards_from n w i l ≡ next_h_from n w i l
  unfolding hadamards_from next_h_from
  hadamards-next-h zero w i l p = refl
  hadamards-next-h (suc n) w i [] p = refl
  hadamards-next-h (suc n) w i (e ∷ l) p =
      cell-is n w (λ j k h. hadamards-next-h n w j k h) i e l (omega arith) (is_h_on w e.gate) refl

  pub hadamard-next-h : (n : ℕ) (l : List (Cell A)) → hadamard_sweep n l ≡ next_h_sweep n l
  unfolding hadamard_sweep next_h_sweep
  hadamard-next-h zero l = refl
  hadamard-next-h (suc w) l =
      ap (λ d. and d (hadamards_from (length d.list) w 0 d.list)) (hadamard-next-h w l)
      ∙ ap (and (next_h_sweep w l)) (hadamards-next-h (length (next_h_sweep w l).list) w 0 (next_h_sweep w l).list (omega arith))
