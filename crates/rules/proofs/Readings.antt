-- The measures and resets of a list stay, in their order.
use mathlib.Core.Path.{◌≡◌, refl, sym, ◌∙◌, ap, ap₂}
use mathlib.Core.Bool.{Bool, false≢true, true, false, not, cond, ◌||◌, ◌&&◌}
use mathlib.Core.List.{List, [], ◌∷◌, ◌++◌, append-nil, append_assoc}
use mathlib.Core.Option.{Option, some, none}
use Prim.Native.Nat.{ℕ}
use lib.Dec.{eqb}
use borrow.Author.Tests.{eqb-true, not-true}
use Rattle.gates.specs.declared.Gate.{Gate}
use Rattle.gates.specs.Gates.{wire, wires_of, has, shares, touches}
use Rattle.gates.specs.Records.{record_of, kind_of, is_h}
use Rattle.rules.specs.Equal.{seven, equal, cancels, is_pair}
use Rattle.rules.specs.Runs.{Rewrite, is_h_on, rewrite_of}
use Rattle.rules.specs.MayPass.{may_pass}
use Rattle.rules.specs.Steps.{Cell, Step, first_of, all, track, off_wire, put, put_first, change1, change2, change3, change, act}
use Rattle.rules.specs.Journal.{replayed, replay}
use Rattle.rules.specs.Sweeps.{Sweep, pair_sweep, commuting_sweep, hadamard_sweep}
use Rattle.rules.specs.Loop.{pass}
use Rattle.rules.proofs.Names.{if, rewritten}
use Rattle.gates.proofs.Joined.{and_left, and_right}
use Rattle.rules.proofs.EqualLaws.{equal-parts, cancels-equal, none-not-some}
use Rattle.rules.proofs.Cuts.{all_then}
use Rattle.rules.proofs.Between.{Fits, Fit, rewrite-fit, inside, is_reading, inside-no-reading, between-inside, track-every}
use Rattle.rules.proofs.Replays.{Leads, leads, Replays, pair-replays, hadamard-replays, commuting-replays, pass-replays}
use Rattle.rules.proofs.Acts.{whole, if-true, if-h-true, act-parts, along}

-- ------------------------------------------------------------ which gates go

-- A set of kinds without measure and reset.
abbrev pub Unread : List ℕ → Type 0
Unread kinds = (has 12 kinds ≡ false) × (has 13 kinds ≡ false)

pub seven-unread : Unread seven
unfolding has
seven-unread = (refl, refl)

of-unread : (kinds : List ℕ) → Unread kinds → (k : ℕ) → has k kinds ≡ true → has k (12 ∷ 13 ∷ []) ≡ false
unfolding has
of-unread kinds u k h = ap₂ (λ a b. a || (b || false)) (other 12 u.0) (other 13 u.1)
  where
    other : (n : ℕ) → has n kinds ≡ false → eqb k n ≡ false
    other n v = go (eqb k n) refl
      where
        go : (b : Bool) → eqb k n ≡ b → b ≡ false
        go true e = absurd (false≢true (sym v ∙ ap (λ x. has x kinds) (sym (eqb-true k n e)) ∙ h))
        go false e = refl

h-no-reading : (g : Gate) → is_h g ≡ true → is_reading g ≡ false
unfolding has
h-no-reading g h = ap (λ k. has k (12 ∷ 13 ∷ [])) (eqb-true (kind_of g) 1 h)

abbrev NoReading : Gate → Type 0
NoReading g = is_reading g ≡ false

-- ------------------------------------------------------------ lists

module _ {A : Type 0} where
  -- The measures and resets, in order: "one bit for each measure and reset, in order".
  unfoldable pub readings : List (Cell A) → List Gate
  readings [] = []
  readings (e ∷ l) = cond (is_reading e.gate) (e.gate ∷ readings l) (readings l)

  unread-front : (e : Cell A) (l : List (Cell A)) → is_reading e.gate ≡ false → readings (e ∷ l) ≡ readings l
  unfolding readings
  unread-front e l h = ap (λ b. cond b (e.gate ∷ readings l) (readings l)) h

  readings-append : (l m : List (Cell A)) → readings (l ++ m) ≡ readings l ++ readings m
  unfolding readings
  readings-append [] m = refl
  readings-append (e ∷ l) m = go (is_reading e.gate) (readings-append l m)
    where
      go : (b : Bool) → readings (l ++ m) ≡ readings l ++ readings m →
          cond b (e.gate ∷ readings (l ++ m)) (readings (l ++ m)) ≡ cond b (e.gate ∷ readings l) (readings l) ++ readings m
      go true h = ap (◌∷◌ e.gate) h
      go false h = h

  unread-back : (l : List (Cell A)) (e : Cell A) (m : List (Cell A)) → is_reading e.gate ≡ false →
      readings (l ++ (e ∷ m)) ≡ readings (l ++ m)
  unread-back l e m h = readings-append l (e ∷ m) ∙ ap (λ x. readings l ++ x) (unread-front e m h) ∙ sym (readings-append l m)

  whole-readings : (e : Cell A) (m : List (Cell A)) (f : Cell A) → is_reading e.gate ≡ false → is_reading f.gate ≡ false →
      readings (whole e m f) ≡ readings m
  unfolding readings
  whole-readings e m f p q = unread-front e (m ++ (f ∷ [])) p ∙ unread-back m f [] q ∙ readings-append m []
      ∙ append-nil (readings m)

  -- ------------------------------------------------------------ a wire without measure and reset

  abbrev Quiet-on : ℕ → List (Cell A) → Type 0
  Quiet-on w m = all (λ g. not (touches w g) || not (is_reading g)) m ≡ true

  off-readings : (w : ℕ) (m : List (Cell A)) → Quiet-on w m → readings (off_wire w m) ≡ readings m
  unfolding off_wire readings
  off-readings w [] h = refl
  off-readings w (e ∷ m) h = go (touches w e.gate) (and_left (not (touches w e.gate) || not (is_reading e.gate)) _ h)
      (off-readings w m (and_right (not (touches w e.gate) || not (is_reading e.gate)) _ h))
    where
      go : (b : Bool) → not b || not (is_reading e.gate) ≡ true → readings (off_wire w m) ≡ readings m →
          readings (cond b (off_wire w m) (e ∷ off_wire w m)) ≡ readings (e ∷ m)
      go true q ih = ih ∙ sym (unread-front e m (not-true (is_reading e.gate) q))
      go false q ih = ap (λ x. cond (is_reading e.gate) (e.gate ∷ x) x) ih

  put-readings : (o : Option Gate) (e : Cell A) (l : List (Cell A)) → Fits NoReading o → readings (put o e l) ≡ readings l
  put-readings none e l h = refl
  put-readings (some g) e l h = unread-front (record { gate = g; beside = e.beside }) l h

  first-readings : (w : ℕ) (o : Option Gate) (m : List (Cell A)) → Fits NoReading o → Quiet-on w m →
      readings (put_first w o m) ≡ readings m
  unfolding put_first readings
  first-readings w o [] f h = refl
  first-readings w o (e ∷ m) f h = go (touches w e.gate)
      (and_left (not (touches w e.gate) || not (is_reading e.gate)) _ h)
      (first-readings w o m f (and_right (not (touches w e.gate) || not (is_reading e.gate)) _ h))
    where
      go : (b : Bool) → not b || not (is_reading e.gate) ≡ true → readings (put_first w o m) ≡ readings m →
          readings (cond b (put o e (off_wire w m)) (e ∷ put_first w o m)) ≡ readings (e ∷ m)
      go true q ih = put-readings o e (off_wire w m) f
          ∙ off-readings w m (and_right (not (touches w e.gate) || not (is_reading e.gate)) _ h)
          ∙ sym (unread-front e m (not-true (is_reading e.gate) q))
      go false q ih = ap (λ x. cond (is_reading e.gate) (e.gate ∷ x) x) ih

  -- ------------------------------------------------------------ steps

  if-readings : (b : Bool) (e : Cell A) (m : List (Cell A)) (f : Cell A) (n : List (Cell A)) →
      (b ≡ true → (is_reading e.gate ≡ false) × (is_reading f.gate ≡ false)) →
      if b m ≡ some n → readings n ≡ readings (whole e m f)
  if-readings b e m f n h r = let x = if-true b m n r in let y = h x.0 in
      ap readings (sym x.1) ∙ sym (whole-readings e m f y.0 y.1)

  rewritten-readings : (w : ℕ) (e : Cell A) (m : List (Cell A)) (f : Cell A) (n : List (Cell A)) → is_h e.gate ≡ true →
      is_h f.gate ≡ true →
      (o : Option Rewrite) → rewrite_of (wire w)
      (track w m) ≡ o → Fit NoReading NoReading o → rewritten w e m f o ≡ some n → readings n ≡ readings (whole e m f)
  unfolding readings
  rewritten-readings w e m f n he hf none p z r = absurd (none-not-some n r)
  rewritten-readings w e m f n he hf (some s) p z r = let q : put s.ends e (put_first w s.first m ++ put s.ends f []) ≡ n = cc in
      ap readings (sym q) ∙ put-readings s.ends e (put_first w s.first m ++ put s.ends f []) z.0
      ∙ readings-append (put_first w s.first m) (put s.ends f [])
      ∙ ap₂ ◌++◌ (first-readings w s.first m z.1 quiet) (put-readings s.ends f [] z.0) ∙ append-nil (readings m)
      ∙ sym (whole-readings e m f (h-no-reading e.gate he) (h-no-reading f.gate hf))
    where
      quiet : Quiet-on w m
      quiet = all_then (λ g. not (touches w g) || inside g) (λ g. not (touches w g) || not (is_reading g)) m
          (λ g h. go (not (touches w g)) (inside g) (not (is_reading g)) h (λ i. ap not (inside-no-reading g i)))
          (track-every inside w m (between-inside (wire w) (track w m) s p))
        where
          go : (a b c : Bool) → a || b ≡ true → (b ≡ true → c ≡ true) → a || c ≡ true
          go true b c h k = refl
          go false b c h k = k h

module _ {A : Type 0} (kinds : List ℕ) (u : Unread kinds) where
  change-readings : (k : ℕ) (e : Cell A) (m : List (Cell A)) (f : Cell A) (n : List (Cell A)) → change kinds k e m f ≡ some n →
      readings n ≡ readings (whole e m f)
  unfolding change cancels has record_of
  change-readings k e m f n h = go (eqb k 1) (eqb k 2) (eqb k 3) h
    where
      w : ℕ
      w = first_of (wires_of e.gate)

      both : (ks : List ℕ) → Unread ks → has (kind_of e.gate) ks ≡ true → equal e.gate f.gate ≡ true →
          (is_reading e.gate ≡ false) × (is_reading f.gate ≡ false)
      both ks v i q = let p = of-unread ks v (kind_of e.gate) i in
          (p, ap (λ j. has j (12 ∷ 13 ∷ [])) (sym (equal-parts e.gate f.gate q).0) ∙ p)

      go : (a b c : Bool) → cond a (change1 kinds e m f) (cond b (change2 e m f) (cond c (change3 e m f) none)) ≡ some n →
          readings n ≡ readings (whole e m f)
      go true b c r = if-readings (cancels kinds e.gate f.gate && all (λ g. not (shares f.gate g)) m) e m f n
          (λ t. let x = and_left (cancels kinds e.gate f.gate) _ t in both kinds u (and_left (has (kind_of e.gate) kinds) _ x) (cancels-equal kinds e.gate f.gate x)) r
      go false true c r = if-readings (is_pair e.gate && (equal e.gate f.gate && all (may_pass e.gate) m)) e m f n
          (λ t. both (8 ∷ 9 ∷ 10 ∷ 11 ∷ []) (refl, refl) (and_left (is_pair e.gate) _ t) (and_left (equal e.gate f.gate) _ (and_right (is_pair e.gate) _ t))) r
      go false false true r =
          let x = if-h-true (is_h e.gate && is_h_on w f.gate) (rewritten w e m f (rewrite_of (wire w) (track w m))) n r in
          let y = and_right (is_h e.gate) _ x.0 in
          rewritten-readings w e m f n (and_left (is_h e.gate) _ x.0) (and_left (is_h f.gate) _ y)
          (rewrite_of (wire w) (track w m)) refl
          (rewrite-fit NoReading NoReading (wire w) (track w m) (record { s = refl; sdg = refl; x = refl; z = refl; h = refl })) x.1
      go false false false r = absurd (none-not-some n r)

  pub act-readings : (s : Step) (l r : List (Cell A)) → act kinds s l ≡ some r → readings r ≡ readings l
  act-readings s l r h = let p = act-parts kinds s l r h in
      ap readings p.left ∙ readings-append p.a (p.new ++ p.b)
      ∙ ap (λ x. readings p.a ++ x) (readings-append p.new p.b
      ∙ ap (λ x. x ++ readings p.b) (change-readings s.kind p.e p.m p.f p.new p.by)
      ∙ sym (readings-append (whole p.e p.m p.f) p.b))
      ∙ sym (readings-append p.a (whole p.e p.m p.f ++ p.b))
      ∙ ap (λ x. readings (p.a ++ (p.e ∷ x))) (append_assoc p.m (p.f ∷ []) p.b) ∙ ap readings (sym p.found)

  leads-readings : (ss : List Step) (l m : List (Cell A)) → Leads kinds ss l m → readings m ≡ readings l
  leads-readings ss l m = along kinds m (λ ss l. readings m ≡ readings l) refl (λ s ss l k p t b. b ∙ act-readings s l k p) ss l

  -- An accepted journal leaves the same measures and resets in the same order.
  pub same-readings : (ss : List Step) (l m : List (Cell A)) → replay kinds ss l ≡ replayed m → readings m ≡ readings l
  same-readings ss l m h = leads-readings ss l m (leads kinds 0 ss l m h)

  -- So does each sweep, and the pass.
  sweep-readings : (f : Sweep A) → Replays kinds f → (l : List (Cell A)) → readings (f l).list ≡ readings l
  sweep-readings f p l = leads-readings (f l).steps l (f l).list (p l)

  pub pair-readings : (l : List (Cell A)) → readings (pair_sweep kinds l).list ≡ readings l
  pair-readings = sweep-readings (pair_sweep kinds) (pair-replays kinds)

  pub hadamard-readings : (n : ℕ) (l : List (Cell A)) → readings (hadamard_sweep n l).list ≡ readings l
  hadamard-readings n = sweep-readings (hadamard_sweep n) (hadamard-replays kinds n)

  pub commuting-readings : (l : List (Cell A)) → readings (commuting_sweep l).list ≡ readings l
  commuting-readings = sweep-readings commuting_sweep (commuting-replays kinds)

  pub pass-readings : (n : ℕ) (l : List (Cell A)) → readings (pass kinds n l).list ≡ readings l
  pass-readings n = sweep-readings (pass kinds n) (pass-replays kinds n)
