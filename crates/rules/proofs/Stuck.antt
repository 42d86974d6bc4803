-- Where no sweep fires, no step at all is allowed.
use mathlib.Core.Path.{◌≡◌, refl, sym, ◌∙◌, ap, ap₂, subst}
use mathlib.Core.Bool.{Bool, true, false, not, cond, ◌||◌, ◌&&◌}
use mathlib.Core.List.{List, [], ◌∷◌, ◌++◌, reverse, reverse_aux, append_assoc, reverse-append, reverse-cons}
use mathlib.Core.Option.{Option, some, none}
use Prim.Native.Nat.{ℕ, zero, suc, ◌<◌}
use native.Mathlib.Omega.{arith}
use lib.ListN.{length, length-append}
use lib.Dec.{eqb}
use borrow.Author.Tests.{eqb-true, eqb-false, eq-eqb}
use Rattle.gates.specs.declared.Gate.{Gate}
use Rattle.gates.specs.Gates.{wire, wires_of, has, meet, shares, touches, Valid}
use Rattle.gates.specs.Records.{is_h}
use Rattle.rules.specs.Equal.{equal, cancels, is_pair}
use Rattle.rules.specs.Runs.{Rewrite, is_h_on, rewrite_of}
use Rattle.rules.specs.MayPass.{may_pass}
use Rattle.rules.specs.Steps.{Cell, Step, Cut, onto, first_of, all, track, change1, change2, change3, change, act, ValidList}
use Rattle.rules.specs.Sweeps.{Done, Walk, reached, blocked, short, cut, pairs_from, pair_sweep, walk_past, commuting_from, commuting_sweep, hadamard_sweep}
use Rattle.rules.specs.Loop.{pass, Idle, Quiet}
use Rattle.rules.proofs.Names.{rewritten, pair-if, pair-with, com-walk, com-with, com-open}
use Rattle.gates.proofs.Joined.{and_left, and_right}
use Rattle.rules.proofs.EqualLaws.{meets-itself, equal-share, cancels-equal, none-not-some}
use Rattle.rules.proofs.Cuts.{all_then, all-reverse, cut-here}
use Rattle.rules.proofs.Walks.{Outcome, walk-past-is}
use Rattle.rules.proofs.Between.{inside, inside-no-h, between-inside, track-every}
use Rattle.rules.proofs.NextH.{had-new, had-close, had_open, next_h_from, next_h_sweep}
use Rattle.rules.proofs.HadamardForm.{hadamard-next-h}
use Rattle.rules.proofs.Replays.{next-h-replays}
use Rattle.rules.proofs.Acts.{if-true, if-h-true, act-parts}
use Rattle.rules.proofs.Ends.{followed-idle, nothing-fires}
use Rattle.rules.proofs.Kept.{all_back, pass-valid}

no_step : (s : Step) (l : List Step) → s ∷ l ≡ [] → ⊥
no_step s l q = let z : ◌≡◌ {A = ℕ} 0 1 = cc in omega arith

first-has : (l : List ℕ) → meet l l ≡ true → has (first_of l) l ≡ true
unfolding meet has
first-has [] h = h
first-has (w ∷ l) h = ap (λ b. b || has w l) (eq-eqb w w refl)

module _ {A : Type 0} (kinds : List ℕ) where
  -- ------------------------------------------------------------ the Hadamard sweep

  had-next : (f : ℕ → List (Cell A) → Done A) (w i : ℕ) (e : Cell A) (l : List (Cell A)) (b : Bool) →
      (had_open f w i e l b).steps ≡ [] → (f (suc i) l).steps ≡ []
  had-next f w i e l false h = h
  had-next f w i e l true h = at-close (cut (is_h_on w) l) h
    where
      at_new : (c : Cut A) (o : Option (List (Cell A))) → (had-new f i e l c o).steps ≡ [] → (f (suc i) l).steps ≡ []
      at_new c none h = h
      at_new c (some m) h = absurd (no_step _ _ h)

      at-close : (o : Option (Cut A)) → (had-close f i e l o).steps ≡ [] → (f (suc i) l).steps ≡ []
      at-close none h = h
      at-close (some c) h = at_new c (change3 e c.before c.here) h

  next-h-stuck : (a : List (Cell A)) (n w i : ℕ) (e : Cell A) (m : List (Cell A)) (f : Cell A) (b r : List (Cell A)) →
      length a < n →
      (next_h_from n w i (a ++ (e ∷ (m ++ (f ∷ b))))).steps ≡ [] → is_h_on w e.gate ≡ true → is_h_on w f.gate ≡ true →
      all (λ g. not (is_h_on w g)) m ≡ true → change3 e m f ≡ some r → ⊥
  unfolding next_h_from
  next-h-stuck a zero w i e m f b r h q p s t u = omega arith
  next-h-stuck [] (suc n) w i e m f b r h q p s t u = no_step _ _
      (subst (λ o. (had-new (next_h_from n w) i e (m ++ (f ∷ b)) (record { before = m; here = f; after = b }) o).steps ≡ []) u
      (subst (λ o. (had-close (next_h_from n w) i e (m ++ (f ∷ b)) o).steps ≡ []) (cut-here (is_h_on w) m f b t s)
      (subst (λ x. (had_open (next_h_from n w) w i e (m ++ (f ∷ b)) x).steps ≡ []) p q)))
  next-h-stuck (x ∷ a) (suc n) w i e m f b r h q p s t u =
      next-h-stuck a n w (suc i) e m f b r (omega arith)
      (had-next (next_h_from n w) w i x (a ++ (e ∷ (m ++ (f ∷ b)))) (is_h_on w x.gate) q) p s t u

  next-h-wire : (n w : ℕ) (l : List (Cell A)) → w < n → Idle (next_h_sweep n) l → (next_h_from (length l) w 0 l).steps ≡ []
  unfolding next_h_sweep
  next-h-wire zero w l h q = absurd (omega arith)
  next-h-wire (suc n) w l h q =
      let p = followed-idle kinds (next_h_sweep n) (λ m. next_h_from (length m) n 0 m) (next-h-replays kinds n) l q in
      go (eqb w n) refl (λ k. next-h-wire n w l k p.0) p.1
    where
      go : (b : Bool) → eqb w n ≡ b → (w < n → (next_h_from (length l) w 0 l).steps ≡ []) →
          (next_h_from (length l) n 0 l).steps ≡ [] → (next_h_from (length l) w 0 l).steps ≡ []
      go true e ih z = subst (λ v. (next_h_from (length l) v 0 l).steps ≡ []) (sym (eqb-true w n e)) z
      go false e ih z = ih (omega (arith, eqb-false w n e))

  -- ------------------------------------------------------------ the pair sweep

  pair-next : (f : List (Cell A) → Done A) (gone : List (Cell A)) (e : Cell A) (o : Option (Cut A)) →
      (pair-with kinds f gone e o).steps ≡ [] → (f (e ∷ gone)).steps ≡ []
  pair-next f gone e none h = h
  pair-next f gone e (some c) h = go (cancels kinds c.here.gate e.gate) h
    where
      go : (b : Bool) → (pair-if f gone e c b).steps ≡ [] → (f (e ∷ gone)).steps ≡ []
      go true h = absurd (no_step _ _ h)
      go false h = h

  pairs-on : (a gone l : List (Cell A)) → (pairs_from kinds gone (a ++ l)).steps ≡ [] →
      (pairs_from kinds (reverse_aux a gone) l).steps ≡ []
  unfolding pairs_from
  pairs-on [] gone l h = h
  pairs-on (e ∷ a) gone l h = pairs-on a (e ∷ gone) l
      (pair-next (λ d. pairs_from kinds d (a ++ l)) gone e (cut (shares e.gate) gone) h)

  pairs-stuck : (gone m : List (Cell A)) (e : Cell A) (d : List (Cell A)) (f : Cell A) (b : List (Cell A)) → gone ≡ m ++ (e ∷ d) →
      (pairs_from kinds gone (f ∷ b)).steps ≡ [] → all (λ g. not (shares f.gate g)) m ≡ true → cancels kinds e.gate
      f.gate ≡ true → ⊥
  unfolding pairs_from
  pairs-stuck gone m e d f b s h q p = no_step _ _
      (subst (λ t. (pair-if (λ x. pairs_from kinds x b) gone f (record { before = m; here = e; after = d }) t).steps ≡ []) p
      (subst (λ o. (pair-with kinds (λ x. pairs_from kinds x b) gone f o).steps ≡ []) (ap (cut (shares f.gate)) s ∙ cut-here (shares f.gate) m e d q (equal-share e.gate f.gate (cancels-equal kinds e.gate f.gate p))) h))

  -- ------------------------------------------------------------ the commuting sweep

  com-next : (f : ℕ → List (Cell A) → Done A) (i : ℕ) (e : Cell A) (l : List (Cell A)) (b : Bool) →
      (com-open f i e l b).steps ≡ [] → (f (suc i) l).steps ≡ []
  com-next f i e l false h = h
  com-next f i e l true h = at_cut (cut (equal e.gate) l) h
    where
      at-walk : (c : Cut A) (w : Walk) → (com-walk f i e l c w).steps ≡ [] → (f (suc i) l).steps ≡ []
      at-walk c (reached n) h = absurd (no_step _ _ h)
      at-walk c (blocked n) h = h
      at-walk c (short n) h = h

      at_cut : (o : Option (Cut A)) → (com-with f i e l o).steps ≡ [] → (f (suc i) l).steps ≡ []
      at_cut none h = h
      at_cut (some c) h = at-walk c (walk_past e.gate c.before) h

  -- the first gate that meets a test comes no later than one that does
  record Sooner (p q : Gate → Bool) (l : List (Cell A)) : Type 0 where
    c : Cut A
    is : cut p l ≡ some c
    free : all q c.before ≡ true

  sooner : (p q : Gate → Bool) (m : List (Cell A)) (f : Cell A) (b : List (Cell A)) → all q m ≡ true → p f.gate ≡ true →
      Sooner p q (m ++ (f ∷ b))
  unfolding cut
  sooner p q [] f b h t = record { c = record { before = []; here = f; after = b }; is = cut-here p [] f b refl t; free = refl }
  sooner p q (e ∷ m) f b h t = go (p e.gate) refl (sooner p q m f b (and_right (q e.gate) (all q m) h) t)
    where
      l : List (Cell A)
      l = m ++ (f ∷ b)

      go : (x : Bool) → p e.gate ≡ x → Sooner p q l → Sooner p q (e ∷ l)
      go true y s = record {
        c = record { before = []; here = e; after = l };
        is = ap (λ x. cond x (some (record { before = []; here = e; after = l })) (onto e (cut p l))) y;
        free = refl;
      }
      go false y s = record {
        c = record { before = e ∷ s.c.before; here = s.c.here; after = s.c.after };
        is = ap (λ x. cond x (some (record { before = []; here = e; after = l })) (onto e (cut p l))) y ∙ ap (onto e) s.is;
        free = ap₂ ◌&&◌ (and_left (q e.gate) (all q m) h) s.free;
      }

  commuting-stuck : (a : List (Cell A)) (n i : ℕ) (e : Cell A) (m : List (Cell A)) (f : Cell A) (b : List (Cell A)) →
      length a < n →
      (commuting_from n i (a ++ (e ∷ (m ++ (f ∷ b))))).steps ≡ [] → is_pair e.gate ≡ true → equal e.gate
      f.gate ≡ true → all (may_pass e.gate) m ≡ true → ⊥
  unfolding commuting_from
  commuting-stuck a zero i e m f b h q p s t = omega arith
  commuting-stuck [] (suc n) i e m f b h q p s t =
      let z = sooner (equal e.gate) (may_pass e.gate) m f b t s in
      at-walk z.c z.free _ (walk_past e.gate z.c.before) (walk-past-is e.gate z.c.before)
      (subst (λ o. (com-with (commuting_from n) i e (m ++ (f ∷ b)) o).steps ≡ []) z.is
      (subst (λ x. (com-open (commuting_from n) i e (m ++ (f ∷ b)) x).steps ≡ []) p q))
    where
      at-walk : (c : Cut A) → all (may_pass e.gate) c.before ≡ true → (r : ℕ) (w : Walk) →
          Outcome (all (may_pass e.gate) c.before) r w →
          (com-walk (commuting_from n) i e (m ++ (f ∷ b)) c w).steps ≡ [] → ⊥
      at-walk c t r (reached k) o h = no_step _ _ h
      at-walk c t r (blocked k) o h = let z : true ≡ false = sym t ∙ o.0 in let y : ◌≡◌ {A = ℕ} 0 1 = cc in omega arith
      at-walk c t r (short k) o h = o
  commuting-stuck (x ∷ a) (suc n) i e m f b h q p s t =
      commuting-stuck a n (suc i) e m f b (omega arith)
      (com-next (commuting_from n) i x (a ++ (e ∷ (m ++ (f ∷ b)))) (is_pair x.gate) q) p s t

  -- ------------------------------------------------------------ any step

  rewritten-no-h : (w : ℕ) (e : Cell A) (m : List (Cell A)) (f : Cell A) (n : List (Cell A)) (o : Option Rewrite) →
      rewrite_of (wire w) (track w m) ≡ o →
      rewritten w e m f o ≡ some n → all (λ g. not (is_h_on w g)) m ≡ true
  rewritten-no-h w e m f n none p q = absurd (none-not-some n q)
  rewritten-no-h w e m f n (some s) p q =
      all_then (λ g. not (touches w g) || inside g) (λ g. not (is_h_on w g)) m
      (λ g h. go (touches w g) (inside g) (is_h g) h (inside-no-h g))
      (track-every inside w m (between-inside (wire w) (track w m) s p))
    where
      go : (a b c : Bool) → not a || b ≡ true → (b ≡ true → c ≡ false) → not (c && a) ≡ true
      go true b c h k = ap (λ x. not (x && true)) (k h)
      go false b true h k = refl
      go false b false h k = refl

  stuck-1 : (a : List (Cell A)) (e : Cell A) (m : List (Cell A)) (f : Cell A) (b r : List (Cell A)) →
      Idle (pair_sweep kinds) (a ++ (e ∷ (m ++ (f ∷ b)))) → change1 kinds e m f ≡ some r → ⊥
  unfolding pair_sweep
  stuck-1 a e m f b r q t =
      let x = (if-true _ m r t).0 in
      pairs-stuck (reverse (a ++ (e ∷ m))) (reverse m) e (reverse a) f b
      (reverse-append a (e ∷ m) ∙ ap (λ y. y ++ reverse a) (reverse-cons e m) ∙ append_assoc (reverse m) (e ∷ []) (reverse a))
      (pairs-on (a ++ (e ∷ m)) [] (f ∷ b) (subst (λ y. (pairs_from kinds [] y).steps ≡ []) (sym (append_assoc a (e ∷ m) (f ∷ b))) q))
      (all-reverse (λ g. not (shares f.gate g)) m (and_right (cancels kinds e.gate f.gate) _ x))
      (and_left (cancels kinds e.gate f.gate) _ x)

  stuck-2 : (a : List (Cell A)) (e : Cell A) (m : List (Cell A)) (f : Cell A) (b r : List (Cell A)) →
      Idle commuting_sweep (a ++ (e ∷ (m ++ (f ∷ b)))) → change2 e m f ≡ some r → ⊥
  unfolding commuting_sweep
  stuck-2 a e m f b r q t =
      let x = (if-true _ m r t).0 in
      let y = and_right (is_pair e.gate) _ x in
      commuting-stuck a _ 0 e m f b (omega (arith, length-append a (e ∷ (m ++ (f ∷ b))))) q (and_left (is_pair e.gate) _ x)
      (and_left (equal e.gate f.gate) _ y) (and_right (equal e.gate f.gate) _ y)

  stuck-3 : (n bits : ℕ) (a : List (Cell A)) (e : Cell A) (m : List (Cell A)) (f : Cell A) (b r : List (Cell A)) →
      Idle (hadamard_sweep n) (a ++ (e ∷ (m ++ (f ∷ b)))) →
      ValidList n bits (a ++ (e ∷ (m ++ (f ∷ b)))) → change3 e m f ≡ some r → ⊥
  stuck-3 n bits a e m f b r q k t =
      let w : ℕ = first_of (wires_of e.gate) in
      let l : List (Cell A) = a ++ (e ∷ (m ++ (f ∷ b))) in
      let x = if-h-true (is_h e.gate && is_h_on w f.gate) (rewritten w e m f (rewrite_of (wire w) (track w m))) r t in
      let on = first-has (wires_of e.gate) (meets-itself e.gate) in
      let below : w < n = (all_back (Valid n bits) a (e ∷ (m ++ (f ∷ b))) k).0.below w on in
      next-h-stuck a _ w 0 e m f b r (omega (arith, length-append a (e ∷ (m ++ (f ∷ b)))))
      (next-h-wire n w l below (ap (λ d. d.steps) (sym (hadamard-next-h n l)) ∙ q))
      (ap₂ ◌&&◌ (and_left (is_h e.gate) _ x.0) on)
      (and_right (is_h e.gate) _ x.0)
      (rewritten-no-h w e m f r (rewrite_of (wire w) (track w m)) refl x.1)
      t

  pub stuck : (n bits : ℕ) (l : List (Cell A)) → Quiet kinds n l → ValidList n bits l → (s : Step) (r : List (Cell A)) →
      act kinds s l ≡ some r → ⊥
  unfolding change
  stuck n bits l q k s r h = let p = act-parts kinds s l r h in
      go p.a p.e p.m p.f p.b p.new (subst (Quiet kinds n) p.found q) (subst (ValidList n bits) p.found k)
      (eqb s.kind 1) (eqb s.kind 2) (eqb s.kind 3) p.by
    where
      go : (a : List (Cell A)) (e : Cell A) (m : List (Cell A)) (f : Cell A) (b new : List (Cell A)) →
          Quiet kinds n (a ++ (e ∷ (m ++ (f ∷ b)))) → ValidList n bits (a ++ (e ∷ (m ++ (f ∷ b)))) →
          (x y z : Bool) → cond x (change1 kinds e m f) (cond y (change2 e m f) (cond z (change3 e m f) none)) ≡ some new → ⊥
      go a e m f b new q k true y z t = stuck-1 a e m f b new q.pairs t
      go a e m f b new q k false true z t = stuck-2 a e m f b new q.commutings t
      go a e m f b new q k false false true t = stuck-3 n bits a e m f b new q.hadamards k t
      go a e m f b new q k false false false t = none-not-some new t

  -- On the pass's list no step at all is allowed.
  pub pass-stuck : (n bits : ℕ) (l : List (Cell A)) → ValidList n bits l → (s : Step) (r : List (Cell A)) →
      act kinds s (pass kinds n l).list ≡ some r → ⊥
  pass-stuck n bits l h = stuck n bits (pass kinds n l).list (nothing-fires kinds n l) (pass-valid kinds n n bits l h)
