-- A step makes a list no longer, gives it no more h, and lowers the two together: so a journal is short.
use mathlib.Core.Path.{◌≡◌, refl, sym, ◌∙◌, ap, subst, subst₂}
use mathlib.Core.Bool.{Bool, true, false, not, cond, ◌&&◌}
use mathlib.Core.List.{List, [], ◌∷◌, ◌++◌, append_assoc}
use mathlib.Core.Option.{Option, some, none}
use Prim.Native.Nat.{ℕ, ◌+◌, ◌*◌, ◌/◌, ◌≤◌, ◌<◌}
use native.Mathlib.Omega.{arith}
use lib.ListN.{length, length-append}
use lib.Dec.{eqb}
use Rattle.gates.specs.declared.Wire.{Wire}
use Rattle.gates.specs.declared.Gate.{Gate}
use Rattle.gates.specs.Gates.{wire, wires_of, shares, touches}
use Rattle.gates.specs.Records.{record_of, is_h}
use Rattle.rules.specs.Equal.{equal, cancels, is_pair}
use Rattle.rules.specs.Runs.{Rewrite, is_h_on, rewrite_of}
use Rattle.rules.specs.MayPass.{may_pass}
use Rattle.rules.specs.Steps.{Cell, Step, first_of, all, track, off_wire, put, put_first, change1, change2, change3, change, act}
use Rattle.rules.specs.Journal.{replayed, replay}
use Rattle.rules.specs.Loop.{h_count, size, pass}
use Rattle.rules.proofs.Names.{if, if-h, rewritten}
use Rattle.gates.proofs.Joined.{and_left, and_right}
use Rattle.rules.proofs.EqualLaws.{none-not-some}
use Rattle.rules.proofs.Replays.{Leads, leads, pass-replays}
use Rattle.rules.proofs.Between.{Fits, Fit, rewrite-fit}
use Rattle.rules.proofs.Acts.{whole, if-true, act-parts, along}

-- an h, or none
abbrev one-if : Bool → ℕ
one-if b = cond b 1 0

abbrev h-of : Option Gate → ℕ
h-of none = 0
h-of (some g) = one-if (is_h g)

-- What stands in place of the two h is no h.
abbrev NotH : Gate → Type 0
NotH g = is_h g ≡ false

abbrev Any : Gate → Type 0
Any g = Unit {0}

ends-fit : (w : Wire) (l : List Gate) → Fit NotH Any (rewrite_of w l)
unfolding record_of
ends-fit w l = rewrite-fit NotH Any w l (record { s = refl; sdg = refl; x = tt; z = tt; h = tt })

ends-no-h : (o : Option Gate) → Fits NotH o → h-of o ≡ 0
ends-no-h none f = refl
ends-no-h (some g) f = ap one-if f

one_less : (g : Bool) → one-if g ≤ 1
one_less true = omega arith
one_less false = omega arith

h-of-less : (o : Option Gate) → h-of o ≤ 1
h-of-less none = omega arith
h-of-less (some g) = one_less (is_h g)

module _ {A : Type 0} where
  pub hs-append : (l m : List (Cell A)) → h_count (l ++ m) ≡ h_count l + h_count m
  unfolding h_count
  hs-append [] m = omega arith
  hs-append (e ∷ l) m = omega (arith, hs-append l m)

  -- no longer, no more h
  record Within (m l : List (Cell A)) (n : ℕ) : Type 0 where
    long : length m ≤ length l
    some-h : h_count m ≤ n + h_count l

  apart-within : (w : ℕ) (l : List (Cell A)) → Within (off_wire w l) l 0
  unfolding off_wire h_count
  apart-within w [] = record { long = omega arith; some-h = omega arith }
  apart-within w (e ∷ l) = go (touches w e.gate) (apart-within w l)
    where
      go : (b : Bool) → Within (off_wire w l) l 0 → Within (cond b (off_wire w l) (e ∷ off_wire w l)) (e ∷ l) 0
      go true i = record { long = omega arith; some-h = omega arith }
      go false i = record { long = omega arith; some-h = omega arith }

  put-within : (o : Option Gate) (e : Cell A) (l m : List (Cell A)) → Within l m 0 → Within (put o e l) (e ∷ m) (h-of o)
  unfolding h_count
  put-within none e l m i = record { long = omega arith; some-h = omega arith }
  put-within (some g) e l m i = record { long = omega arith; some-h = omega arith }

  put-first-within : (w : ℕ) (o : Option Gate) (l : List (Cell A)) → Within (put_first w o l) l (h-of o)
  unfolding put_first h_count
  put-first-within w o [] = record { long = omega arith; some-h = omega arith }
  put-first-within w o (e ∷ l) = go (touches w e.gate) (put-first-within w o l)
    where
      go : (b : Bool) → Within (put_first w o l) l (h-of o) →
          Within (cond b (put o e (off_wire w l)) (e ∷ put_first w o l)) (e ∷ l) (h-of o)
      go true i = put-within o e (off_wire w l) l (apart-within w l)
      go false i = record { long = omega arith; some-h = omega arith }

  -- what a step takes out of a list
  pub record Less (m l : List (Cell A)) : Type 0 where
    pub long : length m ≤ length l
    pub some-h : h_count m ≤ h_count l
    pub both : 2 + length m + 2 * h_count m ≤ length l + 2 * h_count l

  gone-less : (e : Cell A) (m : List (Cell A)) (f : Cell A) → Less m (whole e m f)
  unfolding h_count
  gone-less e m f = record {
    long = omega (arith, length-append m (f ∷ []));
    some-h = omega (arith, hs-append m (f ∷ []));
    both = omega (arith, hs-append m (f ∷ []), length-append m (f ∷ []));
  }

  if-less : (b : Bool) (e : Cell A) (m : List (Cell A)) (f : Cell A) (n : List (Cell A)) → if b m ≡ some n → Less n (whole e m f)
  if-less b e m f n q = subst (λ x. Less x (whole e m f)) (if-true b m n q).1 (gone-less e m f)

  swap-less : (w : ℕ) (e : Cell A) (m : List (Cell A)) (f : Cell A) (s : Rewrite) → is_h e.gate ≡ true → is_h f.gate ≡ true →
      h-of s.ends ≡ 0 →
      Less (put s.ends e (put_first w s.first m ++ put s.ends f [])) (whole e m f)
  unfolding h_count
  swap-less w e m f s p q r = go s.ends r
    where
      P : List (Cell A)
      P = put_first w s.first m

      i : Within P m (h-of s.first)
      i = put-first-within w s.first m

      go : (o : Option Gate) → h-of o ≡ 0 → Less (put o e (P ++ put o f [])) (whole e m f)
      go none z = record {
        long = omega (arith, i.long, length-append P [], length-append m (f ∷ []));
        some-h = omega (arith, i.some-h, h-of-less s.first, hs-append P [], hs-append m (f ∷ []), ap one-if p, ap one-if q);
        both = omega (arith, i.long, i.some-h, h-of-less s.first, hs-append P [], length-append P [], hs-append m (f ∷ []), length-append m (f ∷ []), ap one-if p, ap one-if q);
      }
      go (some g) z = let fs : List (Cell A) = record { gate = g; beside = f.beside } ∷ [] in record {
        long = omega (arith, i.long, length-append P fs, length-append m (f ∷ []));
        some-h = omega (arith, z, i.some-h, h-of-less s.first, hs-append P fs, hs-append m (f ∷ []), ap one-if p, ap one-if q);
        both = omega (arith, z, i.long, i.some-h, h-of-less s.first, hs-append P fs, length-append P fs, hs-append m (f ∷ []), length-append m (f ∷ []), ap one-if p, ap one-if q);
      }

  had-less : (b : Bool) (w : ℕ) (e : Cell A) (m : List (Cell A)) (f : Cell A) (n : List (Cell A)) →
      is_h e.gate && is_h_on w f.gate ≡ b →
      (o : Option Rewrite) → Fit NotH Any o → if-h b (rewritten w e m f o) ≡ some n → Less n (whole e m f)
  had-less true w e m f n q (some s) z r = let p : put s.ends e (put_first w s.first m ++ put s.ends f []) ≡ n = cc in
      subst (λ x. Less x (whole e m f)) p
      (swap-less w e m f s (and_left (is_h e.gate) _ q) (and_left (is_h f.gate) _ (and_right (is_h e.gate) _ q)) (ends-no-h s.ends z.0))
  had-less true w e m f n q none z r = absurd (none-not-some n r)
  had-less false w e m f n q o z r = absurd (none-not-some n r)

  pub change-less : (kinds : List ℕ) (k : ℕ) (e : Cell A) (m : List (Cell A)) (f : Cell A) (n : List (Cell A)) →
      change kinds k e m f ≡ some n → Less n (whole e m f)
  unfolding change
  change-less kinds k e m f n h = go (eqb k 1) (eqb k 2) (eqb k 3) h
    where
      go : (a b c : Bool) → cond a (change1 kinds e m f) (cond b (change2 e m f) (cond c (change3 e m f) none)) ≡ some n →
          Less n (whole e m f)
      go true b c q = if-less (cancels kinds e.gate f.gate && all (λ g. not (shares f.gate g)) m) e m f n q
      go false true c q = if-less (is_pair e.gate && (equal e.gate f.gate && all (may_pass e.gate) m)) e m f n q
      go false false true q = let w : ℕ = first_of (wires_of e.gate) in
          had-less (is_h e.gate && is_h_on w f.gate) w e m f n refl (rewrite_of (wire w) (track w m))
          (ends-fit (wire w) (track w m)) q
      go false false false q = absurd (none-not-some n q)

  -- ------------------------------------------------------------ a step on a list

  inside-less : (a n w b : List (Cell A)) → Less n w → Less (a ++ (n ++ b)) (a ++ (w ++ b))
  inside-less a n w b i =
      let x : length (a ++ (n ++ b)) ≡ length a + (length n + length b) = length-append a (n ++ b)
      ∙ ap (λ k. length a + k) (length-append n b) in
      let y : length (a ++ (w ++ b)) ≡ length a + (length w + length b) = length-append a (w ++ b)
      ∙ ap (λ k. length a + k) (length-append w b) in
      let z : h_count (a ++ (n ++ b)) ≡ h_count a + (h_count n + h_count b) = hs-append a (n ++ b)
      ∙ ap (λ k. h_count a + k) (hs-append n b) in
      let v : h_count (a ++ (w ++ b)) ≡ h_count a + (h_count w + h_count b) = hs-append a (w ++ b)
      ∙ ap (λ k. h_count a + k) (hs-append w b) in
      record { long = omega arith; some-h = omega arith; both = omega arith }
  -- ------------------------------------------------------------ an allowed step, an accepted journal

module _ {A : Type 0} (kinds : List ℕ) where
  pub act-less : (s : Step) (l r : List (Cell A)) → act kinds s l ≡ some r → Less r l
  act-less s l r h = let p = act-parts kinds s l r h in
      let q : l ≡ p.a ++ (whole p.e p.m p.f ++ p.b) = p.found
      ∙ ap (λ x. p.a ++ (p.e ∷ x)) (sym (append_assoc p.m (p.f ∷ []) p.b)) in
      subst₂ Less (sym p.left) (sym q)
      (inside-less p.a p.new (whole p.e p.m p.f) p.b (change-less kinds s.kind p.e p.m p.f p.new p.by))

  -- Length and h count together fall with every step.
  pub act-lower : (s : Step) (l r : List (Cell A)) → act kinds s l ≡ some r → size r < size l
  act-lower s l r h = omega (arith, act-less s l r h)

  -- What n steps take out of a list.
  pub record Less-by (n : ℕ) (m l : List (Cell A)) : Type 0 where
    pub long : length m ≤ length l
    pub some-h : h_count m ≤ h_count l
    pub both : 2 * n + length m + 2 * h_count m ≤ length l + 2 * h_count l

  pub leads-less : (ss : List Step) (l m : List (Cell A)) → Leads kinds ss l m → Less-by (length ss) m l
  leads-less ss l m = along kinds m (λ ss l. Less-by (length ss) m l)
      (record { long = omega arith; some-h = omega arith; both = omega arith })
      (λ s ss l k p t b. let a = act-less s l k p in record { long = omega (arith, a, b); some-h = omega (arith, a, b); both = omega (arith, a, b) }) ss l

  -- An accepted journal leaves a list that is no longer and has no more h.
  pub no_longer : (ss : List Step) (l m : List (Cell A)) → replay kinds ss l ≡ replayed m → length m ≤ length l
  no_longer ss l m h = (leads-less ss l m (leads kinds 0 ss l m h)).long

  pub no-more-h : (ss : List Step) (l m : List (Cell A)) → replay kinds ss l ≡ replayed m → h_count m ≤ h_count l
  no-more-h ss l m h = (leads-less ss l m (leads kinds 0 ss l m h)).some-h

  -- It has at most half as many steps as the list has gates, and one more for each h.
  pub few-steps : (ss : List Step) (l m : List (Cell A)) → Leads kinds ss l m → length ss ≤ length l / 2 + h_count l
  few-steps ss l m h = omega (arith, leads-less ss l m h)

  pub steps-lower : (ss : List Step) (l m : List (Cell A)) → Leads kinds ss l m → length ss + size m ≤ size l
  steps-lower ss l m h = omega (arith, leads-less ss l m h)

  -- "s is at most floor(g/2) plus the h gates of the input."
  pub steps-bound : (n : ℕ) (l : List (Cell A)) → length (pass kinds n l).steps ≤ length l / 2 + h_count l
  steps-bound n l = few-steps (pass kinds n l).steps l (pass kinds n l).list (pass-replays kinds n l)
