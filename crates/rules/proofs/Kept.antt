-- What holds of every gate of a list and does not turn on the kind of a gate on one wire, a step keeps: so validity.
use mathlib.Core.Path.{◌≡◌, refl, sym, ◌∙◌, ap, subst}
use mathlib.Core.Bool.{Bool, false≢true, true, false, not, cond, ◌&&◌}
use mathlib.Core.List.{List, [], ◌∷◌, ◌++◌}
use mathlib.Core.Option.{Option, some, none}
use Prim.Native.Nat.{ℕ}
use lib.Dec.{eqb}
use Rattle.gates.specs.declared.Wire.{Wire}
use Rattle.gates.specs.declared.Bit.{Bit}
use Rattle.gates.specs.declared.Gate.{Gate}
use Rattle.gates.specs.declared.Gate.TheVariants.{X, H, S, Sdg, Z, Measure}
use Rattle.gates.specs.Gates.{wire, wires_of, has, twice, shares, touches, Valid, All}
use Rattle.gates.specs.Records.{record_of, kind_of, is_h}
use Rattle.rules.specs.Equal.{equal, cancels, is_pair}
use Rattle.rules.specs.Runs.{Rewrite, is_h_on, rewrite_of}
use Rattle.rules.specs.MayPass.{may_pass}
use Rattle.rules.specs.Steps.{Cell, Step, first_of, all, track, off_wire, put, put_first, change1, change2, change3, change, act, gates_of, ValidList}
use Rattle.rules.specs.Journal.{replayed, replay}
use Rattle.rules.specs.Sweeps.{Sweep, pair_sweep, commuting_sweep, hadamard_sweep}
use Rattle.rules.specs.Loop.{pass}
use Rattle.rules.proofs.Names.{if, rewritten}
use Rattle.gates.proofs.Joined.{and_left}
use Rattle.rules.proofs.EqualLaws.{none-not-some}
use Rattle.rules.proofs.Between.{is-h, Fits, Fit, PutIn, rewrite-fit}
use Rattle.rules.proofs.Replays.{Leads, leads, Replays, pair-replays, hadamard-replays, commuting-replays, pass-replays}
use Rattle.rules.proofs.Acts.{if-true, if-h-true, act-parts, along}

module _ (P : Gate → Type 0) where
  -- With an h, the other gates that a step puts on its wire.
  pub record Stable : Type 0 where
    pub to-x : (v : Wire) → P (H v) → P (X v)
    pub to-z : (v : Wire) → P (H v) → P (Z v)
    pub to-s : (v : Wire) → P (H v) → P (S v)
    pub to-sdg : (v : Wire) → P (H v) → P (Sdg v)

  put_in : Stable → (w : Wire) → P (H w) → PutIn P P w
  put_in st w h = record { s = st.to-s w h; sdg = st.to-sdg w h; x = st.to-x w h; z = st.to-z w h; h = h }

  -- ------------------------------------------------------------ lists

  module _ {A : Type 0} where
    abbrev pub AllOf : List (Cell A) → Type 0
    AllOf l = All P (gates_of l)

    pub all_join : (l m : List (Cell A)) → AllOf l → AllOf m → AllOf (l ++ m)
    all_join [] m h k = k
    all_join (e ∷ l) m h k = (h.0, all_join l m h.1 k)

    pub all-front : (l m : List (Cell A)) → AllOf (l ++ m) → AllOf l
    all-front [] m h = tt
    all-front (e ∷ l) m h = (h.0, all-front l m h.1)

    pub all_back : (l m : List (Cell A)) → AllOf (l ++ m) → AllOf m
    all_back [] m h = h
    all_back (e ∷ l) m h = all_back l m h.1

    off-kept : (w : ℕ) (l : List (Cell A)) → AllOf l → AllOf (off_wire w l)
    unfolding off_wire
    off-kept w [] h = tt
    off-kept w (e ∷ l) h = go (touches w e.gate) (off-kept w l h.1)
      where
        go : (b : Bool) → AllOf (off_wire w l) → AllOf (cond b (off_wire w l) (e ∷ off_wire w l))
        go true i = i
        go false i = (h.0, i)

    put-kept : (o : Option Gate) (e : Cell A) (l : List (Cell A)) → Fits P o → AllOf l → AllOf (put o e l)
    put-kept none e l f h = h
    put-kept (some g) e l f h = (f, h)

    put-first-kept : (w : ℕ) (o : Option Gate) (l : List (Cell A)) → Fits P o → AllOf l → AllOf (put_first w o l)
    unfolding put_first
    put-first-kept w o [] f h = tt
    put-first-kept w o (e ∷ l) f h = go (touches w e.gate) (put-first-kept w o l f h.1)
      where
        go : (b : Bool) → AllOf (put_first w o l) → AllOf (cond b (put o e (off_wire w l)) (e ∷ put_first w o l))
        go true i = put-kept o e (off_wire w l) f (off-kept w l h.1)
        go false i = (h.0, i)

    rewritten-kept : (w : ℕ) (e : Cell A) (m : List (Cell A)) (f : Cell A) (n : List (Cell A)) (o : Option Rewrite) → Fit P P o →
        AllOf m →
        rewritten w e m f o ≡ some n → AllOf n
    rewritten-kept w e m f n none z h r = absurd (none-not-some n r)
    rewritten-kept w e m f n (some s) z h r = let p : put s.ends e (put_first w s.first m ++ put s.ends f []) ≡ n = cc in
        subst AllOf p (put-kept s.ends e _ z.0 (all_join (put_first w s.first m) (put s.ends f [])
        (put-first-kept w s.first m z.1 h) (put-kept s.ends f [] z.0 tt)))

    if_kept : (b : Bool) (m n : List (Cell A)) → AllOf m → if b m ≡ some n → AllOf n
    if_kept b m n h r = subst AllOf (if-true b m n r).1 h

    -- ------------------------------------------------------------ steps, journals, sweeps

    module _ (kinds : List ℕ) (st : Stable) where
      change-kept : (k : ℕ) (e : Cell A) (m : List (Cell A)) (f : Cell A) (n : List (Cell A)) → P e.gate → AllOf m →
          change kinds k e m f ≡ some n → AllOf n
      unfolding change
      change-kept k e m f n i h r = go (eqb k 1) (eqb k 2) (eqb k 3) r
        where
          w : ℕ
          w = first_of (wires_of e.gate)

          go : (a b c : Bool) → cond a (change1 kinds e m f) (cond b (change2 e m f) (cond c (change3 e m f) none)) ≡ some n →
              AllOf n
          go true b c r = if_kept (cancels kinds e.gate f.gate && all (λ g. not (shares f.gate g)) m) m n h r
          go false true c r = if_kept (is_pair e.gate && (equal e.gate f.gate && all (may_pass e.gate) m)) m n h r
          go false false true r =
              let x = if-h-true (is_h e.gate && is_h_on w f.gate) (rewritten w e m f (rewrite_of (wire w) (track w m))) n r in
              rewritten-kept w e m f n (rewrite_of (wire w) (track w m))
              (rewrite-fit P P (wire w) (track w m) (put_in st (wire w) (subst P (is-h e.gate (and_left (is_h e.gate) _ x.0)) i))) h x.1
          go false false false r = absurd (none-not-some n r)

      pub act-kept : (s : Step) (l r : List (Cell A)) → act kinds s l ≡ some r → AllOf l → AllOf r
      act-kept s l r t h = let p = act-parts kinds s l r t in go p.a p.e p.m p.f p.b p.new
          (subst AllOf p.found h) p.by p.left
        where
          go : (a : List (Cell A)) (e : Cell A) (m : List (Cell A)) (f : Cell A) (b n : List (Cell A)) →
              AllOf (a ++ (e ∷ (m ++ (f ∷ b)))) →
              change kinds s.kind e m f ≡ some n → r ≡ a ++ (n ++ b) → AllOf r
          go a e m f b n h c u =
              let y = all_back a (e ∷ (m ++ (f ∷ b))) h in
              subst AllOf (sym u) (all_join a (n ++ b) (all-front a (e ∷ (m ++ (f ∷ b))) h) (all_join n b
              (change-kept s.kind e m f n y.0 (all-front m (f ∷ b) y.1) c) (all_back m (f ∷ b) y.1).1))

      pub leads-kept : (ss : List Step) (l m : List (Cell A)) → Leads kinds ss l m → AllOf l → AllOf m
      leads-kept ss l m = along kinds m (λ ss l. AllOf l → AllOf m) (λ h. h) (λ s ss l k p t b h. b (act-kept s l k p h)) ss l

-- ------------------------------------------------------------ validity

no-measure : (g : Gate) → eqb (kind_of g) 12 ≡ false → (w : Wire) (b : Bit) → g ≡ Measure w b → ⊥
unfolding record_of
no-measure g h w b e = false≢true (sym h ∙ ap (λ x. eqb (kind_of x) 12) e)

-- Another gate that is no measure on the wire of a valid h.
on-its-wire : (n bits : ℕ) (v : Wire) (g : Gate) → wires_of g ≡ wires_of (H v) → eqb (kind_of g) 12 ≡ false → Valid n bits (H v) →
    Valid n bits g
on-its-wire n bits v g p q h = record {
  below = λ w t. h.below w (ap (has w) (sym p) ∙ t);
  distinct = ap twice p ∙ h.distinct;
  bit = λ w b e. absurd (no-measure g q w b e);
}

pub valid-stable : (n bits : ℕ) → Stable (Valid n bits)
unfolding wires_of record_of
valid-stable n bits = record {
  to-x = λ v h. on-its-wire n bits v (X v) refl refl h;
  to-z = λ v h. on-its-wire n bits v (Z v) refl refl h;
  to-s = λ v h. on-its-wire n bits v (S v) refl refl h;
  to-sdg = λ v h. on-its-wire n bits v (Sdg v) refl refl h;
}

module _ {A : Type 0} (kinds : List ℕ) where
  -- An accepted journal on a valid list gives a valid list on the same wires.
  pub replay-valid : (n bits : ℕ) (ss : List Step) (l m : List (Cell A)) → replay kinds ss l ≡ replayed m → ValidList n bits l →
      ValidList n bits m
  replay-valid n bits ss l m h = leads-kept (Valid n bits) kinds (valid-stable n bits) ss l m (leads kinds 0 ss l m h)

  sweep-valid : (f : Sweep A) → Replays kinds f → (n bits : ℕ) (l : List (Cell A)) → ValidList n bits l →
      ValidList n bits (f l).list
  sweep-valid f p n bits l = leads-kept (Valid n bits) kinds (valid-stable n bits) (f l).steps l (f l).list (p l)

  pub pair-valid : (n bits : ℕ) (l : List (Cell A)) → ValidList n bits l → ValidList n bits (pair_sweep kinds l).list
  pair-valid = sweep-valid (pair_sweep kinds) (pair-replays kinds)

  pub hadamard-valid : (w n bits : ℕ) (l : List (Cell A)) → ValidList n bits l → ValidList n bits (hadamard_sweep w l).list
  hadamard-valid w = sweep-valid (hadamard_sweep w) (hadamard-replays kinds w)

  pub commuting-valid : (n bits : ℕ) (l : List (Cell A)) → ValidList n bits l → ValidList n bits (commuting_sweep l).list
  commuting-valid = sweep-valid commuting_sweep (commuting-replays kinds)

  pub pass-valid : (w n bits : ℕ) (l : List (Cell A)) → ValidList n bits l → ValidList n bits (pass kinds w l).list
  pass-valid w = sweep-valid (pass kinds w) (pass-replays kinds w)
