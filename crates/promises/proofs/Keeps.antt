-- A step, and so a journal, keeps what a list does, but for its turns.
use mathlib.Core.Path.{◌≡◌, refl, sym, ◌∙◌, ap, subst, subst₂}
use mathlib.Core.Bool.{Bool, true, false, not, cond, ◌&&◌}
use mathlib.Core.List.{List, [], ◌∷◌, ◌++◌, append-nil, append_assoc, map-append}
use mathlib.Core.Option.{Option, some, none}
use Prim.Native.Nat.{ℕ}
use lib.Dec.{eqb}
use lib.IntN.{ℤ, pos, ◌+ℤ◌}
use borrow.Author.Tests.{not-true, eqb-true}
use Rattle.gates.specs.declared.Gate.{Gate}
use Rattle.gates.specs.declared.Gate.TheVariants.{H}
use Rattle.gates.specs.Gates.{wire, wires_of, has, shares, All}
use Rattle.gates.specs.Records.{kind_of, is_h}
use Rattle.rules.specs.Equal.{equal, cancels, is_pair}
use Rattle.rules.specs.Runs.{Rewrite, rewrite_of, sum_of, is_h_on}
use Rattle.rules.specs.MayPass.{may_pass}
use Rattle.rules.specs.Steps.{Cell, Step, try, when, first_of, gates_of, all, track, put, put_first, change1, change2, change3, change, act}
use Rattle.rules.proofs.Names.{rewritten}
use Rattle.gates.proofs.Joined.{and_left, and_right}
use Rattle.rules.proofs.EqualLaws.{none-not-some, equal-meet, cancels-equal}
use Rattle.rules.proofs.Between.{is-h, h-wire}
use Rattle.rules.proofs.Replays.{Leads}
use Rattle.rules.proofs.Acts.{whole, if-true, if-h-true, act-parts, along}
use Rattle.rules.proofs.Kept.{Stable, all_back, act-kept}
use Rattle.meaning.specs.Amplitudes.{Ops}
use Rattle.meaning.proofs.SumLaws.{Laws}
use Rattle.meaning.proofs.Operators.{turned}
use Rattle.meaning.proofs.Lists.{Proper, Passes, Same, drive, remove-pair, same-inside, unturned}
use Rattle.meaning.proofs.Undo.{self_inverse, undrawn}
use Rattle.promises.proofs.SelfInverse.{SelfInverse, pair-undoes}
use Rattle.promises.specs.Turns.{turns_between, turns_at, turns_of_step, turns_of, modulo8}
use Rattle.promises.proofs.Apart.{apart-passes}
use Rattle.promises.proofs.Passing.{may-pass}
use Rattle.promises.proofs.EqualSame.{equal-undo}
use Rattle.promises.proofs.Rewrites.{SameIf, rewrite-same}
use Rattle.promises.proofs.TurnLaws.{turned-sum, turns-of-step}

cancels-kind : (kinds : List ℕ) (a b : Gate) → cancels kinds a b ≡ true → has (kind_of a) kinds ≡ true
unfolding cancels
cancels-kind kinds a b h = and_left (has (kind_of a) kinds) _ h

-- A second h of a rewrite is on the wire of the first.
closing : (w : ℕ) (g : Gate) → is_h_on w g ≡ true → g ≡ H (wire w)
closing w g h = is-h g (and_left (is_h g) _ h) ∙ ap (λ v. H (wire v)) (h-wire w g h)

pub proper-stable : Stable Proper
unfolding wires_of
proper-stable = record { to-x = λ v p. p; to-z = λ v p. p; to-s = λ v p. p; to-sdg = λ v p. p }

module _ {B : Type 0} (O : Ops B) (L : Laws O) {A : Type 0} (kinds : List ℕ) (si : SelfInverse kinds) where
  -- ------------------------------------------------------------ what a step does between its two positions

  abbrev SameCells : ℤ → List (Cell A) → List (Cell A) → Type 0
  SameCells z l m = Same O (modulo8 z) (gates_of l) (gates_of m)

  -- An equal pair of a kind that undoes itself, the first passing all between.
  pair_same : (e : Cell A) (m : List (Cell A)) (f : Cell A) → has (kind_of e.gate) self_inverse ≡ true →
      equal e.gate f.gate ≡ true → Proper e.gate → Proper f.gate → All (Passes e.gate) (gates_of m) →
      SameCells (pos 0) (whole e m f) m
  unfolding modulo8
  pair_same e m f k h p q a c =
      ap (λ x. drive O (e.gate ∷ x) c) (map-append (λ e. e.gate) m (f ∷ []))
      ∙ remove-pair O L (gates_of m) [] e.gate f.gate c (undrawn e.gate k)
      (equal-undo O L e.gate f.gate k h p q) a
      ∙ ap (λ x. drive O x c) (append-nil (gates_of m))
      ∙ sym (unturned O (drive O (gates_of m) c))

  off-all : (e f : Gate) (m : List (Cell A)) → equal e f ≡ true → all (λ g. not (shares f g)) m ≡ true →
      All (Passes e) (gates_of m)
  off-all e f [] h q = tt
  off-all e f (x ∷ m) h q = (
    apart-passes e x.gate (equal-meet e f (wires_of x.gate) h ∙ not-true (shares f x.gate) (and_left _ _ q)),
    off-all e f m h (and_right (not (shares f x.gate)) _ q),
  )

  pass_all : (e : Gate) (m : List (Cell A)) → Proper e → all (may_pass e) m ≡ true → All (Passes e) (gates_of m)
  pass_all e [] p q = tt
  pass_all e (x ∷ m) p q =
      (may-pass e x.gate p (and_left (may_pass e x.gate) _ q), pass_all e m p (and_right (may_pass e x.gate) _ q))

  rewritten-same : (w : ℕ) (e : Cell A) (m : List (Cell A)) (f : Cell A) (n : List (Cell A)) (he : e.gate ≡ H (wire w))
      (hf : f.gate ≡ H (wire w)) (z : ℤ) (o : Option Rewrite) → SameIf O L w e m f he hf z o → rewritten w e m f o ≡ some n →
      SameCells z (whole e m f) n
  rewritten-same w e m f n he hf z none h q = absurd (none-not-some n q)
  rewritten-same w e m f n he hf z (some r) h q =
      let p : put r.ends e (put_first w r.first m ++ put r.ends f []) ≡ n = cc in
      subst (SameCells z (whole e m f)) p h

  change-same : (k : ℕ) (e : Cell A) (m : List (Cell A)) (f : Cell A) (n : List (Cell A)) → Proper e.gate → Proper f.gate →
      change kinds k e m f ≡ some n → SameCells (turns_at k e m) (whole e m f) n
  unfolding change
  change-same k e m f n p q h = go (eqb k 1) refl (eqb k 2) refl (eqb k 3) refl h
    where
      w : ℕ
      w = first_of (wires_of e.gate)

      -- The turns, where it is known whether the kind is 3.
      turns : (b : Bool) → eqb k 3 ≡ b → SameCells (cond b (turns_between (sum_of (track w m))) (pos 0)) (whole e m f) n →
          SameCells (turns_at k e m) (whole e m f) n
      turns b r = subst (λ b. SameCells (cond b (turns_between (sum_of (track w m))) (pos 0)) (whole e m f) n) (sym r)

      unturned-if : (j : ℕ) → eqb j 3 ≡ false → eqb k j ≡ true → (b : Bool) → when b (some m) ≡ some n →
          (b ≡ true → SameCells (pos 0) (whole e m f) m) → SameCells (turns_at k e m) (whole e m f) n
      unturned-if j r s b t h = let x = if-true b m n t in
          turns false (ap (λ i. eqb i 3) (eqb-true k j s) ∙ r) (subst (SameCells (pos 0) (whole e m f)) x.1 (h x.0))

      go : (a : Bool) → eqb k 1 ≡ a → (b : Bool) → eqb k 2 ≡ b → (c : Bool) → eqb k 3 ≡ c →
          cond a (change1 kinds e m f) (cond b (change2 e m f) (cond c (change3 e m f) none)) ≡ some n →
          SameCells (turns_at k e m) (whole e m f) n
      go true r b s c t h = unturned-if 1 refl r (cancels kinds e.gate f.gate && all (λ g. not (shares f.gate g)) m) h
          λ y. let i = and_left (cancels kinds e.gate f.gate) _ y in
          let j = cancels-equal kinds e.gate f.gate i in
          pair_same e m f (si (kind_of e.gate) (cancels-kind kinds e.gate f.gate i)) j p q
          (off-all e.gate f.gate m j (and_right (cancels kinds e.gate f.gate) _ y))
      go false r true s c t h =
          unturned-if 2 refl s (is_pair e.gate && (equal e.gate f.gate && all (may_pass e.gate) m)) h
          λ y. let i = and_right (is_pair e.gate) _ y in
          pair_same e m f (pair-undoes e.gate (and_left (is_pair e.gate) _ y)) (and_left (equal e.gate f.gate) _ i) p q
          (pass_all e.gate m p (and_right (equal e.gate f.gate) _ i))
      go false r false s true t h =
          let x = if-h-true (is_h e.gate && is_h_on w f.gate) (rewritten w e m f (rewrite_of (wire w) (track w m))) n h in
          let he = is-h e.gate (and_left (is_h e.gate) _ x.0) in
          let hf = closing w f.gate (and_right (is_h e.gate) _ x.0) in
          turns true t (rewritten-same w e m f n he hf (turns_between (sum_of (track w m))) (rewrite_of (wire w) (track w m))
          (rewrite-same O L w e m f he hf) x.1)
      go false r false s false t h = absurd (none-not-some n h)

  -- ------------------------------------------------------------ a step on a list, and a journal

  inside-same : (a x n b : List (Cell A)) (z : ℤ) → SameCells z x n → SameCells z (a ++ (x ++ b)) (a ++ (n ++ b))
  inside-same a x n b z h = subst₂ (Same O (modulo8 z)) (sym (split x)) (sym (split n))
      (same-inside O L (gates_of a) (gates_of x) (gates_of n) (gates_of b) (modulo8 z) h)
    where
      split : (y : List (Cell A)) → gates_of (a ++ (y ++ b)) ≡ gates_of a ++ (gates_of y ++ gates_of b)
      split y = map-append (λ e. e.gate) a (y ++ b) ∙ ap (λ t. gates_of a ++ t) (map-append (λ e. e.gate) y b)

  act-same : (s : Step) (l r : List (Cell A)) → All Proper (gates_of l) → act kinds s l ≡ some r → SameCells (turns_of_step s l) l r
  act-same s l r v h = let p = act-parts kinds s l r h in
      subst (λ z. SameCells z l r) (sym (turns-of-step kinds s l r p))
      (go p.a p.e p.m p.f p.b p.new p.found p.left p.by (subst (λ x. All Proper (gates_of x)) p.found v))
    where
      go : (a : List (Cell A)) (e : Cell A) (m : List (Cell A)) (f : Cell A) (b n : List (Cell A)) →
          l ≡ a ++ (e ∷ (m ++ (f ∷ b))) → r ≡ a ++ (n ++ b) → change kinds s.kind e m f ≡ some n →
          All Proper (gates_of (a ++ (e ∷ (m ++ (f ∷ b))))) → SameCells (turns_at s.kind e m) l r
      go a e m f b n p q t v =
          let y = all_back Proper a (e ∷ (m ++ (f ∷ b))) v in
          subst₂ (SameCells (turns_at s.kind e m)) (sym (p ∙ ap (λ u. a ++ (e ∷ u)) (sym (append_assoc m (f ∷ []) b)))) (sym q)
          (inside-same a (whole e m f) n b (turns_at s.kind e m)
          (change-same s.kind e m f n y.0 (all_back Proper m (f ∷ b) y.1).0 t))

  pub journal-same : (m : List (Cell A)) (ss : List Step) (l : List (Cell A)) → Leads kinds ss l m → All Proper (gates_of l) →
      SameCells (turns_of kinds ss l) l m
  unfolding turns_of modulo8
  journal-same m = along kinds m (λ ss l. All Proper (gates_of l) → SameCells (turns_of kinds ss l) l m)
      (λ v c. sym (unturned O (drive O (gates_of m) c)))
      λ s ss l k p t ih v c.
      act-same s l k v p c
      ∙ ap (turned O (modulo8 (turns_of_step s l))) (ih (act-kept Proper kinds proper-stable s l k p v) c)
      ∙ turned-sum O L (turns_of_step s l) (turns_of kinds ss k) (drive O (gates_of m) c)
      ∙ ap (λ o. turned O (modulo8 (turns_of_step s l +ℤ try o (pos 0) (turns_of kinds ss))) (drive O (gates_of m) c)) (sym p)
