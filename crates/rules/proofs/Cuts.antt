-- A list parted at a cell: by a test, and by a position.
use mathlib.Core.Path.{◌≡◌, refl, sym, ap, ap₂, ◌∙◌}
use mathlib.Core.Bool.{Bool, true, false, not, cond, ◌&&◌}
use mathlib.Core.List.{List, [], ◌∷◌, ◌++◌, reverse, reverse_aux, append_assoc, reverse-append, reverse-cons}
use mathlib.Core.Option.{Option, some, none}
use Prim.Native.Nat.{ℕ, zero, suc}
use lib.ListN.{length}
use Rattle.gates.specs.declared.Gate.{Gate}
use Rattle.rules.specs.Steps.{Cell, Cut, onto, all, cut_at}
use Rattle.rules.specs.Sweeps.{cut}
use Rattle.gates.proofs.Joined.{and_left, and_right}

module _ {A : Type 0} where
  -- ------------------------------------------------------------ tests of all cells

  pub all-and : (q r : Gate → Bool) (m : List (Cell A)) → all q m && all r m ≡ all (λ g. q g && r g) m
  all-and q r [] = refl
  all-and q r (e ∷ m) = go (q e.gate) (r e.gate) (all q m) (all r m) (all (λ g. q g && r g) m) (all-and q r m)
    where
      go : (a b c d f : Bool) → c && d ≡ f → (a && c) && (b && d) ≡ (a && b) && f
      go true true c d f h = h
      go true false true d f h = refl
      go true false false d f h = refl
      go false b c d f h = refl

  pub all_same : (q r : Gate → Bool) (m : List (Cell A)) → ((g : Gate) → q g ≡ r g) → all q m ≡ all r m
  all_same q r [] h = refl
  all_same q r (e ∷ m) h = ap₂ ◌&&◌ (h e.gate) (all_same q r m h)

  pub all_append : (q : Gate → Bool) (l m : List (Cell A)) → all q (l ++ m) ≡ all q l && all q m
  all_append q [] m = refl
  all_append q (e ∷ l) m = ap (λ b. q e.gate && b) (all_append q l m) ∙ go (q e.gate) (all q l) (all q m)
    where
      go : (a b c : Bool) → a && (b && c) ≡ a && b && c
      go true b c = refl
      go false b c = refl

  -- What a test implies of every cell.
  pub all_then : (q r : Gate → Bool) (m : List (Cell A)) → ((g : Gate) → q g ≡ true → r g ≡ true) → all q m ≡ true →
      all r m ≡ true
  all_then q r [] h k = refl
  all_then q r (e ∷ m) h k =
      ap₂ ◌&&◌ (h e.gate (and_left (q e.gate) (all q m) k)) (all_then q r m h (and_right (q e.gate) (all q m) k))

  all-onto : (q : Gate → Bool) (m r : List (Cell A)) → all q m ≡ true → all q r ≡ true → all q (reverse_aux m r) ≡ true
  all-onto q [] r t u = u
  all-onto q (e ∷ m) r t u =
      all-onto q m (e ∷ r) (and_right (q e.gate) (all q m) t) (ap₂ ◌&&◌ (and_left (q e.gate) (all q m) t) u)

  pub all-reverse : (q : Gate → Bool) (m : List (Cell A)) → all q m ≡ true → all q (reverse m) ≡ true
  all-reverse q m t = all-onto q m [] t refl

  pub reverse-parts : (b : List (Cell A)) (e : Cell A) (a l : List (Cell A)) →
      reverse (b ++ (e ∷ a)) ++ l ≡ reverse a ++ (e ∷ (reverse b ++ l))
  reverse-parts b e a l =
      ap (λ x. x ++ l) (reverse-append b (e ∷ a) ∙ ap (λ x. x ++ reverse b) (reverse-cons e a))
      ∙ append_assoc (reverse a ++ (e ∷ [])) (reverse b) l ∙ append_assoc (reverse a) (e ∷ []) (reverse b ++ l)

  -- ------------------------------------------------------------ by a test

  -- What an answer of `cut` says: no cell meets the test, or the list is parted at the first that does.
  abbrev pub Parts : (Gate → Bool) → List (Cell A) → Option (Cut A) → Type 0
  Parts p l none = all (λ g. not (p g)) l ≡ true
  Parts p l (some c) =
      (l ≡ c.before ++ (c.here ∷ c.after)) × (p c.here.gate ≡ true) × (all (λ g. not (p g)) c.before ≡ true)

  onto_parts : (p : Gate → Bool) (e : Cell A) (l : List (Cell A)) (o : Option (Cut A)) → p e.gate ≡ false →
      Parts p l o → Parts p (e ∷ l) (onto e o)
  onto_parts p e l none n h = ap₂ (λ a b. not a && b) n h
  onto_parts p e l (some c) n h = (ap (◌∷◌ e) h.0, h.1, ap₂ (λ a b. not a && b) n h.2)

  pub cut-is : (p : Gate → Bool) (l : List (Cell A)) → Parts p l (cut p l)
  unfolding cut
  cut-is p [] = refl
  cut-is p (e ∷ l) = go (p e.gate) refl (cut-is p l)
    where
      go : (b : Bool) → p e.gate ≡ b → Parts p l (cut p l) →
          Parts p (e ∷ l) (cond b (some (record { before = []; here = e; after = l })) (onto e (cut p l)))
      go true q h = (refl, q, refl)
      go false q h = onto_parts p e l (cut p l) q h

  -- Where the first cell that meets the test stands.
  pub cut-here : (p : Gate → Bool) (m : List (Cell A)) (f : Cell A) (b : List (Cell A)) →
      all (λ g. not (p g)) m ≡ true → p f.gate ≡ true →
      cut p (m ++ (f ∷ b)) ≡ some (record { before = m; here = f; after = b })
  unfolding cut
  cut-here p [] f b h q = ap (λ t. cond t (some (record { before = []; here = f; after = b })) (onto f (cut p b))) q
  cut-here p (e ∷ m) f b h q =
      ap (λ t. cond t (some (record { before = []; here = e; after = m ++ (f ∷ b) })) (onto e (cut p (m ++ (f ∷ b)))))
      (not-false (p e.gate) (and_left (not (p e.gate)) (all (λ g. not (p g)) m) h))
      ∙ ap (onto e) (cut-here p m f b (and_right (not (p e.gate)) (all (λ g. not (p g)) m) h) q)
    where
      not-false : (t : Bool) → not t ≡ true → t ≡ false
      not-false true h = sym h
      not-false false h = refl

  -- ------------------------------------------------------------ by a position

  pub cut-at-is : (a : List (Cell A)) (e : Cell A) (b : List (Cell A)) →
      cut_at (length a) (a ++ (e ∷ b)) ≡ some (record { before = a; here = e; after = b })
  unfolding cut_at
  cut-at-is [] e b = refl
  cut-at-is (d ∷ a) e b = ap (onto d) (cut-at-is a e b)

  pub record CutAt (n : ℕ) (l : List (Cell A)) (c : Cut A) : Type 0 where
    pub parts : l ≡ c.before ++ (c.here ∷ c.after)
    pub place : length c.before ≡ n

  abbrev pub AtParts : ℕ → List (Cell A) → Option (Cut A) → Type 0
  AtParts n l none = Unit {0}
  AtParts n l (some c) = CutAt n l c

  pub cut-at-parts : (n : ℕ) (l : List (Cell A)) → AtParts n l (cut_at n l)
  unfolding cut_at
  cut-at-parts zero [] = tt
  cut-at-parts (suc n) [] = tt
  cut-at-parts zero (e ∷ l) = record { parts = refl; place = refl }
  cut-at-parts (suc n) (e ∷ l) = go (cut_at n l) (cut-at-parts n l)
    where
      go : (o : Option (Cut A)) → AtParts n l o → AtParts (suc n) (e ∷ l) (onto e o)
      go none h = tt
      go (some c) h = record { parts = ap (◌∷◌ e) h.parts; place = ap suc h.place }
