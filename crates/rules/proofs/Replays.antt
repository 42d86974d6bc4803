-- Every sweep's steps, replayed on the list that it found, give the list that it left.
use mathlib.Core.Path.{◌≡◌, refl, sym, ◌∙◌, ap, ap₂, subst}
use mathlib.Core.Bool.{Bool, true, false, not, ◌&&◌}
use mathlib.Core.List.{List, [], ◌∷◌, ◌++◌, reverse, append-nil, append_assoc, reverse-append, reverse-cons}
use mathlib.Core.Option.{Option, some, none}
use Prim.Native.Nat.{ℕ, zero, suc, ◌+◌, ◌-◌}
use native.Mathlib.Omega.{arith}
use lib.ListN.{length, length-append, length-reverse}
use borrow.Author.Tests.{lt-ltb}
use Rattle.gates.specs.Gates.{shares}
use Rattle.rules.specs.Equal.{equal, cancels, is_pair}
use Rattle.rules.specs.Runs.{is_h_on}
use Rattle.rules.specs.MayPass.{may_pass}
use Rattle.rules.specs.Steps.{Cell, Step, step, Cut, all, change3, change, cut_at, act}
use Rattle.rules.specs.Journal.{Replayed, replayed, refused_at, replay_from, replay}
use Rattle.rules.specs.Sweeps.{Done, Sweep, Walk, reached, blocked, short, fire, cut, pairs_from, pair_sweep, walk_past, commuting_from, commuting_sweep, followed, hadamard_sweep}
use Rattle.rules.specs.Loop.{again_if, repeat, size, repeated, round, pass}
use Rattle.rules.proofs.Names.{if, if-h, joined, to_last, to-first, then, pair-if, pair-with, com-walk, com-with, com-open}
use Rattle.rules.proofs.Cuts.{Parts, cut-is, cut-at-is, all-reverse, reverse-parts}
use Rattle.rules.proofs.Walks.{Outcome, walk-past-is}
use Rattle.rules.proofs.NextH.{had-new, had-close, had_open, next_h_from, next_h_sweep}
use Rattle.rules.proofs.HadamardForm.{hadamard-next-h}

module _ {A : Type 0} where
  pub refused-not-replayed : (x : ℕ) (m : List (Cell A)) → refused_at x ≡ replayed m → ⊥
  refused-not-replayed x m h = let z : ◌≡◌ {A = ℕ} 0 1 = ap is h in omega arith
    where
      is : Replayed A → ℕ
      is (refused_at i) = 0
      is (replayed l) = 1

  pub replayed-same : (l m : List (Cell A)) → ◌≡◌ {A = Replayed A} (replayed l) (replayed m) → l ≡ m
  replayed-same l m h = cc

module _ {A : Type 0} (kinds : List ℕ) where
  -- ------------------------------------------------------------ a step on a list that is written out

  pub act-is : (k i j : ℕ) (a : List (Cell A)) (e : Cell A) (m : List (Cell A)) (f : Cell A) (b : List (Cell A)) →
      length a ≡ i → suc i + length m ≡ j →
      act kinds (step k i j) (a ++ (e ∷ (m ++ (f ∷ b)))) ≡ joined a b (change kinds k e m f)
  unfolding act
  act-is k i j a e m f b p q =
      ap (λ t. if-h t (to-first kinds k (j - suc i) (cut_at i (a ++ (e ∷ (m ++ (f ∷ b))))))) (lt-ltb i j (omega arith))
      ∙ ap₂ (λ n x. to-first kinds k n (cut_at x (a ++ (e ∷ (m ++ (f ∷ b)))))) (omega arith) (sym p)
      ∙ ap (to-first kinds k (length m)) (cut-at-is a e (m ++ (f ∷ b)))
      ∙ ap (to_last kinds k (record { before = a; here = e; after = m ++ (f ∷ b) })) (cut-at-is m f b)

  -- Steps that are all allowed lead from a list to another, whatever the index of the first.
  abbrev pub Leads : List Step → List (Cell A) → List (Cell A) → Type 0
  Leads ss l m = (x : ℕ) → replay_from kinds x ss l ≡ replayed m

  -- One index tells for all.
  pub leads : (x : ℕ) (ss : List Step) (l m : List (Cell A)) → replay_from kinds x ss l ≡ replayed m → Leads ss l m
  unfolding replay_from
  leads x [] l m h y = h
  leads x (s ∷ ss) l m h y = go (act kinds s l) h λ n q. leads (suc x) ss n m q (suc y)
    where
      go : (o : Option (List (Cell A))) → then o x (replay_from kinds (suc x) ss) ≡ replayed m →
          ((n : List (Cell A)) → replay_from kinds (suc x) ss n ≡ replayed m → replay_from kinds (suc y) ss n ≡ replayed m) →
          then o y (replay_from kinds (suc y) ss) ≡ replayed m
      go none q ih = absurd (refused-not-replayed x m q)
      go (some n) q ih = ih n q

  from_list : (ss : List Step) (l m r : List (Cell A)) → l ≡ m → Leads ss m r → Leads ss l r
  from_list ss l m r p h x = ap (replay_from kinds x ss) p ∙ h x

  to-list : (ss : List Step) (l m r : List (Cell A)) → m ≡ r → Leads ss l m → Leads ss l r
  to-list ss l m r p h x = h x ∙ ap replayed p

  -- ------------------------------------------------------------ what a sweep does from position i on, behind any i cells

  abbrev Good : (ℕ → List (Cell A) → Done A) → Type 0
  Good f = (a : List (Cell A)) (i : ℕ) (l : List (Cell A)) → length a ≡ i → Leads (f i l).steps (a ++ l) (a ++ (f i l).list)

  keeps : (f : ℕ → List (Cell A) → Done A) → Good f → (a : List (Cell A)) (i : ℕ) (e : Cell A) (l : List (Cell A)) →
      length a ≡ i →
      Leads (f (suc i) l).steps (a ++ (e ∷ l)) (a ++ (e ∷ (f (suc i) l).list))
  keeps f h a i e l p =
      from_list _ _ _ _ (sym (append_assoc a (e ∷ []) l)) (to-list _ _ _ _ (append_assoc a (e ∷ []) _)
      (h (a ++ (e ∷ [])) (suc i) l (length-append a (e ∷ []) ∙ omega arith)))

  fires : (k i j : ℕ) (a : List (Cell A)) (e : Cell A) (l m : List (Cell A)) (c : Cut A) (d : Done A) (r : List (Cell A)) →
      length a ≡ i → suc i + length c.before ≡ j → l ≡ c.before ++
      (c.here ∷ c.after) → change kinds k e c.before c.here ≡ some m →
      Leads d.steps (a ++ (m ++ c.after)) r → Leads (fire k i j d).steps (a ++ (e ∷ l)) r
  unfolding replay_from
  fires k i j a e l m c d r p q s t u x =
      ap (λ y. then (act kinds (step k i j) (a ++ (e ∷ y))) x (replay_from kinds (suc x) d.steps)) s
      ∙ ap (λ y. then y x (replay_from kinds (suc x) d.steps))
      (act-is k i j a e c.before c.here c.after p q ∙ ap (joined a c.after) t)
      ∙ u (suc x)

  -- ------------------------------------------------------------ the Hadamard sweep

  module _ (f : ℕ → List (Cell A) → Done A) (h : Good f) (a : List (Cell A)) (i : ℕ) (p : length a ≡ i) (e : Cell A)
      (l : List (Cell A)) where
    new-good : (c : Cut A) → l ≡ c.before ++ (c.here ∷ c.after) → (o : Option (List (Cell A))) →
        change3 e c.before c.here ≡ o →
        Leads (had-new f i e l c o).steps (a ++ (e ∷ l)) (a ++ (had-new f i e l c o).list)
    unfolding change
    new-good c s none t = keeps f h a i e l p
    new-good c s (some m) t = fires 3 i (suc i + length c.before) a e l m c (f (i + length m) c.after) _ p refl s t
        (from_list _ _ _ _ (sym (append_assoc a m c.after)) (to-list _ _ _ _ (append_assoc a m _)
        (h (a ++ m) (i + length m) c.after (length-append a m ∙ ap (λ n. n + length m) p))))

    close-good : (w : ℕ) (o : Option (Cut A)) → Parts (is_h_on w) l o →
        Leads (had-close f i e l o).steps (a ++ (e ∷ l)) (a ++ (had-close f i e l o).list)
    close-good w none t = keeps f h a i e l p
    close-good w (some c) t = new-good c t.0 (change3 e c.before c.here) refl

    open-good : (w : ℕ) (b : Bool) → Leads (had_open f w i e l b).steps (a ++ (e ∷ l)) (a ++ (had_open f w i e l b).list)
    open-good w true = close-good w (cut (is_h_on w) l) (cut-is (is_h_on w) l)
    open-good w false = keeps f h a i e l p

  next-h-good : (n w : ℕ) → Good (next_h_from n w)
  unfolding next_h_from replay_from
  next-h-good zero w a i l p = λ x. refl
  next-h-good (suc n) w a i [] p = λ x. refl
  next-h-good (suc n) w a i (e ∷ l) p = open-good (next_h_from n w) (next-h-good n w) a i p e l w (is_h_on w e.gate)

  -- ------------------------------------------------------------ the commuting sweep

  module _ (f : ℕ → List (Cell A) → Done A) (h : Good f) (a : List (Cell A)) (i : ℕ) (p : length a ≡ i) (e : Cell A)
      (l : List (Cell A)) (q : is_pair e.gate ≡ true) where
    walk-good : (c : Cut A) → Parts (equal e.gate) l (some c) → (r : ℕ) (w : Walk) →
        Outcome (all (may_pass e.gate) c.before) r w →
        Leads (com-walk f i e l c w).steps (a ++ (e ∷ l)) (a ++ (com-walk f i e l c w).list)
    unfolding change
    walk-good c s r (reached n) t = fires 2 i (suc i + length c.before) a e l c.before c (f i (c.before ++ c.after)) _ p refl
        s.0
        (ap (λ b. if b c.before) (ap₂ ◌&&◌ q (ap₂ ◌&&◌ s.1 t.0)))
        (h a i (c.before ++ c.after) p)
    walk-good c s r (blocked n) t = keeps f h a i e l p
    walk-good c s r (short n) t = absurd t

    with-good : (o : Option (Cut A)) → Parts (equal e.gate) l o →
        Leads (com-with f i e l o).steps (a ++ (e ∷ l)) (a ++ (com-with f i e l o).list)
    with-good none t = keeps f h a i e l p
    with-good (some c) t = walk-good c t _ (walk_past e.gate c.before) (walk-past-is e.gate c.before)

  com-open-good : (f : ℕ → List (Cell A) → Done A) → Good f → (a : List (Cell A)) (i : ℕ) → length a ≡ i →
      (e : Cell A) (l : List (Cell A)) (b : Bool) → is_pair e.gate ≡ b →
      Leads (com-open f i e l b).steps (a ++ (e ∷ l)) (a ++ (com-open f i e l b).list)
  com-open-good f h a i p e l true q = with-good f h a i p e l q (cut (equal e.gate) l) (cut-is (equal e.gate) l)
  com-open-good f h a i p e l false q = keeps f h a i e l p

  commuting-good : (n : ℕ) → Good (commuting_from n)
  unfolding commuting_from replay_from
  commuting-good zero a i l p = λ x. refl
  commuting-good (suc n) a i [] p = λ x. refl
  commuting-good (suc n) a i (e ∷ l) p = com-open-good (commuting_from n) (commuting-good n) a i p e l (is_pair e.gate) refl

  -- ------------------------------------------------------------ the pair sweep

  module _ (f : List (Cell A) → Done A) (l : List (Cell A))
      (h : (gone : List (Cell A)) → Leads (f gone).steps (reverse gone ++ l) (f gone).list)
      (gone : List (Cell A)) (e : Cell A) where
    pair_keeps : Leads (f (e ∷ gone)).steps (reverse gone ++ (e ∷ l)) (f (e ∷ gone)).list
    pair_keeps = from_list _ _ _ _ (sym (ap (λ x. x ++ l) (reverse-cons e gone) ∙ append_assoc (reverse gone) (e ∷ []) l))
        (h (e ∷ gone))

    if-good : (c : Cut A) → Parts (shares e.gate) gone (some c) → (b : Bool) → cancels kinds c.here.gate e.gate ≡ b →
        Leads (pair-if f gone e c b).steps (reverse gone ++ (e ∷ l)) (pair-if f gone e c b).list
    unfolding change
    if-good c s true t = from_list _ _ _ _ (ap (λ x. reverse x ++ (e ∷ l)) s.0 ∙ reverse-parts c.before c.here c.after (e ∷ l))
        (fires 1 (length c.after) (length gone) (reverse c.after) c.here (reverse c.before ++ (e ∷ l)) (reverse c.before)
        (record { before = reverse c.before; here = e; after = l }) (f (c.before ++ c.after)) _
        (length-reverse c.after)
        (omega (arith, length-reverse c.before, ap length s.0, length-append c.before (c.here ∷ c.after)))
        refl
        (ap (λ b. if b (reverse c.before)) (ap₂ ◌&&◌ t (all-reverse (λ g. not (shares e.gate g)) c.before s.2)))
        (from_list _ _ _ _ (sym (ap (λ x. x ++ l) (reverse-append c.before c.after) ∙ append_assoc (reverse c.after) (reverse c.before) l)) (h (c.before ++ c.after))))
    if-good c s false t = pair_keeps

    pair-good : (o : Option (Cut A)) → Parts (shares e.gate) gone o →
        Leads (pair-with kinds f gone e o).steps (reverse gone ++ (e ∷ l)) (pair-with kinds f gone e o).list
    pair-good none t = pair_keeps
    pair-good (some c) t = if-good c t (cancels kinds c.here.gate e.gate) refl

  pairs-good : (l gone : List (Cell A)) →
      Leads (pairs_from kinds gone l).steps (reverse gone ++ l) (pairs_from kinds gone l).list
  unfolding pairs_from replay_from
  pairs-good [] gone = λ x. ap replayed (append-nil (reverse gone))
  pairs-good (e ∷ l) gone = pair-good (λ d. pairs_from kinds d l) l (pairs-good l) gone e (cut (shares e.gate) gone)
      (cut-is (shares e.gate) gone)

  -- ------------------------------------------------------------ sweeps one after another

  leads-append : (s t : List Step) (l m r : List (Cell A)) → Leads s l m → Leads t m r → Leads (s ++ t) l r
  unfolding replay_from
  leads-append [] t l m r h k x = ap (replay_from kinds x t) (replayed-same l m (h x)) ∙ k x
  leads-append (y ∷ s) t l m r h k x = go (act kinds y l) (h x) λ n q. leads-append s t n m r q k
    where
      go : (o : Option (List (Cell A))) → then o x (replay_from kinds (suc x) s) ≡ replayed m →
          ((n : List (Cell A)) → Leads s n m → Leads (s ++ t) n r) →
          then o x (replay_from kinds (suc x) (s ++ t)) ≡ replayed r
      go none q ih = absurd (refused-not-replayed x m q)
      go (some n) q ih = ih n (leads (suc x) s n m q) (suc x)

  -- A sweep's journal.
  abbrev pub Replays : Sweep A → Type 0
  Replays f = (l : List (Cell A)) → Leads (f l).steps l (f l).list

  pub followed-replays : (f g : Sweep A) → Replays f → Replays g → Replays (followed f g)
  followed-replays f g p q l = leads-append (f l).steps _ l (f l).list _ (p l) (q (f l).list)

  pub repeat-replays : (n : ℕ) (f : Sweep A) → Replays f → Replays (repeat n f)
  unfolding repeat replay_from
  repeat-replays zero f p l = λ x. refl
  repeat-replays (suc n) f p l = go (f l).steps (λ m. repeat-replays n f p m)
    where
      go : (s : List Step) → Replays (repeat n f) →
          Leads (again_if (repeat n f) (f l) s).steps l (again_if (repeat n f) (f l) s).list
      go [] ih = p l
      go (x ∷ s) ih = leads-append (f l).steps _ l (f l).list _ (p l) (ih (f l).list)

  pub repeated-replays : (f : Sweep A) → Replays f → Replays (repeated f)
  unfolding repeated
  repeated-replays f p l = repeat-replays (suc (size l)) f p l

  pub pair-replays : Replays (pair_sweep kinds)
  unfolding pair_sweep
  pair-replays l = pairs-good l []

  pub next-h-replays : (n : ℕ) → Replays (next_h_sweep n)
  unfolding next_h_sweep replay_from
  next-h-replays zero l = λ x. refl
  next-h-replays (suc w) l = followed-replays (next_h_sweep w) (λ m. next_h_from (length m) w 0 m) (next-h-replays w)
      (λ m. next-h-good (length m) w [] 0 m refl) l

  pub hadamard-replays : (n : ℕ) → Replays (hadamard_sweep n)
  hadamard-replays n l = subst (λ d. Leads d.steps l d.list) (sym (hadamard-next-h n l)) (next-h-replays n l)

  pub commuting-replays : Replays commuting_sweep
  unfolding commuting_sweep
  commuting-replays l = commuting-good (length l) [] 0 l refl

  pub round-replays : (n : ℕ) → Replays (round kinds n)
  unfolding round
  round-replays n = followed-replays (repeated (hadamard_sweep n)) (followed (repeated commuting_sweep) (pair_sweep kinds))
      (repeated-replays (hadamard_sweep n) (hadamard-replays n))
      (followed-replays (repeated commuting_sweep) (pair_sweep kinds) (repeated-replays commuting_sweep commuting-replays) pair-replays)

  pub pass-replays : (n : ℕ) → Replays (pass kinds n)
  unfolding pass
  pass-replays n = followed-replays (pair_sweep kinds) (repeated (round kinds n)) pair-replays
      (repeated-replays (round kinds n) (round-replays n))

  -- The pass's journal, replayed on its input, gives its list.
  pub replayed-pass : (n : ℕ) (l : List (Cell A)) → replay kinds (pass kinds n l).steps l ≡ replayed (pass kinds n l).list
  replayed-pass n l = pass-replays n l 0
