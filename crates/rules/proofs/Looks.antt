-- How many looks the walks take: for at most 2^20 gates fewer than 2^64.
use mathlib.Core.Path.{◌≡◌, refl, sym, ◌∙◌, ap, ap₂, subst}
use mathlib.Core.Bool.{Bool, true, false, cond}
use mathlib.Core.List.{List, [], ◌∷◌, ◌++◌}
use mathlib.Core.Option.{Option, some, none}
use Prim.Native.Nat.{ℕ, zero, suc, ◌+◌, ◌*◌, ◌^◌, ◌≤◌, ◌<◌}
use native.Mathlib.Omega.{arith}
use native.Mathlib.Nat as NatL
use lib.ListN.{length, length-append, take, drop, take-append-drop}
use lib.Dec.{leb}
use Rattle.gates.specs.declared.Gate.{Gate}
use Rattle.gates.specs.declared.Gate.TheVariants.{X, H, S, Sdg, Z, T, Tdg, Cnot, Cz, Ccx, Ccz, Measure, Reset, Y, Sx, Swap, Cy, Ch, Cswap}
use Rattle.gates.specs.Gates.{wires_of, has, shares, touches}
use Rattle.gates.specs.Records.{kind_of, is_h}
use Rattle.rules.specs.Equal.{inserted, sorted, any_order, two_in_any_order, ordered, canonical, equal, cancels, is_pair}
use Rattle.rules.specs.Runs.{is_h_on}
use Rattle.rules.specs.Steps.{Cell, Step, Cut, track, change3}
use Rattle.rules.specs.Sweeps.{Done, Sweep, Walk, reached, blocked, short, cut, pairs_from, pair_sweep, room, tracks, walk_past, commuting_from, commuting_sweep, followed, hadamard_sweep}
use Rattle.rules.specs.Loop.{again_if, repeat, h_count, size, repeated, round, pass}
use Rattle.rules.proofs.Names.{pair-if, pair-with, com-walk, com-with, com-open}
use Rattle.rules.proofs.Cuts.{Parts, cut-is}
use Rattle.rules.proofs.Walks.{Outcome, walk-past-is}
use Rattle.rules.proofs.NextH.{had-new, had-close, had_open, next_h_from, next_h_sweep}
use Rattle.rules.proofs.HadamardForm.{hadamard-next-h}
use Rattle.rules.proofs.Replays.{Replays, repeated-replays, pair-replays, hadamard-replays, commuting-replays, round-replays}
use Rattle.rules.proofs.Falls.{leads-less, steps-bound}

-- ------------------------------------------------------------ numbers

one_more : (k s b x : ℕ) → x ≤ (k * s + 1) * b → x ≤ (suc k * s + 1) * b
one_more k s b x h = let i : k * s + 1 ≤ suc k * s + 1 = omega (arith, NatL.suc-mul k s) in omega
    (arith, NatL.mul-le-mul_right b i)

both-more : (k s t b x y : ℕ) → 1 ≤ s → x ≤ (k * s + 1) * b → y ≤ (suc k * t + 1) * b → x + y ≤ (suc k * (s + t) + 1) * b
both-more k s t b x y h p q =
    let i : (k * s + 1) + (suc k * t + 1) ≤ suc k * (s + t) + 1 = omega
    (arith, NatL.suc-mul k (s + t), NatL.mul-add k s t, NatL.suc-mul k t) in
    omega (arith, NatL.mul-le-mul_right b i, NatL.add-mul (k * s + 1) (suc k * t + 1) b)

more-steps : (k s t b x : ℕ) → s ≤ t → x ≤ (k * s + 1) * b → x ≤ (k * t + 1) * b
more-steps k s t b x h p = let i : k * s + 1 ≤ k * t + 1 = omega (arith, NatL.mul-le-mul_left k h) in omega
    (arith, NatL.mul-le-mul_right b i)

-- ------------------------------------------------------------ one walk

insert-length : (a : ℕ) (l : List ℕ) → length (inserted a l) ≡ suc (length l)
unfolding inserted
insert-length a [] = refl
insert-length a (b ∷ l) = go (leb a b) (insert-length a l)
  where
    go : (t : Bool) → length (inserted a l) ≡ suc (length l) →
        length (cond t (a ∷ b ∷ l) (b ∷ inserted a l)) ≡ suc (suc (length l))
    go true h = refl
    go false h = ap suc h

sorted-length : (l : List ℕ) → length (sorted l) ≡ length l
unfolding sorted
sorted-length [] = refl
sorted-length (a ∷ l) = insert-length a (sorted l) ∙ ap suc (sorted-length l)

few-wires : (g : Gate) → length (wires_of g) ≤ 3
unfolding wires_of
few-wires (X w) = omega arith
few-wires (H w) = omega arith
few-wires (S w) = omega arith
few-wires (Sdg w) = omega arith
few-wires (Z w) = omega arith
few-wires (T w) = omega arith
few-wires (Tdg w) = omega arith
few-wires (Cnot c t) = omega arith
few-wires (Cz a b) = omega arith
few-wires (Ccx c d t) = omega arith
few-wires (Ccz a b c) = omega arith
few-wires (Measure w b) = omega arith
few-wires (Reset w) = omega arith
few-wires (Y w) = omega arith
few-wires (Sx w) = omega arith
few-wires (Swap a b) = omega arith
few-wires (Cy c t) = omega arith
few-wires (Ch c t) = omega arith
few-wires (Cswap c a b) = omega arith

canonical-few : (g : Gate) → length (canonical g) ≤ 3
unfolding canonical ordered
canonical-few g = go (has (kind_of g) any_order) (has (kind_of g) two_in_any_order)
  where
    l : List ℕ
    l = wires_of g

    go : (a b : Bool) → length (cond a (sorted l) (cond b (sorted (take 2 l) ++ drop 2 l) l)) ≤ 3
    go true b = omega (arith, sorted-length l, few-wires g)
    go false true = omega
        (arith, length-append (sorted (take 2 l)) (drop 2 l), sorted-length (take 2 l), length-append (take 2 l) (drop 2 l), ap length (take-append-drop 2 l), few-wires g)
    go false false = few-wires g

abbrev looks-of : Walk → ℕ
looks-of (reached n) = n
looks-of (blocked n) = n
looks-of (short n) = n

outcome-looks : (f : Bool) (r : ℕ) (w : Walk) → Outcome f r w → looks-of w ≤ r
outcome-looks f r (reached n) o = omega (arith, o.1)
outcome-looks f r (blocked n) o = o.1
outcome-looks f r (short n) o = absurd o

module _ {A : Type 0} (kinds : List ℕ) where
  track-length : (w : ℕ) (m : List (Cell A)) → length (track w m) ≤ length m
  unfolding track
  track-length w [] = omega arith
  track-length w (e ∷ m) = go (touches w e.gate) (track-length w m)
    where
      go : (b : Bool) → length (track w m) ≤ length m → length (cond b (e.gate ∷ track w m) (track w m)) ≤ suc (length m)
      go true h = omega arith
      go false h = omega arith

  tracks-room : (ws : List ℕ) (m : List (Cell A)) → room (tracks ws m) ≤ length ws * suc (length m)
  unfolding tracks room
  tracks-room [] m = omega arith
  tracks-room (w ∷ ws) m = omega (arith, NatL.suc-mul (length ws) (suc (length m)), track-length w m, tracks-room ws m)

  walk_looks : (p : Gate) (m : List (Cell A)) → looks-of (walk_past p m) ≤ 3 * suc (length m)
  walk_looks p m = omega
      (arith, outcome-looks _ _ (walk_past p m) (walk-past-is p m), tracks-room (canonical p) m, NatL.mul-le-mul_right (suc (length m)) (canonical-few p))

  -- ------------------------------------------------------------ one commuting sweep, over at most g gates

  module _ (g : ℕ) (f : ℕ → List (Cell A) → Done A) (n : ℕ) (h : (i : ℕ) (l : List (Cell A)) → length l ≤ g → (f i l).looks ≤ n)
      (i : ℕ) (e : Cell A) (l : List (Cell A)) (k : suc (length l) ≤ g) where
    com-walk-looks : (c : Cut A) → l ≡ c.before ++ (c.here ∷ c.after) → (w : Walk) → looks-of w ≤ 3 * suc (length c.before) →
        (com-walk f i e l c w).looks ≤ 3 * g + n
    com-walk-looks c s (reached r) t = omega (
      arith,
      h i (c.before ++ c.after)
          (omega (arith, ap length s, length-append c.before c.after, length-append c.before (c.here ∷ c.after))),
      ap length s,
      length-append c.before (c.here ∷ c.after),
    )
    com-walk-looks c s (blocked r) t = omega
        (arith, h (suc i) l (omega arith), ap length s, length-append c.before (c.here ∷ c.after))
    com-walk-looks c s (short r) t = omega
        (arith, h (suc i) l (omega arith), ap length s, length-append c.before (c.here ∷ c.after))

    com-with-looks : (o : Option (Cut A)) → Parts (equal e.gate) l o → (com-with f i e l o).looks ≤ 3 * g + n
    com-with-looks none t = omega (arith, h (suc i) l (omega arith))
    com-with-looks (some c) t = com-walk-looks c t.0 (walk_past e.gate c.before) (walk_looks e.gate c.before)

    com-open-looks : (b : Bool) → (com-open f i e l b).looks ≤ 3 * g + n
    com-open-looks true = com-with-looks (cut (equal e.gate) l) (cut-is (equal e.gate) l)
    com-open-looks false = omega (arith, h (suc i) l (omega arith))

  commuting-looks : (g n i : ℕ) (l : List (Cell A)) → length l ≤ g → (commuting_from n i l).looks ≤ n * (3 * g)
  unfolding commuting_from
  commuting-looks g zero i l k = omega arith
  commuting-looks g (suc n) i [] k = omega arith
  commuting-looks g (suc n) i (e ∷ l) k = omega
      (arith, com-open-looks g (commuting_from n) (n * (3 * g)) (λ j m q. commuting-looks g n j m q) i e l k (is_pair e.gate), NatL.suc-mul n (3 * g))

  -- ------------------------------------------------------------ sweeps with few looks: at most one bound's worth, and k for each step

  abbrev Few : ℕ → ℕ → ℕ → Sweep A → Type 0
  Few g b k f = (l : List (Cell A)) → length l ≤ g → (f l).looks ≤ (k * length (f l).steps + 1) * b

  com-few : (g : ℕ) → Few g (g * (3 * g)) 0 commuting_sweep
  unfolding commuting_sweep
  com-few g l h = omega
      (arith, commuting-looks g (length l) 0 l h, NatL.mul-le-mul_right (3 * g) h, NatL.zero-mul (length (commuting_sweep l).steps), NatL.one-mul (g * (3 * g)))

  repeat-few : (g b k n : ℕ) (f : Sweep A) → Replays kinds f → Few g b k f → Few g b (suc k) (repeat n f)
  unfolding repeat
  repeat-few g b k zero f p q l h = omega arith
  repeat-few g b k (suc n) f p q l h = go (f l).steps refl
      (repeat-few g b k n f p q (f l).list (omega (arith, leads-less kinds (f l).steps l (f l).list (p l))))
    where
      r : Done A
      r = repeat n f (f l).list

      go : (s : List Step) → (f l).steps ≡ s → r.looks ≤ (suc k * length r.steps + 1) * b →
          (again_if (repeat n f) (f l) s).looks ≤ (suc k * length (again_if (repeat n f) (f l) s).steps + 1) * b
      go [] e ih = one_more k (length (f l).steps) b (f l).looks (q l h)
      go (x ∷ s) e ih = subst (λ m. (f l).looks + r.looks ≤ (suc k * m + 1) * b) (sym (length-append (f l).steps r.steps))
          (both-more k (length (f l).steps) (length r.steps) b (f l).looks r.looks (omega (arith, ap length e)) (q l h) ih)

  repeated-few : (g b k : ℕ) (f : Sweep A) → Replays kinds f → Few g b k f → Few g b (suc k) (repeated f)
  unfolding repeated
  repeated-few g b k f p q l h = repeat-few g b k (suc (size l)) f p q l h

  -- ------------------------------------------------------------ the other sweeps take no looks

  abbrev pub None : Sweep A → Type 0
  None f = (l : List (Cell A)) → (f l).looks ≡ 0

  followed-none : (f h : Sweep A) → None f → None h → None (followed f h)
  followed-none f h p q l = ap₂ ◌+◌ (p l) (q (f l).list)

  repeat-none : (n : ℕ) (f : Sweep A) → None f → None (repeat n f)
  unfolding repeat
  repeat-none zero f p l = refl
  repeat-none (suc n) f p l = go (f l).steps (repeat-none n f p)
    where
      go : (s : List Step) → None (repeat n f) → (again_if (repeat n f) (f l) s).looks ≡ 0
      go [] ih = p l
      go (x ∷ s) ih = ap₂ ◌+◌ (p l) (ih (f l).list)

  pub repeated-none : (f : Sweep A) → None f → None (repeated f)
  unfolding repeated
  repeated-none f p l = repeat-none (suc (size l)) f p l

  pairs-none : (l gone : List (Cell A)) → (pairs_from kinds gone l).looks ≡ 0
  unfolding pairs_from
  pairs-none [] gone = refl
  pairs-none (e ∷ l) gone = at_cut (cut (shares e.gate) gone) (λ d. pairs-none l d)
    where
      f : List (Cell A) → Done A
      f d = pairs_from kinds d l

      at-if : (c : Cut A) (b : Bool) → ((d : List (Cell A)) → (pairs_from kinds d l).looks ≡ 0) →
          (pair-if f gone e c b).looks ≡ 0
      at-if c true h = h _
      at-if c false h = h _

      at_cut : (o : Option (Cut A)) → ((d : List (Cell A)) → (pairs_from kinds d l).looks ≡ 0) →
          (pair-with kinds f gone e o).looks ≡ 0
      at_cut none h = h _
      at_cut (some c) h = at-if c (cancels kinds c.here.gate e.gate) h

  next-h-none : (n w i : ℕ) (l : List (Cell A)) → (next_h_from n w i l).looks ≡ 0
  unfolding next_h_from
  next-h-none zero w i l = refl
  next-h-none (suc n) w i [] = refl
  next-h-none (suc n) w i (e ∷ l) = at_open (is_h_on w e.gate) (λ j m. next-h-none n w j m)
    where
      Ih : Type 0
      Ih = (j : ℕ) (m : List (Cell A)) → (next_h_from n w j m).looks ≡ 0

      at_new : (c : Cut A) (o : Option (List (Cell A))) → Ih → (had-new (next_h_from n w) i e l c o).looks ≡ 0
      at_new c none h = h _ _
      at_new c (some m) h = h _ _

      at-close : (o : Option (Cut A)) → Ih → (had-close (next_h_from n w) i e l o).looks ≡ 0
      at-close none h = h _ _
      at-close (some c) h = at_new c (change3 e c.before c.here) h

      at_open : (b : Bool) → Ih → (had_open (next_h_from n w) w i e l b).looks ≡ 0
      at_open true h = at-close (cut (is_h_on w) l) h
      at_open false h = h _ _

  pub pair-none : None (pair_sweep kinds)
  unfolding pair_sweep
  pair-none l = pairs-none l []

  next-h-sweep-none : (n : ℕ) → None (next_h_sweep n)
  unfolding next_h_sweep
  next-h-sweep-none zero l = refl
  next-h-sweep-none (suc w) l = followed-none (next_h_sweep w) (λ m. next_h_from (length m) w 0 m) (next-h-sweep-none w)
      (λ m. next-h-none (length m) w 0 m) l

  pub hadamard-none : (n : ℕ) → None (hadamard_sweep n)
  hadamard-none n l = ap (λ d. d.looks) (hadamard-next-h n l) ∙ next-h-sweep-none n l

  none_then : (g b k : ℕ) (f h : Sweep A) → Replays kinds f → None f → Few g b k h → Few g b k (followed f h)
  none_then g b k f h p z q l i = let r : Done A = h (f l).list in
      let x : r.looks ≤ (k * length r.steps + 1) * b = q (f l).list
      (omega (arith, leads-less kinds (f l).steps l (f l).list (p l))) in
      let y : length r.steps ≤ length ((f l).steps ++ r.steps) = omega (arith, length-append (f l).steps r.steps) in
      omega (arith, z l, more-steps k _ _ b r.looks y x)

  then-none : (g b k : ℕ) (f h : Sweep A) → None h → Few g b k f → Few g b k (followed f h)
  then-none g b k f h z q l i = let r : Done A = h (f l).list in
      let y : length (f l).steps ≤ length ((f l).steps ++ r.steps) = omega
      (arith, length-append (f l).steps r.steps) in
      omega (arith, z (f l).list, more-steps k _ _ b (f l).looks y (q l i))

  round-few : (g n : ℕ) → Few g (g * (3 * g)) 1 (round kinds n)
  unfolding round
  round-few g n = none_then g (g * (3 * g)) 1 (repeated (hadamard_sweep n)) (followed (repeated commuting_sweep) (pair_sweep kinds))
      (repeated-replays kinds (hadamard_sweep n) (hadamard-replays kinds n)) (repeated-none (hadamard_sweep n) (hadamard-none n))
      (then-none g (g * (3 * g)) 1 (repeated commuting_sweep) (pair_sweep kinds) pair-none (repeated-few g (g * (3 * g)) 0 commuting_sweep (commuting-replays kinds) (com-few g)))

  pub pass-few : (g n : ℕ) → Few g (g * (3 * g)) 2 (pass kinds n)
  unfolding pass
  pass-few g n = none_then g (g * (3 * g)) 2 (pair_sweep kinds) (repeated (round kinds n)) (pair-replays kinds) pair-none
      (repeated-few g (g * (3 * g)) 1 (round kinds n) (round-replays kinds n) (round-few g n))

  hs-few : (l : List (Cell A)) → h_count l ≤ length l
  unfolding h_count
  hs-few [] = omega arith
  hs-few (e ∷ l) = go (is_h e.gate) (hs-few l)
    where
      go : (b : Bool) → h_count l ≤ length l → cond b 1 0 + h_count l ≤ suc (length l)
      go true h = omega arith
      go false h = omega arith

  -- "walked, the gates examined by commuting walks (64 bits, to be shown enough)"
  pub walked-bound : (n : ℕ) (l : List (Cell A)) → length l ≤ 1048576 → (pass kinds n l).looks < 2 ^ 64
  walked-bound n l h = omega (arith, pass-few 1048576 n l h, steps-bound kinds n l, hs-few l)
