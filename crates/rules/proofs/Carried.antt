-- What stands beside a gate rides along: sweeps, steps and replay do the same whatever it is.
use mathlib.Core.Path.{◌≡◌, refl, sym, ◌∙◌, ap, ap₂}
use mathlib.Core.Bool.{Bool, true, false, not, cond, ◌&&◌}
use mathlib.Core.List.{List, [], ◌∷◌, ◌++◌, map, reverse_aux}
use mathlib.Core.Option.{Option, some, none}
use Prim.Native.Nat.{ℕ, zero, suc, ◌+◌, ◌-◌}
use lib.ListN.{length}
use lib.Dec.{eqb}
use Rattle.gates.specs.declared.Gate.{Gate}
use Rattle.gates.specs.Gates.{wire, wires_of, shares, touches}
use Rattle.gates.specs.Records.{is_h}
use Rattle.rules.specs.Equal.{canonical, equal, cancels, is_pair}
use Rattle.rules.specs.Runs.{Rewrite, is_h_on, rewrite_of}
use Rattle.rules.specs.MayPass.{may_pass}
use Rattle.rules.specs.Steps.{Cell, Step, in_form, Cut, onto, first_of, all, track, off_wire, put, put_first, change1, change2, change3, change, cut_at, act}
use Rattle.rules.specs.Journal.{Replayed, replayed, refused_at, replay_from}
use Rattle.rules.specs.Sweeps.{Done, Sweep, Walk, reached, blocked, short, idle, stay, fire, walked, cut, pairs_from, pair_sweep, walk, room, tracks, walk_past, commuting_from, commuting_sweep, and, followed, hadamard_sweep}
use Rattle.rules.specs.Loop.{again_if, repeat, h_count, size, repeated, round, pass}
use Rattle.rules.proofs.Names.{if, if-h, rewritten, joined, to_last, to-first, then, pair-if, pair-with, com-walk, com-with, com-open}
use Rattle.rules.proofs.NextH.{had-new, had-close, had_open, next_h_from, next_h_sweep}
use Rattle.rules.proofs.HadamardForm.{hadamard-next-h}

module _ {A B : Type 0} (φ : A → B) where
  abbrev pub re : Cell A → Cell B
  re e = record { gate = e.gate; beside = φ e.beside }

  abbrev pub res : List (Cell A) → List (Cell B)
  res l = map re l

  abbrev re-list : Option (List (Cell A)) → Option (List (Cell B))
  re-list none = none
  re-list (some l) = some (res l)

  abbrev re-at : Cut A → Cut B
  re-at c = record { before = res c.before; here = re c.here; after = res c.after }

  abbrev re-cut : Option (Cut A) → Option (Cut B)
  re-cut none = none
  re-cut (some c) = some (re-at c)

  abbrev pub re-done : Done A → Done B
  re-done d = record { list = res d.list; steps = d.steps; looks = d.looks }

  -- ------------------------------------------------------------ lists

  res-append : (l m : List (Cell A)) → res l ++ res m ≡ res (l ++ m)
  res-append [] m = refl
  res-append (e ∷ l) m = ap (◌∷◌ (re e)) (res-append l m)

  res-reverse : (l m : List (Cell A)) → reverse_aux (res l) (res m) ≡ res (reverse_aux l m)
  res-reverse [] m = refl
  res-reverse (e ∷ l) m = res-reverse l (e ∷ m)

  res-length : (l : List (Cell A)) → length (res l) ≡ length l
  res-length [] = refl
  res-length (e ∷ l) = ap suc (res-length l)

  res-all : (q : Gate → Bool) (l : List (Cell A)) → all q (res l) ≡ all q l
  res-all q [] = refl
  res-all q (e ∷ l) = ap (λ b. q e.gate && b) (res-all q l)

  res-track : (w : ℕ) (l : List (Cell A)) → track w (res l) ≡ track w l
  unfolding track
  res-track w [] = refl
  res-track w (e ∷ l) = ap (λ t. cond (touches w e.gate) (e.gate ∷ t) t) (res-track w l)

  res-hs : (l : List (Cell A)) → h_count (res l) ≡ h_count l
  unfolding h_count
  res-hs [] = refl
  res-hs (e ∷ l) = ap (λ n. cond (is_h e.gate) 1 0 + n) (res-hs l)

  res-apart : (w : ℕ) (l : List (Cell A)) → off_wire w (res l) ≡ res (off_wire w l)
  unfolding off_wire
  res-apart w [] = refl
  res-apart w (e ∷ l) = go (touches w e.gate) (res-apart w l)
    where
      go : (b : Bool) → off_wire w (res l) ≡ res (off_wire w l) →
          cond b (off_wire w (res l)) (re e ∷ off_wire w (res l)) ≡ res (cond b (off_wire w l) (e ∷ off_wire w l))
      go true h = h
      go false h = ap (◌∷◌ (re e)) h

  res-put : (o : Option Gate) (e : Cell A) (l : List (Cell A)) → put o (re e) (res l) ≡ res (put o e l)
  res-put none e l = refl
  res-put (some g) e l = refl

  res-first : (w : ℕ) (o : Option Gate) (l : List (Cell A)) → put_first w o (res l) ≡ res (put_first w o l)
  unfolding put_first
  res-first w o [] = refl
  res-first w o (e ∷ l) = go (touches w e.gate) (res-first w o l)
    where
      go : (b : Bool) → put_first w o (res l) ≡ res (put_first w o l) →
          cond b (put o (re e) (off_wire w (res l))) (re e ∷ put_first w o (res l)) ≡ res
          (cond b (put o e (off_wire w l)) (e ∷ put_first w o l))
      go true h = ap (put o (re e)) (res-apart w l) ∙ res-put o e (off_wire w l)
      go false h = ap (◌∷◌ (re e)) h

  -- ------------------------------------------------------------ a step

  if-re : (b : Bool) (m : List (Cell A)) → if b (res m) ≡ re-list (if b m)
  if-re true m = refl
  if-re false m = refl

  if-h-re : (b : Bool) (o : Option (List (Cell A))) → if-h b (re-list o) ≡ re-list (if-h b o)
  if-h-re true o = refl
  if-h-re false o = refl

  rewritten-re : (w : ℕ) (e : Cell A) (m : List (Cell A)) (f : Cell A) (o : Option Rewrite) →
      rewritten w (re e) (res m) (re f) o ≡ re-list (rewritten w e m f o)
  rewritten-re w e m f none = refl
  rewritten-re w e m f (some s) = ap some (
      ap₂ (λ x y. put s.ends (re e) (x ++ y)) (res-first w s.first m) (res-put s.ends f [])
      ∙ ap (put s.ends (re e)) (res-append (put_first w s.first m) (put s.ends f []))
      ∙ res-put s.ends e (put_first w s.first m ++ put s.ends f []))

  change3-re : (e : Cell A) (m : List (Cell A)) (f : Cell A) → change3 (re e) (res m) (re f) ≡ re-list (change3 e m f)
  change3-re e m f =
      let w : ℕ = first_of (wires_of e.gate) in
      ap (λ t. if-h (is_h e.gate && is_h_on w f.gate) (rewritten w (re e) (res m) (re f) (rewrite_of (wire w) t)))
      (res-track w m)
      ∙ ap (if-h (is_h e.gate && is_h_on w f.gate)) (rewritten-re w e m f (rewrite_of (wire w) (track w m)))
      ∙ if-h-re (is_h e.gate && is_h_on w f.gate) (rewritten w e m f (rewrite_of (wire w) (track w m)))

  pub change-re : (kinds : List ℕ) (k : ℕ) (e : Cell A) (m : List (Cell A)) (f : Cell A) →
      change kinds k (re e) (res m) (re f) ≡ re-list (change kinds k e m f)
  unfolding change
  change-re kinds k e m f = go (eqb k 1) (eqb k 2) (eqb k 3)
    where
      go : (a b c : Bool) →
          cond a (change1 kinds (re e) (res m) (re f))
          (cond b (change2 (re e) (res m) (re f)) (cond c (change3 (re e) (res m) (re f)) none)) ≡
          re-list (cond a (change1 kinds e m f) (cond b (change2 e m f) (cond c (change3 e m f) none)))
      go true b c = ap (λ x. if (cancels kinds e.gate f.gate && x) (res m)) (res-all (λ g. not (shares f.gate g)) m)
          ∙ if-re (cancels kinds e.gate f.gate && all (λ g. not (shares f.gate g)) m) m
      go false true c = ap (λ x. if (is_pair e.gate && (equal e.gate f.gate && x)) (res m))
          (res-all (may_pass e.gate) m)
          ∙ if-re (is_pair e.gate && (equal e.gate f.gate && all (may_pass e.gate) m)) m
      go false false true = change3-re e m f
      go false false false = refl

  -- ------------------------------------------------------------ the sweeps

  onto-re : (e : Cell A) (o : Option (Cut A)) → onto (re e) (re-cut o) ≡ re-cut (onto e o)
  onto-re e none = refl
  onto-re e (some c) = refl

  cut-re : (p : Gate → Bool) (l : List (Cell A)) → cut p (res l) ≡ re-cut (cut p l)
  unfolding cut
  cut-re p [] = refl
  cut-re p (e ∷ l) = go (p e.gate) (cut-re p l)
    where
      go : (b : Bool) → cut p (res l) ≡ re-cut (cut p l) →
          cond b (some (record { before = []; here = re e; after = res l })) (onto (re e) (cut p (res l))) ≡ re-cut
          (cond b (some (record { before = []; here = e; after = l })) (onto e (cut p l)))
      go true h = refl
      go false h = ap (onto (re e)) h ∙ onto-re e (cut p l)

  stay-re : (m : List (Cell A)) (d : Done A) → stay (res m) (re-done d) ≡ re-done (stay m d)
  stay-re m d = λ i. record { list = res-append m d.list i; steps = d.steps; looks = d.looks }

  pairs-re : (kinds : List ℕ) (l gone : List (Cell A)) → pairs_from kinds (res gone) (res l) ≡ re-done (pairs_from kinds gone l)
  unfolding pairs_from
  pairs-re kinds [] gone = ap idle (res-reverse gone [])
  pairs-re kinds (e ∷ l) gone = ap (pair-with kinds (λ d. pairs_from kinds d (res l)) (res gone) (re e))
      (cut-re (shares e.gate) gone) ∙ at_cut (cut (shares e.gate) gone) (λ d. pairs-re kinds l d)
    where
      Ih : Type 0
      Ih = (d : List (Cell A)) → pairs_from kinds (res d) (res l) ≡ re-done (pairs_from kinds d l)

      at-if : (c : Cut A) (b : Bool) → Ih →
          pair-if (λ d. pairs_from kinds d (res l)) (res gone) (re e)
          (re-at c) b ≡ re-done
          (pair-if (λ d. pairs_from kinds d l) gone e c b)
      at-if c true h = λ i. fire 1 (res-length c.after i) (res-length gone i)
          ((ap (λ x. pairs_from kinds x (res l)) (res-append c.before c.after) ∙ h (c.before ++ c.after)) i)
      at-if c false h = h (e ∷ gone)

      at_cut : (o : Option (Cut A)) → Ih →
          pair-with kinds (λ d. pairs_from kinds d (res l)) (res gone) (re e) (re-cut o) ≡ re-done
          (pair-with kinds (λ d. pairs_from kinds d l) gone e o)
      at_cut none h = h (e ∷ gone)
      at_cut (some c) h = at-if c (cancels kinds c.here.gate e.gate) h

  next-h-re : (n w i : ℕ) (l : List (Cell A)) → next_h_from n w i (res l) ≡ re-done (next_h_from n w i l)
  unfolding next_h_from
  next-h-re zero w i l = refl
  next-h-re (suc n) w i [] = refl
  next-h-re (suc n) w i (e ∷ l) = at_open (is_h_on w e.gate) (λ j m. next-h-re n w j m)
    where
      Ih : Type 0
      Ih = (j : ℕ) (m : List (Cell A)) → next_h_from n w j (res m) ≡ re-done (next_h_from n w j m)

      stays : Ih → stay (re e ∷ []) (next_h_from n w (suc i) (res l)) ≡ re-done (stay (e ∷ []) (next_h_from n w (suc i) l))
      stays h = ap (stay (re e ∷ [])) (h (suc i) l)

      at_new : (c : Cut A) (o : Option (List (Cell A))) → Ih →
          had-new (next_h_from n w) i (re e) (res l) (re-at c)
          (re-list o) ≡ re-done (had-new (next_h_from n w) i e l c o)
      at_new c none h = stays h
      at_new c (some m) h = λ x. fire 3 i (suc i + res-length c.before x)
          ((ap₂ (λ k d. stay (res m) (next_h_from n w (i + k) d)) (res-length m) refl ∙ ap (stay (res m)) (h (i + length m) c.after) ∙ stay-re m (next_h_from n w (i + length m) c.after)) x)

      at-close : (o : Option (Cut A)) → Ih →
          had-close (next_h_from n w) i (re e) (res l) (re-cut o) ≡ re-done (had-close (next_h_from n w) i e l o)
      at-close none h = stays h
      at-close (some c) h = ap
          (had-new (next_h_from n w) i (re e) (res l) (re-at c))
          (change3-re e c.before c.here)
          ∙ at_new c (change3 e c.before c.here) h

      at_open : (b : Bool) → Ih → had_open (next_h_from n w) w i (re e) (res l) b ≡ re-done (had_open (next_h_from n w) w i e l b)
      at_open true h = ap (had-close (next_h_from n w) i (re e) (res l)) (cut-re (is_h_on w) l) ∙ at-close (cut (is_h_on w) l) h
      at_open false h = stays h

  tracks-re : (ws : List ℕ) (m : List (Cell A)) → tracks ws (res m) ≡ tracks ws m
  unfolding tracks
  tracks-re [] m = refl
  tracks-re (w ∷ ws) m = ap₂ ◌∷◌ (res-track w m) (tracks-re ws m)

  walk-re : (p : Gate) (m : List (Cell A)) → walk_past p (res m) ≡ walk_past p m
  unfolding walk_past
  walk-re p m = ap (λ ts. walk (room ts) p ts) (tracks-re (canonical p) m)

  walked-re : (w : Walk) (goes stays : Done A) → walked w (re-done goes) (re-done stays) ≡ re-done (walked w goes stays)
  walked-re (reached n) goes stays = refl
  walked-re (blocked n) goes stays = refl
  walked-re (short n) goes stays = refl

  commuting-from-re : (n i : ℕ) (l : List (Cell A)) → commuting_from n i (res l) ≡ re-done (commuting_from n i l)
  unfolding commuting_from
  commuting-from-re zero i l = refl
  commuting-from-re (suc n) i [] = refl
  commuting-from-re (suc n) i (e ∷ l) = at_open (is_pair e.gate) (λ j m. commuting-from-re n j m)
    where
      Ih : Type 0
      Ih = (j : ℕ) (m : List (Cell A)) → commuting_from n j (res m) ≡ re-done (commuting_from n j m)

      stays : Ih → stay (re e ∷ []) (commuting_from n (suc i) (res l)) ≡ re-done (stay (e ∷ []) (commuting_from n (suc i) l))
      stays h = ap (stay (re e ∷ [])) (h (suc i) l)

      at-walk : (c : Cut A) (w : Walk) → Ih →
          com-walk (commuting_from n) i (re e) (res l)
          (re-at c) w ≡ re-done
          (com-walk (commuting_from n) i e l c w)
      at-walk c w h = (λ x. walked w (fire 2 i (suc i + res-length c.before x)
          ((ap (commuting_from n i) (res-append c.before c.after) ∙ h i (c.before ++ c.after)) x)) (stays h x))
          ∙ walked-re w _ _

      at_cut : (o : Option (Cut A)) → Ih →
          com-with (commuting_from n) i (re e) (res l) (re-cut o) ≡ re-done (com-with (commuting_from n) i e l o)
      at_cut none h = stays h
      at_cut (some c) h = ap
          (com-walk (commuting_from n) i (re e) (res l) (re-at c))
          (walk-re e.gate c.before)
          ∙ at-walk c (walk_past e.gate c.before) h

      at_open : (b : Bool) → Ih → com-open (commuting_from n) i (re e) (res l) b ≡ re-done (com-open (commuting_from n) i e l b)
      at_open true h = ap (com-with (commuting_from n) i (re e) (res l)) (cut-re (equal e.gate) l)
          ∙ at_cut (cut (equal e.gate) l) h
      at_open false h = stays h

  -- ------------------------------------------------------------ the loop

  abbrev Alike : Sweep A → Sweep B → Type 0
  Alike f g = (l : List (Cell A)) → g (res l) ≡ re-done (f l)

  followed-re : (f f' : Sweep A) (g g' : Sweep B) → Alike f g → Alike f' g' → Alike (followed f f') (followed g g')
  followed-re f f' g g' p q l = ap (λ d. and d (g' d.list)) (p l) ∙ ap (and (re-done (f l))) (q (f l).list)

  repeat-re : (n : ℕ) (f : Sweep A) (g : Sweep B) → Alike f g → Alike (repeat n f) (repeat n g)
  unfolding repeat
  repeat-re zero f g p l = refl
  repeat-re (suc n) f g p l = ap (λ d. again_if (repeat n g) d d.steps) (p l) ∙ go (f l).steps (repeat-re n f g p)
    where
      go : (s : List Step) → Alike (repeat n f) (repeat n g) →
          again_if (repeat n g) (re-done (f l)) s ≡ re-done (again_if (repeat n f) (f l) s)
      go [] h = refl
      go (x ∷ s) h = ap (and (re-done (f l))) (h (f l).list)

  repeated-re : (f : Sweep A) (g : Sweep B) → Alike f g → Alike (repeated f) (repeated g)
  unfolding repeated
  repeated-re f g p l = ap₂ (λ m n. repeat (suc (m + n)) g (res l)) (res-length l) (res-hs l) ∙ repeat-re (suc (size l)) f g p l

  pub pair-re : (kinds : List ℕ) → Alike (pair_sweep kinds) (pair_sweep kinds)
  unfolding pair_sweep
  pair-re kinds l = pairs-re kinds l []

  next-h-sweep-re : (n : ℕ) → Alike (next_h_sweep n) (next_h_sweep n)
  unfolding next_h_sweep
  next-h-sweep-re zero l = refl
  next-h-sweep-re (suc w) l = followed-re (next_h_sweep w) (λ m. next_h_from (length m) w 0 m) (next_h_sweep w)
      (λ m. next_h_from (length m) w 0 m) (next-h-sweep-re w)
      (λ m. ap (λ k. next_h_from k w 0 (res m)) (res-length m) ∙ next-h-re (length m) w 0 m) l

  pub hadamard-re : (n : ℕ) → Alike (hadamard_sweep n) (hadamard_sweep n)
  hadamard-re n l = hadamard-next-h n (res l) ∙ next-h-sweep-re n l ∙ ap re-done (sym (hadamard-next-h n l))

  pub commuting-re : Alike commuting_sweep commuting_sweep
  unfolding commuting_sweep
  commuting-re l = ap (λ k. commuting_from k 0 (res l)) (res-length l) ∙ commuting-from-re (length l) 0 l

  round-re : (kinds : List ℕ) (n : ℕ) → Alike (round kinds n) (round kinds n)
  unfolding round
  round-re kinds n =
      followed-re (repeated (hadamard_sweep n)) (followed (repeated commuting_sweep) (pair_sweep kinds))
      (repeated (hadamard_sweep n)) (followed (repeated commuting_sweep) (pair_sweep kinds))
      (repeated-re (hadamard_sweep n) (hadamard_sweep n) (hadamard-re n))
      (followed-re (repeated commuting_sweep) (pair_sweep kinds) (repeated commuting_sweep) (pair_sweep kinds)
      (repeated-re commuting_sweep commuting_sweep commuting-re) (pair-re kinds))

  -- The pass with other things beside the gates: the same gates, steps and looks, and what stands beside each position.
  pub pass-re : (kinds : List ℕ) (n : ℕ) → Alike (pass kinds n) (pass kinds n)
  unfolding pass
  pass-re kinds n = followed-re (pair_sweep kinds) (repeated (round kinds n)) (pair_sweep kinds) (repeated (round kinds n))
      (pair-re kinds)
      (repeated-re (round kinds n) (round kinds n) (round-re kinds n))

  -- ------------------------------------------------------------ steps and replay

  cut-at-re : (n : ℕ) (l : List (Cell A)) → cut_at n (res l) ≡ re-cut (cut_at n l)
  unfolding cut_at
  cut-at-re zero [] = refl
  cut-at-re (suc n) [] = refl
  cut-at-re zero (e ∷ l) = refl
  cut-at-re (suc n) (e ∷ l) = ap (onto (re e)) (cut-at-re n l) ∙ onto-re e (cut_at n l)

  pub act-re : (kinds : List ℕ) (s : Step) (l : List (Cell A)) → act kinds s (res l) ≡ re-list (act kinds s l)
  unfolding act
  act-re kinds s l =
      ap (λ o. if-h t (to-first kinds s.kind n o)) (cut-at-re s.first l) ∙ ap (if-h t) (at_first (cut_at s.first l))
      ∙ if-h-re t (to-first kinds s.kind n (cut_at s.first l))
    where
      t : Bool
      t = in_form s

      n : ℕ
      n = s.last - suc s.first

      at_join : (a b : List (Cell A)) (o : Option (List (Cell A))) → joined (res a) (res b) (re-list o) ≡ re-list (joined a b o)
      at_join a b none = refl
      at_join a b (some m) = ap some (ap (λ x. res a ++ x) (res-append m b) ∙ res-append a (m ++ b))

      at_last : (c : Cut A) (o : Option (Cut A)) →
          to_last kinds s.kind (re-at c) (re-cut o) ≡ re-list
          (to_last kinds s.kind c o)
      at_last c none = refl
      at_last c (some d) = ap (joined (res c.before) (res d.after)) (change-re kinds s.kind c.here d.before d.here)
          ∙ at_join c.before d.after (change kinds s.kind c.here d.before d.here)

      at_first : (o : Option (Cut A)) → to-first kinds s.kind n (re-cut o) ≡ re-list (to-first kinds s.kind n o)
      at_first none = refl
      at_first (some c) = ap (to_last kinds s.kind (re-at c))
          (cut-at-re n c.after) ∙ at_last c (cut_at n c.after)

  abbrev pub re-replayed : Replayed A → Replayed B
  re-replayed (replayed l) = replayed (res l)
  re-replayed (refused_at i) = refused_at i

  -- A journal with other things beside the gates: the same answer.
  pub replay-re : (kinds : List ℕ) (i : ℕ) (ss : List Step) (l : List (Cell A)) →
      replay_from kinds i ss (res l) ≡ re-replayed (replay_from kinds i ss l)
  unfolding replay_from
  replay-re kinds i [] l = refl
  replay-re kinds i (s ∷ ss) l = ap (λ o. then o i (replay_from kinds (suc i) ss)) (act-re kinds s l)
      ∙ go (act kinds s l) (λ m. replay-re kinds (suc i) ss m)
    where
      go : (o : Option (List (Cell A))) →
          ((m : List (Cell A)) → replay_from kinds (suc i) ss (res m) ≡ re-replayed (replay_from kinds (suc i) ss m)) →
          then (re-list o) i (replay_from kinds (suc i) ss) ≡ re-replayed (then o i (replay_from kinds (suc i) ss))
      go none ih = refl
      go (some m) ih = ih m
