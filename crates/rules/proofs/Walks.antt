-- A walk reaches the partner on every track exactly when every gate between may pass.
use mathlib.Core.Path.{◌≡◌, refl, sym, ◌∙◌, ap, ap₂, subst}
use mathlib.Core.Bool.{Bool, true, false, not, cond, ◌||◌, ◌&&◌}
use mathlib.Core.List.{List, [], ◌∷◌, ◌++◌}
use Prim.Native.Nat.{ℕ, zero, suc, ◌+◌, ◌≤◌}
use native.Mathlib.Omega.{arith}
use lib.ListN.{length}
use Rattle.gates.specs.declared.Gate.{Gate}
use Rattle.gates.specs.Gates.{wires_of, meet, shares, touches}
use Rattle.rules.specs.Equal.{canonical}
use Rattle.rules.specs.MayPass.{class_of, past, may_pass}
use Rattle.rules.specs.Steps.{Cell, all, track}
use Rattle.rules.specs.Sweeps.{Walk, reached, blocked, short, more, walk, room, tracks, walk_past}
use Rattle.rules.proofs.Names.{walk-on}
use Rattle.rules.proofs.EqualLaws.{canonical-meet}
use Rattle.rules.proofs.Cuts.{all-and, all_same}

-- every gate of a track passes; of every track
abbrev free : Gate → List Gate → Bool
free p [] = true
free p (g ∷ t) = may_pass p g && free p t

abbrev free_all : Gate → List (List Gate) → Bool
free_all p [] = true
free_all p (t ∷ ts) = free p t && free_all p ts

-- what an answer says: f, whether every gate passes; r, the most looks
abbrev pub Outcome : Bool → ℕ → Walk → Type 0
Outcome f r (reached k) = (f ≡ true) × (k ≡ r)
Outcome f r (blocked k) = (f ≡ false) × (k ≤ r)
Outcome f r (short k) = ⊥

abbrev pub is_reached : Walk → Bool
is_reached (reached k) = true
is_reached (blocked k) = false
is_reached (short k) = false

more-outcome : (f : Bool) (r : ℕ) (w : Walk) → Outcome f r w → Outcome f (suc r) (more w)
more-outcome f r (reached k) o = (o.0, ap suc o.1)
more-outcome f r (blocked k) o = (o.0, omega arith)
more-outcome f r (short k) o = o

room-append : (ts : List (List Gate)) (t : List Gate) → room (ts ++ (t ∷ [])) ≡ suc (length t) + room ts
unfolding room
room-append [] t = refl
room-append (u ∷ ts) t = omega (arith, room-append ts t)

and-swap : (a b c : Bool) → a && (b && c) ≡ b && (a && c)
and-swap true b c = refl
and-swap false true c = refl
and-swap false false c = refl

free-append : (p : Gate) (ts : List (List Gate)) (t : List Gate) → free_all p (ts ++ (t ∷ [])) ≡ free p t && free_all p ts
free-append p [] t = refl
free-append p (u ∷ ts) t = ap (λ b. free p u && b) (free-append p ts t) ∙ and-swap (free p u) (free p t) (free_all p ts)

walk_is_lem : (n : ℕ) (p : Gate) (ts : List (List Gate)) → room ts ≤ n → Outcome (free_all p ts) (room ts) (walk n p ts)
unfolding walk room
walk_is_lem zero p [] h = (refl, refl)
walk_is_lem zero p (t ∷ ts) h = absurd (omega arith)
walk_is_lem (suc n) p [] h = (refl, refl)
walk_is_lem (suc n) p ([] ∷ ts) h = subst (λ r. Outcome (free_all p ts) r (more (walk n p ts))) (omega arith)
    (more-outcome _ _ (walk n p ts) (walk_is_lem n p ts (omega arith)))
walk_is_lem (suc n) p ((g ∷ t) ∷ ts) h = go (may_pass p g) (λ h. walk_is_lem n p (ts ++ (t ∷ [])) h)
  where
    r : ℕ
    r = room (ts ++ (t ∷ []))

    go : (b : Bool) → (r ≤ n → Outcome (free_all p (ts ++ (t ∷ []))) r (walk n p (ts ++ (t ∷ [])))) →
        Outcome (b && free p t && free_all p ts) (suc (suc (length t)) + room ts) (walk-on (walk n p) ts t b)
    go false ih = (refl, omega arith)
    go true ih = subst (λ k. Outcome (free p t && free_all p ts) k (more (walk n p (ts ++ (t ∷ [])))))
        (omega (arith, room-append ts t))
        (more-outcome _ r (walk n p (ts ++ (t ∷ []))) (subst (λ f. Outcome f r (walk n p (ts ++ (t ∷ [])))) (free-append p ts t) (ih (omega (arith, room-append ts t)))))

-- ------------------------------------------------------------ the tracks of a pair hold the gates that share a wire with it

abbrev on-meet : Gate → List ℕ → Gate → Bool
on-meet p ws g = not (meet ws (wires_of g)) || may_pass p g

module _ {A : Type 0} where
  track-free : (p : Gate) (w : ℕ) (m : List (Cell A)) → free p (track w m) ≡ all (λ g. not (touches w g) || may_pass p g) m
  unfolding track
  track-free p w [] = refl
  track-free p w (e ∷ m) = go (touches w e.gate) (track-free p w m)
    where
      go : (b : Bool) → free p (track w m) ≡ all (λ g. not (touches w g) || may_pass p g) m →
          free p (cond b (e.gate ∷ track w m) (track w m)) ≡ (not b || may_pass p e.gate) && all
          (λ g. not (touches w g) || may_pass p g) m
      go true ih = ap (λ f. may_pass p e.gate && f) ih
      go false ih = ih

  all_true : (m : List (Cell A)) → all (λ g. true) m ≡ true
  all_true [] = refl
  all_true (e ∷ m) = all_true m

  tracks-free : (p : Gate) (ws : List ℕ) (m : List (Cell A)) → free_all p (tracks ws m) ≡ all (on-meet p ws) m
  unfolding tracks meet
  tracks-free p [] m = sym (all_true m)
  tracks-free p (w ∷ ws) m = ap₂ ◌&&◌ (track-free p w m) (tracks-free p ws m) ∙ all-and _ _ m
      ∙ all_same _ _ m (λ g. go (touches w g) (meet ws (wires_of g)) (may_pass p g))
    where
      go : (a b c : Bool) → (not a || c) && (not b || c) ≡ not (a || b) || c
      go true true true = refl
      go true true false = refl
      go true false true = refl
      go true false false = refl
      go false true c = refl
      go false false c = refl

  pub all-free : (p : Gate) (m : List (Cell A)) → free_all p (tracks (canonical p) m) ≡ all (may_pass p) m
  all-free p m = tracks-free p (canonical p) m ∙ all_same _ _ m λ g.
      ap (λ b. not b || may_pass p g) (canonical-meet p (wires_of g)) ∙ go (shares p g) (past (class_of p) (class_of g))
    where
      go : (a b : Bool) → not a || (not a || b) ≡ not a || b
      go true b = refl
      go false b = refl

  -- the walk past the gates m between the pair p and its partner
  pub walk-past-is : (p : Gate) (m : List (Cell A)) → Outcome (all (may_pass p) m) (room (tracks (canonical p) m)) (walk_past p m)
  unfolding walk_past
  walk-past-is p m = subst (λ f. Outcome f (room (tracks (canonical p) m)) (walk_past p m)) (all-free p m)
      (walk_is_lem (room (tracks (canonical p) m)) p (tracks (canonical p) m) (omega arith))

  -- A walk reaches its partner exactly when every gate between that shares a wire passes.
  pub reached-exactly : (p : Gate) (m : List (Cell A)) → is_reached (walk_past p m) ≡ all (may_pass p) m
  reached-exactly p m = go (walk_past p m) (walk-past-is p m)
    where
      go : (w : Walk) → Outcome (all (may_pass p) m) (room (tracks (canonical p) m)) w → is_reached w ≡ all (may_pass p) m
      go (reached k) o = sym o.0
      go (blocked k) o = sym o.0
      go (short k) o = absurd o
