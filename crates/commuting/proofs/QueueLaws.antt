-- A walk over a queue of tracks, and the queue that an array of nodes stands for: in a round, from one operand on, those of the
-- operands after it come first and then those before it, each of which has had its look.
use mathlib.Core.Path.{◌≡◌, refl, sym, ap, ap₂, subst, ◌∙◌}
use mathlib.Core.Bool.{Bool, true, false, cond}
use mathlib.Core.List.{List, [], ◌∷◌, ◌++◌, append-nil, append_assoc}
use Prim.Native.Nat.{ℕ, zero, suc, ◌+◌, ◌<◌}
use native.Mathlib.Omega.{arith}
use lib.Dec.{eqb}
use lib.ListN.{length, get_or, set, length-set}
use lib.Seq.{get_or-set_same}
use borrow.Author.Tests.{eq-eqb, ne_eqb}
use Rattle.gates.specs.declared.Gate.{Gate}
use Rattle.rules.specs.MayPass.{may_pass}
use Rattle.rules.specs.Sweeps.{Walk, reached, blocked, short, more, walk, room}

-- ------------------------------------------------------------ a walk with the fuel that it needs

abbrev pub walk_of : Gate → List (List Gate) → Walk
walk_of p ts = walk (room ts) p ts

-- What looks before it add to a walk's.
abbrev pub adds : ℕ → Walk → Walk
adds n (reached k) = reached (n + k)
adds n (blocked k) = blocked (n + k)
adds n (short k) = short (n + k)

pub adds_none : (w : Walk) → w ≡ adds 0 w
adds_none (reached k) = ap reached (omega arith)
adds_none (blocked k) = ap blocked (omega arith)
adds_none (short k) = ap short (omega arith)

pub adds-more : (n : ℕ) (w : Walk) → adds n (more w) ≡ adds (n + 1) w
adds-more n (reached k) = ap reached (omega arith)
adds-more n (blocked k) = ap blocked (omega arith)
adds-more n (short k) = ap short (omega arith)

pub room-append : (ts us : List (List Gate)) → room (ts ++ us) ≡ room ts + room us
unfolding room
room-append [] us = omega arith
room-append (t ∷ ts) us = omega (arith, room-append ts us)

pub room-one : (t : List Gate) (ts : List (List Gate)) → room (t ∷ ts) ≡ suc (length t) + room ts
unfolding room
room-one t ts = refl

pub room-none : room [] ≡ 0
unfolding room
room-none = refl

pub walk_none : (p : Gate) → walk_of p [] ≡ reached 0
unfolding walk room
walk_none p = refl

fuel : (p : Gate) (t : List Gate) (ts : List (List Gate)) (n : ℕ) → room (t ∷ ts) ≡ suc n → walk_of p (t ∷ ts) ≡ walk (suc n) p (t ∷ ts)
fuel p t ts n e = ap (λ (n : ℕ). walk n p (t ∷ ts)) e

-- The partner is reached on a track.
pub walk-done : (p : Gate) (ts : List (List Gate)) → walk_of p ([] ∷ ts) ≡ more (walk_of p ts)
unfolding walk
walk-done p ts = fuel p [] ts (room ts) (omega (arith, room-one [] ts))

-- A gate may pass, or blocks.
walk-on : (p g : Gate) (t : List Gate) (ts : List (List Gate)) →
    walk_of p ((g ∷ t) ∷ ts) ≡ cond (may_pass p g) (more (walk_of p (ts ++ (t ∷ [])))) (blocked 1)
unfolding walk
walk-on p g t ts = fuel p (g ∷ t) ts (room (ts ++ (t ∷ [])))
    (omega (arith, room-one (g ∷ t) ts, room-append ts (t ∷ []), room-one t [], room-none))

pub walk-passed : (p g : Gate) (t : List Gate) (ts : List (List Gate)) → may_pass p g ≡ true →
    walk_of p ((g ∷ t) ∷ ts) ≡ more (walk_of p (ts ++ (t ∷ [])))
walk-passed p g t ts e = walk-on p g t ts ∙ ap (λ (b : Bool). cond b (more (walk_of p (ts ++ (t ∷ [])))) (blocked 1)) e

pub walk-blocked : (p g : Gate) (t : List Gate) (ts : List (List Gate)) → may_pass p g ≡ false →
    walk_of p ((g ∷ t) ∷ ts) ≡ blocked 1
walk-blocked p g t ts e = walk-on p g t ts ∙ ap (λ (b : Bool). cond b (more (walk_of p (ts ++ (t ∷ [])))) (blocked 1)) e

-- ------------------------------------------------------------ the queue of an array of nodes

module _ (track_of : ℕ → ℕ → List Gate) where
  -- A node of 0 is a finished track's.
  abbrev pub open_of : ℕ → ℕ → List (List Gate)
  open_of w node = cond (eqb node 0) [] (track_of w node ∷ [])

  abbrev pub opens : List ℕ → List ℕ → List (List Gate)
  opens [] at = []
  opens (w ∷ ws) [] = []
  opens (w ∷ ws) (node ∷ at) = open_of w node ++ opens ws at

  -- Of the operands from one on, and of those before it.
  abbrev ahead : ℕ → List ℕ → List ℕ → List (List Gate)
  ahead zero ws at = opens ws at
  ahead (suc op) [] at = []
  ahead (suc op) (w ∷ ws) [] = []
  ahead (suc op) (w ∷ ws) (node ∷ at) = ahead op ws at

  abbrev behind : ℕ → List ℕ → List ℕ → List (List Gate)
  behind zero ws at = []
  behind (suc op) [] at = []
  behind (suc op) (w ∷ ws) [] = []
  behind (suc op) (w ∷ ws) (node ∷ at) = open_of w node ++ behind op ws at

  unfoldable pub queue : ℕ → List ℕ → List ℕ → List (List Gate)
  queue op ws at = ahead op ws at ++ behind op ws at

  pub open_none : (w node : ℕ) → node ≡ 0 → open_of w node ≡ []
  open_none w node e = ap (λ (b : Bool). cond b [] (track_of w node ∷ [])) (eq-eqb node 0 e)

  pub open-one : (w node : ℕ) → (node ≡ 0 → ⊥) → open_of w node ≡ track_of w node ∷ []
  open-one w node d = ap (λ (b : Bool). cond b [] (track_of w node ∷ [])) (ne_eqb node 0 d)

  ahead-here : (op : ℕ) (ws at : List ℕ) → op < length ws → op < length at →
      ahead op ws at ≡ open_of (get_or ws op 0) (get_or at op 0) ++ ahead (suc op) ws at
  ahead-here op [] at l m = absurd (omega arith)
  ahead-here op (w ∷ ws) [] l m = absurd (omega arith)
  ahead-here zero (w ∷ ws) (node ∷ at) l m = refl
  ahead-here (suc op) (w ∷ ws) (node ∷ at) l m = ahead-here op ws at (omega arith) (omega arith)

  ahead-set : (op : ℕ) (ws at : List ℕ) (node : ℕ) → ahead (suc op) ws (set at op node) ≡ ahead (suc op) ws at
  ahead-set op [] at node = refl
  ahead-set op (w ∷ ws) [] node = refl
  ahead-set zero (w ∷ ws) (was ∷ at) node = refl
  ahead-set (suc op) (w ∷ ws) (was ∷ at) node = ahead-set op ws at node

  behind_more : (op : ℕ) (ws at : List ℕ) → op < length ws → op < length at →
      behind (suc op) ws at ≡ behind op ws at ++ open_of (get_or ws op 0) (get_or at op 0)
  behind_more op [] at l m = absurd (omega arith)
  behind_more op (w ∷ ws) [] l m = absurd (omega arith)
  behind_more zero (w ∷ ws) (node ∷ at) l m = append-nil (open_of w node)
  behind_more (suc op) (w ∷ ws) (node ∷ at) l m =
      ap (λ (ts : List (List Gate)). open_of w node ++ ts) (behind_more op ws at (omega arith) (omega arith))
      ∙ sym (append_assoc (open_of w node) (behind op ws at) (open_of (get_or ws op 0) (get_or at op 0)))

  behind-set : (op : ℕ) (ws at : List ℕ) (node : ℕ) → behind op ws (set at op node) ≡ behind op ws at
  behind-set zero ws at node = refl
  behind-set (suc op) [] at node = refl
  behind-set (suc op) (w ∷ ws) [] node = refl
  behind-set (suc op) (w ∷ ws) (was ∷ at) node = ap (λ (ts : List (List Gate)). open_of w was ++ ts) (behind-set op ws at node)

  ahead_none : (ws at : List ℕ) → ahead (length ws) ws at ≡ []
  ahead_none [] at = refl
  ahead_none (w ∷ ws) [] = refl
  ahead_none (w ∷ ws) (node ∷ at) = ahead_none ws at

  behind-all : (ws at : List ℕ) → behind (length ws) ws at ≡ opens ws at
  behind-all [] at = refl
  behind-all (w ∷ ws) [] = refl
  behind-all (w ∷ ws) (node ∷ at) = ap (λ (ts : List (List Gate)). open_of w node ++ ts) (behind-all ws at)

  -- ------------------------------------------------------------ one operand's turn

  module _ (op : ℕ) (ws at : List ℕ) where
    -- The queue but for the operand whose turn it is.
    unfoldable pub others : List (List Gate)
    others = ahead (suc op) ws at ++ behind op ws at

    pub queue-here : op < length ws → op < length at → queue op ws at ≡ open_of (get_or ws op 0) (get_or at op 0) ++ others
    unfolding queue others
    queue-here l m =
        ap (λ (ts : List (List Gate)). ts ++ behind op ws at) (ahead-here op ws at l m)
        ∙ append_assoc (open_of (get_or ws op 0) (get_or at op 0)) (ahead (suc op) ws at) (behind op ws at)

    pub queue-stays : op < length ws → op < length at → queue (suc op) ws at ≡ others ++ open_of (get_or ws op 0) (get_or at op 0)
    unfolding queue others
    queue-stays l m =
        ap (λ (ts : List (List Gate)). ahead (suc op) ws at ++ ts) (behind_more op ws at l m)
        ∙ sym (append_assoc (ahead (suc op) ws at) (behind op ws at) (open_of (get_or ws op 0) (get_or at op 0)))

    pub queue-set : (node : ℕ) → op < length ws → op < length at →
        queue (suc op) ws (set at op node) ≡ others ++ open_of (get_or ws op 0) node
    unfolding queue others
    queue-set node l m =
        ap₂ ◌++◌ (ahead-set op ws at node)
        (behind_more op ws (set at op node) l (subst (λ (n : ℕ). op < n) (sym (length-set at op node)) m)
        ∙ ap₂ (λ (ts : List (List Gate)) (n : ℕ). ts ++ open_of (get_or ws op 0) n) (behind-set op ws at node) (get_or-set_same at op node 0 m))
        ∙ sym (append_assoc (ahead (suc op) ws at) (behind op ws at) (open_of (get_or ws op 0) node))

  -- ------------------------------------------------------------ a round

  pub queue-start : (ws at : List ℕ) → queue 0 ws at ≡ opens ws at
  unfolding queue
  queue-start ws at = append-nil (opens ws at)

  pub queue-round : (ws at : List ℕ) → queue (length ws) ws at ≡ queue 0 ws at
  unfolding queue
  queue-round ws at =
      ap (λ (ts : List (List Gate)). ts ++ behind (length ws) ws at) (ahead_none ws at) ∙ behind-all ws at ∙ sym (queue-start ws at)

  opens-none : (ws at : List ℕ) → ((i : ℕ) → i < length ws → get_or at i 0 ≡ 0) → opens ws at ≡ []
  opens-none [] at h = refl
  opens-none (w ∷ ws) [] h = refl
  opens-none (w ∷ ws) (node ∷ at) h =
      ap₂ ◌++◌ (open_none w node (h 0 (omega arith))) (opens-none ws at (λ i l. h (suc i) (omega arith)))

  pub queue-none : (ws at : List ℕ) → ((i : ℕ) → i < length ws → get_or at i 0 ≡ 0) → queue 0 ws at ≡ []
  queue-none ws at h = queue-start ws at ∙ opens-none ws at h
