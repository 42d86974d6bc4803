-- The three sweeps, each over the list as it stands after its steps so far. Document 01, "Sweep rules".
use Rattle.std.specs.Prelude.{Bool, true, false, not, cond, ◌&&◌, List, [], ◌∷◌, ◌++◌, reverse, ℕ, zero, suc, ◌+◌, length}
use Rattle.std.proofs.Math.Option.{Option, some, none}
use Rattle.gates.specs.declared.Gate.{Gate}
use Rattle.gates.specs.Gates.{touches, shares}
use Rattle.gates.specs.Records.{is_h}
use Rattle.rules.specs.Equal.{canonical, equal, cancels, is_pair}
use Rattle.rules.specs.Runs.{worth, is_h_on, is_x_on}
use Rattle.rules.specs.MayPass.{may_pass}
use Rattle.rules.specs.Steps.{Cell, Step, step, Cut, and_then, try, when, onto, track, change3}

-- What a sweep leaves, its steps, and the gates that its walks looked at.
pub record Done (A : Type 0) : Type 0 where
  pub list : List (Cell A)
  pub steps : List Step
  pub looks : ℕ

abbrev pub Sweep : Type 0 → Type 0
Sweep A = List (Cell A) → Done A

module _ {A : Type 0} where
  abbrev pub idle : List (Cell A) → Done A
  idle l = record { list = l; steps = []; looks = 0 }

  -- In front of what comes after: cells that stay, a step, looks.
  abbrev pub stay : List (Cell A) → Done A → Done A
  stay l d = record { list = l ++ d.list; steps = d.steps; looks = d.looks }

  abbrev pub fire : ℕ → ℕ → ℕ → Done A → Done A
  fire kind first last d = record { list = d.list; steps = step kind first last ∷ d.steps; looks = d.looks }

  abbrev pub look : ℕ → Done A → Done A
  look n d = record { list = d.list; steps = d.steps; looks = n + d.looks }

  -- One after another.
  abbrev pub and : Done A → Done A → Done A
  and c d = record { list = d.list; steps = c.steps ++ d.steps; looks = c.looks + d.looks }

  abbrev pub followed : Sweep A → Sweep A → Sweep A
  followed f g l = let c = f l in and c (g c.list)

  -- The list parted at its first gate that meets a test.
  unfoldable pub cut : (Gate → Bool) → List (Cell A) → Option (Cut A)
  cut p [] = none
  cut p (e ∷ l) = let later = onto e (cut p l) in cond (p e.gate) (some (record { before = []; here = e; after = l })) later

  -- What is left of a list when the cell at which it is parted goes.
  abbrev pub without : Cut A → List (Cell A)
  without c = c.before ++ c.after

-- ------------------------------------------------------------ pair sweep

module _ {A : Type 0} (kinds : List ℕ) where
  -- The survivors so far, the latest first, and the cells to come. "A gate's blocker is the latest surviving earlier gate that
  -- touches one of its wires. If it is an equal cancelling gate, both go."
  unfoldable pub pairs_from : List (Cell A) → List (Cell A) → Done A
  pairs_from gone [] = idle (reverse gone)
  pairs_from gone (e ∷ l) =
      let stays = pairs_from (e ∷ gone) l in
      try (cut (shares e.gate) gone) stays λ blocker.
      let goes = fire 1 (length blocker.after) (length gone) (pairs_from (without blocker) l) in
      cond (cancels kinds blocker.here.gate e.gate) goes stays

  -- "Go forward."
  unfoldable pub pair_sweep : Sweep A
  pair_sweep l = pairs_from [] l

-- ------------------------------------------------------------ Hadamard sweep

-- "the maximal run of t, s, z, sdg, tdg" on a wire ends at this gate.
abbrev pub in_run : Option ℕ → Bool
in_run none = false
in_run (some k) = true

abbrev pub ends_run : ℕ → Gate → Bool
ends_run w g = touches w g && not (in_run (worth g))

module _ {A : Type 0} where
  -- "next x, then h": the cells after an opener, parted at that h.
  unfoldable pub x_then_h : ℕ → List (Cell A) → Option (Cut A)
  x_then_h w l =
      and_then (cut (touches w) l) λ x.
      and_then (cut (touches w) x.after) λ h.
      when (is_x_on w x.here.gate && is_h_on w h.here.gate)
      (some (record { before = x.before ++ (x.here ∷ h.before); here = h.here; after = h.after }))

  -- From an opener e at position i to an h that may close: "Go on after the closing h. An odd k changes nothing and the closing
  -- h is tried as an opener." `on` is the walk from a position on.
  abbrev pub closed : (ℕ → List (Cell A) → Done A) → ℕ → Cell A → Cut A → Done A
  closed on i e c =
      let odd = stay (e ∷ c.before) (on (suc i + length c.before) (c.here ∷ c.after)) in
      try (change3 e c.before c.here) odd λ m. fire 3 i (suc i + length c.before) (stay m (on (i + length m) c.after))

  -- "With no closing h, go on after the gate that ended the run."
  abbrev pub unclosed : (ℕ → List (Cell A) → Done A) → ℕ → Cell A → Cut A → Done A
  unclosed on i e c = stay (e ∷ (c.before ++ (c.here ∷ []))) (on (suc (suc i + length c.before)) c.after)

  -- "At an h: next x, then h … Otherwise take the maximal run of t, s, z, sdg, tdg … If an h closes the run …"
  abbrev pub opened : (ℕ → List (Cell A) → Done A) → ℕ → ℕ → Cell A → List (Cell A) → Done A
  opened on w i e l =
      let run = try (cut (ends_run w) l) (idle (e ∷ l)) λ c. cond (is_h c.here.gate) (closed on i e c) (unclosed on i e c) in
      try (x_then_h w l) run λ c. closed on i e c

  -- "walk that wire's gates", from position i on; the fuel is the number of cells
  unfoldable pub hadamards_from : ℕ → ℕ → ℕ → List (Cell A) → Done A
  hadamards_from zero w i l = idle l
  hadamards_from (suc n) w i [] = idle []
  hadamards_from (suc n) w i (e ∷ l) =
      cond (is_h_on w e.gate) (opened (hadamards_from n w) w i e l) (stay (e ∷ []) (hadamards_from n w (suc i) l))

  -- "For each wire upwards … walk that wire's gates."
  unfoldable pub hadamard_sweep : ℕ → Sweep A
  hadamard_sweep zero l = idle l
  hadamard_sweep (suc w) l = followed (hadamard_sweep w) (λ m. hadamards_from (length m) w 0 m) l

-- ------------------------------------------------------------ commuting sweep

-- How a walk ends, with its looks; `short` where it had too little fuel, which it never has.
pub data Walk : Type 0 where
  reached blocked short : ℕ → Walk

abbrev pub more : Walk → Walk
more (reached n) = reached (suc n)
more (blocked n) = blocked (suc n)
more (short n) = short (suc n)

-- "Walk its operands' tracks in turn, one live gate of each unfinished track a round, each look counting one in walked;
-- reaching the partner finishes a track, and one blocker on one track ends the whole walk." The tracks, each up to the
-- partner, stand in a queue: one look at the first of them, whose turn is then the last.
unfoldable pub walk : ℕ → Gate → List (List Gate) → Walk
walk zero p [] = reached 0
walk zero p (t ∷ ts) = short 0
walk (suc n) p [] = reached 0
walk (suc n) p ([] ∷ ts) = more (walk n p ts)
walk (suc n) p ((g ∷ t) ∷ ts) = let on = more (walk n p (ts ++ (t ∷ []))) in cond (may_pass p g) on (blocked 1)

-- The looks that a walk can take at most: its fuel.
unfoldable pub room : List (List Gate) → ℕ
room [] = 0
room (t ∷ ts) = suc (length t) + room ts

module _ {A : Type 0} where
  unfoldable pub tracks : List ℕ → List (Cell A) → List (List Gate)
  tracks [] m = []
  tracks (w ∷ ws) m = track w m ∷ tracks ws m

  -- The walk past the cells between a pair and its partner. "cz, ccx controls and ccz walk in canonical order."
  unfoldable pub walk_past : Gate → List (Cell A) → Walk
  walk_past p m = let ts = tracks (canonical p) m in walk (room ts) p ts

  -- "If all finish, both go."
  abbrev pub walked : Walk → Done A → Done A → Done A
  walked (reached n) goes stays = look n goes
  walked (blocked n) goes stays = look n stays
  walked (short n) goes stays = look n stays

  -- "For each surviving cnot, cz, ccx, ccz in order, its partner is the next survivor of the same canonical pair"; from position
  -- i on, the fuel is the number of cells.
  unfoldable pub commuting_from : ℕ → ℕ → List (Cell A) → Done A
  commuting_from zero i l = idle l
  commuting_from (suc n) i [] = idle []
  commuting_from (suc n) i (e ∷ l) =
      let stays = stay (e ∷ []) (commuting_from n (suc i) l) in
      try (when (is_pair e.gate) (cut (equal e.gate) l)) stays λ partner.
      let goes = fire 2 i (suc i + length partner.before) (commuting_from n i (without partner)) in
      walked (walk_past e.gate partner.before) goes stays

  unfoldable pub commuting_sweep : Sweep A
  commuting_sweep l = commuting_from (length l) 0 l
