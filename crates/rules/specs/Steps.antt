-- A step of the journal: what it asks of a list, and what it does to it. Document 01, "Journal".
use Rattle.std.specs.Prelude.{Bool, true, false, not, cond, ◌&&◌, List, [], ◌∷◌, ◌++◌, map, ℕ, zero, suc, ◌-◌, eqb, ltb}
use Rattle.std.proofs.Math.Option.{Option, some, none}
use Rattle.gates.specs.declared.Gate.{Gate}
use Rattle.gates.specs.Gates.{wire, wires_of, touches, shares, All, Valid}
use Rattle.gates.specs.Records.{is_h}
use Rattle.rules.specs.Equal.{equal, cancels, is_pair}
use Rattle.rules.specs.Runs.{rewrite_of, is_h_on}
use Rattle.rules.specs.MayPass.{may_pass}

-- A gate with what stands beside it at its position, which a rewrite keeps.
pub record Cell (A : Type 0) : Type 0 where
  pub gate : Gate
  pub beside : A

-- "four 32-bit words: step kind, first position, last position, 0"
pub record Step : Type 0 where
  pub kind : ℕ
  pub first : ℕ
  pub last : ℕ
  pub fourth : ℕ

abbrev pub step : ℕ → ℕ → ℕ → Step
step kind first last = record { kind = kind; first = first; last = last; fourth = 0 }

-- A list parted at a cell.
pub record Cut (A : Type 0) : Type 0 where
  pub before : List (Cell A)
  pub here : Cell A
  pub after : List (Cell A)

-- "First is less than last"; the last word is 0.
abbrev pub in_form : Step → Bool
in_form s = eqb s.fourth 0 && ltb s.first s.last

-- ------------------------------------------------------------ answers that may be none

module _ {X Y : Type 0} where
  abbrev pub and_then : Option X → (X → Option Y) → Option Y
  and_then none f = none
  and_then (some x) f = f x

  abbrev pub try : Option X → Y → (X → Y) → Y
  try none y f = y
  try (some x) y f = f x

module _ {X : Type 0} where
  abbrev pub when : Bool → Option X → Option X
  when true o = o
  when false o = none

abbrev pub first_of : List ℕ → ℕ
first_of [] = 0
first_of (w ∷ l) = w

module _ {A : Type 0} where
  -- ------------------------------------------------------------ cells

  abbrev pub gates_of : List (Cell A) → List Gate
  gates_of l = map (λ e. e.gate) l

  -- A valid list on n wires and so many classical bits.
  abbrev pub ValidList : ℕ → ℕ → List (Cell A) → Type 0
  ValidList n bits l = All (Valid n bits) (gates_of l)

  abbrev pub all : (Gate → Bool) → List (Cell A) → Bool
  all p [] = true
  all p (e ∷ l) = p e.gate && all p l

  -- "that wire's gates"
  unfoldable pub track : ℕ → List (Cell A) → List Gate
  track w [] = []
  track w (e ∷ l) = cond (touches w e.gate) (e.gate ∷ track w l) (track w l)

  unfoldable pub off_wire : ℕ → List (Cell A) → List (Cell A)
  off_wire w [] = []
  off_wire w (e ∷ l) = cond (touches w e.gate) (off_wire w l) (e ∷ off_wire w l)

  -- A gate in place of a cell's, in front of a list; or the cell goes.
  abbrev pub put : Option Gate → Cell A → List (Cell A) → List (Cell A)
  put none e l = l
  put (some g) e l = record { gate = g; beside = e.beside } ∷ l

  -- Of the cells on a wire the first has its gate changed, and the others go.
  unfoldable pub put_first : ℕ → Option Gate → List (Cell A) → List (Cell A)
  put_first w g [] = []
  put_first w g (e ∷ l) = cond (touches w e.gate) (put g e (off_wire w l)) (e ∷ put_first w g l)

  -- ------------------------------------------------------------ what a step does between its two positions

  -- "Kind 1: an equal cancelling pair with no gate between that touches its wires."
  abbrev pub change1 : List ℕ → Cell A → List (Cell A) → Cell A → Option (List (Cell A))
  change1 kinds e m f = when (cancels kinds e.gate f.gate && all (λ g. not (shares f.gate g)) m) (some m)

  -- "Kind 2: an equal cnot, cz, ccx or ccz pair, every gate between passing it."
  abbrev pub change2 : Cell A → List (Cell A) → Cell A → Option (List (Cell A))
  change2 e m f = when (is_pair e.gate && (equal e.gate f.gate && all (may_pass e.gate) m)) (some m)

  -- "Kind 3: two h on one wire, with between them on that wire one x, or only t, s, z, sdg, tdg of even sum (perhaps none);
  -- it rewrites as the sweep does."
  abbrev pub change3 : Cell A → List (Cell A) → Cell A → Option (List (Cell A))
  change3 e m f =
      let w = first_of (wires_of e.gate) in
      when (is_h e.gate && is_h_on w f.gate) (and_then (rewrite_of (wire w) (track w m)) λ r.
      some (put r.ends e (put_first w r.first m ++ put r.ends f [])))

  -- What stands in place of a cell, those between, and another, after a step of a kind. "A step of any other form gets 14."
  unfoldable pub change : List ℕ → ℕ → Cell A → List (Cell A) → Cell A → Option (List (Cell A))
  change kinds k e m f =
      cond (eqb k 1) (change1 kinds e m f) (cond (eqb k 2) (change2 e m f) (cond (eqb k 3) (change3 e m f) none))

  -- ------------------------------------------------------------ a step on a list

  abbrev pub onto : Cell A → Option (Cut A) → Option (Cut A)
  onto e o = and_then o λ c. some (record { before = e ∷ c.before; here = c.here; after = c.after })

  unfoldable pub cut_at : ℕ → List (Cell A) → Option (Cut A)
  cut_at n [] = none
  cut_at zero (e ∷ l) = some (record { before = []; here = e; after = l })
  cut_at (suc n) (e ∷ l) = onto e (cut_at n l)

  -- "Positions belong to the list as it stands just before that step."
  unfoldable pub act : List ℕ → Step → List (Cell A) → Option (List (Cell A))
  act kinds s l =
      when (in_form s) (and_then (cut_at s.first l) λ c.
      and_then (cut_at (s.last - suc s.first) c.after) λ d.
      and_then (change kinds s.kind c.here d.before d.here) λ m.
      some (c.before ++ (m ++ d.after)))
