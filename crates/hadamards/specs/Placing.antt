-- What a firing does to the list that is held: between its two h, and nowhere else.
use Rattle.std.specs.Prelude.{◌≡◌, true, false, not, ◌&&◌, List, [], ◌∷◌, ◌++◌, ℕ, suc, ◌-◌, ◌≤◌, ◌<◌, ltb, length}
use Rattle.std.proofs.Math.Option.{Option, some, none}
use Rattle.gates.specs.declared.Gate.{Gate}
use Rattle.gates.specs.Gates.{wires_of, touches}
use Rattle.gates.specs.Records.{with_words, record_of, kind_of}
use Rattle.rules.specs.Runs.{Rewrite, is_h_on}
use Rattle.rules.specs.Steps.{Cell, put, put_first}
use Rattle.rules.specs.Sweeps.{Done, stay, hadamards_from}
use Rattle.slots.specs.declared.Extent.{Extent}
use Rattle.slots.specs.Slots.{gate_at, cell_of, cells_from}
use Rattle.slots.specs.Live.{is_live, later}
use Rattle.hadamards.specs.Firings.{Firing, closing_of}

-- The cells of so many slots from one on, as words and bytes have them.
abbrev pub cells : List ℕ → List ℕ → Extent → ℕ → ℕ → List (Cell ℕ)
cells bytes words k slot count = cells_from (is_live words k) (gate_at bytes) slot count

-- Slots beside each other on a wire are dropped: those between two slots that touch it.
abbrev pub DroppedOn : List ℕ → Extent → ℕ → ℕ → ℕ → List ℕ → List ℕ → Type 0
DroppedOn bytes k w from to was now =
    (j : ℕ) → is_live now k j ≡ (is_live was k j && not ((ltb from j && ltb j to) && touches w (gate_at bytes j)))

-- A slot is as it was.
pub record SameSlot (k : Extent) (bytes words bytes' words' : List ℕ) (j : ℕ) : Type 0 where
  pub live : is_live words' k j ≡ is_live words k j
  pub gate : gate_at bytes' j ≡ gate_at bytes j

-- A gate of one wire that is all its record has.
pub record OneWire (w : ℕ) (g : Gate) : Type 0 where
  pub wires : wires_of g ≡ w ∷ []
  pub words : record_of g ≡ with_words (kind_of g) w 0 0

-- A slot takes another gate, or goes.
abbrev pub Takes : Extent → ℕ → Option Gate → List ℕ → List ℕ → Type 0
Takes k slot none bytes words = is_live words k slot ≡ false
Takes k slot (some g) bytes words = (is_live words k slot ≡ true) × (gate_at bytes slot ≡ g)

pub record Placed (k : Extent) (slot : ℕ) (o : Option Gate) (bytes words bytes' words' : List ℕ) : Type 0 where
  pub here : Takes k slot o bytes' words'
  pub other : (j : ℕ) → (j ≡ slot → ⊥) → SameSlot k bytes words bytes' words' j

-- Other wires have the gates that they had.
pub record OtherWires (k : Extent) (w : ℕ) (bytes words bytes' words' : List ℕ) : Type 0 where
  pub live : (v j : ℕ) → (v ≡ w → ⊥) → (is_live words k j && touches v (gate_at bytes j)) ≡ (is_live words' k j && touches v (gate_at bytes' j))
  pub gate : (v j : ℕ) → (v ≡ w → ⊥) → (is_live words k j && touches v (gate_at bytes j)) ≡ true → gate_at bytes j ≡ gate_at bytes' j

-- A firing that is allowed on a wire.
pub record Allowed (bytes words : List ℕ) (k : Extent) (w : ℕ) (f : Firing) : Type 0 where
  pub opener-live : is_live words k f.opener ≡ true
  pub opener-h : is_h_on w (gate_at bytes f.opener) ≡ true
  pub closer-live : is_live words k f.closer ≡ true
  pub closer-h : is_h_on w (gate_at bytes f.closer) ≡ true
  pub apart : f.opener < f.closer
  pub rewrite : Rewrite
  pub closes : closing_of w (later bytes words k f.opener) ≡ some (record { closer = f.closer; rewrite = rewrite })

-- The gates between the two h of a firing.
abbrev pub gap : List ℕ → List ℕ → Extent → Firing → List (Cell ℕ)
gap bytes words k f = cells bytes words k (suc f.opener) (f.closer - suc f.opener)

-- What a rewrite puts in place of the gates between, and the slots that are not between are as they were.
pub record PlacedBetween (k : Extent) (w : ℕ) (f : Firing) (o : Option Gate) (bytes words bytes' words' : List ℕ) : Type 0 where
  pub between : gap bytes' words' k f ≡ put_first w o (gap bytes words k f)
  pub outside : (j : ℕ) → (f.opener < j → f.closer ≤ j) → SameSlot k bytes words bytes' words' j
  pub others : OtherWires k w bytes words bytes' words'

-- What a rewrite puts in place of the gates from opener to closer.
abbrev pub in_place : List ℕ → List ℕ → Extent → ℕ → Rewrite → Firing → List (Cell ℕ)
in_place bytes words k w r f =
    put r.ends (cell_of (gate_at bytes) f.opener)
    (put_first w r.first (gap bytes words k f) ++ put r.ends (cell_of (gate_at bytes) f.closer) [])

-- A firing is carried out.
pub record Fired (k : Extent) (w : ℕ) (f : Firing) (r : Rewrite) (bytes words bytes' words' : List ℕ) : Type 0 where
  pub front : cells bytes' words' k 0 (suc f.closer) ≡ cells bytes words k 0 f.opener ++ in_place bytes words k w r f
  pub back : (j : ℕ) → f.closer < j → SameSlot k bytes words bytes' words' j
  pub others : OtherWires k w bytes words bytes' words'

-- What is still to come on a wire from a slot on.
abbrev pub wire_ahead : List ℕ → List ℕ → Extent → ℕ → ℕ → Done ℕ
wire_ahead bytes words k w slot =
    stay (cells bytes words k 0 slot)
    (hadamards_from k.gates w (length (cells bytes words k 0 slot)) (cells bytes words k slot (k.gates - slot)))
