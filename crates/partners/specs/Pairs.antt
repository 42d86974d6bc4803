-- The cnot, cz, ccx and ccz of a loaded list, listed with keys that tell which are equal.
use Rattle.std.specs.Prelude.{◌≡◌, Bool, true, cond, ◌&&◌, List, [], ◌∷◌, ◌++◌, ℕ, zero, suc, ◌+◌, ◌*◌, ◌≤◌, ◌<◌, set}
use Rattle.gates.specs.Gates.{has}
use Rattle.gates.specs.declared.Gate.{Gate}
use Rattle.gates.specs.Records.{kind_of}
use Rattle.rules.specs.Equal.{canonical, is_pair}
use Rattle.order.specs.declared.Room.{Room}
use Rattle.order.specs.Order.{key, listed, list_at}
use Rattle.slots.specs.declared.Extent.{Extent}
use Rattle.partners.specs.declared.Keys.{Keys}
use Rattle.slots.specs.Slots.{gate_at}
use Rattle.slots.specs.Live.{pairs_at, is_live}

abbrev pub live_pair : List ℕ → List ℕ → Extent → ℕ → Bool
live_pair bytes words k i = is_live words k i && is_pair (gate_at bytes i)

-- The live cnot, cz, ccx and ccz below a slot, in order.
unfoldable pub pairs_below : List ℕ → List ℕ → Extent → ℕ → List ℕ
pairs_below bytes words k zero = []
pairs_below bytes words k (suc i) = pairs_below bytes words k i ++ cond (live_pair bytes words k i) (i ∷ []) []

-- Keys that tell equal pairs: the wires in canonical order, the middle one 0 where there are two; the last is raised by n for
-- cz and ccz.
abbrev pub raised : ℕ → ℕ → ℕ
raised n kind = cond (has kind (9 ∷ 11 ∷ [])) n 0

abbrev pub keys : ℕ → ℕ → ℕ → Keys
keys first middle last = record { first = first; middle = middle; last = last }

abbrev pub keys_from : ℕ → List ℕ → Keys
keys_from more [] = keys 0 0 0
keys_from more (a ∷ []) = keys 0 0 0
keys_from more (a ∷ b ∷ []) = keys a 0 (b + more)
keys_from more (a ∷ b ∷ c ∷ []) = keys a b (c + more)
keys_from more (a ∷ b ∷ c ∷ d ∷ ws) = keys 0 0 0

abbrev pub keys_of : ℕ → Gate → Keys
keys_of n g = keys_from (raised n (kind_of g)) (canonical g)

-- Where the room for pairs begins.
abbrev pub room_for : Extent → Room
room_for k = record { base = pairs_at k; slots = k.gates; wires = k.wires }

-- A slot's keys and the slot at the end of the list.
abbrev pub put_in : ℕ → Keys → ℕ → List ℕ → List ℕ
put_in slot r end words =
    set (set (set (set words (3 * slot) r.first) (3 * slot + 1) r.middle) (3 * slot + 2) r.last) end slot

-- The pairs below a slot stand in the list, and their keys in the words from 0 on.
pub record ListedTo (bytes words : List ℕ) (k : Extent) (slot count : ℕ) : Type 0 where
  pub list : listed words (list_at (room_for k)) count ≡ pairs_below bytes words k slot
  pub short : count ≤ slot
  pub first : (i : ℕ) → i < slot → live_pair bytes words k i ≡ true → key words 0 i ≡ (keys_of k.wires (gate_at bytes i)).first
  pub middle : (i : ℕ) → i < slot → live_pair bytes words k i ≡ true → key words 1 i ≡ (keys_of k.wires (gate_at bytes i)).middle
  pub last : (i : ℕ) → i < slot → live_pair bytes words k i ≡ true → key words 2 i ≡ (keys_of k.wires (gate_at bytes i)).last
