-- The code's test of a slot: it passes live pairs. And the keys that the code then makes are those of the slot's gate.
use mathlib.Core.Path.{◌≡◌, refl, sym, ap, subst, ◌∙◌}
use mathlib.Core.Bool.{Bool, true, false, ◌&&◌, ◌||◌, false≢true}
use mathlib.Core.List.{List, [], ◌∷◌}
use Prim.Native.Nat.{ℕ, ◌≤◌, ◌<◌}
use native.Mathlib.Omega.{arith}
use lib.Dec.{eqb, leb}
use borrow.Author.Tests.{eqb-true, eqb-false, leb-true, le-leb}
use Rattle.gates.specs.declared.records.Record.{Record}
use Rattle.gates.specs.Gates.{has, wires_of, All}
use Rattle.gates.specs.Records.{record_at, kind_of, operand_words}
use Rattle.gates.proofs.Joined.{and_left, and_right}
use Rattle.rules.specs.Equal.{ordered, canonical, is_pair}
use Rattle.slots.specs.declared.Extent.{Extent}
use Rattle.slots.specs.Slots.{gate_at}
use Rattle.slots.specs.Live.{is_live, Loaded}
use Rattle.partners.specs.Pairs.{live_pair, raised, keys_from, keys_of}
use Rattle.slots.proofs.StateLaws.{record_is, wires-are, operands-small}
use Rattle.rules.proofs.EqualLaws.{together}

-- ------------------------------------------------------------ kinds of pairs

-- What holds of all in a list holds of what it has.
has_all : (P : ℕ → Type 0) (ws : List ℕ) → All P ws → (w : ℕ) → has w ws ≡ true → P w
unfolding has
has_all P [] all w h = absurd (false≢true h)
has_all P (v ∷ ws) all w h = go (eqb w v) refl (has_all P ws all.1 w) h
  where
    go : (b : Bool) → eqb w v ≡ b → (has w ws ≡ true → P w) → b || has w ws ≡ true → P w
    go true e rest t = subst P (sym (eqb-true w v e)) all.0
    go false e rest t = rest t

-- The kinds of pairs are those from 8 to 11.
pair-from : (kind : ℕ) → has kind (8 ∷ 9 ∷ 10 ∷ 11 ∷ []) ≡ true → (8 ≤ kind) × (kind ≤ 11)
pair-from kind h =
    has_all (λ x. (8 ≤ x) × (x ≤ 11)) (8 ∷ 9 ∷ 10 ∷ 11 ∷ [])
    ((omega arith, omega arith), ((omega arith, omega arith), ((omega arith, omega arith), ((omega arith, omega arith), tt)))) kind h

pair-to : (kind : ℕ) → 8 ≤ kind → kind ≤ 11 → has kind (8 ∷ 9 ∷ 10 ∷ 11 ∷ []) ≡ true
unfolding has
pair-to kind l m = go (eqb kind 8) refl (eqb kind 9) refl (eqb kind 10) refl (eqb kind 11) refl
  where
    go : (a : Bool) → eqb kind 8 ≡ a → (b : Bool) → eqb kind 9 ≡ b → (c : Bool) → eqb kind 10 ≡ c → (d : Bool) → eqb kind 11 ≡ d →
        a || (b || (c || (d || false))) ≡ true
    go true e b f c g d h = refl
    go false e true f c g d h = refl
    go false e false f true g d h = refl
    go false e false f false g true h = refl
    go false e false f false g false h =
        absurd (none (eqb-false kind 8 e) (eqb-false kind 9 f) (eqb-false kind 10 g) (eqb-false kind 11 h))
      where
        none : (kind ≡ 8 → ⊥) → (kind ≡ 9 → ⊥) → (kind ≡ 10 → ⊥) → (kind ≡ 11 → ⊥) → ⊥
        none p q r s = omega arith

pub between_is : (kind : ℕ) → leb 8 kind && leb kind 11 ≡ has kind (8 ∷ 9 ∷ 10 ∷ 11 ∷ [])
between_is kind = together (leb 8 kind && leb kind 11) (has kind (8 ∷ 9 ∷ 10 ∷ 11 ∷ []))
    (λ t. pair-to kind (leb-true 8 kind (and_left (leb 8 kind) (leb kind 11) t)) (leb-true kind 11 (and_right (leb 8 kind) (leb kind 11) t)))
    (λ h. rw (le-leb 8 kind (pair-from kind h).0, le-leb kind 11 (pair-from kind h).1))

-- ------------------------------------------------------------ the test

-- What the code tests of a slot: whether it is live, and the kind in its record.
abbrev pub tested : Bool → Record → Bool
tested live r = (live && leb 8 r.kind) && leb r.kind 11

module _ (bytes words : List ℕ) (k : Extent) (slot : ℕ) (r : Record) (l : Loaded bytes words k) (live : Bool) (m : live ≡ is_live words k slot)
    (e : r ≡ record_at bytes slot) where
  kind_at : is_live words k slot ≡ true → r.kind ≡ kind_of (gate_at bytes slot)
  kind_at t = ap (λ (x : Record). x.kind) (e ∙ sym (record_is k.wires bytes slot (l.sound slot t)))

  -- The record of a live slot is that of its gate, so its kind tells whether that is a pair.
  pub tested-is : tested live r ≡ live_pair bytes words k slot
  tested-is =
      ap (λ (b : Bool). (b && leb 8 r.kind) && leb r.kind 11) m
      ∙ go (is_live words k slot) refl
    where
      go : (b : Bool) → is_live words k slot ≡ b → (b && leb 8 r.kind) && leb r.kind 11 ≡ b && is_pair (gate_at bytes slot)
      go true t = between_is r.kind ∙ ap (λ (x : ℕ). has x (8 ∷ 9 ∷ 10 ∷ 11 ∷ [])) (kind_at t)
      go false t = refl

  module _ (t : tested live r ≡ true) where
    is_live_lem : is_live words k slot ≡ true
    is_live_lem = and_left (is_live words k slot) (is_pair (gate_at bytes slot)) (sym tested-is ∙ t)

    -- What making keys asks of the record.
    pub keys-ask : ((8 ≤ r.kind) × (r.kind ≤ 11) × (k.wires ≤ 65536)) × All (λ w. w < k.wires) (operand_words r)
    keys-ask =
        let kinds = and_left (live && leb 8 r.kind) (leb r.kind 11) t in (
          (
            leb-true 8 r.kind (and_right live (leb 8 r.kind) kinds),
            leb-true r.kind 11 (and_right (live && leb 8 r.kind) (leb r.kind 11) t),
            l.narrow,
          ),
          rw e (operands-small k.wires bytes slot (l.sound slot is_live_lem)),
        )

    -- They are those of its gate.
    pub keys-are : keys_from (raised k.wires r.kind) (ordered r.kind (operand_words r)) ≡ keys_of k.wires (gate_at bytes slot)
    unfolding canonical
    keys-are = as-gate r.kind (operand_words r) (kind_at is_live_lem) (ap operand_words e ∙ sym (wires-are k.wires bytes slot (l.sound slot is_live_lem)))
      where
        as-gate : (kind : ℕ) (ws : List ℕ) → kind ≡ kind_of (gate_at bytes slot) → ws ≡ wires_of (gate_at bytes slot) →
            keys_from (raised k.wires kind) (ordered kind ws)
            ≡ keys_from (raised k.wires (kind_of (gate_at bytes slot))) (ordered (kind_of (gate_at bytes slot)) (wires_of (gate_at bytes slot)))
        as-gate kind ws p q = cc
