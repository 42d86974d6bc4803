-- What the scan's code asks and leaves, turn by turn: of an h, of a slot, and of all slots.
use Rattle.std.specs.Prelude.{Some, None}
use mathlib.Core.Path.{◌≡◌, refl, sym, ap, ap₂, subst, ◌∙◌}
use mathlib.Core.Bool.{Bool, true, false, ◌&&◌}
use mathlib.Core.List.{List, [], ◌∷◌, ◌++◌, append-nil}
use mathlib.Core.Option.{Option, some, none}
use Prim.Native.Nat.{ℕ, suc, ◌+◌, ◌*◌, ◌-◌, ◌≤◌, ◌<◌}
use native.Mathlib.Omega.{arith}
use lib.Dec.{eqb}
use lib.ListN.{length, get_or}
use borrow.Author.Tests.{eqb-true, eqb-false, eq-eqb, ne_eqb}
use Rattle.gates.specs.declared.Gate.{Gate}
use Rattle.gates.specs.declared.records.NoGate.{NoGate}
use Rattle.gates.specs.Gates.{wires_of, touches, All}
use Rattle.gates.specs.Records.{record_at, gate_of, kind_of, is_h}
use Rattle.gates.proofs.Joined.{and_right}
use Rattle.rules.specs.Runs.{is_h_on}
use Rattle.rules.specs.Steps.{Cell}
use Rattle.rules.proofs.Between.{is-h}
use Rattle.links.specs.Words.{word, Within, Cleared}
use Rattle.links.proofs.WordLaws.{within_none, within_wider}
use Rattle.slots.specs.declared.Extent.{Extent}
use Rattle.slots.specs.declared.Slot.{Slot}
use Rattle.slots.specs.Slots.{gate_at, cells_from, found}
use Rattle.slots.specs.Live.{spare_at, is_live, later, Live}
use Rattle.slots.proofs.HeldLaws.{cells-none}
use Rattle.slots.proofs.WireLaws.{operand-there}
use Rattle.slots.proofs.StateLaws.{live_below, wires-small, reads-gate}
use Rattle.hadamards.specs.Firings.{Close, Firing, closing_of, firings}
use Rattle.hadamards.specs.Closings.{closer_of}
use Rattle.hadamards.specs.Chains.{tails_at, notes_for, Chained, behind, ChainOf, noted_in, NotedTo, Noted}
use Rattle.hadamards.proofs.ChainLaws.{notes-in-room, last_meets, tail-inside}
use Rattle.hadamards.proofs.NotedLaws.{noted-dead, noted-off, noted-closed, noted-open, other-off, closer-is, firing-noted, firing-within}

-- ------------------------------------------------------------ one wire's notes

behind-within : (top : ℕ) (fs : List Firing) → All (λ f. f.closer < top) fs → behind 0 fs ≤ top
unfolding behind
behind-within top [] h = omega arith
behind-within top (f ∷ fs) h = let l = last_meets (λ y. y < top) f.closer fs h.0 h.1 in omega (arith, l.0, l.1)

-- What all wires have up to a slot, and that nothing else has changed.
abbrev pub ScannedTo : List ℕ → List ℕ → List ℕ → Extent → ℕ → Type 0
ScannedTo bytes was now k slot =
    ((w : ℕ) → w < k.wires → NotedTo bytes now k w slot) × Within (spare_at k) (notes_for k) was now

-- The code counts slots by adding 1.
scanned-next : (bytes was now : List ℕ) (k : Extent) (slot : ℕ) → ((w : ℕ) → w < k.wires → NotedTo bytes now k w (suc slot)) →
    Within (spare_at k) (notes_for k) was now → ScannedTo bytes was now k (slot + 1)
scanned-next bytes was now k slot h within =
    let next : suc slot ≡ slot + 1 = omega arith in
    (λ w m. subst (NotedTo bytes now k w) next (h w m), within)

-- ------------------------------------------------------------ an h

-- What an answer tells of what an h opens.
record Answered (o : Option Close) (slot : ℕ) : Type 0 where
  close : Close
  is : o ≡ some close
  at : close.closer ≡ slot

answered : (o : Option Close) (s : Slot) → Some s ≡ found (closer_of o) → Answered o s.0
answered none s e = absurd (let z : ◌≡◌ {A = ℕ} 0 1 = cc in omega arith)
answered (some c) s e = record { close = c; is = refl; at = cc }

answered-none : (o : Option Close) → None ≡ found (closer_of o) → o ≡ none
answered-none none e = refl
answered-none (some c) e = absurd (let z : ◌≡◌ {A = ℕ} 0 1 = cc in omega arith)

module _ (bytes was : List ℕ) (k : Extent) (w slot : ℕ) (list : Live bytes was k) (live : is_live was k slot ≡ true)
    (opens : is_h_on w (gate_at bytes slot) ≡ true) (noted : (v : ℕ) → v < k.wires → NotedTo bytes was k v slot)
    (at : ℕ) (is : at ≡ spare_at k) where
  slot< : slot < k.gates
  slot< = live_below was k slot live

  pub h-wide : w < k.wires
  h-wide = wires-small k.wires bytes slot (list.loaded.sound slot live) w (and_right (is_h (gate_at bytes slot)) (touches w (gate_at bytes slot)) opens)

  pub h-room : spare_at k + notes_for k ≤ length was
  h-room = omega (arith, notes-in-room k (omega (arith, slot<)), list.loaded.room)

  abbrev tail : ℕ
  tail = get_or was (at + 2 * k.gates + k.wires + w) 0

  tail-is : tail ≡ word was (tails_at k) w
  tail-is = ap (λ (x : ℕ). get_or was (x + 2 * k.gates + k.wires + w) 0) is

  pub h-tail-inside : at + 2 * k.gates + k.wires + w < length was
  h-tail-inside = tail-inside k at was is h-room w h-wide

  pub h-tail-within : word was (tails_at k) w ≤ k.gates
  h-tail-within = omega (arith, (noted w h-wide).last, behind-within k.gates (noted w h-wide).firings-so-far (noted w h-wide).inside)

  each-wire : NotedTo bytes was k w (suc slot) → (v : ℕ) → v < k.wires → NotedTo bytes was k v (suc slot)
  each-wire own v m = go (eqb v w) refl
    where
      go : (b : Bool) → eqb v w ≡ b → NotedTo bytes was k v (suc slot)
      go true e = subst (λ (x : ℕ). NotedTo bytes was k x (suc slot)) (sym (eqb-true v w e)) own
      go false e = noted-off bytes was k v slot slot< (noted v m) live (other-off v w (gate_at bytes slot) (eqb-false v w e) opens)

  -- It has closed.
  pub h-closed : slot < tail → ScannedTo bytes was was k (slot + 1)
  h-closed l =
      scanned-next bytes was was k slot
      (each-wire (noted-closed bytes was k w slot slot< (noted w h-wide) live (subst (λ (x : ℕ). slot < x) tail-is l)))
      (within_none (spare_at k) (notes_for k) was)

  -- It is tried.
  module _ (answer : Option Close) (told : answer ≡ closing_of w (later bytes was k slot)) where
    pub h-idle : tail ≤ slot → None ≡ found (closer_of answer) → ScannedTo bytes was was k (slot + 1)
    h-idle early e =
        scanned-next bytes was was k slot
        (each-wire (noted-open bytes was k w slot slot< (noted w h-wide) live opens (omega (arith, tail-is)) (sym told ∙ answered-none answer e)))
        (within_none (spare_at k) (notes_for k) was)

    module _ (s : Slot) (e : Some s ≡ found (closer_of answer)) where
      a : Answered answer s.0
      a = answered answer s e

      closes : closing_of w (later bytes was k slot) ≡ some a.close
      closes = sym told ∙ a.is

      pub h-closer-inside : s.0 < k.gates
      h-closer-inside = omega (arith, a.at, (closer-is bytes was k w slot a.close slot< closes).inside)

      pub h-fires : tail ≤ slot → (now : List ℕ) → now ≡ noted_in k w slot s.0 was → ScannedTo bytes was now k (slot + 1)
      h-fires early now q =
          subst (λ (l : List ℕ). ScannedTo bytes was l k (slot + 1)) (ap (λ (x : ℕ). noted_in k w slot x was) a.at ∙ sym q)
          (scanned-next bytes was (noted_in k w slot a.close.closer was) k slot
          (firing-noted bytes was k w slot live opens h-wide h-room (omega (arith, tail-is)) noted a.close closes)
          (firing-within bytes was k w slot live opens h-wide h-room (omega (arith, tail-is)) noted a.close closes))

-- ------------------------------------------------------------ a slot

-- An h is on its first wire.
pub h-first : (g : Gate) (w : ℕ) → kind_of g ≡ 1 → w ≡ get_or (wires_of g) 0 0 → is_h_on w g ≡ true
unfolding wires_of
h-first g w e q =
    let h = eq-eqb (kind_of g) 1 e in
    ap₂ ◌&&◌ h (ap (λ (x : ℕ). touches x g) q ∙ operand-there (wires_of g) 0 (subst (λ (x : Gate). 0 < length (wires_of x)) (sym (is-h g h)) (omega arith)))

module _ (bytes was : List ℕ) (k : Extent) (slot : ℕ) (list : Live bytes was k) (slot< : slot < k.gates)
    (noted : (v : ℕ) → v < k.wires → NotedTo bytes was k v slot) where
  pub slot-dead : is_live was k slot ≡ false → ScannedTo bytes was was k (slot + 1)
  slot-dead e =
      scanned-next bytes was was k slot (λ v m. noted-dead bytes was k v slot slot< (noted v m) e) (within_none (spare_at k) (notes_for k) was)

  module _ (live : is_live was k slot ≡ true) where
    pub slot-other : (kind : ℕ) → kind ≡ kind_of (gate_at bytes slot) → (kind ≡ 1 → ⊥) → ScannedTo bytes was was k (slot + 1)
    slot-other kind e d =
        scanned-next bytes was was k slot (λ v m. noted-off bytes was k v slot slot< (noted v m) live (no-h v))
        (within_none (spare_at k) (notes_for k) was)
      where
        no-h : (v : ℕ) → is_h_on v (gate_at bytes slot) ≡ false
        no-h v = ap (λ (b : Bool). b && touches v (gate_at bytes slot)) (ne_eqb (kind_of (gate_at bytes slot)) 1 (λ q. d (e ∙ q)))

-- ------------------------------------------------------------ all slots

-- Heads and tails are 0 before the first.
pub scan-start : (bytes was now : List ℕ) (k : Extent) (at : ℕ) → at ≡ spare_at k → Cleared (at + 2 * k.gates) (2 * k.wires) was now →
    ScannedTo bytes was now k 0
unfolding Chained behind
scan-start bytes was now k at is cleared = (
  λ w m. record {
    firings-so-far = [];
    all = let whole : k.gates ≡ k.gates - 0 = omega arith in
        ap (λ (n : ℕ). firings w 0 (cells_from (is_live now k) (gate_at bytes) 0 n)) whole;
    chain = zeroed w (omega (arith, m));
    last = let place : spare_at k + 2 * k.gates + k.wires + w ≡ spare_at k + 2 * k.gates + (k.wires + w) = omega arith in
        ap (λ (x : ℕ). get_or now x 0) place ∙ zeroed (k.wires + w) (omega (arith, m));
    inside = tt;
    on-wire = tt;
    rising = tt;
  },
  within_wider (spare_at k + 2 * k.gates) (2 * k.wires) (spare_at k) (notes_for k) was now (omega arith) (omega arith) here.within,
)
  where
    here : Cleared (spare_at k + 2 * k.gates) (2 * k.wires) was now
    here = subst (λ (x : ℕ). Cleared (x + 2 * k.gates) (2 * k.wires) was now) is cleared

    zeroed : (i : ℕ) → i < 2 * k.wires → word now (spare_at k + 2 * k.gates) i ≡ 0
    zeroed i l = here.zero i l

pub scanned-none : (bytes was now : List ℕ) (k : Extent) (slot : ℕ) → ScannedTo bytes was now k slot → ScannedTo bytes now now k slot
scanned-none bytes was now k slot s = (s.0, within_none (spare_at k) (notes_for k) now)

no_more : (w from : ℕ) (fs : List Firing) → fs ++ firings w from [] ≡ fs
unfolding firings
no_more w from fs = append-nil fs

-- Behind the last slot nothing more fires.
pub scan-end : (bytes now : List ℕ) (k : Extent) (slot : ℕ) → slot ≡ k.gates → ((w : ℕ) → w < k.wires → NotedTo bytes now k w slot) →
    Noted bytes now k
scan-end bytes now k slot e noted w m =
    subst (ChainOf now k w) (sym (n.all ∙ ap (λ (l : List (Cell ℕ)). n.firings-so-far ++ firings w (behind 0 n.firings-so-far) l) none_left
    ∙ no_more w (behind 0 n.firings-so-far) n.firings-so-far)) n.chain
  where
    n : NotedTo bytes now k w slot
    n = noted w m

    none_left : cells_from (is_live now k) (gate_at bytes) slot (k.gates - slot) ≡ []
    none_left = cells-none (is_live now k) (gate_at bytes) slot (k.gates - slot) (λ j a b. absurd (omega (arith, e)))
