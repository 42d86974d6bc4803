-- Slots of a wire: the next one, those between two of them that go, and one that takes another gate or goes.
use Rattle.std.specs.Prelude.{Option as Answer, Some, None}
use mathlib.Core.Path.{◌≡◌, refl, sym, ap, ap₂, subst, ◌∙◌}
use mathlib.Core.Bool.{Bool, true, false, not, cond, ◌&&◌, false≢true}
use mathlib.Core.List.{List, [], ◌∷◌, ◌++◌, reverse}
use mathlib.Core.Option.{Option, some, none}
use Prim.Native.Nat.{ℕ, suc, ◌*◌, ◌-◌, ◌≤◌, ◌<◌}
use native.Mathlib.Omega.{arith}
use lib.Dec.{eqb, ltb}
use lib.ListN.{length, set, drop}
use lib.Seq.{drop-set-lt}
use borrow.Author.Tests.{eqb-true, ltb-true, lt-ltb, eq-eqb, ne_eqb}
use Rattle.gates.specs.declared.Gate.{Gate}
use Rattle.gates.specs.declared.Gate.TheVariants.{X, H, S, Sdg, Z, T, Tdg, Cnot, Cz, Ccx, Ccz, Measure, Reset, Y, Sx, Swap, Cy, Ch, Cswap}
use Rattle.gates.specs.Gates.{wires_of, touches}
use Rattle.gates.specs.Records.{record_at, record_of, kind_of, of_kind, gate_of}
use Rattle.gates.proofs.Joined.{and_left, and_right}
use Rattle.gates.proofs.RoundTrip.{decode-encode}
use Rattle.gates.proofs.StoredLaws.{kind-here, kind-other}
use Rattle.rules.specs.Steps.{Cell}
use Rattle.rules.specs.Sweeps.{cut}
use Rattle.links.specs.Words.{Within}
use Rattle.links.proofs.SeekLaws.{IsEarliest, earliest-is, parted}
use Rattle.links.proofs.WordLaws.{within_none, within-then}
use Rattle.slots.specs.declared.Extent.{Extent}
use Rattle.slots.specs.declared.Slot.{Slot}
use Rattle.slots.specs.Slots.{gate_in, gate_at, Sound, cell_of, cells_below, left_out, slot_of, slot_as, found}
use Rattle.slots.specs.Live.{spare_at, is_live, held, later, Live}
use Rattle.slots.proofs.HeldLaws.{cut-from}
use Rattle.slots.proofs.CutLaws.{held-parts}
use Rattle.slots.proofs.StateLaws.{live_below, gate-is, record_is}
use Rattle.journal.proofs.TakenLaws.{left_out_lem}
use Rattle.hadamards.specs.Closings.{put_as}
use Rattle.hadamards.specs.Placing.{DroppedOn, OneWire, Placed}

-- ------------------------------------------------------------ gates

-- Every gate has a first wire.
pub some-wire : (g : Gate) → 0 < length (wires_of g)
unfolding wires_of
some-wire (X w) = omega arith
some-wire (H w) = omega arith
some-wire (S w) = omega arith
some-wire (Sdg w) = omega arith
some-wire (Z w) = omega arith
some-wire (T w) = omega arith
some-wire (Tdg w) = omega arith
some-wire (Cnot c t) = omega arith
some-wire (Cz c t) = omega arith
some-wire (Ccx c d t) = omega arith
some-wire (Ccz c d t) = omega arith
some-wire (Measure w b) = omega arith
some-wire (Reset w) = omega arith
some-wire (Y w) = omega arith
some-wire (Sx w) = omega arith
some-wire (Swap a b) = omega arith
some-wire (Cy c t) = omega arith
some-wire (Ch c t) = omega arith
some-wire (Cswap c a b) = omega arith

-- ------------------------------------------------------------ the next slot on a wire

module _ (bytes words : List ℕ) (k : Extent) (w from : ℕ) where
  pub record NextOn (j : ℕ) : Type 0 where
    pub past : from < j
    pub inside : j < k.gates
    pub live : is_live words k j ≡ true
    pub on : touches w (gate_at bytes j) ≡ true
    pub clear : (l : ℕ) → from < l → l < j → (is_live words k l && touches w (gate_at bytes l)) ≡ false

  abbrev answer : Option ℕ → Type 0
  answer o = IsEarliest (λ l. is_live words k l && touches w (gate_at bytes l)) (suc from) k.gates o

  answered : from < k.gates → answer (slot_of (cut (touches w) (later bytes words k from)))
  answered m =
      subst answer (sym (cut-from (is_live words k) (gate_at bytes) (touches w) (suc from) (k.gates - suc from)))
      (earliest-is (λ l. is_live words k l && touches w (gate_at bytes l)) (suc from) (k.gates - suc from) k.gates (omega (arith, m)))

  -- What `after_on` finds.
  abbrev next_found : Answer Slot
  next_found = found (slot_of (cut (touches w) (later bytes words k from)))

  found_at : (o : Option ℕ) (s : Slot) → Some s ≡ found o → o ≡ some s.0
  found_at none s e = cc
  found_at (some i) s e = let same : slot_as i ≡ s = cc in ap (λ (x : Slot). some x.0) same

  found_none : (o : Option ℕ) → None ≡ found o → o ≡ none
  found_none none e = refl
  found_none (some i) e = cc

  pub next-on : from < k.gates → (s : Slot) → Some s ≡ next_found → NextOn s.0
  next-on m s e =
      let h = subst answer (found_at (slot_of (cut (touches w) (later bytes words k from))) s e) (answered m) in
      let t = h.2 in
      record {
        past = h.0;
        inside = h.1;
        live = and_left (is_live words k s.0) (touches w (gate_at bytes s.0)) t;
        on = and_right (is_live words k s.0) (touches w (gate_at bytes s.0)) t;
        clear = λ l a b. h.3 l a b;
      }

  -- A live slot on the wire that comes later: there is a next one, and it is no later.
  pub next-there : (to : ℕ) → is_live words k to ≡ true → touches w (gate_at bytes to) ≡ true → from < to → None ≡ next_found → ⊥
  next-there to t u m e =
      let below = live_below words k to t in
      let h = subst answer (found_none (slot_of (cut (touches w) (later bytes words k from))) e) (answered (omega (arith, m, below))) in
      false≢true (sym (h to m below) ∙ ap₂ ◌&&◌ t u)

  pub next-first : (to j : ℕ) → is_live words k to ≡ true → touches w (gate_at bytes to) ≡ true → from < to → NextOn j → j ≤ to
  next-first to j t u m h = parted to j (λ a. absurd (false≢true (sym (h.clear to m a) ∙ ap₂ ◌&&◌ t u))) (λ a. a)

-- ------------------------------------------------------------ slots that go, one by one

-- Some of the slots on a wire between two others have gone, and nothing else has.
pub record Dropping (bytes : List ℕ) (k : Extent) (w from to : ℕ) (was now : List ℕ) : Type 0 where
  pub live : Live bytes now k
  pub fewer : (j : ℕ) → is_live was k j ≡ false → is_live now k j ≡ false
  pub only : (j : ℕ) → is_live was k j ≡ true → is_live now k j ≡ false → (from < j) × (j < to) × (touches w (gate_at bytes j) ≡ true)
  pub within : Within 0 (spare_at k) was now

module _ (bytes : List ℕ) (k : Extent) (w from to : ℕ) (was now : List ℕ) (h : Dropping bytes k w from to was now) where
  -- A slot that is not between them is still there.
  pub dropping_keeps : (j : ℕ) → is_live was k j ≡ true → (from < j → j < to → ⊥) → is_live now k j ≡ true
  dropping_keeps j t out = go (is_live now k j) refl
    where
      go : (b : Bool) → is_live now k j ≡ b → is_live now k j ≡ true
      go true e = e
      go false e = absurd (out (h.only j t e).0 (h.only j t e).1)

  pub dropping-more : (j : ℕ) (then : List ℕ) → NextOn bytes now k w from j → j < to → Live bytes then k →
      held bytes then k ≡ left_out j (held bytes now k) → Within 0 (spare_at k) now then → Dropping bytes k w from to was then
  dropping-more j then n m l e p =
      record {
        live = l;
        fewer = λ i f. left i ∙ ap (λ (b : Bool). b && not (eqb i j)) (h.fewer i f);
        only = λ i t f. at i t f (is_live now k i) refl (eqb i j) refl;
        within = within-then 0 (spare_at k) was now then h.within p;
      }
    where
      left : (i : ℕ) → is_live then k i ≡ (is_live now k i && not (eqb i j))
      left = left_out_lem bytes bytes now then k j e

      at : (i : ℕ) → is_live was k i ≡ true → is_live then k i ≡ false → (b : Bool) → is_live now k i ≡ b → (c : Bool) → eqb i j ≡ c →
          (from < i) × (i < to) × (touches w (gate_at bytes i) ≡ true)
      at i t f false u c q = h.only i t u
      at i t f true u true q =
          let same = eqb-true i j q in
          (omega (arith, same, n.past), omega (arith, same, m), subst (λ (x : ℕ). touches w (gate_at bytes x) ≡ true) (sym same) n.on)
      at i t f true u false q = absurd (false≢true (sym f ∙ left i ∙ ap₂ (λ (a b : Bool). a && not b) u q))

  -- Where the next on the wire is the second slot, all between have gone.
  pub dropping-all : (next : ℕ) → next ≡ to → NextOn bytes now k w from next → DroppedOn bytes k w from to was now
  dropping-all next same n j = go (is_live was k j) refl (is_live now k j) refl (ltb from j) refl (ltb j to) refl (touches w (gate_at bytes j)) refl
    where
      go : (a : Bool) → is_live was k j ≡ a → (b : Bool) → is_live now k j ≡ b → (p : Bool) → ltb from j ≡ p → (q : Bool) → ltb j to ≡ q →
          (t : Bool) → touches w (gate_at bytes j) ≡ t → b ≡ (a && not ((p && q) && t))
      go false u b v p x q y t z = sym v ∙ h.fewer j u
      go true u true v true x true y true z =
          absurd (false≢true (sym (n.clear j (ltb-true from j x) (omega (arith, ltb-true j to y, same))) ∙ ap₂ ◌&&◌ v z))
      go true u true v true x true y false z = refl
      go true u true v true x false y t z = refl
      go true u true v false x q y t z = refl
      go true u false v true x true y true z = refl
      go true u false v true x true y false z = absurd (false≢true (sym z ∙ (h.only j u v).2))
      go true u false v true x false y t z = absurd (false≢true (sym y ∙ lt-ltb j to (h.only j u v).1))
      go true u false v false x q y t z = absurd (false≢true (sym x ∙ lt-ltb from j (h.only j u v).0))

-- One slot less is one cell less.
left-short : (s : ℕ) (l : List (Cell ℕ)) → length (left_out s l) ≤ length l
unfolding left_out
left-short s [] = omega arith
left-short s (e ∷ l) = go (eqb e.beside s) (left-short s l)
  where
    go : (b : Bool) → length (left_out s l) ≤ length l → length (cond b (left_out s l) (e ∷ left_out s l)) ≤ suc (length l)
    go true h = omega arith
    go false h = omega arith

left_less : (s : ℕ) (a : List (Cell ℕ)) (e : Cell ℕ) (b : List (Cell ℕ)) → eqb e.beside s ≡ true →
    length (left_out s (a ++ (e ∷ b))) < length (a ++ (e ∷ b))
unfolding left_out
left_less s [] e b q =
    let gone : cond (eqb e.beside s) (left_out s b) (e ∷ left_out s b) ≡ left_out s b = ap (λ (t : Bool). cond t (left_out s b) (e ∷ left_out s b)) q in
    omega (arith, ap length gone, left-short s b)
left_less s (d ∷ a) e b q = go (eqb d.beside s) (left_less s a e b q)
  where
    go : (t : Bool) → length (left_out s (a ++ (e ∷ b))) < length (a ++ (e ∷ b)) →
        length (cond t (left_out s (a ++ (e ∷ b))) (d ∷ left_out s (a ++ (e ∷ b)))) < suc (length (a ++ (e ∷ b)))
    go true h = omega arith
    go false h = omega arith

pub held-less : (bytes was now : List ℕ) (k : Extent) (s : ℕ) → is_live was k s ≡ true → held bytes now k ≡ left_out s (held bytes was k) →
    length (held bytes now k) < length (held bytes was k)
held-less bytes was now k s t e =
    subst (λ (l : List (Cell ℕ)). length l < length (held bytes was k)) (sym e)
    (subst (λ (l : List (Cell ℕ)). length (left_out s l) < length l)
    (sym (held-parts (is_live was k) (gate_at bytes) s k.gates t (live_below was k s t)))
    (left_less s (reverse (cells_below (is_live was k) (gate_at bytes) s)) (cell_of (gate_at bytes) s) _ (eq-eqb s s refl)))

-- ------------------------------------------------------------ a slot that takes another gate, or goes

-- Two gates of one wire differ in the kind of their records only.
pub one-wire-record : (n : ℕ) (bytes : List ℕ) (slot w : ℕ) (g : Gate) → Sound n (record_at bytes slot) → OneWire w (gate_at bytes slot) → OneWire w g →
    (length (wires_of g) ≡ 1) × (length (wires_of (gate_at bytes slot)) ≡ 1) × (record_of g ≡ of_kind (kind_of g) (record_at bytes slot))
one-wire-record n bytes slot w g sound there here = (
  ap length here.wires,
  ap length there.wires,
  here.words ∙ sym (ap (of_kind (kind_of g)) (sym (record_is n bytes slot sound) ∙ there.words)),
)

pub placed-none : (k : Extent) (slot : ℕ) (bytes was now : List ℕ) (put : Answer Gate) → put ≡ None →
    held bytes now k ≡ left_out slot (held bytes was k) → Placed k slot (put_as put) bytes was bytes now
placed-none k slot bytes was now put q e =
    subst (λ (p : Answer Gate). Placed k slot (put_as p) bytes was bytes now) (sym q)
    (record {
      here = left slot ∙ off (is_live was k slot) (eqb slot slot) (eq-eqb slot slot refl);
      other = λ j d. record { live = left j ∙ on (is_live was k j) (eqb j slot) (ne_eqb j slot d); gate = refl };
    })
  where
    left : (i : ℕ) → is_live now k i ≡ (is_live was k i && not (eqb i slot))
    left = left_out_lem bytes bytes was now k slot e

    off : (a b : Bool) → b ≡ true → (a && not b) ≡ false
    off true b q = ap not q
    off false b q = refl

    on : (a b : Bool) → b ≡ false → (a && not b) ≡ a
    on true b q = ap not q
    on false b q = refl

pub placed-some : (k : Extent) (slot : ℕ) (bytes words after : List ℕ) (put : Answer Gate) (g : Gate) → put ≡ Some g → Live bytes words k →
    is_live words k slot ≡ true → record_of g ≡ of_kind (kind_of g) (record_at bytes slot) → after ≡ set bytes (16 * slot) (kind_of g) →
    Placed k slot (put_as put) bytes words after words
placed-some k slot bytes words after put g q list t same e =
    subst (λ (p : Answer Gate). Placed k slot (put_as p) bytes words after words) (sym q)
    (record {
      here = (t, ap (λ (b : List ℕ). gate_at b slot) e ∙ gate-is (set bytes (16 * slot) (kind_of g)) slot ∙ ap (λ r. gate_in (gate_of r)) record-now ∙ ap gate_in (decode-encode g));
      other = λ j d. record {
        live = refl;
        gate = ap (λ (b : List ℕ). gate_at b j) e ∙ gate-is (set bytes (16 * slot) (kind_of g)) j
            ∙ ap (λ r. gate_in (gate_of r)) (kind-other bytes slot j (kind_of g) d) ∙ sym (gate-is bytes j);
      };
    })
  where
    record-now : record_at (set bytes (16 * slot) (kind_of g)) slot ≡ record_of g
    record-now = kind-here bytes slot (kind_of g) (inside (live_below words k slot t) list.loaded.long) ∙ sym same
      where
        inside : slot < k.gates → 16 * k.gates ≤ length bytes → 16 * slot < length bytes
        inside a b = omega (arith, a, b)

-- The bytes past the slots' stay.
pub past_same : (k : Extent) (slot v : ℕ) (bytes words after : List ℕ) → is_live words k slot ≡ true → after ≡ set bytes (16 * slot) v →
    drop (16 * k.gates) after ≡ drop (16 * k.gates) bytes
past_same k slot v bytes words after t e =
    ap (drop (16 * k.gates)) e ∙ drop-set-lt (16 * k.gates) bytes (16 * slot) v (omega (arith, live_below words k slot t))
