-- What `finish` leaves: how the records that are kept move to the front, and what zeroing makes of bytes and words.
use mathlib.Core.Path.{◌≡◌, refl, sym, ap, ◌∙◌}
use mathlib.Core.Bool.{Bool, true, false, cond}
use mathlib.Core.List.{List, [], ◌∷◌, ◌++◌, append_assoc, append-nil}
use Prim.Native.Nat.{ℕ, suc, ◌+◌, ◌*◌, ◌-◌, ◌≤◌, ◌<◌}
use native.Mathlib.Nat.{zero-add, sub-zero}
use native.Mathlib.Numerals.{add-one}
use native.Mathlib.Omega.{arith}
use lib.ListN.{length, length-append, get_or, set, take, drop, replicate, length-drop, length-replicate, get_or-replicate, take-append-drop}
use lib.Seq.{sets, length-sets, sets-eq, take_at, drop-set-lt, drop-drop, get_or-take, get_or-drop, ext_get_or, length-take-le}
use borrow.Rule.Slice.PartMut.{mid_of, put_mid}
use Rattle.gates.specs.declared.Gate.{Gate}
use Rattle.gates.specs.declared.records.Record.{Record}
use Rattle.gates.specs.Records.{record_from, record_at, record_of, record_bytes}
use Rattle.gates.specs.Words.{byte_at}
use Rattle.gates.proofs.StoredLaws.{record-by-bytes, bytes-long}
use Rattle.rules.specs.Steps.{Cell, gates_of}
use Rattle.links.specs.Words.{Within, Cleared}
use Rattle.slots.specs.declared.Extent.{Extent}
use Rattle.slots.specs.Slots.{gate_at, Sound, cell_of, cells_from}
use Rattle.slots.specs.Live.{is_live, held, Loaded}
use Rattle.live.specs.Finished.{list_bytes, zeroed, records_left}
use Rattle.slots.proofs.StateLaws.{record_is}

-- ------------------------------------------------------------ zeroing

-- A list is its first elements, those of a region, and those past it.
parted : (at size : ℕ) (l : List ℕ) → take at l ++ (take size (drop at l) ++ drop (at + size) l) ≡ l
parted at size l = rw (← (drop-drop size at l), take-append-drop size (drop at l), take-append-drop at l)

-- What lies past a region in which alone words have changed stays.
pub past_same : (at size : ℕ) (was now : List ℕ) → Within at size was now → drop (at + size) now ≡ drop (at + size) was
past_same at size was now w =
    ext_get_or 0 (drop (at + size) now) (drop (at + size) was)
    (length-drop (at + size) now ∙ ap (λ (n : ℕ). n - (at + size)) w.long ∙ sym (length-drop (at + size) was))
    (λ i m. get_or-drop (at + size) now i 0 ∙ w.same (at + size + i) (λ l. absurd (omega arith)) ∙ sym (get_or-drop (at + size) was i 0))

-- Words that are cleared in a region are those at entry with zeros there.
module _ (at size : ℕ) (was now : List ℕ) (room : at + size ≤ length was) (cleared : Cleared at size was now) where
  long-now : length now ≡ length was
  long-now = cleared.within.long

  before_same : take at now ≡ take at was
  before_same =
      ext_get_or 0 (take at now) (take at was) (cut now long-now ∙ sym (cut was refl))
      (λ i m. get_or-take at now i 0 (below i m) ∙ cleared.within.same i (λ l. below i m) ∙ sym (get_or-take at was i 0 (below i m)))
    where
      cut : (l : List ℕ) → length l ≡ length was → length (take at l) ≡ at
      cut l e = length-take-le at l (omega (arith, e))

      below : (i : ℕ) → i < length (take at now) → i < at
      below i m = omega (arith, cut now long-now)

  region-zero : take size (drop at now) ≡ replicate size 0
  region-zero =
      ext_get_or 0 (take size (drop at now)) (replicate size 0) (cut ∙ sym (length-replicate size 0))
      (λ i m. get_or-take size (drop at now) i 0 (below i m) ∙ get_or-drop at now i 0 ∙ cleared.zero i (below i m)
      ∙ sym (get_or-replicate size i 0 0 (below i m)))
    where
      cut : length (take size (drop at now)) ≡ size
      cut = length-take-le size (drop at now) (omega (arith, length-drop at now, long-now))

      below : (i : ℕ) → i < length (take size (drop at now)) → i < size
      below i m = omega (arith, cut)

  pub cleared-zeroed : now ≡ zeroed at size was
  cleared-zeroed = rw (← before_same, ← region-zero, ← (past_same at size was now cleared.within)) (sym (parted at size now))

-- ------------------------------------------------------------ stores in a row

-- What is in front of the stores stays, with the stored values behind it; what is past them stays.
take-sets : (l vs : List ℕ) (i n : ℕ) → i + length vs ≡ n → n ≤ length l → take n (sets l i vs) ≡ take i l ++ vs
take-sets l vs i n e m =
    ap (take n) (sets-eq vs l i (omega (arith, e))) ∙ take_at (take i l ++ vs) (drop (i + length vs) l) n long
  where
    long : length (take i l ++ vs) ≡ n
    long = length-append (take i l) vs ∙ ap (λ (x : ℕ). x + length vs) (length-take-le i l (omega (arith, e))) ∙ e

pub drop-sets : (l vs : List ℕ) (i n : ℕ) → i + length vs ≤ n → drop n (sets l i vs) ≡ drop n l
drop-sets l [] i n m = refl
drop-sets l (v ∷ vs) i n m = drop-sets (set l i v) vs (suc i) n (omega arith) ∙ drop-set-lt n l i v (omega arith)

-- Lists that agree from a place on agree from any later one on, and hold the same records there.
drop-later : (a b : List ℕ) (p n q : ℕ) → p + n ≡ q → drop p a ≡ drop p b → drop q a ≡ drop q b
drop-later a b p n q e same = rw (← e, ← (drop-drop n p a), ← (drop-drop n p b), same)

record_same : (a b : List ℕ) (p : ℕ) → drop p a ≡ drop p b → record_from a p ≡ record_from b p
record_same a b p same =
    record-by-bytes a b p p (λ i m. sym (get_or-drop p a i 0) ∙ ap (λ (l : List ℕ). get_or l i 0) same ∙ get_or-drop p b i 0)

-- ------------------------------------------------------------ a record that is moved

-- Any record that is read can be written: its padding is three bytes.
pub padding-small : (bytes : List ℕ) (p : ℕ) (r : Record) → ((i : ℕ) → byte_at bytes i < 256) → r ≡ record_from bytes p → r.padding < 16777216
unfolding record_from
padding-small bytes p r small e = omega (arith, ap (λ (x : Record). x.padding) e, small (p + 1), small (p + 2), small (p + 3))

-- ------------------------------------------------------------ moving to the front

-- A list's bytes begin with its first gate's.
bytes-more : (g : Gate) (l : List Gate) → list_bytes (g ∷ l) ≡ record_bytes (record_of g) ++ list_bytes l
unfolding list_bytes
bytes-more g l = refl

-- The cells of the live slots from a slot on.
abbrev ahead : List ℕ → List ℕ → Extent → ℕ → List (Cell ℕ)
ahead bytes words k slot = cells_from (is_live words k) (gate_at bytes) slot (k.gates - slot)

-- The slots below one are done. The records kept so far stand in front, and with those still ahead they are all that is held:
-- so a step takes the first of those ahead and nothing is said of the end of a list. From that slot on no byte has changed.
pub record Moved (bytes words : List ℕ) (k : Extent) (slot : ℕ) (now : List ℕ) (kept : ℕ) : Type 0 where
  pub inside : slot ≤ k.gates
  pub short : kept ≤ slot
  pub long : length now ≡ length bytes
  pub front : take (16 * kept) now ++ list_bytes (gates_of (ahead bytes words k slot)) ≡ list_bytes (gates_of (held bytes words k))
  pub count : kept + length (ahead bytes words k slot) ≡ length (held bytes words k)
  pub rest : drop (16 * slot) now ≡ drop (16 * slot) bytes

module _ (bytes words : List ℕ) (k : Extent) where
  pub moved_none : Moved bytes words k 0 bytes 0
  moved_none =
      record {
        inside = omega arith;
        short = omega arith;
        long = refl;
        front = rw sub-zero;
        count = rw (zero-add, sub-zero);
        rest = refl;
      }

  -- What is ahead of a slot, by whether it is live.
  next : (slot : ℕ) → slot < k.gates →
      ahead bytes words k slot ≡
      cond (is_live words k slot) (cell_of (gate_at bytes) slot ∷ ahead bytes words k (slot + 1)) (ahead bytes words k (slot + 1))
  unfolding cells_from
  next slot m = rw (add-one slot, one_less) refl
    where
      one_less : k.gates - slot ≡ suc (k.gates - suc slot)
      one_less = omega arith

  -- A slot that is not live is passed over; the record of one that is goes behind those in front.
  pass : (slot kept : ℕ) (now : List ℕ) → slot < k.gates → is_live words k slot ≡ false → Moved bytes words k slot now kept →
      Moved bytes words k (slot + 1) now kept
  pass slot kept now m dead moved =
      record {
        inside = omega arith;
        short = omega (arith, moved.short);
        long = moved.long;
        front = rw same at moved.front;
        count = rw same at moved.count;
        rest = drop-later now bytes (16 * slot) 16 (16 * (slot + 1)) (omega arith) moved.rest;
      }
    where
      same : ahead bytes words k slot ≡ ahead bytes words k (slot + 1)
      same = rw dead at (next slot m)

  keep : (slot kept : ℕ) (now : List ℕ) → slot < k.gates → is_live words k slot ≡ true → Sound k.wires (record_at bytes slot) →
      16 * k.gates ≤ length bytes → Moved bytes words k slot now kept →
      Moved bytes words k (slot + 1) (sets now (16 * kept) (record_bytes (record_at now slot))) (kept + 1)
  keep slot kept now m alive sound room moved =
      record {
        inside = omega arith;
        short = omega (arith, moved.short);
        long = length-sets now (16 * kept) written ∙ moved.long;
        front = rw (longer, append_assoc (take (16 * kept) now) written (list_bytes (gates_of rest)), written-first) (rw one_more at moved.front);
        count = omega (arith, moved.count, ap length one_more);
        rest =
            drop-sets now written (16 * kept) (16 * (slot + 1)) (omega (arith, sixteen, moved.short))
            ∙ drop-later now bytes (16 * slot) 16 (16 * (slot + 1)) (omega arith) moved.rest;
      }
    where
      rest : List (Cell ℕ)
      rest = ahead bytes words k (slot + 1)

      written : List ℕ
      written = record_bytes (record_at now slot)

      sixteen : length written ≡ 16
      sixteen = bytes-long (record_at now slot)

      one_more : ahead bytes words k slot ≡ cell_of (gate_at bytes) slot ∷ rest
      one_more = rw alive at (next slot m)

      longer : take (16 * (kept + 1)) (sets now (16 * kept) written) ≡ take (16 * kept) now ++ written
      longer =
          take-sets now written (16 * kept) (16 * (kept + 1)) (omega (arith, sixteen)) (omega (arith, moved.short, moved.long))

      written-first : written ++ list_bytes (gates_of rest) ≡ list_bytes (gates_of (cell_of (gate_at bytes) slot ∷ rest))
      written-first =
          rw (record_same now bytes (16 * slot) moved.rest, ← (record_is k.wires bytes slot sound))
          (sym (bytes-more (gate_at bytes slot) (gates_of rest)))

  -- One call of `keep_slot`.
  pub moved-next : Loaded bytes words k → (slot kept : ℕ) (now then : List ℕ) (n : ℕ) → slot < k.gates → Moved bytes words k slot now kept →
      then ≡ cond (is_live words k slot) (sets now (16 * kept) (record_bytes (record_at now slot))) now →
      n ≡ cond (is_live words k slot) (kept + 1) kept →
      Moved bytes words k (slot + 1) then n
  moved-next loaded slot kept now then n m moved = go (is_live words k slot) refl
    where
      go : (b : Bool) → is_live words k slot ≡ b →
          then ≡ cond b (sets now (16 * kept) (record_bytes (record_at now slot))) now → n ≡ cond b (kept + 1) kept →
          Moved bytes words k (slot + 1) then n
      go true e p q = rw (p, q) (keep slot kept now m e (loaded.sound slot e) loaded.long moved)
      go false e p q = rw (p, q) (pass slot kept now m e moved)

  -- Once all slots are done nothing is ahead: the records in front are the list, and zeros go behind them.
  module _ (slot : ℕ) (now : List ℕ) (kept : ℕ) (end : k.gates ≤ slot) (moved : Moved bytes words k slot now kept) where
    none_ahead : ahead bytes words k slot ≡ []
    unfolding cells_from
    none_ahead = let none : k.gates - slot ≡ 0 = omega arith in ap (cells_from (is_live words k) (gate_at bytes) slot) none

    pub moved-count : kept ≡ length (held bytes words k)
    moved-count = omega (arith, moved.count, ap length none_ahead)

    moved_front : take (16 * kept) now ≡ list_bytes (gates_of (held bytes words k))
    unfolding list_bytes
    moved_front = rw (none_ahead, append-nil (take (16 * kept) now)) at moved.front

    moved-left : zeroed (16 * kept) (16 * (k.gates - kept)) now ≡ records_left bytes words k
    moved-left =
        let past : 16 * kept + 16 * (k.gates - kept) ≡ 16 * slot = omega (arith, moved.short, moved.inside) in
        let all : slot ≡ k.gates = omega (arith, moved.inside) in
        rw (moved_front, past, moved.rest, all, ← moved-count)

    -- The part behind them is written over with zeros.
    pub moved-filled : (size : ℕ) (part : List ℕ) → 16 * k.gates ≤ length bytes → size ≡ 16 * k.gates - 16 * kept →
        part ≡ replicate (length (mid_of (16 * kept) size now)) 0 → put_mid (16 * kept) size now part ≡ records_left bytes words k
    moved-filled size part room sized zeros =
        let here : size ≡ 16 * (k.gates - kept) = omega (arith, sized) in
        let long : length (mid_of (16 * kept) size now) ≡ size =
        length-take-le size (drop (16 * kept) now) (omega (arith, length-drop (16 * kept) now, sized, room, moved.long, moved.short, moved.inside)) in
        rw (zeros, long, drop-drop size (16 * kept) now, here) moved-left
