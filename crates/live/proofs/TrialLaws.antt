-- The trial: a list that is loaded whole, what its slots answer, and the list without one of its gates.
use Rattle.std.specs.Prelude.{Option as Answer, None}
use mathlib.Core.Path.{◌≡◌, refl, sym, ap, subst, ◌∙◌}
use mathlib.Core.Bool.{Bool, true, false, cond, ◌&&◌}
use mathlib.Core.List.{List, [], ◌∷◌, ◌++◌}
use mathlib.Core.Option.{some, none}
use Prim.Native.Nat.{ℕ, zero, suc, ◌+◌, ◌*◌, ◌-◌, ◌≤◌, ◌<◌}
use native.Mathlib.Numerals.{add-one}
use native.Mathlib.Omega.{arith}
use lib.Dec.{leb}
use lib.ListN.{length, get_or, drop, set, length-set}
use lib.Seq.{sets, length-sets, drop-set-lt}
use borrow.Author.Tests.{eq-eqb, ne_eqb}
use Rattle.gates.specs.declared.Gate.{Gate}
use Rattle.gates.specs.declared.kinds.Row.{Row}
use Rattle.gates.specs.declared.records.Record.{Record}
use Rattle.gates.specs.Gates.{has, wires_of, touches, shares, All}
use Rattle.gates.specs.Kinds.{row_of}
use Rattle.gates.specs.Records.{record_at, record_of, record_bytes, kind_of, of_kind, operand_words}
use Rattle.gates.proofs.StoredLaws.{bytes-long}
use Rattle.rules.specs.Equal.{equal, is_pair}
use Rattle.rules.specs.Steps.{Cell, all, onto, cut_at}
use Rattle.rules.specs.Sweeps.{cut}
use Rattle.links.specs.Words.{Within}
use Rattle.links.proofs.WordLaws.{within_none, within-then}
use Rattle.slots.specs.declared.Extent.{Extent}
use Rattle.slots.specs.declared.Slot.{Slot}
use Rattle.slots.specs.Slots.{gate_at, Sound, cell_of, cells_from, slot_of, left_out, rewritten, found}
use Rattle.slots.specs.Live.{words_for, is_live, held, earlier, later, Loaded, Live}
use Rattle.live.specs.Filling.{whole_list}
use Rattle.live.specs.Trial.{dropped_at, answers_of}
use Rattle.slots.proofs.HeldLaws.{cells-rewritten}
use Rattle.slots.proofs.NodeLaws.{operands-counted, IsOperand, counted, operand_at}
use Rattle.slots.proofs.StateLaws.{live_below, record_is}
use Rattle.partners.proofs.PairTestLaws.{between_is}
use Rattle.asking.proofs.BlockerLaws.{read_known, read_small, read-wires}
use Rattle.live.proofs.FinishLaws.{drop-sets}

-- ------------------------------------------------------------ the whole list

-- One gate more is one cell more, behind the others.
all_more : (gates : ℕ → Gate) (i count end : ℕ) → i + count ≡ end →
    cells_from (λ j. true) gates i (suc count) ≡ cells_from (λ j. true) gates i count ++ (cell_of gates end ∷ [])
unfolding cells_from
all_more gates i zero end e = ap (λ (x : ℕ). cell_of gates x ∷ []) (omega (arith, e))
all_more gates i (suc count) end e =
    ap (λ (l : List (Cell ℕ)). cell_of gates i ∷ l) (all_more gates (suc i) count end (omega (arith, e)))

whole-more : (list : List ℕ) (i : ℕ) → whole_list list (i + 1) ≡ whole_list list i ++ (cell_of (gate_at list) i ∷ [])
whole-more list i = rw (add-one i) (all_more (gate_at list) 0 i i (omega arith))

-- The slots of so many gates are below their number.
all-below : (gates : ℕ → Gate) (i count top : ℕ) → i + count ≤ top →
    All (λ (e : Cell ℕ). e.beside < top) (cells_from (λ j. true) gates i count)
unfolding cells_from
all-below gates i zero top m = tt
all-below gates i (suc count) top m = (omega (arith, m), all-below gates (suc i) count top (omega (arith, m)))

-- Only live slots have cells.
all_live : (live : ℕ → Bool) (gates : ℕ → Gate) (i count : ℕ) →
    All (λ (e : Cell ℕ). live e.beside ≡ true) (cells_from live gates i count)
unfolding cells_from
all_live live gates i zero = tt
all_live live gates i (suc count) = go (live i) refl (all_live live gates (suc i) count)
  where
    l : List (Cell ℕ)
    l = cells_from live gates (suc i) count

    go : (b : Bool) → live i ≡ b → All (λ (e : Cell ℕ). live e.beside ≡ true) l →
        All (λ (e : Cell ℕ). live e.beside ≡ true) (cond b (cell_of gates i ∷ l) l)
    go true t h = (t, h)
    go false t h = h

all-last : (P : Cell ℕ → Type 0) (l : List (Cell ℕ)) (e : Cell ℕ) → All P (l ++ (e ∷ [])) → P e
all-last P [] e h = h.0
all-last P (d ∷ l) e h = all-last P l e h.1

-- Without the slot of its last cell, a list is what stands before that cell.
last_out : (s : ℕ) (l : List (Cell ℕ)) (e : Cell ℕ) → e.beside ≡ s → All (λ (d : Cell ℕ). d.beside < s) l →
    left_out s (l ++ (e ∷ [])) ≡ l
unfolding left_out
last_out s [] e q h = ap (λ (b : Bool). cond b [] (e ∷ [])) (eq-eqb e.beside s q)
last_out s (d ∷ l) e q h =
    ap (λ (b : Bool). cond b (left_out s (l ++ (e ∷ []))) (d ∷ left_out s (l ++ (e ∷ [])))) (ne_eqb d.beside s (λ x. omega (arith, x, h.0)))
    ∙ ap (λ (m : List (Cell ℕ)). d ∷ m) (last_out s l e q h.1)

-- ------------------------------------------------------------ loading, gate by gate

-- The first so many gates of a list are loaded, each into the slot of its place. Past the room nothing has changed.
pub record LoadedTo (list records₀ work₀ : List ℕ) (k : Extent) (i : ℕ) (records work : List ℕ) : Type 0 where
  pub inside : i ≤ k.gates
  pub loaded : Loaded records work k
  pub whole : held records work k ≡ whole_list list i
  pub within : Within 0 (words_for k) work₀ work
  pub past : drop (16 * k.gates) records ≡ drop (16 * k.gates) records₀
  pub long : length records ≡ length records₀

pub loaded-none : (list records work : List ℕ) (k : Extent) → Loaded records work k → held records work k ≡ [] →
    LoadedTo list records work k 0 records work
unfolding cells_from
loaded-none list records work k l e =
    record { inside = omega arith; loaded = l; whole = e; within = within_none 0 (words_for k) work; past = refl; long = refl }

module _ (list records₀ work₀ : List ℕ) (k : Extent) (i : ℕ) (records work : List ℕ)
    (to : LoadedTo list records₀ work₀ k i records work) where
  -- So the next slot is past all others.
  pub next_past : All (λ (e : Cell ℕ). e.beside < i) (held records work k)
  next_past =
      subst (λ (l : List (Cell ℕ)). All (λ (e : Cell ℕ). e.beside < i) l) (sym to.whole)
      (all-below (gate_at list) 0 i i (omega arith))

  pub loaded-more : (records' work' : List ℕ) → i < k.gates → Loaded records' work' k →
      held records' work' k ≡ held records work k ++ (cell_of (gate_at list) i ∷ []) →
      records' ≡ sets records (16 * i) (record_bytes (record_at list i)) → Within 0 (words_for k) work work' →
      LoadedTo list records₀ work₀ k (i + 1) records' work'
  loaded-more records' work' m l pushed stored w =
      record {
        inside = omega arith;
        loaded = l;
        whole = pushed ∙ ap (λ (x : List (Cell ℕ)). x ++ (cell_of (gate_at list) i ∷ [])) to.whole ∙ sym (whole-more list i);
        within = within-then 0 (words_for k) work₀ work work' to.within w;
        past =
            ap (drop (16 * k.gates)) stored
            ∙ drop-sets records (record_bytes (record_at list i)) (16 * i) (16 * k.gates) (omega (arith, m, bytes-long (record_at list i)))
            ∙ to.past;
        long = ap length stored ∙ length-sets records (16 * i) (record_bytes (record_at list i)) ∙ to.long;
      }

  pub loaded-all : k.gates ≤ i → LoadedTo list records₀ work₀ k k.gates records work
  loaded-all m =
      let all : i ≡ k.gates = omega (arith, to.inside) in
      subst (λ (n : ℕ). LoadedTo list records₀ work₀ k n records work) all to

-- ------------------------------------------------------------ the last gate of a whole list

module _ (list records work : List ℕ) (k : Extent) (some-gate : 0 < k.gates)
    (whole : held records work k ≡ whole_list list k.gates) where
  abbrev last : ℕ
  last = k.gates - 1

  ends_with : whole_list list k.gates ≡ whole_list list last ++ (cell_of (gate_at list) last ∷ [])
  ends_with = let all_but : k.gates ≡ last + 1 = omega (arith, some-gate) in ap (whole_list list) all_but ∙ whole-more list last

  pub last-live : is_live work k last ≡ true
  last-live =
      all-last (λ e. is_live work k e.beside ≡ true) (whole_list list last) (cell_of (gate_at list) last)
      (subst (λ (l : List (Cell ℕ)). All (λ (e : Cell ℕ). is_live work k e.beside ≡ true) l) (whole ∙ ends_with)
      (all_live (is_live work k) (gate_at records) 0 k.gates))

  -- No gate comes after it.
  pub last-alone : (p : Gate → Bool) → all p (later records work k last) ≡ true
  unfolding cells_from
  last-alone p =
      let no_more : k.gates - suc last ≡ 0 = omega (arith, some-gate) in
      ap (λ (count : ℕ). all p (cells_from (is_live work k) (gate_at records) (suc last) count)) no_more

  -- Without it all before it are loaded.
  pub loaded-less : (work' : List ℕ) → Loaded records work' k → held records work' k ≡ left_out last (held records work k) →
      Within 0 (words_for k) work work' → LoadedTo list records work k last records work'
  loaded-less work' l popped w =
      record {
        inside = omega arith;
        loaded = l;
        whole =
            popped ∙ ap (left_out last) (whole ∙ ends_with)
            ∙ last_out last (whole_list list last) (cell_of (gate_at list) last) refl (all-below (gate_at list) 0 last last (omega arith));
        within = w;
        past = refl;
        long = refl;
      }

-- ------------------------------------------------------------ what is asked about a slot

-- The partner of a slot's gate, if that is a cnot, cz, ccx or ccz.
abbrev pub partner_if : List ℕ → List ℕ → Extent → ℕ → Answer Slot
partner_if bytes words k slot =
    cond (is_pair (gate_at bytes slot)) (found (slot_of (cut (equal (gate_at bytes slot)) (later bytes words k slot)))) None

-- A live slot and the record that is read from it.
module _ (bytes words : List ℕ) (k : Extent) (slot : ℕ) (r : Record)
    (l : Loaded bytes words k) (t : is_live words k slot ≡ true) (e : r ≡ record_at bytes slot) where
  abbrev gate : Gate
  gate = gate_at bytes slot

  sound : Sound k.wires (record_at bytes slot)
  sound = l.sound slot t

  wires-read : operand_words r ≡ wires_of gate
  wires-read = read-wires k.wires bytes slot sound r e

  -- Its first word is its gate's first wire.
  first-operand : IsOperand k.wires r 0 r.first
  first-operand =
      let known = read_known k.wires bytes slot sound r e in
      operand_at k.wires r (length (operand_words r)) 0 r.first known (read_small k.wires bytes slot sound r e) refl
      (counted r (length (operand_words r)) known refl).some refl

  pub has-wire : 0 < length (wires_of gate)
  has-wire = subst (λ (ws : List ℕ). 0 < length ws) wires-read first-operand.inside

  pub first_small : r.first < k.wires
  first_small = first-operand.below

  first-wire : r.first ≡ get_or (wires_of gate) 0 0
  first-wire = first-operand.which ∙ ap (λ (ws : List ℕ). get_or ws 0 0) wires-read

  -- Its kind tells whether its gate has a partner to ask for.
  pub pair_read : leb 8 r.kind && leb r.kind 11 ≡ is_pair gate
  pair_read =
      between_is r.kind
      ∙ ap (λ (x : Record). has x.kind (8 ∷ 9 ∷ 10 ∷ 11 ∷ [])) (e ∙ sym (record_is k.wires bytes slot sound))

  pub partner-asked : (partner answer : Answer Slot) → leb 8 r.kind && leb r.kind 11 ≡ true →
      answer ≡ found (slot_of (cut (equal gate) (later bytes words k slot))) → partner ≡ answer → partner ≡ partner_if bytes words k slot
  partner-asked partner answer q a p = rw (sym pair_read ∙ q) (p ∙ a)

  pub partner-none : (partner : Answer Slot) → leb 8 r.kind && leb r.kind 11 ≡ false → partner ≡ None →
      partner ≡ partner_if bytes words k slot
  partner-none partner q p = rw (sym pair_read ∙ q) p

  pub answers-are : (before after blocker partner first last : Answer Slot) →
      before ≡ found (slot_of (cut (touches (get_or (wires_of gate) 0 0)) (earlier bytes words k slot))) →
      after ≡ found (slot_of (cut (touches (get_or (wires_of gate) 0 0)) (later bytes words k slot))) →
      blocker ≡ found (slot_of (cut (shares gate) (earlier bytes words k slot))) → partner ≡ partner_if bytes words k slot →
      first ≡ found (slot_of (cut (touches r.first) (held bytes words k))) →
      last ≡ found (slot_of (cut (touches r.first) (earlier bytes words k k.gates))) →
      record { before = before; after = after; blocker = blocker; partner = partner; first = first; last = last } ≡ answers_of bytes words k slot
  unfolding answers_of
  answers-are before after blocker partner first last p q b c f m = rw (p, q, b, c, f, m, first-wire)

-- ------------------------------------------------------------ the gate at a position

-- Past the end of a list there is none.
cut-past : (place : ℕ) (l : List (Cell ℕ)) → length l ≤ place → cut_at place l ≡ none
unfolding cut_at
cut-past place [] m = refl
cut-past zero (e ∷ l) m = absurd (omega arith)
cut-past (suc place) (e ∷ l) m = ap (onto e) (cut-past place l (omega arith))

pub dropped-none : (place : ℕ) (l : List (Cell ℕ)) → length l ≤ place → l ≡ dropped_at place l
dropped-none place l m = rw (cut-past place l m) refl

-- ------------------------------------------------------------ a gate that is rewritten as it is

-- Other bytes that hold the same list.
pub record SameList (bytes words : List ℕ) (k : Extent) (now : List ℕ) : Type 0 where
  pub live : Live now words k
  pub same : held now words k ≡ held bytes words k
  pub past : drop (16 * k.gates) now ≡ drop (16 * k.gates) bytes
  pub long : length now ≡ length bytes

pub same_bytes : (bytes words : List ℕ) (k : Extent) (now : List ℕ) → Live bytes words k → now ≡ bytes → SameList bytes words k now
same_bytes bytes words k now l e = rw e (record { live = l; same = refl; past = refl; long = refl })

-- So the list without a gate is the same, too.
pub same-dropped : (bytes words : List ℕ) (k : Extent) (now : List ℕ) (place slot : ℕ) (left : List (Cell ℕ)) →
    SameList bytes words k now → slot_of (cut_at place (held bytes words k)) ≡ some slot → left ≡ left_out slot (held now words k) →
    left ≡ dropped_at place (held bytes words k)
same-dropped bytes words k now place slot left s e h = rw e (h ∙ ap (left_out slot) s.same)

-- A live slot and the gate that is read from it.
module _ (bytes words : List ℕ) (k : Extent) (slot : ℕ) (g : Gate)
    (l : Loaded bytes words k) (t : is_live words k slot ≡ true) (e : g ≡ gate_at bytes slot) where
  own-record : record_of g ≡ record_at bytes slot
  own-record = ap record_of e ∙ record_is k.wires bytes slot (l.sound slot t)

  pub own-known : (r : Record) → r ≡ record_of g → r.kind < 27
  own-known r q = read_known k.wires bytes slot (l.sound slot t) r (q ∙ own-record)

  -- What a rewrite asks: the table's row says that the gate has one wire, and its record is the slot's.
  pub own-asked : (r : Record) (row : Row) → r ≡ record_of g → row ≡ row_of r.kind → row.operands ≡ 1 →
      (length (wires_of g) ≡ 1) × (length (wires_of (gate_at bytes slot)) ≡ 1) × (record_of g ≡ of_kind (kind_of g) (record_at bytes slot))
  own-asked r row q table one =
      (ap (λ (x : Gate). length (wires_of x)) e ∙ one-wire, one-wire, ap (of_kind (kind_of g)) own-record)
    where
      one-wire : length (wires_of (gate_at bytes slot)) ≡ 1
      one-wire =
          ap length (sym (read-wires k.wires bytes slot (l.sound slot t) r (q ∙ own-record)))
          ∙ sym (operands-counted r row table (own-known r q)).0 ∙ one

  -- What it leaves: the same list, in bytes that are then known by another name.
  pub own-rewritten : (now left : List ℕ) → Live now words k → held now words k ≡ rewritten slot g (held bytes words k) →
      now ≡ set bytes (16 * slot) (kind_of g) → left ≡ now → SameList bytes words k left
  own-rewritten now left live held-now stored same =
      rw same (record {
        live = live;
        same =
            held-now ∙ ap (λ (x : Gate). rewritten slot x (held bytes words k)) e
            ∙ sym (cells-rewritten (is_live words k) (gate_at bytes) (gate_at bytes) slot (gate_at bytes slot) 0 k.gates refl (λ j d. refl));
        past =
            ap (drop (16 * k.gates)) stored
            ∙ drop-set-lt (16 * k.gates) bytes (16 * slot) (kind_of g) (omega (arith, live_below words k slot t));
        long = ap length stored ∙ length-set bytes (16 * slot) (kind_of g);
      })
