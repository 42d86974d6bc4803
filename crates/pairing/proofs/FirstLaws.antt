-- The pair sweep while a list is loaded: what one turn does, and all of them.
use Rattle.std.specs.Prelude.{Some, None}
use mathlib.Core.Path.{◌≡◌, refl, sym, ap, ap₂, subst, ◌∙◌}
use mathlib.Core.Bool.{Bool, true, false, not, cond, ◌&&◌}
use mathlib.Core.List.{List, [], ◌∷◌, ◌++◌, reverse, reverse-cons, reverse-reverse, append-nil, append_cancel_left, tail-eq_of_cons-eq}
use mathlib.Core.Option.{some}
use Prim.Native.Nat.{ℕ, ◌+◌, ◌*◌, ◌-◌, ◌≤◌, ◌<◌}
use native.Mathlib.Omega.{arith}
use lib.Dec.{eqb}
use lib.ListN.{length, length-append, length-reverse, drop}
use lib.Seq.{sets}
use Rattle.gates.specs.declared.Gate.{Gate}
use Rattle.gates.specs.Gates.{wires_of, shares, All}
use Rattle.gates.specs.Records.{record_at, record_bytes}
use Rattle.gates.proofs.StoredLaws.{bytes-long}
use Rattle.rules.specs.Equal.{seven, cancels}
use Rattle.rules.specs.Steps.{Cell, Cut, all, step}
use Rattle.rules.specs.Sweeps.{Done, fire, idle, cut, without, pairs_from, pair_sweep}
use Rattle.rules.specs.Journal.{step_bytes}
use Rattle.rules.proofs.EqualLaws.{cancels-equal, equal-meet}
use Rattle.rules.proofs.Cuts.{Parts, cut-is, all-reverse, all_same, reverse-parts}
use Rattle.links.specs.Words.{Within}
use Rattle.links.proofs.WordLaws.{within_none, within-then}
use Rattle.slots.specs.declared.Slot.{Slot}
use Rattle.slots.specs.declared.Extent.{Extent}
use Rattle.slots.specs.Slots.{gate_at, cell_of, cells_from, slot_of, left_out, found}
use Rattle.slots.specs.Live.{words_for, is_live, held, earlier, later, Loaded}
use Rattle.slots.proofs.StateLaws.{live_below}
use Rattle.slots.proofs.CutLaws.{CutBelow, cut-below-parts, below-same, below-reverse, held-parts}
use Rattle.live.specs.Filling.{whole_list}
use Rattle.live.proofs.FinishLaws.{drop-sets}
use Rattle.journal.specs.Sweeping.{Did, Went}
use Rattle.journal.proofs.SweepingLaws.{went-none, went_on, went-did}
use Rattle.journal.proofs.TakenLaws.{left_out_lem}
use Rattle.pairing.specs.Ahead.{equal_blocker, load_ahead}
use Rattle.slots.proofs.AnswerLaws.{PartedAt, found-parted, found_none}
use Rattle.journal.proofs.WentLaws.{room_for, went-fire}
use Rattle.pairing.proofs.TurnLaws.{blocker-cut, turn-stays, turn-fires, from_next}

-- ------------------------------------------------------------ every cell

all-wider : (top : ℕ) (l : List (Cell ℕ)) → All (λ (e : Cell ℕ). e.beside < top) l → All (λ (e : Cell ℕ). e.beside < top + 1) l
all-wider top [] h = tt
all-wider top (e ∷ l) h = (omega (arith, h.0), all-wider top l h.1)

all-pushed : (P : Cell ℕ → Type 0) (l : List (Cell ℕ)) (e : Cell ℕ) → All P l → P e → All P (l ++ (e ∷ []))
all-pushed P [] e h p = (p, tt)
all-pushed P (d ∷ l) e h p = (h.0, all-pushed P l e h.1 p)

all_left : (P : Cell ℕ → Type 0) (s : ℕ) (l : List (Cell ℕ)) → All P l → All P (left_out s l)
unfolding left_out
all_left P s [] h = tt
all_left P s (e ∷ l) h = go (eqb e.beside s) (all_left P s l h.1)
  where
    go : (b : Bool) → All P (left_out s l) → All P (cond b (left_out s l) (e ∷ left_out s l))
    go true others = others
    go false others = (h.0, others)

-- ------------------------------------------------------------ all that is loaded

-- The latest first is the list turned round.
turned : (bytes words : List ℕ) (k : Extent) → reverse (earlier bytes words k k.gates) ≡ held bytes words k
turned bytes words k = below-reverse (is_live words k) (gate_at bytes) k.gates

turned-length : (bytes words : List ℕ) (k : Extent) → length (earlier bytes words k k.gates) ≡ length (held bytes words k)
turned-length bytes words k = sym (length-reverse (earlier bytes words k k.gates)) ∙ ap length (turned bytes words k)

-- A cell behind all others is the latest.
pushed-latest : (bytes bytes' words words' : List ℕ) (k : Extent) (e : Cell ℕ) → held bytes' words' k ≡ held bytes words k ++ (e ∷ []) →
    earlier bytes' words' k k.gates ≡ e ∷ earlier bytes words k k.gates
pushed-latest bytes bytes' words words' k e p =
    sym (reverse-reverse (earlier bytes' words' k k.gates))
    ∙ ap reverse
    (turned bytes' words' k ∙ p ∙ ap (λ (l : List (Cell ℕ)). l ++ (e ∷ [])) (sym (turned bytes words k))
    ∙ sym (reverse-cons e (earlier bytes words k k.gates)))
    ∙ reverse-reverse (e ∷ earlier bytes words k k.gates)

-- Without a slot that is parted from the others, the others are left.
popped-rest : (bytes words now : List ℕ) (k : Extent) (p : Gate → Bool) (c : Cut ℕ) (b : ℕ) → c.here.beside ≡ b →
    CutBelow (is_live words k) (gate_at bytes) p k.gates c → held bytes now k ≡ left_out b (held bytes words k) →
    without c ≡ earlier bytes now k k.gates
popped-rest bytes words now k p c b at part popped =
    part.rest
    ∙ below-same (λ j. is_live words k j && not (eqb j c.here.beside)) (is_live now k) (gate_at bytes) (gate_at bytes) k.gates
    (λ j m. ap (λ (x : ℕ). is_live words k j && not (eqb j x)) at ∙ sym (left_out_lem bytes bytes words now k b popped j)) (λ j m e. refl)

-- ------------------------------------------------------------ one turn

-- Of the gates below a place so many are loaded, each into the slot of its place, and two have gone for each step.
abbrev pub Counts : Extent → List ℕ → List ℕ → ℕ → ℕ → Type 0
Counts k bytes words place steps =
    All (λ (e : Cell ℕ). e.beside < place) (held bytes words k) × (length (held bytes words k) + 2 * steps ≡ place)

module _ (bytes words list : List ℕ) (k : Extent) (place steps : ℕ) (inside : place < k.gates) where
  abbrev gone : List (Cell ℕ)
  gone = earlier bytes words k k.gates

  abbrev rest : List (Cell ℕ)
  rest = cells_from (λ i. true) (gate_at list) (place + 1) (k.gates - (place + 1))

  first-ahead : load_ahead bytes words k list place ≡ pairs_from seven gone (cell_of (gate_at list) place ∷ rest)
  first-ahead = ap (pairs_from seven gone) (from_next (λ i. true) (gate_at list) place k.gates true refl inside)

  -- No equal blocker: the gate is loaded.
  module _ (said : None ≡ found (slot_of (equal_blocker (gate_at list place) gone))) (bytes' words' : List ℕ)
      (pushed : held bytes' words' k ≡ held bytes words k ++ (cell_of (gate_at list) place ∷ [])) where
    pub load-went : (journal : List ℕ) →
        Went (load_ahead bytes words k list place) (load_ahead bytes' words' k list (place + 1)) 0 steps steps journal journal
    load-went journal =
        went-none _ _ steps journal
        (first-ahead ∙ turn-stays gone (cell_of (gate_at list) place) rest (found_none (equal_blocker (gate_at list place) gone) None said refl)
        ∙ ap (λ (l : List (Cell ℕ)). pairs_from seven l rest) (sym (pushed-latest bytes bytes' words words' k (cell_of (gate_at list) place) pushed)))

    pub load-counts : Counts k bytes words place steps → Counts k bytes' words' (place + 1) steps
    load-counts (below, count) = (
      subst (λ (l : List (Cell ℕ)). All (λ (e : Cell ℕ). e.beside < place + 1) l) (sym pushed)
          (all-pushed (λ e. e.beside < place + 1) (held bytes words k) (cell_of (gate_at list) place) (all-wider place (held bytes words k) below) (omega arith)),
      omega (arith, ap length pushed, length-append (held bytes words k) (cell_of (gate_at list) place ∷ []), count),
    )

  -- An equal blocker: it goes, and the gate is not loaded.
  module _ (b : Slot) (said : Some b ≡ found (slot_of (equal_blocker (gate_at list place) gone))) where
    parted : PartedAt (equal_blocker (gate_at list place) gone) b.0
    parted = found-parted (equal_blocker (gate_at list place) gone) (Some b) b said refl

    abbrev c : Cut ℕ
    c = parted.parts

    is_cut : (cut (shares (gate_at list place)) gone ≡ some c) × (cancels seven c.here.gate (gate_at list place) ≡ true)
    is_cut = blocker-cut (gate_at list place) gone c parted.is

    part : CutBelow (is_live words k) (gate_at bytes) (shares (gate_at list place)) k.gates c
    part = cut-below-parts (is_live words k) (gate_at bytes) (shares (gate_at list place)) k.gates c is_cut.0

    parts : Parts (shares (gate_at list place)) gone (some c)
    parts = subst (Parts (shares (gate_at list place)) gone) is_cut.0 (cut-is (shares (gate_at list place)) gone)

    pub pop-live : is_live words k b.0 ≡ true
    pop-live = subst (λ (x : ℕ). is_live words k x ≡ true) parted.slot part.live_here

    pub pop-inside : b.0 < k.gates
    pop-inside = live_below words k b.0 pop-live

    after_is : c.after ≡ earlier bytes words k b.0
    after_is = part.after ∙ ap (earlier bytes words k) parted.slot

    here-is : c.here ≡ cell_of (gate_at bytes) b.0
    here-is = part.here ∙ ap (cell_of (gate_at bytes)) parted.slot

    -- The gates past it, the latest first, stand before it in the cut.
    before-is : reverse c.before ≡ later bytes words k b.0
    before-is =
        tail-eq_of_cons-eq
        (append_cancel_left (reverse (earlier bytes words k b.0)) (cell_of (gate_at bytes) b.0 ∷ reverse c.before)
        (cell_of (gate_at bytes) b.0 ∷ later bytes words k b.0)
        (sym whole ∙ held-parts (is_live words k) (gate_at bytes) b.0 k.gates pop-live pop-inside))
      where
        whole : held bytes words k ≡ reverse (earlier bytes words k b.0) ++ (cell_of (gate_at bytes) b.0 ∷ reverse c.before)
        whole =
            sym (turned bytes words k) ∙ ap reverse parts.0 ∙ sym (append-nil (reverse (c.before ++ (c.here ∷ c.after))))
            ∙ reverse-parts c.before c.here c.after []
            ∙ ap₂ (λ (l : List (Cell ℕ)) (e : Cell ℕ). reverse l ++ (e ∷ (reverse c.before ++ []))) after_is here-is
            ∙ ap (λ (l : List (Cell ℕ)). reverse (earlier bytes words k b.0) ++ (cell_of (gate_at bytes) b.0 ∷ l)) (append-nil (reverse c.before))

    -- None of them shares a wire with it: it has the wires of the gate that it blocks.
    pub pop-final : all (λ g. not (shares (gate_at bytes b.0) g)) (later bytes words k b.0) ≡ true
    pop-final =
        ap (all (λ g. not (shares (gate_at bytes b.0) g))) (sym before-is)
        ∙ all-reverse (λ g. not (shares (gate_at bytes b.0) g)) c.before
        (all_same (λ g. not (shares (gate_at bytes b.0) g)) (λ g. not (shares (gate_at list place) g)) c.before
        (λ g. ap not (equal-meet (gate_at bytes b.0) (gate_at list place) (wires_of g) (cancels-equal seven (gate_at bytes b.0) (gate_at list place) both)))
        ∙ parts.2)
      where
        both : cancels seven (gate_at bytes b.0) (gate_at list place) ≡ true
        both = ap (λ (e : Cell ℕ). cancels seven e.gate (gate_at list place)) (sym here-is) ∙ is_cut.1

    fires : load_ahead bytes words k list place
        ≡ fire 1 (length (earlier bytes words k b.0)) (length gone) (pairs_from seven (without c) rest)
    fires =
        first-ahead ∙ turn-fires gone (cell_of (gate_at list) place) rest c parted.is
        ∙ ap (λ (l : List (Cell ℕ)). fire 1 (length l) (length gone) (pairs_from seven (without c) rest)) after_is

    pub pop-room : (size : ℕ) → 16 * (steps + length (load_ahead bytes words k list place).steps) ≤ size → 16 * steps + 16 ≤ size
    pop-room size = room_for _ _ _ _ _ steps size fires

    module _ (now : List ℕ) (popped : held bytes now k ≡ left_out b.0 (held bytes words k)) where
      left : without c ≡ earlier bytes now k k.gates
      left = popped-rest bytes words now k (shares (gate_at list place)) c b.0 parted.slot part popped

      pub pop-went : Counts k bytes words place steps → (journal written : List ℕ) (kind first : ℕ) →
          kind ≡ 1 → first ≡ length (earlier bytes words k b.0) →
          written ≡ sets journal (16 * steps) (step_bytes (step kind first (place - 2 * steps))) →
          Went (load_ahead bytes words k list place) (load_ahead bytes now k list (place + 1)) 0 steps (steps + 1) journal written
      pop-went (below, count) journal written kind first one p w =
          let last : place - 2 * steps ≡ length gone = omega (arith, count, turned-length bytes words k) in
          went-fire _ _ _ _ _ steps journal written
          (fires ∙ ap (λ (l : List (Cell ℕ)). fire 1 (length (earlier bytes words k b.0)) (length gone) (pairs_from seven l rest)) left)
          (w ∙ cc (one, p, last))

      pub pop-counts : Counts k bytes words place steps → Counts k bytes now (place + 1) (steps + 1)
      pop-counts (below, count) = (
        subst (λ (l : List (Cell ℕ)). All (λ (e : Cell ℕ). e.beside < place + 1) l) (sym popped)
            (all_left (λ e. e.beside < place + 1) b.0 (held bytes words k) (all-wider place (held bytes words k) below)),
        omega (
          arith,
          count,
          turned-length bytes words k,
          turned-length bytes now k,
          ap length left,
          ap length parts.0,
          length-append c.before c.after,
          length-append c.before (c.here ∷ c.after),
        ),
      )

-- A record that is put into a slot leaves all past the slots.
pub load_past : (bytes bytes' list : List ℕ) (gates place : ℕ) → place < gates →
    bytes' ≡ sets bytes (16 * place) (record_bytes (record_at list place)) → drop (16 * gates) bytes' ≡ drop (16 * gates) bytes
load_past bytes bytes' list gates place inside stored =
    ap (drop (16 * gates)) stored
    ∙ drop-sets bytes (record_bytes (record_at list place)) (16 * place) (16 * gates) (omega (arith, inside, bytes-long (record_at list place)))

-- ------------------------------------------------------------ all turns

-- The gates of a list below a place have had their turns: they are loaded, or they have gone in pairs.
pub record PairedTo (list records₀ work₀ journal₀ : List ℕ) (k : Extent) (i : ℕ) (records work journal : List ℕ) (steps : ℕ) : Type 0 where
  pub inside : i ≤ k.gates
  pub loaded : Loaded records work k
  pub counts : Counts k records work i steps
  pub went : Went (pair_sweep seven (whole_list list k.gates)) (load_ahead records work k list i) 0 0 steps journal₀ journal
  pub within : Within 0 (words_for k) work₀ work
  pub past : drop (16 * k.gates) records ≡ drop (16 * k.gates) records₀
  pub long : length records ≡ length records₀

-- Before the first turn all is to come, after the last nothing.
list-ahead : (list bytes words : List ℕ) (k : Extent) → held bytes words k ≡ [] →
    pair_sweep seven (whole_list list k.gates) ≡ load_ahead bytes words k list 0
unfolding pair_sweep
list-ahead list bytes words k empty =
    let all : k.gates ≡ k.gates - 0 = omega arith in
    ap₂ (λ (l : List (Cell ℕ)) (n : ℕ). pairs_from seven l (cells_from (λ i. true) (gate_at list) 0 n))
    (ap reverse (sym (turned bytes words k ∙ empty)) ∙ reverse-reverse (earlier bytes words k k.gates)) all

list_done : (list bytes words : List ℕ) (k : Extent) → load_ahead bytes words k list k.gates ≡ idle (held bytes words k)
unfolding pairs_from cells_from
list_done list bytes words k =
    let nothing : k.gates - k.gates ≡ 0 = omega arith in
    ap (λ (n : ℕ). pairs_from seven (earlier bytes words k k.gates) (cells_from (λ i. true) (gate_at list) k.gates n)) nothing
    ∙ ap (λ (l : List (Cell ℕ)). idle l) (turned bytes words k)

pub paired_none : (list records work journal : List ℕ) (k : Extent) → Loaded records work k → held records work k ≡ [] →
    PairedTo list records work journal k 0 records work journal 0
paired_none list records work journal k loaded empty =
    record {
      inside = omega arith;
      loaded = loaded;
      counts = subst (λ (l : List (Cell ℕ)). All (λ (e : Cell ℕ). e.beside < 0) l × (length l + 2 * 0 ≡ 0)) (sym empty) (tt, refl);
      went = went-none _ _ 0 journal (list-ahead list records work k empty);
      within = within_none 0 (words_for k) work;
      past = refl;
      long = refl;
    }

module _ (list records₀ work₀ journal₀ : List ℕ) (k : Extent) (i : ℕ) (records work journal : List ℕ) (steps : ℕ)
    (to : PairedTo list records₀ work₀ journal₀ k i records work journal steps) where
  pub paired-more : (records' work' journal' : List ℕ) (s : ℕ) → i < k.gates → length records' ≡ length records → Loaded records' work' k →
      Counts k records' work' (i + 1) s →
      Went (load_ahead records work k list i) (load_ahead records' work' k list (i + 1)) 0 steps s journal journal' →
      Within 0 (words_for k) work work' → drop (16 * k.gates) records' ≡ drop (16 * k.gates) records →
      PairedTo list records₀ work₀ journal₀ k (i + 1) records' work' journal' s
  paired-more records' work' journal' s m long loaded counts went within past =
      record {
        inside = omega arith;
        loaded = loaded;
        counts = counts;
        went = went_on _ _ _ 0 0 0 steps s journal₀ journal journal' to.went went;
        within = within-then 0 (words_for k) work₀ work work' to.within within;
        past = past ∙ to.past;
        long = long ∙ to.long;
      }

  pub paired-all : k.gates ≤ i → Did (pair_sweep seven (whole_list list k.gates)) (held records work k) 0 steps journal₀ journal
  paired-all m =
      let end : i ≡ k.gates = omega (arith, to.inside) in
      went-did _ _ 0 0 steps journal₀ journal
      (subst (λ (d : Done ℕ). Went (pair_sweep seven (whole_list list k.gates)) d 0 0 steps journal₀ journal)
      (ap (load_ahead records work k list) end ∙ list_done list records work k) to.went)
