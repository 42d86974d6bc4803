-- Turns of the scan: a slot is passed by, or the firing that its h opens is noted, and so are those of all wires up to the next slot.
use mathlib.Core.Path.{◌≡◌, refl, sym, ap, ap₂, subst, ◌∙◌}
use mathlib.Core.Bool.{Bool, true, false, cond, ◌&&◌}
use mathlib.Core.List.{List, [], ◌∷◌, ◌++◌}
use mathlib.Core.Option.{Option, some, none}
use Prim.Native.Nat.{ℕ, suc, ◌+◌, ◌-◌, ◌≤◌, ◌<◌}
use native.Mathlib.Omega.{arith}
use lib.Dec.{eqb}
use lib.ListN.{length}
use lib.Seq.{append_snoc}
use borrow.Author.Tests.{eqb-true, eqb-false, le-leb, lt-leb}
use Rattle.gates.specs.declared.Gate.{Gate}
use Rattle.gates.specs.Gates.{wire, All}
use Rattle.rules.specs.Runs.{Rewrite, rewrite_of, is_h_on}
use Rattle.rules.specs.Steps.{Cell, Cut, track}
use Rattle.rules.specs.Sweeps.{cut}
use Rattle.rules.proofs.Between.{h-wire}
use Rattle.links.specs.Words.{word, Within}
use Rattle.slots.specs.declared.Extent.{Extent}
use Rattle.slots.specs.Slots.{gate_at, cell_of, cells_from}
use Rattle.slots.specs.Live.{spare_at, is_live, later}
use Rattle.slots.proofs.CutLaws.{CutFrom, from_next, cut-from-parts}
use Rattle.slots.proofs.SpareLaws.{spare-cells, spare-held}
use Rattle.slots.proofs.StateLaws.{live_below}
use Rattle.hadamards.specs.Firings.{Close, Firing, closing_of, firings}
use Rattle.hadamards.specs.Chains.{openers_at, heads_at, tails_at, notes_for, Chained, behind, noted_in, NotedTo}
use Rattle.hadamards.proofs.TriedLaws.{close_by, close_at, fired, closing-is, firings-if, firings-off, and_none}
use Rattle.hadamards.proofs.ChainLaws.{behind_more, last_meets, chain-stays, chain_more, Stored, stored}

-- ------------------------------------------------------------ lists of firings

all-with : {A : Type 0} (P Q : A → Type 0) (l : List A) → ((x : A) → P x → Q x) → All P l → All Q l
all-with P Q [] f h = tt
all-with P Q (x ∷ l) f h = (f x h.0, all-with P Q l f h.1)

all_both : {A : Type 0} (P Q : A → Type 0) (l : List A) → All P l → All Q l → All (λ x. P x × Q x) l
all_both P Q [] h k = tt
all_both P Q (x ∷ l) h k = ((h.0, k.0), all_both P Q l h.1 k.1)

all_more : {A : Type 0} (P : A → Type 0) (l : List A) (x : A) → All P l → P x → All P (l ++ (x ∷ []))
all_more P [] x h p = (p, tt)
all_more P (y ∷ l) x h p = (h.0, all_more P l x h.1 p)

-- ------------------------------------------------------------ one turn on the list

module _ (bytes words : List ℕ) (k : Extent) where
  -- What is held from a slot on.
  abbrev rest : ℕ → List (Cell ℕ)
  rest i = cells_from (is_live words k) (gate_at bytes) i (k.gates - i)

  module _ (slot : ℕ) (slot< : slot < k.gates) (w from : ℕ) where
    rest-next : (b : Bool) → is_live words k slot ≡ b →
        rest slot ≡ cond b (cell_of (gate_at bytes) slot ∷ rest (suc slot)) (rest (suc slot))
    rest-next b e =
        let one_more : k.gates - slot ≡ suc (k.gates - suc slot) = omega (arith, slot<) in
        ap (cells_from (is_live words k) (gate_at bytes) slot) one_more ∙ from_next (is_live words k) (gate_at bytes) slot (k.gates - suc slot) b e

    turn-dead : is_live words k slot ≡ false → firings w from (rest slot) ≡ firings w from (rest (suc slot))
    turn-dead e = ap (firings w from) (rest-next false e)

    module _ (live : is_live words k slot ≡ true) where
      turn-off : is_h_on w (gate_at bytes slot) ≡ false → firings w from (rest slot) ≡ firings w from (rest (suc slot))
      turn-off q = ap (firings w from) (rest-next true live) ∙ firings-off w from (cell_of (gate_at bytes) slot) (rest (suc slot)) q

      turn-closed : slot < from → firings w from (rest slot) ≡ firings w from (rest (suc slot))
      turn-closed l =
          ap (firings w from) (rest-next true live)
          ∙ firings-if w from (cell_of (gate_at bytes) slot) (rest (suc slot)) false
          (ap (λ (t : Bool). is_h_on w (gate_at bytes slot) && t) (lt-leb from slot l) ∙ and_none (is_h_on w (gate_at bytes slot)))

      turn-tried : is_h_on w (gate_at bytes slot) ≡ true → from ≤ slot → (o : Option Close) → closing_of w (rest (suc slot)) ≡ o →
          firings w from (rest slot) ≡ fired w from (cell_of (gate_at bytes) slot) (rest (suc slot)) o
      turn-tried q l o c =
          ap (firings w from) (rest-next true live)
          ∙ firings-if w from (cell_of (gate_at bytes) slot) (rest (suc slot)) true (ap₂ ◌&&◌ q (le-leb from slot l))
          ∙ ap (fired w from (cell_of (gate_at bytes) slot) (rest (suc slot))) c

-- ------------------------------------------------------------ a turn that notes nothing

module _ (bytes words : List ℕ) (k : Extent) (w slot : ℕ) (slot< : slot < k.gates) (noted : NotedTo bytes words k w slot) where
  passed : firings w (behind 0 noted.firings-so-far) (rest bytes words k slot)
      ≡ firings w (behind 0 noted.firings-so-far) (rest bytes words k (suc slot)) → NotedTo bytes words k w (suc slot)
  passed e =
      record {
        firings-so-far = noted.firings-so-far;
        all = noted.all ∙ ap (λ (l : List Firing). noted.firings-so-far ++ l) e;
        chain = noted.chain;
        last = noted.last;
        inside = noted.inside;
        on-wire = noted.on-wire;
        rising = noted.rising;
      }

  pub noted-dead : is_live words k slot ≡ false → NotedTo bytes words k w (suc slot)
  noted-dead e = passed (turn-dead bytes words k slot slot< w (behind 0 noted.firings-so-far) e)

  pub noted-off : is_live words k slot ≡ true → is_h_on w (gate_at bytes slot) ≡ false → NotedTo bytes words k w (suc slot)
  noted-off t q = passed (turn-off bytes words k slot slot< w (behind 0 noted.firings-so-far) t q)

  pub noted-closed : is_live words k slot ≡ true → slot < word words (tails_at k) w → NotedTo bytes words k w (suc slot)
  noted-closed t l =
      passed (turn-closed bytes words k slot slot< w (behind 0 noted.firings-so-far) t (subst (λ (x : ℕ). slot < x) noted.last l))

  pub noted-open : is_live words k slot ≡ true → is_h_on w (gate_at bytes slot) ≡ true → word words (tails_at k) w ≤ slot →
      closing_of w (later bytes words k slot) ≡ none → NotedTo bytes words k w (suc slot)
  noted-open t q l c =
      passed (turn-tried bytes words k slot slot< w (behind 0 noted.firings-so-far) t q (subst (λ (x : ℕ). x ≤ slot) noted.last l) none c)

-- ------------------------------------------------------------ the h that closes

pub record Closer (bytes words : List ℕ) (k : Extent) (w slot closer : ℕ) : Type 0 where
  pub past : slot < closer
  pub inside : closer < k.gates
  pub on-wire : is_h_on w (gate_at bytes closer) ≡ true

pub closer-is : (bytes words : List ℕ) (k : Extent) (w slot : ℕ) (c : Close) → slot < k.gates →
    closing_of w (later bytes words k slot) ≡ some c → Closer bytes words k w slot c.closer
closer-is bytes words k w slot c slot< e =
    go (cut (is_h_on w) (later bytes words k slot)) refl (sym (closing-is w (later bytes words k slot)) ∙ e)
  where
    no-close : none ≡ some c → ⊥
    no-close q = let z : ◌≡◌ {A = ℕ} 0 1 = cc in omega arith

    same-closer : {d : Close} → some d ≡ some c → d.closer ≡ c.closer
    same-closer q = cc

    go : (o : Option (Cut ℕ)) → cut (is_h_on w) (later bytes words k slot) ≡ o → close_at w o ≡ some c → Closer bytes words k w slot c.closer
    go none q h = absurd (no-close h)
    go (some x) q h = by (rewrite_of (wire w) (track w x.before)) h (cut-from-parts (is_live words k) (gate_at bytes) (is_h_on w) (suc slot) (k.gates - suc slot) x q)
      where
        by : (r : Option Rewrite) → close_by x r ≡ some c → CutFrom (is_live words k) (gate_at bytes) (is_h_on w) (suc slot) (k.gates - suc slot) x →
            Closer bytes words k w slot c.closer
        by none h p = absurd (no-close h)
        by (some r) h p =
            subst (Closer bytes words k w slot) (same-closer h)
            (record { past = omega (arith, p.from); inside = omega (arith, p.inside, slot<); on-wire = p.meets })

-- ------------------------------------------------------------ a firing is noted

-- An h is on one wire.
one-wire : (v w : ℕ) (g : Gate) → is_h_on v g ≡ true → is_h_on w g ≡ true → v ≡ w
one-wire v w g p q = sym (h-wire v g p) ∙ h-wire w g q

pub other-off : (v w : ℕ) (g : Gate) → (v ≡ w → ⊥) → is_h_on w g ≡ true → is_h_on v g ≡ false
other-off v w g d q = go (is_h_on v g) refl
  where
    go : (b : Bool) → is_h_on v g ≡ b → is_h_on v g ≡ false
    go true p = absurd (d (one-wire v w g p q))
    go false p = p

-- The last closer noted on a wire is an h on it.
last_on : (bytes words : List ℕ) (k : Extent) (w slot : ℕ) → NotedTo bytes words k w slot → (y : ℕ) → suc y ≡ word words (tails_at k) w →
    is_h_on w (gate_at bytes y) ≡ true
unfolding behind
last_on bytes words k w slot noted y e = go noted.firings-so-far noted.on-wire (e ∙ noted.last)
  where
    go : (fs : List Firing) → All (λ f. is_h_on w (gate_at bytes f.closer) ≡ true) fs → suc y ≡ behind 0 fs → is_h_on w (gate_at bytes y) ≡ true
    go [] h q = absurd (omega (arith, q))
    go (f ∷ fs) h q =
        let same : behind (suc f.closer) fs - 1 ≡ y = omega (arith, q) in
        subst (λ (x : ℕ). is_h_on w (gate_at bytes x) ≡ true) same (last_meets (λ x. is_h_on w (gate_at bytes x) ≡ true) f.closer fs h.0 h.1).1

module _ (bytes was : List ℕ) (k : Extent) (w slot : ℕ) (live : is_live was k slot ≡ true) (opens : is_h_on w (gate_at bytes slot) ≡ true)
    (wide : w < k.wires) (room : spare_at k + notes_for k ≤ length was) (early : word was (tails_at k) w ≤ slot)
    (noted : (v : ℕ) → v < k.wires → NotedTo bytes was k v slot)
    (c : Close) (closes : closing_of w (later bytes was k slot) ≡ some c) where
  abbrev now : List ℕ
  now = noted_in k w slot c.closer was

  abbrev f : Firing
  f = record { opener = slot; closer = c.closer }

  slot< : slot < k.gates
  slot< = live_below was k slot live

  closer : Closer bytes was k w slot c.closer
  closer = closer-is bytes was k w slot c slot< closes

  before : word was (tails_at k) w ≤ c.closer
  before = omega (arith, early, closer.past)

  words : Stored (spare_at k) k.gates k.wires w slot c.closer was now
  words = stored (spare_at k) k.gates k.wires w slot c.closer was wide closer.inside before room

  -- Another wire's firings are where they were.
  other-wire : (v i : ℕ) → v < k.wires → (v ≡ w → ⊥) → NotedTo bytes was k v i → NotedTo bytes now k v i
  other-wire v i small differ n =
      record {
        firings-so-far = fs;
        all = ap (firings v 0) (spare-held k bytes was now (notes_for k) words.within) ∙ n.all
            ∙ ap (λ (l : List (Cell ℕ)). fs ++ firings v (behind 0 fs) l)
            (sym (spare-cells k bytes was now (notes_for k) words.within i (k.gates - i)));
        chain = subst (λ (x : ℕ). Chained (word now (spare_at k)) (word now (openers_at k)) x fs) (sym head-same)
            (chain-stays (word was (spare_at k)) (word now (spare_at k)) (word was (openers_at k)) (word now (openers_at k)) (word was (heads_at k) v) fs
            (all-with (λ e. (e.closer < k.gates) × (is_h_on v (gate_at bytes e.closer) ≡ true)) _ fs
            (λ e h. (next-same e.closer h.0 h.1, opener-same e.closer h.0 h.1))
            (all_both (λ e. e.closer < k.gates) (λ e. is_h_on v (gate_at bytes e.closer) ≡ true) fs n.inside n.on-wire)) n.chain);
        last = words.tail-stays v differ ∙ n.last;
        inside = n.inside;
        on-wire = n.on-wire;
        rising = n.rising;
      }
    where
      fs : List Firing
      fs = n.firings-so-far

      head-same : word now (heads_at k) v ≡ word was (heads_at k) v
      head-same = words.head-stays v small (λ z. differ)

      not-closer : (y : ℕ) → is_h_on v (gate_at bytes y) ≡ true → y ≡ c.closer → ⊥
      not-closer y h e =
          differ (one-wire v w (gate_at bytes y) h (subst (λ (x : ℕ). is_h_on w (gate_at bytes x) ≡ true) (sym e) closer.on-wire))

      next-same : (y : ℕ) → y < k.gates → is_h_on v (gate_at bytes y) ≡ true → word now (spare_at k) y ≡ word was (spare_at k) y
      next-same y l h =
          words.next-stays y l (not-closer y h)
          (λ e. differ (one-wire v w (gate_at bytes y) h (last_on bytes was k w slot (noted w wide) y e)))

      opener-same : (y : ℕ) → y < k.gates → is_h_on v (gate_at bytes y) ≡ true → word now (openers_at k) y ≡ word was (openers_at k) y
      opener-same y l h = words.opener-stays y l (not-closer y h)

  -- The wire's own firings are one more.
  own-wire : NotedTo bytes now k w (suc slot)
  own-wire =
      record {
        firings-so-far = fs ++ (f ∷ []);
        all = ap (firings w 0) (spare-held k bytes was now (notes_for k) words.within) ∙ n.all
            ∙ ap (◌++◌ fs) (turn-tried bytes was k slot slot< w (behind 0 fs) live opens (subst (λ (x : ℕ). x ≤ slot) n.last early) (some c) closes)
            ∙ sym (append_snoc fs f (firings w (suc c.closer) (rest bytes was k (suc slot))))
            ∙ ap₂ (λ (x : ℕ) (l : List (Cell ℕ)). (fs ++ (f ∷ [])) ++ firings w x l) (sym (behind_more 0 fs f))
            (sym (spare-cells k bytes was now (notes_for k) words.within (suc slot) (k.gates - suc slot)));
        chain =
            chain_more (word was (spare_at k)) (word now (spare_at k)) (word was (openers_at k)) (word now (openers_at k)) (word was (tails_at k) w) f words.next-end
            words.opener-new words.last-leads
            (λ y l. words.next-stays y (small y l) (not-closer y l)) (λ y l. words.opener-stays y (small y l) (not-closer y l))
            (word was (heads_at k) w) (word now (heads_at k) w) fs below (sym n.last) words.head-leads
            (λ z. words.head-stays w wide (λ e. absurd (z e))) n.chain;
        last = words.tail-new ∙ sym (behind_more 0 fs f);
        inside = all_more (λ e. e.closer < k.gates) fs f n.inside closer.inside;
        on-wire = all_more (λ e. is_h_on w (gate_at bytes e.closer) ≡ true) fs f n.on-wire closer.on-wire;
        rising = subst (λ (x : ℕ). All (λ e. suc e.closer ≤ x) (fs ++ (f ∷ []))) (sym (behind_more 0 fs f))
            (all_more (λ e. suc e.closer ≤ suc c.closer) fs f
            (all-with (λ e. e.closer < c.closer) (λ e. suc e.closer ≤ suc c.closer) fs (λ e l. omega (arith, l)) below) (omega arith));
      }
    where
      n : NotedTo bytes was k w slot
      n = noted w wide

      fs : List Firing
      fs = n.firings-so-far

      below : All (λ e. e.closer < c.closer) fs
      below = all-with (λ e. suc e.closer ≤ behind 0 fs) (λ e. e.closer < c.closer) fs (λ e l. omega (arith, l, n.last, before)) n.rising

      small : (y : ℕ) → y < c.closer → y < k.gates
      small y l = omega (arith, closer.inside)

      not-closer : (y : ℕ) → y < c.closer → y ≡ c.closer → ⊥
      not-closer y l e = omega arith

  -- All wires' firings are noted up to the next slot.
  pub firing-noted : (v : ℕ) → v < k.wires → NotedTo bytes now k v (suc slot)
  firing-noted v small = go (eqb v w) refl
    where
      go : (b : Bool) → eqb v w ≡ b → NotedTo bytes now k v (suc slot)
      go true e = subst (λ (x : ℕ). NotedTo bytes now k x (suc slot)) (sym (eqb-true v w e)) own-wire
      go false e =
          other-wire v (suc slot) small (eqb-false v w e)
          (noted-off bytes was k v slot slot< (noted v small) live (other-off v w (gate_at bytes slot) (eqb-false v w e) opens))

  pub firing-within : Within (spare_at k) (notes_for k) was now
  firing-within = words.within
