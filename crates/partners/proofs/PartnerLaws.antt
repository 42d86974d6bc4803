-- From pairs that are listed to partners: what linking them asks, and what it leaves.
use mathlib.Core.Path.{◌≡◌, refl, sym, ap, ap₂, subst, ◌∙◌}
use mathlib.Core.Bool.{Bool, true, false, ◌&&◌}
use mathlib.Core.List.{List}
use Prim.Native.Nat.{ℕ, suc, ◌+◌, ◌*◌, ◌-◌, ◌≤◌, ◌<◌}
use native.Mathlib.Omega.{arith}
use lib.ListN.{length}
use Rattle.gates.specs.Gates.{has, wires_of}
use Rattle.gates.specs.Records.{kind_of}
use Rattle.gates.proofs.Joined.{and_left, and_right}
use Rattle.rules.specs.Equal.{canonical, equal, is_pair}
use Rattle.links.specs.Words.{word}
use Rattle.links.specs.Seek.{node_at}
use Rattle.links.proofs.SeekLaws.{latest-same, earliest-same}
use Rattle.order.specs.Order.{key, listed, list_at, size_of, same_keys, peer, Listing, PairedUp}
use Rattle.order.proofs.ListLaws.{Pairwise, listed_has, listed-pairwise-at}
use Rattle.slots.specs.declared.Extent.{Extent}
use Rattle.slots.specs.Slots.{gate_at}
use Rattle.slots.specs.Live.{pairs_at, is_live, equal_to, Loaded, Partners}
use Rattle.slots.specs.Keeping.{KeepsLoaded}
use Rattle.rules.proofs.EqualLaws.{equal-pair}
use Rattle.partners.specs.Pairs.{live_pair, room_for, ListedTo}
use Rattle.slots.proofs.StateLaws.{live_below, wires-small, wires-once, all-has, room-enough, keeps-marks, keeps-none, keeps_then, keeps-pairs}
use Rattle.partners.proofs.KeyLaws.{PairOn, pair-on, keys-small, keys-tell}
use Rattle.partners.proofs.ListedLaws.{pairs_below_lem, has-pairs, pairs-ascend}

-- All pairs are listed.
module _ (bytes words : List ℕ) (k : Extent) (count : ℕ) (l : Loaded bytes words k) (p : ListedTo bytes words k k.gates count) (some : 0 < k.gates) where
  -- The wires of a live pair are below n and none stands twice.
  slot-pair : (i : ℕ) → live_pair bytes words k i ≡ true → PairOn k.wires (kind_of (gate_at bytes i)) (canonical (gate_at bytes i))
  slot-pair i t =
      let sound = l.sound i (and_left (is_live words k i) (is_pair (gate_at bytes i)) t) in
      pair-on k.wires (gate_at bytes i) (and_right (is_live words k i) (is_pair (gate_at bytes i)) t)
      (all-has (λ w. w < k.wires) (wires_of (gate_at bytes i)) (wires-small k.wires bytes i sound))
      (wires-once k.wires bytes i sound)

  -- The list has the live pairs.
  listed-is : (x : ℕ) → x < k.gates → has x (listed words (list_at (room_for k)) count) ≡ live_pair bytes words k x
  listed-is x m = ap (has x) p.list ∙ has-pairs bytes words k x k.gates m

  listed_small : (x : ℕ) → has x (listed words (list_at (room_for k)) count) ≡ true → x < k.gates
  listed_small x h = pairs_below_lem bytes words k x k.gates (sym (ap (has x) p.list) ∙ h)

  listed-pair : (x : ℕ) → has x (listed words (list_at (room_for k)) count) ≡ true → live_pair bytes words k x ≡ true
  listed-pair x h = sym (listed-is x (listed_small x h)) ∙ h

  fits : pairs_at k + size_of (room_for k) ≤ length words
  fits = omega (arith, l.room, room-enough k some)

  -- What stands at a place of the list is a live pair.
  at_has : (i : ℕ) → i < count → has (word words (list_at (room_for k)) i) (listed words (list_at (room_for k)) count) ≡ true
  at_has i m = listed_has words (list_at (room_for k)) count i (omega (arith, fits, p.short)) m

  at_pair : (i : ℕ) → i < count → live_pair bytes words k (word words (list_at (room_for k)) i) ≡ true
  at_pair i m = listed-pair (word words (list_at (room_for k)) i) (at_has i m)

  at_small : (i : ℕ) → i < count → word words (list_at (room_for k)) i < k.gates
  at_small i m = listed_small (word words (list_at (room_for k)) i) (at_has i m)

  -- What linking asks.
  pub pairs-ready : Listing words (room_for k) count
  pairs-ready =
      record {
        above = omega arith;
        within = fits;
        few = l.few;
        narrow = l.narrow;
        short = p.short;
        inside = at_small;
        ascending = listed-pairwise-at (λ x y. x < y) words (list_at (room_for k)) count (omega (arith, fits, p.short))
            (subst (Pairwise (λ x y. x < y)) (sym p.list) (pairs-ascend bytes words k k.gates));
        first = λ i m. small-first (word words (list_at (room_for k)) i) (at_small i m) (at_pair i m);
        middle = λ i m. small-middle (word words (list_at (room_for k)) i) (at_small i m) (at_pair i m);
        last = λ i m. small-last (word words (list_at (room_for k)) i) (at_small i m) (at_pair i m);
      }
    where
      small-first : (x : ℕ) → x < k.gates → live_pair bytes words k x ≡ true → key words 0 x < k.wires
      small-first x m t = rw (p.first x m t) (keys-small k.wires (kind_of (gate_at bytes x)) (canonical (gate_at bytes x)) (slot-pair x t)).0

      small-middle : (x : ℕ) → x < k.gates → live_pair bytes words k x ≡ true → key words 1 x < k.wires
      small-middle x m t = rw (p.middle x m t) (keys-small k.wires (kind_of (gate_at bytes x)) (canonical (gate_at bytes x)) (slot-pair x t)).1

      small-last : (x : ℕ) → x < k.gates → live_pair bytes words k x ≡ true → key words 2 x < 2 * k.wires
      small-last x m t = rw (p.last x m t) (keys-small k.wires (kind_of (gate_at bytes x)) (canonical (gate_at bytes x)) (slot-pair x t)).2

  -- Of two live pairs the keys agree exactly where the gates are equal.
  same-is-equal : (x y : ℕ) → x < k.gates → y < k.gates → live_pair bytes words k x ≡ true → live_pair bytes words k y ≡ true →
      same_keys words x y ≡ equal (gate_at bytes x) (gate_at bytes y)
  same-is-equal x y m n s t =
      rw (p.first x m s, p.first y n t, p.middle x m s, p.middle y n t, p.last x m s, p.last y n t)
      (keys-tell k.wires (gate_at bytes x) (gate_at bytes y) (slot-pair x s) (slot-pair y t))

  -- A pair's peers are the live gates equal to it: a gate equal to a pair is a pair.
  peer-is : (x y : ℕ) → x < k.gates → y < k.gates → live_pair bytes words k x ≡ true →
      peer words (room_for k) count x y ≡ equal_to bytes words k x y
  peer-is x y m n s =
      ap (λ (b : Bool). b && same_keys words x y) (listed-is y n)
      ∙ go (is_live words k y) refl (is_pair (gate_at bytes y)) refl
    where
      other : is_pair (gate_at bytes y) ≡ false → (b : Bool) → equal (gate_at bytes x) (gate_at bytes y) ≡ b → false ≡ b
      other off true e =
          sym off ∙ sym (equal-pair (gate_at bytes x) (gate_at bytes y) e) ∙ and_right (is_live words k x) (is_pair (gate_at bytes x)) s
      other off false e = refl

      go : (a : Bool) → is_live words k y ≡ a → (b : Bool) → is_pair (gate_at bytes y) ≡ b →
          (a && b) && same_keys words x y ≡ a && equal (gate_at bytes x) (gate_at bytes y)
      go true e true f = same-is-equal x y m n s (ap₂ ◌&&◌ e f)
      go true e false f = other f (equal (gate_at bytes x) (gate_at bytes y)) refl
      go false e b f = refl

  -- What linking leaves: it changes only the room for pairs, so the same slots are live.
  module _ (now : List ℕ) (paired : PairedUp (room_for k) count words now) where
    pub paired-keeps : KeepsLoaded k words now
    paired-keeps = keeps-pairs k words now some paired.within

    was-live : (i : ℕ) → is_live now k i ≡ true → is_live words k i ≡ true
    was-live i t = sym (keeps-marks k words now paired-keeps i) ∙ t

    same_test : (x y : ℕ) → x < k.gates → y < k.gates → live_pair bytes words k x ≡ true →
        peer words (room_for k) count x y ≡ equal_to bytes now k x y
    same_test x y m n s =
        peer-is x y m n s
        ∙ ap (λ (b : Bool). b && equal (gate_at bytes x) (gate_at bytes y)) (sym (keeps-marks k words now paired-keeps y))

    pub paired-partners : Partners bytes now k
    paired-partners =
        record {
          back = λ i t s. let m = live_below now k i t in let pair = ap₂ ◌&&◌ (was-live i t) s in
              paired.back i (listed-is i m ∙ pair)
              ∙ ap (node_at suc 0) (latest-same (peer words (room_for k) count i) (equal_to bytes now k i) i (λ j n. same_test i j m (omega arith) pair));
          on = λ i t s. let m = live_below now k i t in let pair = ap₂ ◌&&◌ (was-live i t) s in
              paired.on i (listed-is i m ∙ pair)
              ∙ ap (node_at suc 0)
              (earliest-same (peer words (room_for k) count i) (equal_to bytes now k i) (suc i) (k.gates - suc i) k.gates (omega arith) (λ j n o. same_test i j m o pair));
        }

-- A list of no gates has no partners.
pub no-partners : (bytes words : List ℕ) (k : Extent) → k.gates ≡ 0 → Partners bytes words k × KeepsLoaded k words words
no-partners bytes words k e = (record { back = λ i t s. absurd (none i t); on = λ i t s. absurd (none i t) }, keeps-none k words)
  where
    none : (i : ℕ) → is_live words k i ≡ true → ⊥
    none i t = omega (arith, e, live_below words k i t)

-- Listing and linking, one after the other.
pub partners-left : (bytes was words now : List ℕ) (k : Extent) (count : ℕ) (l : Loaded bytes words k) → 0 < k.gates → KeepsLoaded k was words →
    ListedTo bytes words k k.gates count → PairedUp (room_for k) count words now → Partners bytes now k × KeepsLoaded k was now
partners-left bytes was words now k count l some kept p paired = (
  paired-partners bytes words k count l p some now paired,
  keeps_then k was words now kept (paired-keeps bytes words k count l p some now paired),
)
