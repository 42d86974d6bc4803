-- Words past the links are spare: what they hold is nothing to the list. And links between equals where their words stay.
use mathlib.Core.Path.{◌≡◌, refl, sym, ap, ◌∙◌}
use mathlib.Core.Bool.{Bool, true, ◌&&◌}
use mathlib.Core.List.{List}
use Prim.Native.Nat.{ℕ, suc, ◌+◌, ◌*◌, ◌-◌, ◌<◌}
use native.Mathlib.Omega.{arith}
use lib.ListN.{get_or}
use Rattle.gates.specs.Gates.{touches}
use Rattle.rules.specs.Equal.{equal, is_pair}
use Rattle.links.specs.Words.{word, Within}
use Rattle.links.specs.Seek.{node_at}
use Rattle.links.proofs.SeekLaws.{latest-same, earliest-same}
use Rattle.slots.specs.declared.Extent.{Extent}
use Rattle.slots.specs.Slots.{gate_at, cells_from}
use Rattle.slots.specs.Live.{nodes_for, pairs_at, pair_prev_at, spare_at, is_live, on_wire, equal_to, held, Forward, Partners, Live}
use Rattle.slots.proofs.HeldLaws.{cells_same}
use Rattle.slots.proofs.WireLaws.{node, apart}
use Rattle.slots.proofs.RingsLaws.{kept_on, kept-first}
use Rattle.slots.proofs.StateLaws.{live_same, live_below, loaded-same, touching}

-- ------------------------------------------------------------ links between equals

-- Links to equals where live pairs, their equals and the words of their links agree.
pub partners-carried : (k : Extent) (bytes bytes' was now : List ℕ) →
    ((i : ℕ) → is_live now k i ≡ true → is_pair (gate_at bytes' i) ≡ true → (is_live was k i ≡ true) × (is_pair (gate_at bytes i) ≡ true)) →
    ((i j : ℕ) → is_pair (gate_at bytes' i) ≡ true → is_live now k i ≡ true → equal_to bytes was k i j ≡ equal_to bytes' now k i j) →
    ((i : ℕ) → i < k.gates → word now (pair_prev_at k) (suc i) ≡ word was (pair_prev_at k) (suc i)) →
    ((i : ℕ) → i < k.gates → word now (pairs_at k) (suc i) ≡ word was (pairs_at k) (suc i)) → Partners bytes was k → Partners bytes' now k
partners-carried k bytes bytes' was now lives equals backs ons p =
    record {
      back = λ i t u. backs i (live_below now k i t) ∙ p.back i (lives i t u).0 (lives i t u).1
          ∙ ap (node_at suc 0) (latest-same (equal_to bytes was k i) (equal_to bytes' now k i) i (λ l m. equals i l u t));
      on = λ i t u. ons i (live_below now k i t) ∙ p.on i (lives i t u).0 (lives i t u).1
          ∙ ap (node_at suc 0) (earliest-same (equal_to bytes was k i) (equal_to bytes' now k i) (suc i) (k.gates - suc i) k.gates (whole (live_below now k i t)) (λ l a m. equals i l u t));
    }
  where
    whole : {i : ℕ} → i < k.gates → suc i + (k.gates - suc i) ≡ k.gates
    whole l = omega (arith, l)

pub partners-kept : (k : Extent) (bytes was now : List ℕ) → ((i : ℕ) → is_live now k i ≡ is_live was k i) →
    ((i : ℕ) → i < k.gates → word now (pair_prev_at k) (suc i) ≡ word was (pair_prev_at k) (suc i)) →
    ((i : ℕ) → i < k.gates → word now (pairs_at k) (suc i) ≡ word was (pairs_at k) (suc i)) → Partners bytes was k → Partners bytes now k
partners-kept k bytes was now lives backs ons p =
    partners-carried k bytes bytes was now (λ i t u. (sym (lives i) ∙ t, u))
    (λ i j u t. ap (λ (b : Bool). b && equal (gate_at bytes i) (gate_at bytes j)) (sym (lives j))) backs ons p

-- ------------------------------------------------------------ spare words

module _ (k : Extent) (bytes was now : List ℕ) (size : ℕ) (spare : Within (spare_at k) size was now) where
  below-spare : (x : ℕ) → x < spare_at k → get_or now x 0 ≡ get_or was x 0
  below-spare x l = spare.same x (λ m. l)

  pub spare-marks : (i : ℕ) → is_live now k i ≡ is_live was k i
  spare-marks = live_same was now k (λ x a b. below-spare x (omega arith))

  pub spare-cells : (i count : ℕ) → cells_from (is_live now k) (gate_at bytes) i count ≡ cells_from (is_live was k) (gate_at bytes) i count
  spare-cells i count =
      cells_same (is_live now k) (is_live was k) (gate_at bytes) (gate_at bytes) i count (λ j a b. spare-marks j) (λ j a b t. refl)

  pub spare-held : held bytes now k ≡ held bytes was k
  spare-held = spare-cells 0 k.gates

  forward-stays : Forward bytes was k → Forward bytes now k
  forward-stays f =
      record {
        each = λ w m. kept_on (gate_at bytes) k.gates k.wires (on_wire bytes was k) (on_wire bytes now k) w (λ i n. on_same w i)
            (word was 0) (word now 0) (λ i n t. next-stays (node (gate_at bytes) k.gates k.wires w i) (node-small w i m n t)) (f.each w m);
        first = λ w m. kept-first (gate_at bytes) k.gates k.wires (on_wire bytes was k) (on_wire bytes now k) w (λ i n. on_same w i)
            (word was 0) (word now 0) (next-stays (3 * k.gates + w) (omega arith)) (f.first w m);
      }
    where
      on_same : (w i : ℕ) → on_wire bytes was k w i ≡ on_wire bytes now k w i
      on_same w i = ap (λ (b : Bool). b && touches w (gate_at bytes i)) (sym (spare-marks i))

      next-stays : (x : ℕ) → x < nodes_for k → word now 0 x ≡ word was 0 x
      next-stays x m = below-spare (0 + x) (omega arith)

      node-small : (w i : ℕ) → w < k.wires → i < k.gates → on_wire bytes was k w i ≡ true → node (gate_at bytes) k.gates k.wires w i < nodes_for k
      node-small w i m n t = (apart (gate_at bytes) k.gates k.wires (on_wire bytes was k) (touching bytes was k) w m).small i n t

  pub spare-live : Live bytes was k → Live bytes now k
  spare-live l =
      record {
        loaded = loaded-same bytes k was now spare.long (λ x a b. below-spare x (omega arith)) l.loaded;
        forward = forward-stays l.forward;
        partners = partners-kept k bytes was now spare-marks (λ i m. below-spare (pair_prev_at k + suc i) (omega arith))
            (λ i m. below-spare (pairs_at k + suc i) (omega arith)) l.partners;
      }
