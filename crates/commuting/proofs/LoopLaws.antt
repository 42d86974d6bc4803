-- The loops of a walk.
use mathlib.Core.Path.{◌≡◌, sym, ap, ◌∙◌}
use mathlib.Core.List.{List}
use mathlib.Core.Logic.{◌⊎◌, inl, inr}
use Prim.Native.Nat.{ℕ, ◌+◌, ◌*◌, ◌-◌, ◌/◌, ◌≤◌, ◌<◌}
use native.Mathlib.Omega.{arith}
use lib.ListN.{length, get_or, set}
use borrow.Author.Count.{below_more}
use Rattle.gates.specs.Records.{record_at}
use Rattle.rules.specs.Sweeps.{blocked}
use Rattle.leaves.specs.declared.pairs.CommutingPair.{CommutingPair}
use Rattle.passing.specs.declared.quick.Past.{Past}
use Rattle.passing.specs.Quick.{past_of, passes_by}
use Rattle.slots.specs.declared.Extent.{Extent}
use Rattle.commuting.specs.declared.walk.Ending.{Ending}
use Rattle.commuting.specs.declared.walk.Seen.{Seen}
use Rattle.commuting.specs.Walking.{look_at}
use Rattle.commuting.proofs.NodeLaws.{partner-told, passed-told, blocker-told}
use Rattle.commuting.proofs.WalkLaws.{Meant, Walking, wires, walk_is, skipped, one_left, room-left, may-look, partner-seen, passed-seen, blocker-seen, round, all_finished}

module _ (bytes words : List ℕ) (k : Extent) (slot partner : ℕ) (pair : CommutingPair) (past : Past) (count : ℕ) where
  -- What a walk has at hand.
  pub record For : Type 0 where
    pub meant : Meant bytes words k slot partner pair
    pub passing : past ≡ past_of pair
    pub counted : count ≡ length (wires pair)
    pub narrow : count ≤ 3

  -- Between two rounds.
  pub record Begun (at : List ℕ) (left looks : ℕ) (ending : Ending) : Type 0 where
    pub its : For
    pub not_yet : ending ≡ Ending.Reached
    pub walking : Walking bytes words k slot partner pair at left looks 0

  -- In a round: there has been a look in it, or the tracks that had their turn are finished ones, and not all are.
  pub record Round (looks₀ : ℕ) (at : List ℕ) (left looks : ℕ) (ending : Ending) (op : ℕ) : Type 0 where
    pub its : For
    pub not_yet : ending ≡ Ending.Reached
    pub walking : Walking bytes words k slot partner pair at left looks op
    pub looked : (looks₀ < looks) ⊎ ((looks₀ ≡ looks) × (0 < left) × ((i : ℕ) → i < op → get_or at i 0 ≡ 0))

module _ {bytes words : List ℕ} {k : Extent} {slot partner : ℕ} {pair : CommutingPair} {past : Past} {count : ℕ} where
  module _ {looks₀ : ℕ} {at : List ℕ} {left looks : ℕ} {ending : Ending} {op : ℕ}
      (r : Round bytes words k slot partner pair past count looks₀ at left looks ending op) where
    module _ (here : op < count) where
      turn : op < length (wires pair)
      turn = omega (arith, here, r.its.counted)

      pub round-skips : get_or at op 0 ≡ 0 → Round bytes words k slot partner pair past count looks₀ at left looks ending (op + 1)
      round-skips z =
          record {
            its = r.its;
            not_yet = r.not_yet;
            walking = skipped bytes words k slot partner pair r.its.meant at left looks op r.walking turn z;
            looked = elim r.looked [ inl l ↦ inl l | inr h ↦ inr (h.0, h.1, below_more (λ i. get_or at i 0 ≡ 0) op h.2 z) ];
          }

      module _ (busy : get_or at op 0 ≡ 0 → ⊥) where
        pub round-open : 1 ≤ left
        round-open = one_left bytes words k slot partner pair r.its.meant at left looks op r.walking turn busy

        pub round-looks : (get_or at op 0 < length words) × (16 * (get_or at op 0 / 3) + 16 ≤ length bytes) × (get_or at op 0 / 3 < 1048576)
        round-looks = may-look bytes words k slot partner pair r.its.meant at left looks op r.walking turn busy

        more : looks₀ < looks + 1
        more = elim r.looked [ inl l ↦ omega (arith, l) | inr h ↦ omega (arith, h.0) ]

        module _ (seen : Seen) (is : seen ≡ look_at bytes words past partner (get_or at op 0)) where
          pub round-reaches : seen ≡ Seen.Partner →
              Round bytes words k slot partner pair past count looks₀ (set at op 0) (left - 1) (looks + 1) ending (op + 1)
          round-reaches e =
              record {
                its = r.its;
                not_yet = r.not_yet;
                walking = partner-seen bytes words k slot partner pair r.its.meant at left looks op r.walking turn busy
                    (partner-told bytes words past partner (get_or at op 0) seen is e);
                looked = inl more;
              }

          pub round-passes : (next : ℕ) → seen ≡ Seen.Passed next →
              Round bytes words k slot partner pair past count looks₀ (set at op next) left (looks + 1) ending (op + 1)
          round-passes next e =
              let told = passed-told bytes words past partner (get_or at op 0) seen is next e in
              record {
                its = r.its;
                not_yet = r.not_yet;
                walking = passed-seen bytes words k slot partner pair r.its.meant at left looks op r.walking turn busy told.0 next
                    (ap (λ (p : Past). passes_by p (record_at bytes (get_or at op 0 / 3))) (sym r.its.passing) ∙ told.1) told.2;
                looked = inl more;
              }

          -- A blocker ends the walk.
          pub round-blocks : seen ≡ Seen.Blocker →
              (blocked (looks + 1) ≡ walk_is bytes words k slot partner pair) × (looks + 1 ≤ 3 * k.gates)
          round-blocks e =
              let told = blocker-told bytes words past partner (get_or at op 0) seen is e in (
                sym (blocker-seen bytes words k slot partner pair r.its.meant at left looks op r.walking turn busy told.0
                    (ap (λ (p : Past). passes_by p (record_at bytes (get_or at op 0 / 3))) (sym r.its.passing) ∙ told.1)),
                room-left bytes words k slot partner pair r.its.meant at left looks op r.walking turn busy,
              )

    -- A round that ends leads on to the next, and has looked.
    module _ (over : op ≡ count) where
      pub round-ends : Begun bytes words k slot partner pair past count at left looks ending
      round-ends =
          record {
            its = r.its;
            not_yet = r.not_yet;
            walking = round bytes words k slot partner pair r.its.meant at left looks op (over ∙ r.its.counted) r.walking;
          }

      pub round-looked : looks₀ < looks
      round-looked = elim r.looked [
        | inl l ↦ l
        | inr h ↦
            absurd
            (omega (
              arith,
              h.1,
              all_finished bytes words k slot partner pair r.its.meant at left looks round-ends.walking
                  (λ i l. h.2 i (omega (arith, l, over, r.its.counted))),
            ))
      ]
