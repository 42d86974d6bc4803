-- What an answer says of the list that was asked: a slot that is found is where the list is parted.
use Rattle.std.specs.Prelude.{Option as Answer, Some, None}
use mathlib.Core.Path.{◌≡◌, refl, sym, ap, ◌∙◌}
use mathlib.Core.Option.{Option, some, none}
use Prim.Native.Nat.{ℕ}
use native.Mathlib.Omega.{arith}
use Rattle.rules.specs.Steps.{Cut}
use Rattle.slots.specs.declared.Slot.{Slot}
use Rattle.slots.specs.Slots.{slot_of, found}

-- A slot that is found is where a list is parted.
pub record PartedAt (o : Option (Cut ℕ)) (b : ℕ) : Type 0 where
  pub parts : Cut ℕ
  pub is : o ≡ some parts
  pub slot : parts.here.beside ≡ b

abbrev answer_none : Answer Slot
answer_none = None

nothing-at : (b : Slot) → answer_none ≡ Some b → ⊥
nothing-at b p = let z : ◌≡◌ {A = ℕ} 0 1 = cc in absurd (omega arith)

abbrev answer_some : Slot → Answer Slot
answer_some a = Some a

at_same : (a b : Slot) → answer_some a ≡ Some b → a.0 ≡ b.0
at_same a b p = let same : a ≡ b = cc in ap (λ s. s.0) same

pub found-parted : (o : Option (Cut ℕ)) (answer : Answer Slot) (b : Slot) → answer ≡ found (slot_of o) → answer ≡ Some b → PartedAt o b.0
found-parted none answer b p q = absurd (nothing-at b (sym p ∙ q))
found-parted (some c) answer b p q = record { parts = c; is = refl; slot = at_same _ b (sym p ∙ q) }

pub found_none : (o : Option (Cut ℕ)) (answer : Answer Slot) → answer ≡ found (slot_of o) → answer ≡ None → o ≡ none
found_none none answer p q = refl
found_none (some c) answer p q = absurd (nothing-at _ (sym q ∙ p))
