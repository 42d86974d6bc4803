-- Records and gates: which words a kind uses, and that decoding and encoding undo each other.
use Rattle.std.specs.Prelude.{Result, Ok, Err}
use mathlib.Core.Path.{◌≡◌, ap, sym, ◌∙◌}
use mathlib.Core.Bool.{Bool, true, false, ◌&&◌, ◌||◌, and-true, and_assoc}
use mathlib.Core.List.{[], ◌∷◌}
use Prim.Native.Nat.{ℕ, zero, suc, ◌≤◌, ◌<◌}
use native.Mathlib.Nat.{not-suc-le-zero}
use native.Mathlib.Omega.{arith}
use lib.Dec.{T, eqb, leb, leb→le}
use lib.ListN.{drop}
use borrow.Author.Tests.{ne_eqb}
use Rattle.gates.proofs.Joined.{and_both}
use Rattle.gates.proofs.Table.{at}
use Rattle.gates.proofs.KindLaws.{named, unknown_named}
use Rattle.gates.specs.declared.Gate.{Gate}
use Rattle.gates.specs.declared.kinds.Row.{Row}
use Rattle.gates.specs.declared.records.Record.{Record}
use Rattle.gates.specs.declared.records.NoGate.{NoGate}
use Rattle.gates.specs.Kinds.{Shape, on1, on2, on3, on_bit, angled, unknown, shapes, shape_of, wires_in, row_of}
use Rattle.gates.specs.Records.{used_of, unused_of, all_zero, gate_of}

-- ------------------------------------------------------------ the words that a kind uses

abbrev one_to_three : ℕ → Shape → Bool
one_to_three kind s = leb 1 (wires_in s) && leb (wires_in s) 3

operands-small : (kind : ℕ) → kind < 27 → (1 ≤ wires_in (shape_of kind)) × (wires_in (shape_of kind) ≤ 3)
unfolding shape_of shapes
operands-small kind h =
    let n = wires_in (shape_of kind) in
    let t = at one_to_three shapes unknown tt kind h in
    (leb→le 1 n (and_both (leb 1 n) (leb n 3) t).0, leb→le n 3 (and_both (leb 1 n) (leb n 3) t).1)

pub row_small : (row : Row) (kind : ℕ) → row ≡ row_of kind → kind < 27 → (1 ≤ row.operands) × (row.operands ≤ 3)
row_small row kind e h = rw e (operands-small kind h)

pub used_wires : (kind : ℕ) → (kind ≡ 12 → ⊥) → used_of kind ≡ wires_in (shape_of kind)
unfolding used_of
used_wires kind no12 = rw (ne_eqb kind 12 no12)

-- a count from 1 to 3 is one of three
pub one-to-three : (P : ℕ → Type 0) → P 1 → P 2 → P 3 → (n : ℕ) → 1 ≤ n → n ≤ 3 → P n
one-to-three P p₁ p₂ p₃ zero low high = absurd (not-suc-le-zero low)
one-to-three P p₁ p₂ p₃ (suc zero) low high = p₁
one-to-three P p₁ p₂ p₃ (suc (suc zero)) low high = p₂
one-to-three P p₁ p₂ p₃ (suc (suc (suc zero))) low high = p₃
one-to-three P p₁ p₂ p₃ (suc (suc (suc (suc n)))) low high = absurd (beyond n high)
  where
    beyond : (n : ℕ) → suc (suc (suc (suc n))) ≤ 3 → ⊥
    beyond n h = omega arith

abbrev ZeroTest : Record → ℕ → Type 0
ZeroTest r used =
    (eqb r.padding 0 && (leb 2 used || eqb r.second 0) && (leb 3 used || eqb r.third 0))
    ≡ all_zero (r.padding ∷ drop used (r.first ∷ r.second ∷ r.third ∷ []))

zero_test : (r : Record) (used : ℕ) → 1 ≤ used → used ≤ 3 → ZeroTest r used
unfolding all_zero
zero_test r = one-to-three (ZeroTest r) (simp (and_assoc, and-true)) (simp and-true) (simp and-true)

-- the test of the code goes by the count of used words
pub unused_by_count : (r : Record) (used : ℕ) → used ≡ used_of r.kind → 1 ≤ used → used ≤ 3
    → (eqb r.padding 0 && (leb 2 used || eqb r.second 0) && (leb 3 used || eqb r.third 0)) ≡ all_zero (unused_of r)
unfolding unused_of
unused_by_count r used e low high =
    zero_test r used low high ∙ ap (λ (n : ℕ). all_zero (r.padding ∷ drop n (r.first ∷ r.second ∷ r.third ∷ []))) e

-- ------------------------------------------------------------ the gate of a record

never : (d : Result Gate NoGate) (g : Gate) → d ≡ Ok g → d ≡ Err NoGate.Unknown → ⊥
never d g p q = let z : ◌≡◌ {A = ℕ} 0 1 = cc in omega arith

below-27 : (kind : ℕ) → (27 ≤ kind → ⊥) → kind < 27
below-27 kind not-past = omega arith

pub gate_kind : (r : Record) (g : Gate) → named r ≡ Ok g → r.kind < 27
gate_kind r g e = below-27 r.kind (λ h. never (named r) g e (unknown_named r.kind r.first r.second r.third h))

pub gate_refused : (r : Record) (why : NoGate) → Err why ≡ named r → Err why ≡ gate_of r
unfolding gate_of
gate_refused r why e = rw (← e)

-- ------------------------------------------------------------ what a decoded record's kind is

pub gate-past-26 : (r : Record) → 27 ≤ r.kind → gate_of r ≡ Err NoGate.Unknown
gate-past-26 r h = sym (gate_refused r NoGate.Unknown (sym (unknown_named r.kind r.first r.second r.third h)))

pub known-kind : (r : Record) (g : Gate) → gate_of r ≡ Ok g → r.kind < 27
known-kind r g e = below-27 r.kind (λ h. never (gate_of r) g e (gate-past-26 r h))

abbrev pub is_known : Shape → Bool
is_known (on1 f) = true
is_known (on2 f) = true
is_known (on3 f) = true
is_known (on_bit f) = true
is_known (angled n) = true
is_known unknown = false

abbrev known_at : ℕ → Shape → Bool
known_at kind s = is_known s

pub known-below-27 : (kind : ℕ) → kind < 27 → T (is_known (shape_of kind))
unfolding shape_of shapes
known-below-27 kind h = at known_at shapes unknown tt kind h
