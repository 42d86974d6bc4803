-- The first of several tests that fails.
use Rattle.std.specs.Prelude.{Result, Ok, Err}
use mathlib.Core.Path.{◌≡◌, refl, ap, sym, ◌∙◌}
use mathlib.Core.Bool.{Bool, true, false, ◌&&◌, ◌||◌, or_assoc, or-false}
use mathlib.Core.List.{List, [], ◌∷◌, ◌++◌}
use Prim.Native.Nat.{ℕ, suc, ◌+◌, ◌-◌, ◌≤◌, ◌<◌}
use native.Mathlib.Numerals.{add-one}
use native.Mathlib.Omega.{arith}
use lib.Dec.{eqb, leb}
use lib.ListN.{take}
use Rattle.gates.specs.declared.kinds.Row.{Row}
use Rattle.gates.specs.declared.records.Record.{Record}
use Rattle.gates.specs.Kinds.{row_of}
use Rattle.gates.specs.Gates.{has, twice}
use Rattle.gates.specs.Records.{record_at, operand_words}
use Rattle.gates.proofs.RecordLaws.{one-to-three}
use Rattle.intake.specs.declared.faults.Refusal.{Refusal}
use Rattle.intake.specs.Faults.{refusal}
use Rattle.intake.specs.Tests.{Test, position, first_failing, any_over, record_tests, records_tests}

-- ------------------------------------------------------------ operands

-- what a test says of the words that the table's row counts, it says of the operand words
pub on_operands : (f : List ℕ → Bool) (r : Record) (row : Row) (t : Bool) → row ≡ row_of r.kind
    → t ≡ f (take row.operands (r.first ∷ r.second ∷ r.third ∷ [])) → f (operand_words r) ≡ t
on_operands f r row t e h = sym (h ∙ ap (λ (k : Row). f (take k.operands (r.first ∷ r.second ∷ r.third ∷ []))) e)

-- ------------------------------------------------------------ one list of tests behind another

pub accepted≢refused : (t : Result Unit Refusal) (why : Refusal) → t ≡ Ok tt → t ≡ Err why → ⊥
accepted≢refused t why p q = cc

first-fails : (t : Test) (ts : List Test) → t.fails ≡ true → first_failing (t ∷ ts) ≡ Err (refusal t.fault (position t.place))
unfolding first_failing
first-fails t ts f = rw f

first_next : (t : Test) (ts : List Test) → t.fails ≡ false → first_failing (t ∷ ts) ≡ first_failing ts
unfolding first_failing
first_next t ts f = rw f

pub accepted_then : (ts us : List Test) → first_failing ts ≡ Ok tt → first_failing (ts ++ us) ≡ first_failing us
unfolding first_failing
accepted_then [] us e = refl
accepted_then (t ∷ ts) us e = go (accepted_then ts us) t.fails refl
  where
    go : (first_failing ts ≡ Ok tt → first_failing (ts ++ us) ≡ first_failing us)
        → (b : Bool) → t.fails ≡ b → first_failing ((t ∷ ts) ++ us) ≡ first_failing us
    go rest true f = absurd (accepted≢refused (first_failing (t ∷ ts)) (refusal t.fault (position t.place)) e (rw f))
    go rest false f = rw f (rest (rw f at e))

pub refused_then : (ts us : List Test) (why : Refusal) → first_failing ts ≡ Err why → first_failing (ts ++ us) ≡ Err why
unfolding first_failing
refused_then [] us why e = absurd (accepted≢refused _ _ refl e)
refused_then (t ∷ ts) us why e = go (refused_then ts us why) t.fails refl
  where
    go : (first_failing ts ≡ Err why → first_failing (ts ++ us) ≡ Err why)
        → (b : Bool) → t.fails ≡ b → first_failing ((t ∷ ts) ++ us) ≡ Err why
    go rest true f = rw f (rw f at e)
    go rest false f = rw f (rest (rw f at e))

-- the first test passes where all do
pub first_passes : (t : Test) (ts : List Test) → first_failing (t ∷ ts) ≡ Ok tt → (t.fails ≡ false) × (first_failing ts ≡ Ok tt)
first_passes t ts e = go t.fails refl
  where
    go : (b : Bool) → t.fails ≡ b → (t.fails ≡ false) × (first_failing ts ≡ Ok tt)
    go true f = absurd (accepted≢refused (first_failing (t ∷ ts)) (refusal t.fault (position t.place)) e (first-fails t ts f))
    go false f = (f, sym (first_next t ts f) ∙ e)

pub both-accepted : (ts us : List Test) → first_failing (ts ++ us) ≡ Ok tt
    → (first_failing ts ≡ Ok tt) × (first_failing us ≡ Ok tt)
unfolding first_failing
both-accepted [] us e = (refl, e)
both-accepted (t ∷ ts) us e =
    let first = first_passes t (ts ++ us) e in
    let rest = both-accepted ts us first.1 in
    (first_next t ts first.0 ∙ rest.0, rest.1)

-- ------------------------------------------------------------ record after record

module _ (n bits : ℕ) (list : List ℕ) (g i : ℕ) where
  one_more : i < g
      → records_tests n bits list i (g - i) ≡ record_tests n bits i (record_at list i) ++ records_tests n bits list (i + 1) (g - (i + 1))
  unfolding records_tests
  one_more h =
      let e : g - i ≡ suc (g - (i + 1)) = omega arith in
      rw (e, add-one i)

  pub record_accepted : i < g → first_failing (record_tests n bits i (record_at list i)) ≡ Ok tt
      → first_failing (records_tests n bits list i (g - i)) ≡ first_failing (records_tests n bits list (i + 1) (g - (i + 1)))
  record_accepted h e =
      ap first_failing (one_more h) ∙ accepted_then (record_tests n bits i (record_at list i)) (records_tests n bits list (i + 1) (g - (i + 1))) e

  pub record_refused : (why : Refusal) → i < g → first_failing (record_tests n bits i (record_at list i)) ≡ Err why
      → first_failing (records_tests n bits list i (g - i)) ≡ Err why
  record_refused why h e =
      ap first_failing (one_more h)
      ∙ refused_then (record_tests n bits i (record_at list i)) (records_tests n bits list (i + 1) (g - (i + 1))) why e

  pub records_end : g ≤ i → first_failing (records_tests n bits list i (g - i)) ≡ Ok tt
  unfolding records_tests first_failing
  records_end h =
      let e : g - i ≡ 0 = omega arith in
      rw e

-- ------------------------------------------------------------ operands by their count, as the code tests them

abbrev OverTest : ℕ → ℕ → ℕ → ℕ → ℕ → Type 0
OverTest n a b c count = (leb n a || (leb 2 count && leb n b) || (leb 3 count && leb n c)) ≡ any_over n (take count (a ∷ b ∷ c ∷ []))

pub over_by_count : (n a b c count : ℕ) → 1 ≤ count → count ≤ 3 → OverTest n a b c count
unfolding any_over
over_by_count n a b c = one-to-three (OverTest n a b c) (simp or-false) (simp or-false) (simp (or_assoc, or-false))

abbrev TwiceTest : ℕ → ℕ → ℕ → ℕ → Type 0
TwiceTest a b c count = ((leb 2 count && eqb a b) || (leb 3 count && (eqb a c || eqb b c))) ≡ twice (take count (a ∷ b ∷ c ∷ []))

pub twice_by_count : (a b c count : ℕ) → 1 ≤ count → count ≤ 3 → TwiceTest a b c count
unfolding twice has
twice_by_count a b c = one-to-three (TwiceTest a b c) (simp or-false) (simp or-false) (simp (or_assoc, or-false))
