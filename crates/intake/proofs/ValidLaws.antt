-- A list that passed the tests of its records is a list of valid gates.
use Rattle.std.specs.Prelude.{Result, Ok, Err}
use mathlib.Core.Path.{◌≡◌, refl, ap, sym, ◌∙◌}
use mathlib.Core.Bool.{Bool, true, false, ◌&&◌, true≢false}
use mathlib.Core.List.{List, [], ◌∷◌}
use Prim.Native.Nat.{ℕ, zero, suc, ◌+◌, ◌<◌}
use native.Mathlib.Nat.{le_of_suc-le-suc, not-suc-le-zero, add-zero, add-suc, suc-add, zero-add}
use lib.Dec.{eqb, leb}
use lib.ListN.{length}
use borrow.Author.Tests.{leb-false, eqb-true}
use Rattle.gates.specs.declared.Bit.{Bit}
use Rattle.gates.specs.declared.Wire.{Wire}
use Rattle.gates.specs.declared.Gate.{Gate}
use Rattle.gates.specs.declared.Gate.TheVariants.{Measure}
use Rattle.gates.specs.declared.records.Record.{Record}
use Rattle.gates.specs.declared.records.NoGate.{NoGate}
use Rattle.gates.specs.Gates.{has, twice, Valid}
use Rattle.gates.specs.Records.{record_at, gate_of, record_of, operand_words}
use Rattle.gates.proofs.RoundTrip.{encode-decode, wires-words}
use Rattle.gates.proofs.Joined.{neither}
use Rattle.intake.specs.Tests.{first_failing, records_in, any_over, operand_tests, record_tests, records_tests, list_tests}
use Rattle.intake.proofs.TestLaws.{accepted≢refused, first_passes, both-accepted}
use Rattle.intake.proofs.RecordLaws.{by_decoded, tested}

-- ------------------------------------------------------------ one record

-- what is accepted was decoded to a gate: the other cases are refused
pub some-gate : (n bits place : ℕ) (r : Record) (d : Result Gate NoGate) → by_decoded n bits place r d ≡ Ok tt
    → (g : Gate) × (d ≡ Ok g)
some-gate n bits place r (Ok g) e = (g, refl)
some-gate n bits place r (Err why) e = absurd (accepted≢refused _ _ e refl)

-- a wire that is among those of which none is at or over n
under : (n w : ℕ) (ws : List ℕ) → any_over n ws ≡ false → has w ws ≡ true → w < n
unfolding any_over has
under n w [] none here = absurd (true≢false (sym here))
under n w (v ∷ vs) none here =
    let parts = neither (leb n v) (any_over n vs) none in
    go (under n w vs parts.1) (eqb w v) refl
  where
    go : (has w vs ≡ true → w < n) → (b : Bool) → eqb w v ≡ b → w < n
    go later true e = rw (eqb-true w v e) (leb-false n v (neither (leb n v) (any_over n vs) none).0)
    go later false e = later (rw e at here)

measured : (bits : ℕ) (r : Record) (w : Wire) (b : Bit) → record_of (Measure w b) ≡ r
    → (eqb r.kind 12 && leb bits r.second) ≡ false → b.0 < bits
unfolding record_of
measured bits r w b e none =
    leb-false bits b.0 (rw (← e) at none)

-- ------------------------------------------------------------ every record

pub valid-record : (n bits place : ℕ) (r : Record) → first_failing (record_tests n bits place r) ≡ Ok tt
    → (g : Gate) × (gate_of r ≡ Ok g) × Valid n bits g
unfolding record_tests operand_tests
valid-record n bits place r e =
    let t₇ = first_passes _ _ e in
    let t₈ = first_passes _ _ t₇.1 in
    let t₉ = first_passes _ _ t₈.1 in
    let t₁₀ = first_passes _ _ t₉.1 in
    let t₁₁ = first_passes _ _ t₁₀.1 in
    let t₁₂ = first_passes _ _ t₁₁.1 in
    let found = some-gate n bits place r (gate_of r) (tested n bits place r ∙ e) in
    let g = found.0 in
    let wires = wires-words r g found.1 in (
      g,
      found.1,
      record {
        below = λ w here. under n w (operand_words r) t₁₀.0 (rw wires at here);
        distinct = ap twice wires ∙ t₁₁.0;
        bit = λ w b is. measured bits r w b (ap record_of (sym is) ∙ encode-decode r g found.1) t₁₂.0;
      },
    )

accepted-at : (n bits : ℕ) (list : List ℕ) (place more : ℕ) → first_failing (records_tests n bits list place more) ≡ Ok tt
    → (i : ℕ) → i < more → first_failing (record_tests n bits (place + i) (record_at list (place + i))) ≡ Ok tt
unfolding records_tests
accepted-at n bits list place zero e i h = absurd (not-suc-le-zero h)
accepted-at n bits list place (suc more) e zero h =
    rw add-zero (both-accepted (record_tests n bits place (record_at list place)) (records_tests n bits list (suc place) more) e).0
accepted-at n bits list place (suc more) e (suc i) h =
    rw (add-suc, ← suc-add)
    (accepted-at n bits list (suc place) more
    (both-accepted (record_tests n bits place (record_at list place)) (records_tests n bits list (suc place) more) e).1
    i (le_of_suc-le-suc h))

pub accepted-valid : (n bits : ℕ) (list : List ℕ) → first_failing (list_tests n bits list) ≡ Ok tt
    → (i : ℕ) → i < records_in (length list) → (g : Gate) × (gate_of (record_at list i) ≡ Ok g) × Valid n bits g
accepted-valid n bits list e i h =
    valid-record n bits i (record_at list i) (rw zero-add at (accepted-at n bits list 0 (records_in (length list)) e i h))
