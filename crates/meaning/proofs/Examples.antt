-- Small lists and what they do, computed.
use mathlib.Core.Path.{◌≡◌, refl}
use mathlib.Core.Bool.{Bool, true, false, not, cond, ◌&&◌}
use mathlib.Core.List.{List, [], ◌∷◌}
use Prim.Native.Nat.{ℕ, zero, suc}
use lib.IntN.{pos}
use Rattle.gates.specs.declared.Gate.{Gate}
use Rattle.gates.specs.declared.Gate.TheVariants.{H, S, Sdg, Cnot, Measure, Reset}
use Rattle.gates.specs.Gates.{wire, bit, wires_of, All}
use Rattle.meaning.specs.Amplitudes.{times, four, plus, minus, times_w, times_root, Amplitude, over, sum_of_two, Amplitudes, ◌≈◌}
use Rattle.meaning.specs.Matrices.{same_bits, U, gphase, turned_all, with_phase, ctrl, conjugated, inv}
use Rattle.meaning.specs.States.{Setting, with, bits_at, put, under, all_bits, doing, Config, sum, scale, through, kept, zeroed, run}

-- ------------------------------------------------------------ an example

-- From both wires 0, with some outcomes to come: the amplitude where the first two wires have these bits.
record Example : Type 0 where
  gates : List Gate
  outcomes : List Bool
  first : Bool
  second : Bool
  amplitude : Amplitude

two : Bool → Bool → Setting
two a b zero = a
two a b (suc zero) = b
two a b (suc (suc n)) = false

-- A power of w over a power of √2, and none.
abbrev one : ℕ → Amplitude
one p = over (four (pos 1) (pos 0) (pos 0) (pos 0)) p

abbrev w : ℕ → Amplitude
w p = over (four (pos 0) (pos 1) (pos 0) (pos 0)) p

abbrev nothing : Amplitude
nothing = Amplitudes.none

start : List Bool → Config Amplitude
start outcomes =
    record {
      outcomes = outcomes;
      bits = λ n. false;
      state = λ s. cond (not (s 0) && not (s 1)) (one 0) nothing;
    }

abbrev Right : Example → Type 0
Right e = (run Amplitudes e.gates (start e.outcomes)).state (two e.first e.second) ≈ e.amplitude

-- ------------------------------------------------------------ the table

abbrev example : List Gate → List Bool → Bool → Bool → Amplitude → Example
example gates outcomes a b amplitude =
    record { gates = gates; outcomes = outcomes; first = a; second = b; amplitude = amplitude }

abbrev bell : List Gate
bell = H (wire 0) ∷ Cnot (wire 0) (wire 1) ∷ []

-- Both wires of it measured into classical bits 5 and 6, the second then reset.
abbrev measured : List Gate
measured = H (wire 0) ∷ Cnot (wire 0) (wire 1) ∷ Measure (wire 0) (bit 5) ∷ Measure (wire 1) (bit 6) ∷ Reset (wire 1) ∷ []

examples : List Example
examples =
    -- (|00> + |11>) / √2
    example bell [] false false (one 1) ∷
    example bell [] false true nothing ∷
    example bell [] true true (one 1) ∷
    -- both outcomes 1, and the wire that was reset is 0; outcomes that differ have no amplitude
    example measured (true ∷ true ∷ true ∷ []) true false (one 1) ∷
    example measured (true ∷ true ∷ true ∷ []) true true nothing ∷
    example measured (true ∷ false ∷ true ∷ []) true false nothing ∷
    example measured (true ∷ true ∷ false ∷ []) true false nothing ∷
    -- small list 4 and what comes out: the amplitudes of the first are those of the second times w
    example (H (wire 0) ∷ S (wire 0) ∷ H (wire 0) ∷ []) [] false false (w 1) ∷
    example (Sdg (wire 0) ∷ H (wire 0) ∷ Sdg (wire 0) ∷ []) [] false false (one 1) ∷ []

examples-right : All Right examples
unfolding examples start two run doing wires_of through kept zeroed sum scale times put with bits_at all_bits under
    sum_of_two plus minus times_w times_root same_bits U gphase turned_all with_phase ctrl conjugated inv
examples-right = (refl, (refl, (refl, (refl, (refl, (refl, (refl, (refl, (refl, tt)))))))))

-- Outcomes are stored and used up.
measured-bit : (run Amplitudes measured (start (true ∷ true ∷ true ∷ []))).bits 6 ≡ true
unfolding start run doing wires_of with
measured-bit = refl

measured-rest : (run Amplitudes measured (start (true ∷ true ∷ true ∷ false ∷ []))).outcomes ≡ false ∷ []
unfolding start run doing wires_of
measured-rest = refl
