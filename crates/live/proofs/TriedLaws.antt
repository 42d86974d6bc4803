-- The trial from end to end: what an accepted input gives, and what is left and answered.
use Rattle.std.specs.Prelude.{Option as Answer, Result, Ok}
use mathlib.Core.Path.{◌≡◌, sym, ap, subst, ◌∙◌}
use mathlib.Core.Bool.{true}
use mathlib.Core.List.{List, ◌++◌}
use Prim.Native.Nat.{ℕ, ◌+◌, ◌*◌, ◌/◌, ◌≤◌, ◌<◌}
use native.Mathlib.Omega.{arith}
use lib.ListN.{length, drop, replicate}
use Rattle.gates.specs.declared.Gate.{Gate}
use Rattle.gates.specs.declared.records.Record.{Record}
use Rattle.gates.specs.Gates.{wires_of, touches, twice, Valid}
use Rattle.gates.specs.Records.{record_at, gate_of}
use Rattle.intake.specs.declared.Sizes.{Sizes}
use Rattle.intake.specs.declared.faults.Refusal.{Refusal}
use Rattle.intake.specs.Tests.{first_failing, size_tests, journal_tests, list_tests, input_tests}
use Rattle.intake.proofs.TestLaws.{both-accepted}
use Rattle.intake.proofs.SizeLaws.{Sized, sized}
use Rattle.intake.proofs.ValidLaws.{accepted-valid}
use Rattle.links.specs.Words.{Within}
use Rattle.links.proofs.WordLaws.{within-then}
use Rattle.slots.specs.Slots.{gate_in, Sound}
use Rattle.slots.specs.Live.{words_for}
use Rattle.live.specs.Finished.{words_left}
use Rattle.live.specs.Trial.{extent_of, words_after}
use Rattle.live.proofs.FinishLaws.{past_same}

-- ------------------------------------------------------------ an input that is accepted

-- The record of a valid gate is sound.
valid-sound : (n bits : ℕ) (r : Record) (g : Gate) → gate_of r ≡ Ok g → Valid n bits g → Sound n r
valid-sound n bits r g e v =
    record {
      reads = e ∙ ap Ok (sym read);
      below = λ w t. v.below w (subst (λ (x : Gate). touches w x ≡ true) read t);
      distinct = ap (λ (x : Gate). twice (wires_of x)) read ∙ v.distinct;
    }
  where
    read : gate_in (gate_of r) ≡ g
    read = ap gate_in e

-- What loading asks: room for the records and the words, and sound records.
module _ (list : List ℕ) (wires bits output work : ℕ) (room : Answer ℕ) where
  abbrev sizes : Sizes
  sizes = record { wires = wires; bits = bits; output = output; work = work }

  abbrev pub IsAccepted : Type 0
  IsAccepted = first_failing (input_tests list sizes room) ≡ Ok tt

  module _ (e : IsAccepted) where
    parts : (first_failing (size_tests (length list) sizes) ≡ Ok tt)
        × (first_failing (journal_tests (length list) room ++ list_tests wires bits list) ≡ Ok tt)
    parts = both-accepted (size_tests (length list) sizes) (journal_tests (length list) room ++ list_tests wires bits list) e

    pub accepted-fits : (length list / 16 ≤ 1048576) × (wires ≤ 65536) × (16 * (length list / 16) ≤ output)
        × (words_for (extent_of list wires) ≤ work) × (16 * (length list / 16) ≤ length list)
    accepted-fits =
        let s : Sized (length list) sizes = sized (length list) sizes parts.0 in
        omega (arith, s.records, s.wires, s.output, s.work, s.whole)

    pub accepted-sound : (i : ℕ) → i < length list / 16 → Sound wires (record_at list i)
    accepted-sound i m =
        let passed = (both-accepted (journal_tests (length list) room) (list_tests wires bits list) parts.1).1 in
        let valid = accepted-valid wires bits list passed i m in
        valid-sound wires bits (record_at list i) valid.0 valid.1 valid.2

-- ------------------------------------------------------------ what is left of the words

-- Loading, links and a drop change words of the room only, and `finish` zeroes these.
pub words-zeroed : (list work₀ work linked dropped now : List ℕ) (wires : ℕ) (tested : Result Unit Refusal) → tested ≡ Ok tt →
    Within 0 (words_for (extent_of list wires)) work₀ work → Within 0 (words_for (extent_of list wires)) work linked →
    Within 0 (words_for (extent_of list wires)) linked dropped → now ≡ words_left dropped (extent_of list wires) →
    now ≡ words_after tested list wires work₀
words-zeroed list work₀ work linked dropped now wires tested e loads links drops zeros =
    rw e (zeros ∙ ap (λ (rest : List ℕ). replicate (words_for (extent_of list wires)) 0 ++ rest) past)
  where
    past : drop (0 + words_for (extent_of list wires)) dropped ≡ drop (0 + words_for (extent_of list wires)) work₀
    past =
        past_same 0 _ work₀ dropped
        (within-then 0 _ work₀ work dropped loads (within-then 0 _ work linked dropped links drops))
