-- The trial of the live list: a list is loaded whole, one gate is dropped, and what is left is written out.
use Rattle.std.specs.Prelude.{None, Result, Ok, Err, cond, List, ◌++◌, ℕ, ◌*◌, ◌-◌, ◌/◌, length, get_or, drop, replicate}
use Rattle.gates.specs.Gates.{wires_of, touches, shares}
use Rattle.rules.specs.Equal.{equal, is_pair}
use Rattle.rules.specs.Steps.{Cell, try, gates_of, cut_at}
use Rattle.rules.specs.Sweeps.{cut}
use Rattle.intake.specs.declared.faults.Refusal.{Refusal}
use Rattle.slots.specs.declared.Extent.{Extent}
use Rattle.live.specs.declared.trial.Answers.{Answers}
use Rattle.slots.specs.Slots.{gate_at, slot_of, left_out, found}
use Rattle.slots.specs.Live.{words_for, held, earlier, later}
use Rattle.live.specs.Filling.{whole_list}
use Rattle.live.specs.Finished.{list_bytes, zeroed}

abbrev pub extent_of : List ℕ → ℕ → Extent
extent_of list wires = record { gates = length list / 16; wires = wires }

-- The list without the cell at a position, if there is one.
abbrev pub dropped_at : ℕ → List (Cell ℕ) → List (Cell ℕ)
dropped_at place l = try (slot_of (cut_at place l)) l λ slot. left_out slot l

abbrev pub list_without : List ℕ → ℕ → List (Cell ℕ)
list_without list place = dropped_at place (whole_list list (length list / 16))

-- What is asked about a slot: the gates beside it on its first wire, its blocker, its partner, and the ends of that wire.
unfoldable pub answers_of : List ℕ → List ℕ → Extent → ℕ → Answers
answers_of bytes words k slot =
    let g = gate_at bytes slot in
    let w = get_or (wires_of g) 0 0 in
    record {
      before = found (slot_of (cut (touches w) (earlier bytes words k slot)));
      after = found (slot_of (cut (touches w) (later bytes words k slot)));
      blocker = found (slot_of (cut (shares g) (earlier bytes words k slot)));
      partner = cond (is_pair g) (found (slot_of (cut (equal g) (later bytes words k slot)))) None;
      first = found (slot_of (cut (touches w) (held bytes words k)));
      last = found (slot_of (cut (touches w) (earlier bytes words k k.gates)));
    }

-- ------------------------------------------------------------ what a trial leaves and answers

abbrev pub records_after : Result Unit Refusal → List ℕ → ℕ → List ℕ → List ℕ
records_after (Ok _) list place records =
    list_bytes (gates_of (list_without list place))
    ++ (replicate (16 * (length list / 16 - length (list_without list place))) 0 ++ drop (16 * (length list / 16)) records)
records_after (Err why) list place records = records

abbrev pub words_after : Result Unit Refusal → List ℕ → ℕ → List ℕ → List ℕ
words_after (Ok _) list wires words = zeroed 0 (words_for (extent_of list wires)) words
words_after (Err why) list wires words = words

abbrev pub tried_as : Result Unit Refusal → List ℕ → ℕ → Result ℕ Refusal
tried_as (Ok _) list place = Ok (length (list_without list place))
tried_as (Err why) list place = Err why
