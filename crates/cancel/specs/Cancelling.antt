-- The pass as a call: its answer, and every lent byte and word after it, for every input.
use Rattle.std.specs.Prelude.{Result, Ok, Err, Some, ◌≡◌, List, ◌++◌, ℕ, ◌*◌, ◌-◌, ◌/◌, length, drop, replicate}
use Rattle.rules.specs.Equal.{seven}
use Rattle.rules.specs.Steps.{gates_of}
use Rattle.rules.specs.Sweeps.{Done}
use Rattle.rules.specs.Journal.{journal_bytes}
use Rattle.rules.specs.Loop.{pass}
use Rattle.intake.specs.declared.faults.Refusal.{Refusal}
use Rattle.intake.specs.Faults.{number_in}
use Rattle.intake.specs.Tests.{first_failing, input_tests}
use Rattle.slots.specs.Live.{words_for}
use Rattle.live.specs.Filling.{whole_list}
use Rattle.live.specs.Finished.{list_bytes, zeroed}
use Rattle.live.specs.Trial.{extent_of}
use Rattle.cancel.specs.declared.entry.Cancelled.{Cancelled}

-- "Checks run in this order": numbers 1 to 12, of a call with so many wires and bits and rooms of those lengths.
abbrev pub tests_of : ℕ → ℕ → List ℕ → ℕ → ℕ → ℕ → Result Unit Refusal
tests_of wires bits list out work journal =
    first_failing (input_tests list (record { wires = wires; bits = bits; output = out; work = work }) (Some journal))

-- The pass on all gates of a list, each with its place beside it.
abbrev pub passed : ℕ → List ℕ → Done ℕ
passed wires list = pass seven wires (whole_list list (length list / 16))

abbrev pub cancelled_as : Result Unit Refusal → ℕ → List ℕ → Result Cancelled Refusal
cancelled_as (Ok _) wires list =
    let d = passed wires list in Ok (record { left = length d.list; steps = length d.steps; walked = d.looks })
cancelled_as (Err why) wires list = Err why

-- "Output holds m records, zeros up to byte 16g, and is untouched beyond." A refusal touches nothing.
abbrev pub out_after : Result Unit Refusal → ℕ → List ℕ → List ℕ → List ℕ
out_after (Ok _) wires list out =
    let left = (passed wires list).list in
    list_bytes (gates_of left) ++ (replicate (16 * (length list / 16 - length left)) 0 ++ drop (16 * (length list / 16)) out)
out_after (Err why) wires list out = out

-- "The first 16g + 4n work words are zero, the rest untouched."
abbrev pub work_after : Result Unit Refusal → ℕ → List ℕ → List ℕ → List ℕ
work_after (Ok _) wires list work = zeroed 0 (words_for (extent_of list wires)) work
work_after (Err why) wires list work = work

-- "The journal holds s records, zeros up to byte 24g, untouched beyond."
abbrev pub journal_after : Result Unit Refusal → ℕ → List ℕ → List ℕ → List ℕ
journal_after (Ok _) wires list journal =
    let steps = (passed wires list).steps in
    journal_bytes steps ++ (replicate (24 * (length list / 16) - 16 * length steps) 0 ++ drop (24 * (length list / 16)) journal)
journal_after (Err why) wires list journal = journal

-- ------------------------------------------------------------ numbers

-- "Success and acceptance are number 0, place 0 … a refusal gives 0 for m, s and walked."
pub record Numbers : Type 0 where
  pub number : ℕ
  pub place : ℕ
  pub left : ℕ
  pub steps : ℕ
  pub walked : ℕ

abbrev pub numbers_of : Result Cancelled Refusal → Numbers
numbers_of (Ok done) = record { number = 0; place = 0; left = done.left; steps = done.steps; walked = done.walked }
numbers_of (Err why) = record { number = number_in why.fault; place = why.place.0; left = 0; steps = 0; walked = 0 }

-- ------------------------------------------------------------ outcomes

-- All that a call leaves and answers.
pub record Outcome : Type 0 where
  pub answer : Result Cancelled Refusal
  pub out : List ℕ
  pub work : List ℕ
  pub journal : List ℕ

-- What is lent and given.
pub record Call : Type 0 where
  pub wires : ℕ
  pub bits : ℕ
  pub list : List ℕ
  pub out : List ℕ
  pub work : List ℕ
  pub journal : List ℕ

abbrev pub tested_of : Call → Result Unit Refusal
tested_of c = tests_of c.wires c.bits c.list (length c.out) (length c.work) (length c.journal)

-- The contract of `cancel`, as a relation between a call and its outcome.
pub record Meets (c : Call) (o : Outcome) : Type 0 where
  pub answer : o.answer ≡ cancelled_as (tested_of c) c.wires c.list
  pub out : o.out ≡ out_after (tested_of c) c.wires c.list c.out
  pub work : o.work ≡ work_after (tested_of c) c.wires c.list c.work
  pub journal : o.journal ≡ journal_after (tested_of c) c.wires c.list c.journal
