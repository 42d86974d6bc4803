-- What a sweep has done to the list and to the journal, and what is still to come of it.
use Rattle.std.specs.Prelude.{◌≡◌, not, ◌&&◌, List, ◌++◌, ℕ, ◌+◌, ◌*◌, eqb, length}
use Rattle.std.proofs.lemmas.List.Edits.{sets}
use Rattle.rules.specs.Steps.{Cell, Step}
use Rattle.rules.specs.Journal.{journal_bytes}
use Rattle.rules.specs.Sweeps.{Done}
use Rattle.slots.specs.declared.Extent.{Extent}
use Rattle.slots.specs.Live.{is_live}

-- A sweep is done: the list that is held is what it leaves, and its steps stand in the journal behind those from before.
pub record Did (d : Done ℕ) (held : List (Cell ℕ)) (before after : ℕ) (was now : List ℕ) : Type 0 where
  pub list : held ≡ d.list
  pub count : after ≡ before + length d.steps
  pub journal : now ≡ sets was (16 * before) (journal_bytes d.steps)

-- A sweep goes on: what was to come of it is what it did, its steps now in the journal, and what is still to come.
pub record Went (from to : Done ℕ) (looks before after : ℕ) (was now : List ℕ) : Type 0 where
  pub steps : List Step
  pub list : from.list ≡ to.list
  pub all : from.steps ≡ steps ++ to.steps
  pub looked : from.looks ≡ looks + to.looks
  pub count : after ≡ before + length steps
  pub journal : now ≡ sets was (16 * before) (journal_bytes steps)

-- Two slots are live no more, and the others are as they were.
abbrev pub TakenOut : Extent → ℕ → ℕ → List ℕ → List ℕ → Type 0
TakenOut k first last was now = (i : ℕ) → is_live now k i ≡ ((is_live was k i && not (eqb i first)) && not (eqb i last))
