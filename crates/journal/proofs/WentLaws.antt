-- A sweep that goes on: the room that it needs, and a step that it fires.
use mathlib.Core.Path.{◌≡◌, sym, ap, subst}
use mathlib.Core.List.{List}
use Prim.Native.Nat.{ℕ, ◌+◌, ◌*◌, ◌≤◌}
use native.Mathlib.Numerals.{add-one}
use native.Mathlib.Omega.{arith}
use lib.ListN.{length, length-append}
use lib.Seq.{sets, length-sets}
use Rattle.rules.specs.Steps.{step}
use Rattle.rules.specs.Sweeps.{Done, fire}
use Rattle.rules.specs.Journal.{step_bytes, journal_bytes}
use Rattle.journal.specs.Sweeping.{Went}
use Rattle.journal.proofs.SweepingLaws.{went-step}

-- A step is to come, and there is room for all that is to come.
pub room_for : (d to : Done ℕ) (kind first last steps size : ℕ) → d ≡ fire kind first last to → 16 * (steps + length d.steps) ≤ size →
    16 * steps + 16 ≤ size
room_for d to kind first last steps size e room = omega (arith, room, ap (λ (x : Done ℕ). length x.steps) e)

-- A step that is to come has been written.
pub went-fire : (d to : Done ℕ) (kind first last steps : ℕ) (was now : List ℕ) → d ≡ fire kind first last to →
    now ≡ sets was (16 * steps) (step_bytes (step kind first last)) → Went d to 0 steps (steps + 1) was now
went-fire d to kind first last steps was now e w =
    subst (λ (n : ℕ). Went d to 0 steps n was now) (sym (add-one steps))
    (went-step d to (step kind first last) 0 steps was now (ap (λ (x : Done ℕ). x.list) e) (ap (λ (x : Done ℕ). x.steps) e) looked w)
  where
    looked : d.looks ≡ 0 + to.looks
    looked = let same : d.looks ≡ to.looks = ap (λ (x : Done ℕ). x.looks) e in omega (arith, same)

-- Where there was room for all that was to come, there is room for what is still to come.
pub went-fits : (from to : Done ℕ) (looks n m : ℕ) (was now : List ℕ) → Went from to looks n m was now →
    16 * (n + length from.steps) ≤ length was → 16 * (m + length to.steps) ≤ length now
went-fits from to looks n m was now p room =
    omega (
      arith,
      p.count,
      ap length p.all,
      length-append p.steps to.steps,
      ap length p.journal,
      length-sets was (16 * n) (journal_bytes p.steps),
      room,
    )

-- So the journal has the length that it had.
pub went-long : (from to : Done ℕ) (looks n m : ℕ) (was now : List ℕ) → Went from to looks n m was now → length now ≡ length was
went-long from to looks n m was now p =
    omega (arith, ap length p.journal, length-sets was (16 * n) (journal_bytes p.steps))
