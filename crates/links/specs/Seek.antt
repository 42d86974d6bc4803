-- Slots that meet a test: the latest below a slot, the earliest from a slot on. And links from each to those beside it.
use Rattle.std.specs.Prelude.{◌≡◌, Bool, true, cond, ℕ, zero, suc, ◌-◌, ◌<◌}
use Rattle.std.proofs.Math.Option.{Option, some, none}

-- The latest of the slots below i.
unfoldable pub latest : (ℕ → Bool) → ℕ → Option ℕ
latest on zero = none
latest on (suc i) = cond (on i) (some i) (latest on i)

-- The earliest of so many slots from i on.
unfoldable pub earliest : (ℕ → Bool) → ℕ → ℕ → Option ℕ
earliest on i zero = none
earliest on i (suc count) = cond (on i) (some i) (earliest on (suc i) count)

-- A slot's node; an end where there is no slot.
abbrev pub node_at : (ℕ → ℕ) → ℕ → Option ℕ → ℕ
node_at node end none = end
node_at node end (some j) = node j

-- Of so many slots each that meets the test is linked to the latest before it.
abbrev pub LinkedBack : (ℕ → ℕ) → (ℕ → ℕ) → ℕ → (ℕ → Bool) → ℕ → Type 0
LinkedBack prev node end on slots =
    (i : ℕ) → i < slots → on i ≡ true → prev (node i) ≡ node_at node end (latest on i)

-- And to the earliest after it.
abbrev pub LinkedOn : (ℕ → ℕ) → (ℕ → ℕ) → ℕ → (ℕ → Bool) → ℕ → Type 0
LinkedOn next node end on slots =
    (i : ℕ) → i < slots → on i ≡ true → next (node i) ≡ node_at node end (earliest on (suc i) (slots - suc i))
