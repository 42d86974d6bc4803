-- Rounds on no gates do nothing.
use mathlib.Core.Path.{◌≡◌, refl, sym, ap, ◌∙◌}
use mathlib.Core.List.{List, []}
use Prim.Native.Nat.{ℕ, zero, suc}
use lib.ListN.{length}
use Rattle.rules.specs.Equal.{seven}
use Rattle.rules.specs.Steps.{Cell}
use Rattle.rules.specs.Sweeps.{Done, Sweep, idle, and, followed, pairs_from, pair_sweep, hadamards_from, hadamard_sweep, commuting_from, commuting_sweep}
use Rattle.rules.specs.Loop.{again_if, repeat, repeated, size, round}
use Rattle.slots.specs.declared.Extent.{Extent}
use Rattle.slots.specs.Slots.{gate_at, cells_from}
use Rattle.slots.specs.Live.{is_live, held}

abbrev no_cells : List (Cell ℕ)
no_cells = []

abbrev nothing : Done ℕ
nothing = idle no_cells

pairs-nothing : pair_sweep seven [] ≡ nothing
unfolding pair_sweep pairs_from
pairs-nothing = refl

hadamards-nothing : (n : ℕ) → hadamard_sweep n [] ≡ nothing
unfolding hadamard_sweep hadamards_from
hadamards-nothing zero = refl
hadamards-nothing (suc n) = ap (λ d. and d (hadamards_from (length-of d) n 0 d.list)) (hadamards-nothing n)
  where
    length-of : Done ℕ → ℕ
    length-of d = length d.list

commuting-nothing : commuting_sweep [] ≡ nothing
unfolding commuting_sweep commuting_from
commuting-nothing = refl

repeated-nothing : (f : Sweep ℕ) → f [] ≡ nothing → repeated f [] ≡ nothing
unfolding repeated repeat
repeated-nothing f p = ap (λ d. again_if (repeat (size no_cells) f) d d.steps) p

round-nothing : (n : ℕ) → round seven n [] ≡ nothing
unfolding round
round-nothing n =
    ap (λ d. and d (followed (repeated commuting_sweep) (pair_sweep seven) d.list))
    (repeated-nothing (hadamard_sweep n) (hadamards-nothing n))
    ∙ ap (λ d. and nothing (and d (pair_sweep seven d.list))) (repeated-nothing commuting_sweep commuting-nothing)
    ∙ ap (λ d. and nothing (and nothing d)) pairs-nothing

-- No gates, so no cells.
held-nothing : (bytes words : List ℕ) (k : Extent) → k.gates ≡ 0 → held bytes words k ≡ no_cells
unfolding cells_from
held-nothing bytes words k p = ap (cells_from (is_live words k) (gate_at bytes) 0) p

pub rounds-nothing : (bytes words : List ℕ) (k : Extent) → k.gates ≡ 0 → repeated (round seven k.wires) (held bytes words k) ≡ idle (held bytes words k)
rounds-nothing bytes words k p =
    ap (repeated (round seven k.wires)) (held-nothing bytes words k p)
    ∙ repeated-nothing (round seven k.wires) (round-nothing k.wires)
    ∙ ap idle (sym (held-nothing bytes words k p))
