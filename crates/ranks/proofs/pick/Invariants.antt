use mathlib.Core.Path.{◌≡◌}
use Prim.Native.Nat.{◌+◌, ◌/◌, ◌^◌}
use Rattle.ranks.specs.Ranks.{bit, below}
use Rattle.ranks.proofs.pick.Given as goal

abbrev pub invariant-loop-i : goal.invariant-loop-i
invariant-loop-i l =
    (l.rest ≡ l.word / 2 ^ l.i) × (l.left + below (bit l.word) l.i ≡ l.sum)
