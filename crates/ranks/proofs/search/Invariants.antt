use mathlib.Core.Path.{◌≡◌}
use Prim.Native.Nat.{◌+◌}
use Rattle.links.specs.Words.{word}
use Rattle.ranks.specs.Ranks.{below}
use Rattle.ranks.proofs.search.Given as goal

abbrev pub invariant-loop-i : goal.invariant-loop-i
invariant-loop-i l = l.left + below (word l.words l.at) l.i ≡ l.sum + below (word l.words l.at) l.from
