use mathlib.Core.Path.{◌≡◌, subst}
use mathlib.Core.List.{List}
use Prim.Native.Nat.{ℕ}
use native.Mathlib.Omega.{arith}
use Rattle.links.specs.Words.{Cleared}
use Rattle.ranks.specs.Ranks.{size_for}
use Rattle.ranks.proofs.MarkLaws.{blank}
use Rattle.ranks.proofs.start.Goals as goal

-- So many words were cleared, however their number was come by.
all-cleared : (at n slots : ℕ) (was now : List ℕ) → n ≡ size_for slots → Cleared at n was now → Cleared at (size_for slots) was now
all-cleared at n slots was now e = subst (λ (n : ℕ). Cleared at n was now) e

pub returns : goal.returns
returns c =
    blank _ _ _ _ c.requires.0 (all-cleared _ _ c.args.slots _ _ (omega (arith, c.size_for.ensures)) c.clear.ensures) c.requires.1
