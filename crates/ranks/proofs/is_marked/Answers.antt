use mathlib.Core.Path.{sym, ap}
use Prim.Native.Nat.{ℕ}
use lib.Dec.{eqb}
use Rattle.ranks.proofs.RegionLaws.{mark-in}
use Rattle.ranks.proofs.is_marked.Goals as goal

pub returns : goal.returns
returns c =
    ap (λ (x : ℕ). eqb x 1) (sym (mark-in c.args.words.now c.args.at c.args.slots c.args.slot c.requires.0))
