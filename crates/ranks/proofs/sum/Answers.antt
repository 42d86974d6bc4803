use Rattle.std.proofs.Common.{rules}
use Rattle.ranks.proofs.SumLaws.{sum-slice}
use Rattle.ranks.proofs.sum.Goals as goal

pub sum-requires-clause-fits : goal.sum-requires-clause-fits
sum-requires-clause-fits c =
    let slice = sum-slice _ _ _ _ c.requires.0 c.requires.1 in search rules

pub returns : goal.returns
returns c =
    let slice = sum-slice _ _ _ _ c.requires.0 c.requires.1 in search rules
