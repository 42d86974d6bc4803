use native.Mathlib.Omega.{arith}
use Rattle.ranks.proofs.BitLaws.{one_shifted, bit-fits}
use Rattle.ranks.proofs.with_bit.Goals as goal

pub overflow_add-result : goal.overflow_add-result
overflow_add-result c =
    omega (
      arith,
      one_shifted c.args.i c.requires.0,
      bit-fits c.args.i 32 c.args.word c.requires.0 c.well_formed.0.1 c.requires.1,
    )
