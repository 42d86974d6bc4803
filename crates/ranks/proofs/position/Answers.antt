use native.Mathlib.Omega.{arith}
use Rattle.ranks.proofs.RegionLaws.{inside}
use Rattle.ranks.proofs.LevelLaws.{parts}
use Rattle.ranks.proofs.position.Goals as goal

pub sum-far-requires : goal.sum-far-requires
sum-far-requires c =
    omega (arith, parts _ _ _ c.requires.ranks c.args.slot c.requires.slot_le_slots)

pub sum-near-requires : goal.sum-near-requires
sum-near-requires c =
    let ranks = c.requires.ranks in (
      omega arith,
      omega (arith, (inside _ _ _ c.args.slot ranks.within c.requires.slot_le_slots).by1024),
      omega (arith, parts _ _ _ ranks c.args.slot c.requires.slot_le_slots),
    )

pub sum-close-requires : goal.sum-close-requires
sum-close-requires c =
    let ranks = c.requires.ranks in (
      omega arith,
      omega (arith, (inside _ _ _ c.args.slot ranks.within c.requires.slot_le_slots).by32),
      omega (arith, parts _ _ _ ranks c.args.slot c.requires.slot_le_slots),
    )

pub overflow_add-result : goal.overflow_add-result
overflow_add-result c =
    omega (arith, parts _ _ _ c.requires.ranks c.args.slot c.requires.slot_le_slots)

pub overflow_add-result-2 : goal.overflow_add-result-2
overflow_add-result-2 c =
    omega (arith, parts _ _ _ c.requires.ranks c.args.slot c.requires.slot_le_slots)

pub overflow_add-result-3 : goal.overflow_add-result-3
overflow_add-result-3 c =
    omega (arith, parts _ _ _ c.requires.ranks c.args.slot c.requires.slot_le_slots)

pub returns : goal.returns
returns c =
    omega (arith, parts _ _ _ c.requires.ranks c.args.slot c.requires.slot_le_slots)
