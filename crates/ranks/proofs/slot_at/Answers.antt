use mathlib.Core.Path.{◌≡◌}
use Prim.Native.Nat.{◌+◌, ◌*◌}
use native.Mathlib.Omega.{arith}
use Rattle.links.specs.Words.{word}
use Rattle.ranks.specs.Ranks.{below, marks}
use Rattle.ranks.proofs.SumLaws.{below_none}
use Rattle.ranks.proofs.RegionLaws.{place32768}
use Rattle.ranks.proofs.LevelLaws.{block-fits, level32, level1024, level32768, reached, found}
use Rattle.ranks.proofs.slot_at.Goals as goal

pub returns : goal.returns
returns c =
    let ranks = c.requires.ranks in
    let block = c.search-close.result.at in
    let fits = block-fits _ block _ (omega (arith, c.search-close.ensures.place)) c.slots_in.ensures in
    let sum : c.search-close.result.left + below (marks c.args.words.now c.args.at c.args.slots) (32 * block) ≡ c.args.position =
    omega (
      arith,
      below_none (word c.args.words.now (place32768 c.args.at c.args.slots)),
      c.search-far.ensures.left,
      level32768 _ _ _ ranks c.search-far.result.at c.search-far.ensures.place.1,
      c.search-near.ensures.left,
      level1024 _ _ _ ranks c.search-near.result.at c.search-near.ensures.place.1,
      c.search-close.ensures.left,
      level32 _ _ _ ranks block c.search-close.ensures.place.1,
    ) in
    found _ _ _ ranks block c.slots_in.result c.pick-here.result.at c.pick-here.result.left c.search-close.result.left
    c.args.position fits.0 fits.1
    (reached _ _ _ ranks block c.search-close.result.left c.args.position c.slots_in.result c.search-close.ensures.place.1 sum
    c.search-close.ensures.found c.requires.position_bound c.slots_in.ensures)
    sum c.pick-here.ensures.place c.pick-here.ensures.left c.pick-here.ensures.found
