-- Each list takes at least a byte of the sample, so there are no more lists than bytes gone by.
use Rattle.std.proofs.Common.{◌≡◌, ◌-◌, ◌≤◌, length}
use Rattle.vectors.proofs.replay.replay_all.Given as goal

abbrev pub invariant-loop-at : goal.invariant-loop-at
invariant-loop-at l = (length l.out ≡ length l.initial.out) × (l.list ≤ l.at) × (l.at ≤ length l.sample)

abbrev pub decreases-loop-at : goal.decreases-loop-at
decreases-loop-at l = length l.sample - l.at
