use Prim.Native.Nat.{◌-◌}
use native.Mathlib.Omega.{arith}
use Rattle.live.proofs.TrialLaws.{LoadedTo, next_past, loaded-more, last-live, last-alone, loaded-less, loaded-all}
use Rattle.live.proofs.trial.reload_last.Goals as goal
use Rattle.live.proofs.trial.reload_last.Goals.{After-pop}

pub pop-requires-clause-slot_live : goal.pop-requires-clause-slot_live
pop-requires-clause-slot_live c = last-live _ _ _ _ c.requires.whole_list.0 c.requires.whole_list.2

pub pop-requires-clause-last_on_all : goal.pop-requires-clause-last_on_all
pop-requires-clause-last_on_all c = last-alone _ _ _ _ c.requires.whole_list.0 c.requires.whole_list.2 _

-- Without its last gate the list is loaded up to it.
less : (c : After-pop) → LoadedTo c.args.list.now c.args.records.now c.args.work.now c.args.k (c.args.k.gates - 1) c.args.records.now c.pop.new.work
less c =
    let whole = c.requires.whole_list in loaded-less _ _ _ _ whole.0 whole.2 _ c.pop.ensures.loaded c.pop.ensures.popped c.pop.ensures.within

pub push-requires-clause-slot_past_all : goal.push-requires-clause-slot_past_all
push-requires-clause-slot_past_all c =
    (omega (arith, c.requires.whole_list.0), next_past _ _ _ _ _ _ _ (less (goal.at.push-requires-clause-slot_past_all c).After-pop))

pub returns : goal.returns
returns c =
    let before = less (goal.at.returns c).After-pop in
    let more = loaded-more _ _ _ _ _ _ _ before _ _ (omega (arith, c.requires.whole_list.0)) c.push.ensures.loaded c.push.ensures.pushed c.push.ensures.«record» c.push.ensures.within in
    let all = loaded-all _ _ _ _ _ _ _ more (omega arith) in
    record { loaded = all.loaded; whole = all.whole; within = all.within; past = all.past }
