-- The entry from end to end: room for every step, and what an accepted call leaves and answers.
use Rattle.std.specs.Prelude.{Some, Result, Ok}
use mathlib.Core.Path.{◌≡◌, refl, sym, ap, ap₂, ◌∙◌}
use mathlib.Core.Bool.{Bool, true, false, cond}
use mathlib.Core.List.{List, [], ◌∷◌, ◌++◌}
use Prim.Native.Nat.{ℕ, suc, ◌+◌, ◌*◌, ◌-◌, ◌/◌, ◌^◌, ◌≤◌, ◌<◌}
use native.Mathlib.Omega.{arith}
use lib.ListN.{length, take, drop, replicate, length-append, length-drop}
use Rattle.std.proofs.Common.{length-take-le}
use borrow.Rule.Slice.PartMut.{mid_of, put_mid}
use lib.Seq.{sets, sets-eq, take_at, drop_at, drop-drop}
use borrow.Author.Tests.{ltb-false}
use Rattle.gates.specs.Records.{is_h}
use Rattle.rules.specs.Equal.{seven}
use Rattle.rules.specs.Steps.{Cell, Step}
use Rattle.rules.specs.Journal.{journal_bytes}
use Rattle.rules.specs.Sweeps.{Done, and, pair_sweep}
use Rattle.rules.specs.Loop.{h_count, repeated, round, pass}
use Rattle.rules.proofs.JournalBytes.{journal-length}
use Rattle.rules.proofs.Falls.{steps-bound}
use Rattle.rules.proofs.Looks.{pair-none, walked-bound}
use Rattle.intake.specs.declared.Sizes.{Sizes}
use Rattle.intake.specs.declared.faults.Refusal.{Refusal}
use Rattle.intake.specs.Tests.{size_tests, journal_tests, list_tests}
use Rattle.intake.proofs.TestLaws.{first_passes, both-accepted}
use Rattle.links.specs.Words.{Within}
use Rattle.slots.specs.Slots.{gate_at}
use Rattle.slots.specs.Live.{words_for, held}
use Rattle.live.specs.Filling.{whole_list}
use Rattle.live.specs.Finished.{zeroed, records_left, words_left}
use Rattle.live.specs.Trial.{extent_of}
use Rattle.live.proofs.FinishLaws.{past_same}
use Rattle.journal.specs.Sweeping.{Did}
use Rattle.journal.proofs.SweepingLaws.{did-both}
use Rattle.commuting.proofs.AheadLaws.{few-cells}
use Rattle.cancel.proofs.RoundLaws.{did-long}
use Rattle.cancel.specs.Cancelling.{tests_of, passed, cancelled_as, out_after, work_after, journal_after}

-- ------------------------------------------------------------ room

-- The h gates are some of the gates.
hs-few : (l : List (Cell ℕ)) → h_count l ≤ length l
unfolding h_count
hs-few [] = omega arith
hs-few (e ∷ l) = go (is_h e.gate) (hs-few l)
  where
    go : (b : Bool) → h_count l ≤ length l → cond b 1 0 + h_count l ≤ suc (length l)
    go true h = omega (arith, h)
    go false h = omega (arith, h)

pass-is : (wires : ℕ) (l : List (Cell ℕ)) →
    pass seven wires l ≡ and (pair_sweep seven l) (repeated (round seven wires) (pair_sweep seven l).list)
unfolding pass
pass-is wires l = refl

module _ (wires : ℕ) (list : List ℕ) where
  abbrev whole : List (Cell ℕ)
  whole = whole_list list (length list / 16)

  abbrev rest : Done ℕ
  rest = repeated (round seven wires) (pair_sweep seven whole).list

  few : length whole ≤ length list / 16
  few = few-cells (λ i. true) (gate_at list) 0 (length list / 16)

  -- "s is at most floor(g/2) plus the h gates of the input": 24g bytes are enough for 16 a step.
  all-steps : 16 * length (passed wires list).steps ≤ 24 * (length list / 16)
  all-steps = let h = few in omega (arith, steps-bound seven wires whole, hs-few whole, h)

  parted : length (passed wires list).steps ≡ length (pair_sweep seven whole).steps + length rest.steps
  parted = ap (λ d. length d.steps) (pass-is wires whole) ∙ length-append (pair_sweep seven whole).steps rest.steps

  parted-looks : (passed wires list).looks ≡ (pair_sweep seven whole).looks + rest.looks
  parted-looks = ap (λ d. d.looks) (pass-is wires whole)

  pub first-room : (room : ℕ) → 24 * (length list / 16) ≤ room → 16 * length (pair_sweep seven whole).steps ≤ room
  first-room room enough = omega (arith, all-steps, parted, enough)

  -- After the first sweep, whose steps are in the journal, and the links, which hold its list in their own words.
  module _ {loaded linked : List (Cell ℕ)} {s : ℕ} {was now : List ℕ} (did : Did (pair_sweep seven whole) loaded 0 s was now)
      (same : linked ≡ loaded) where
    same_list : linked ≡ (pair_sweep seven whole).list
    same_list = same ∙ did.list

    same_rest : repeated (round seven wires) linked ≡ rest
    same_rest = ap (repeated (round seven wires)) same_list

    looks-same : (repeated (round seven wires) linked).looks ≡ rest.looks
    looks-same = ap (λ d. d.looks) same_rest

    pub rest-room : 24 * (length list / 16) ≤ length was → 16 * (s + length (repeated (round seven wires) linked).steps) ≤ length now
    rest-room enough =
        let e : length (repeated (round seven wires) linked).steps ≡ length rest.steps = ap (λ d. length d.steps) same_rest in
        omega (arith, all-steps, parted, enough, did.count, e, did-long did)

    pub rest-looks : length list / 16 ≤ 1048576 → (repeated (round seven wires) linked).looks < 2 ^ 64
    rest-looks h =
        let small : length whole ≤ 1048576 = let f = few in omega (arith, f, h) in
        omega (arith, walked-bound seven wires whole small, parted-looks, looks-same)

    -- The first sweep, and then the rounds, are the pass.
    pub pass-did : {after : List (Cell ℕ)} {n : ℕ} {then : List ℕ} → Did (repeated (round seven wires) linked) after s n now then →
        Did (passed wires list) after 0 n was then
    pass-did rounds =
        let swept : Did (pair_sweep seven whole) linked 0 s was now = record { list = same_list; count = did.count; journal = did.journal } in
        rw (pass-is wires whole) (did-both _ _ _ _ _ _ _ _ _ _ swept (rw same_rest at rounds))

    pub pass-looked : (repeated (round seven wires) linked).looks ≡ (passed wires list).looks
    pass-looked =
        let none_yet : (pair_sweep seven whole).looks ≡ 0 = pair-none seven whole in
        omega (arith, looks-same, none_yet, parted-looks)

  pub steps-fit : {held : List (Cell ℕ)} {s : ℕ} {was now : List ℕ} → Did (passed wires list) held 0 s was now → 16 * s ≤ 24 * (length list / 16)
  steps-fit did = omega (arith, all-steps, did.count)

-- ------------------------------------------------------------ an accepted input

-- 6 has passed: "journal room under 24g bytes".
pub journal-fits : (wires bits : ℕ) (list : List ℕ) (out work journal : ℕ) → tests_of wires bits list out work journal ≡ Ok tt →
    24 * (length list / 16) ≤ journal
unfolding journal_tests
journal-fits wires bits list out work journal e =
    let sizes : Sizes = record { wires = wires; bits = bits; output = out; work = work } in
    let later = (both-accepted (size_tests (length list) sizes) (journal_tests (length list) (Some journal) ++ list_tests wires bits list) e).1 in
    let six = (both-accepted (journal_tests (length list) (Some journal)) (list_tests wires bits list) later).0 in
    ltb-false journal (24 * (length list / 16)) (first_passes _ _ six).0

-- ------------------------------------------------------------ the journal at the end

journal-left : (steps : List Step) (s room : ℕ) (was now : List ℕ) → s ≡ 0 + length steps → now ≡ sets was (16 * 0) (journal_bytes steps) →
    16 * length steps ≤ room → room ≤ length was →
    zeroed (16 * s) (room - 16 * s) now ≡ journal_bytes steps ++ (replicate (room - 16 * length steps) 0 ++ drop room was)
journal-left steps s room was now p q fits within =
    let b = journal_bytes steps in
    let long = journal-length steps in
    let same : s ≡ length steps = omega (arith, p) in
    let at : 16 * s ≡ length b = omega (arith, same, long) in
    let up : 16 * s + (room - 16 * s) ≡ room = omega (arith, same, fits) in
    let whole : now ≡ b ++ drop (length b) was = q ∙ sets_first b was (omega (arith, long, fits, within)) in
    ap₂ ◌++◌ (ap₂ take at whole ∙ take_at b (drop (length b) was) (length b) refl)
    (ap₂ ◌++◌ (ap (λ n. replicate (room - 16 * n) 0) same) (ap₂ drop up whole ∙ tail b (omega (arith, long, fits))))
  where
    sets_first : (b l : List ℕ) → length b ≤ length l → sets l (16 * 0) b ≡ b ++ drop (length b) l
    sets_first b l h =
        let none : 16 * 0 ≡ 0 = refl in
        let past : 0 + length b ≡ length b = omega arith in
        sets-eq b l 0 (omega (arith, h)) ∙ ap (λ n. b ++ drop n l) past

    tail : (b : List ℕ) → length b ≤ room → drop room (b ++ drop (length b) was) ≡ drop room was
    tail b h =
        let split : room ≡ length b + (room - length b) = omega (arith, h) in
        ap (λ n. drop n (b ++ drop (length b) was)) split
        ∙ sym (drop-drop (room - length b) (length b) (b ++ drop (length b) was))
        ∙ ap (drop (room - length b)) (drop_at b (drop (length b) was) (length b) refl)
        ∙ drop-drop (room - length b) (length b) was
        ∙ ap (λ n. drop n was) (sym split)

-- A part that is written over with zeros.
part-zeroed : (at size : ℕ) (was part : List ℕ) → at + size ≤ length was → part ≡ replicate (length (mid_of at size was)) 0 →
    put_mid at size was part ≡ zeroed at size was
part-zeroed at size was part room zeros =
    let long : length (mid_of at size was) ≡ size = length-take-le size (drop at was) (omega (arith, length-drop at was)) in
    rw (zeros, long, drop-drop size at was)

-- ------------------------------------------------------------ what is left and answered

module _ (wires : ℕ) (list : List ℕ) {tested : Result Unit Refusal} (accepted : tested ≡ Ok tt)
    (records words : List ℕ) {journal written : List ℕ} {s : ℕ}
    (did : Did (passed wires list) (held records words (extent_of list wires)) 0 s journal written) where
  pub answer-is : {m looks : ℕ} → m ≡ length (held records words (extent_of list wires)) → looks ≡ (passed wires list).looks →
      Ok (record { left = m; steps = s; walked = looks }) ≡ cancelled_as tested wires list
  answer-is {m = m} count looked =
      let steps : s ≡ length (passed wires list).steps = omega (arith, did.count) in
      let left : m ≡ length (passed wires list).list = count ∙ ap length did.list in
      rw (accepted, left, steps, looked)

  pub out-is : (out : List ℕ) {bytes : List ℕ} → drop (16 * (length list / 16)) records ≡ drop (16 * (length list / 16)) out →
      bytes ≡ records_left records words (extent_of list wires) → bytes ≡ out_after tested wires list out
  out-is out past kept = rw accepted (kept ∙ rw (did.list, past))

  pub work-is : {work cleared : List ℕ} → Within 0 (words_for (extent_of list wires)) work words →
      cleared ≡ words_left words (extent_of list wires) → cleared ≡ work_after tested wires list work
  work-is within zeros =
      let room = words_for (extent_of list wires) in
      rw accepted (zeros ∙ ap (λ (rest : List ℕ). replicate room 0 ++ rest) (past_same 0 room _ words within))

  -- What is behind the steps is written over with zeros.
  pub journal-is : 24 * (length list / 16) ≤ length journal → {noted : List ℕ} →
      noted ≡ replicate (length (mid_of (16 * s) (24 * (length list / 16) - 16 * s) written)) 0 →
      put_mid (16 * s) (24 * (length list / 16) - 16 * s) written noted ≡ journal_after tested wires list journal
  journal-is fits zeros =
      let inside : 16 * s + (24 * (length list / 16) - 16 * s) ≤ length written = omega (arith, steps-fit wires list did, fits, did-long did) in
      rw accepted (part-zeroed _ _ written _ inside zeros
      ∙ journal-left (passed wires list).steps s (24 * (length list / 16)) journal written did.count did.journal (all-steps wires list) fits)
