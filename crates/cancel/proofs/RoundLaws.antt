-- One round in code: Hadamard, commuting, pair, each with room for its steps.
use mathlib.Core.Path.{◌≡◌, refl, sym, ap}
use mathlib.Core.List.{List, ◌++◌}
use Prim.Native.Nat.{ℕ, ◌+◌, ◌*◌, ◌≤◌}
use native.Mathlib.Omega.{arith}
use lib.ListN.{length, length-append}
use lib.Seq.{length-sets}
use Rattle.rules.specs.Equal.{seven}
use Rattle.rules.specs.Steps.{Cell}
use Rattle.rules.specs.Sweeps.{Done, and, pair_sweep, hadamard_sweep, commuting_sweep}
use Rattle.rules.specs.Loop.{repeated, round}
use Rattle.rules.proofs.Looks.{repeated-none, pair-none, hadamard-none}
use Rattle.journal.specs.Sweeping.{Did}
use Rattle.journal.proofs.SweepingLaws.{did-both}

round_is : (n : ℕ) (l : List (Cell ℕ)) →
    round seven n l
    ≡ and (repeated (hadamard_sweep n) l)
    (and (repeated commuting_sweep (repeated (hadamard_sweep n) l).list)
    (pair_sweep seven (repeated commuting_sweep (repeated (hadamard_sweep n) l).list).list))
unfolding round
round_is n l = refl

-- The journal has the length that it had.
pub did-long : {d : Done ℕ} {held : List (Cell ℕ)} {m n : ℕ} {was now : List ℕ} → Did d held m n was now → length now ≡ length was
did-long did = rw (did.journal, length-sets)

module _ (n : ℕ) (l : List (Cell ℕ)) where
  abbrev x : Done ℕ
  x = repeated (hadamard_sweep n) l

  abbrev y : Done ℕ
  y = repeated commuting_sweep x.list

  abbrev z : Done ℕ
  z = pair_sweep seven y.list

  steps-are : length (round seven n l).steps ≡ length x.steps + (length y.steps + length z.steps)
  steps-are =
      let p = ap (λ e. length e.steps) (round_is n l) in
      omega (arith, p, length-append x.steps (y.steps ++ z.steps), length-append y.steps z.steps)

  looks-are : (round seven n l).looks ≡ x.looks + (y.looks + z.looks)
  looks-are = ap (λ e. e.looks) (round_is n l)

  pub first_few : length x.steps ≤ length (round seven n l).steps
  first_few = omega (arith, steps-are)

  pub first-looks : x.looks ≤ (round seven n l).looks
  first-looks = omega (arith, looks-are)

  module _ {first : List (Cell ℕ)} {a b : ℕ} {j j₁ : List ℕ} (did₁ : Did x first a b j j₁) where
    again : repeated commuting_sweep first ≡ y
    again = ap (repeated commuting_sweep) did₁.list

    pub second_fits : 16 * (a + length (round seven n l).steps) ≤ length j → 16 * (b + length (repeated commuting_sweep first).steps) ≤ length j₁
    second_fits room =
        let e : length (repeated commuting_sweep first).steps ≡ length y.steps = ap (λ q. length q.steps) again in
        omega (arith, room, steps-are, e, did₁.count, did-long did₁)

    pub second-looks : (repeated commuting_sweep first).looks ≤ (round seven n l).looks
    second-looks =
        let e : (repeated commuting_sweep first).looks ≡ y.looks = ap (λ q. q.looks) again in
        omega (arith, looks-are, e)

    module _ {second : List (Cell ℕ)} {c : ℕ} {j₂ : List ℕ} (did₂ : Did (repeated commuting_sweep first) second b c j₁ j₂) where
      second-did : Did y second b c j₁ j₂
      second-did = rw (sym again) did₂

      last : pair_sweep seven second ≡ z
      last = ap (pair_sweep seven) second-did.list

      pub third-fits : 16 * (a + length (round seven n l).steps) ≤ length j → 16 * (c + length (pair_sweep seven second).steps) ≤ length j₂
      third-fits room =
          let e : length (pair_sweep seven second).steps ≡ length z.steps = ap (λ q. length q.steps) last in
          omega (arith, room, steps-are, e, did₁.count, second-did.count, did-long did₁, did-long did₂)

      -- Only the commuting sweeps look at gates.
      pub round-looked : (repeated commuting_sweep first).looks ≡ (round seven n l).looks
      round-looked =
          let e : (repeated commuting_sweep first).looks ≡ y.looks = ap (λ q. q.looks) again in
          let h : x.looks ≡ 0 = repeated-none seven (hadamard_sweep n) (hadamard-none seven n) l in
          let p : z.looks ≡ 0 = pair-none seven y.list in
          omega (arith, e, h, p, looks-are)

      pub round-did : {third : List (Cell ℕ)} {d : ℕ} {j₃ : List ℕ} → Did (pair_sweep seven second) third c d j₂ j₃ →
          Did (round seven n l) third a d j j₃
      round-did did₃ = rw (round_is n l) (did-both _ _ _ _ _ _ _ _ _ _ did₁ (did-both _ _ _ _ _ _ _ _ _ _ second-did (rw last at did₃)))
