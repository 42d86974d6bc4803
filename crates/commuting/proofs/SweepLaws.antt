-- One turn of the commuting sweep: what was to come is what is done and what is still to come.
use mathlib.Core.Path.{◌≡◌, refl, ap, ap₂, ◌∙◌}
use mathlib.Core.Bool.{true}
use mathlib.Core.List.{List, [], ◌∷◌}
use mathlib.Core.Option.{Option, some, none}
use Prim.Native.Nat.{ℕ, suc, ◌+◌, ◌≤◌}
use native.Mathlib.Omega.{arith}
use lib.ListN.{length}
use Rattle.rules.specs.Equal.{equal, is_pair}
use Rattle.rules.specs.Steps.{Cell, Cut, try, when}
use Rattle.rules.specs.Sweeps.{Done, reached, blocked, stay, fire, look, cut, without, walk_past, walked, commuting_from}
use Rattle.rules.proofs.Fuel.{commuting-enough}

unfolded : (n i : ℕ) (e : Cell ℕ) (l : List (Cell ℕ)) →
    commuting_from (suc n) i (e ∷ l) ≡
    try (when (is_pair e.gate) (cut (equal e.gate) l)) (stay (e ∷ []) (commuting_from n (suc i) l)) λ partner.
    walked (walk_past e.gate partner.before) (fire 2 i (suc i + length partner.before) (commuting_from n i (without partner)))
    (stay (e ∷ []) (commuting_from n (suc i) l))
unfolding commuting_from
unfolded n i e l = refl

module _ (n : ℕ) (i : ℕ) (e : Cell ℕ) (l : List (Cell ℕ)) (fits : suc (length l) ≤ n) where
  -- What a pair does with its partner, if it has one.
  abbrev tried : Option (Cut ℕ) → Done ℕ
  tried o =
      try o (stay (e ∷ []) (commuting_from n (suc i) l)) λ partner.
      walked (walk_past e.gate partner.before) (fire 2 i (suc i + length partner.before) (commuting_from n i (without partner)))
      (stay (e ∷ []) (commuting_from n (suc i) l))

  -- The fuel is enough for any.
  turn : commuting_from n i (e ∷ l) ≡ tried (when (is_pair e.gate) (cut (equal e.gate) l))
  turn = commuting-enough n (suc n) i (e ∷ l) (omega (arith, fits)) (omega (arith, fits)) ∙ unfolded n i e l

  -- No pair, or no partner: the gate stays.
  pub turn-stays : when (is_pair e.gate) (cut (equal e.gate) l) ≡ none →
      commuting_from n i (e ∷ l) ≡ stay (e ∷ []) (commuting_from n (suc i) l)
  turn-stays p = turn ∙ ap tried p

  module _ (c : Cut ℕ) (pair : is_pair e.gate ≡ true) (partner : cut (equal e.gate) l ≡ some c) where
    found : when (is_pair e.gate) (cut (equal e.gate) l) ≡ some c
    found = ap₂ when pair partner

    pub turn-blocked : (looks : ℕ) → walk_past e.gate c.before ≡ blocked looks →
        commuting_from n i (e ∷ l) ≡ look looks (stay (e ∷ []) (commuting_from n (suc i) l))
    turn-blocked looks p =
        turn ∙ ap tried found
        ∙ ap (λ w. walked w (fire 2 i (suc i + length c.before) (commuting_from n i (without c))) (stay (e ∷ []) (commuting_from n (suc i) l))) p

    pub turn-reached : (looks : ℕ) → walk_past e.gate c.before ≡ reached looks →
        commuting_from n i (e ∷ l) ≡ look looks (fire 2 i (suc i + length c.before) (commuting_from n i (without c)))
    turn-reached looks p =
        turn ∙ ap tried found
        ∙ ap (λ w. walked w (fire 2 i (suc i + length c.before) (commuting_from n i (without c))) (stay (e ∷ []) (commuting_from n (suc i) l))) p
