-- The commuting sweep at a slot: what is still to come from there and from the next slot on.
use mathlib.Core.Path.{◌≡◌, refl, sym, ap, ap₂, ◌∙◌}
use mathlib.Core.Bool.{Bool, true, false, not, cond, ◌&&◌, and-true, and-false}
use mathlib.Core.List.{List, [], ◌∷◌, ◌++◌, append_assoc, append-nil}
use mathlib.Core.Option.{some, none}
use Prim.Native.Nat.{ℕ, zero, suc, ◌+◌, ◌-◌, ◌≤◌, ◌<◌}
use native.Mathlib.Omega.{arith}
use lib.Dec.{eqb}
use lib.ListN.{length, length-append}
use borrow.Author.Tests.{ne_eqb, eq-eqb}
use Rattle.gates.specs.declared.Gate.{Gate}
use Rattle.rules.specs.Equal.{equal, is_pair}
use Rattle.rules.specs.Steps.{Cell, Cut, when}
use Rattle.rules.specs.Sweeps.{Done, reached, blocked, stay, fire, look, cut, without, walk_past, commuting_from}
use Rattle.slots.specs.Slots.{cell_of, cells_from}
use Rattle.slots.proofs.HeldLaws.{cells_same}
use Rattle.slots.proofs.CutLaws.{cells-part, CutFrom, cut-from-parts}
use Rattle.commuting.proofs.SweepLaws.{turn-stays, turn-blocked, turn-reached}

-- A slot's cells by itself.
one_cell : (live : ℕ → Bool) (gates : ℕ → Gate) (s count : ℕ) →
    cells_from live gates s (suc count) ≡ cond (live s) (cell_of gates s ∷ cells_from live gates (suc s) count) (cells_from live gates (suc s) count)
unfolding cells_from
one_cell live gates s count = refl

pub no_cells : (live : ℕ → Bool) (gates : ℕ → Gate) (s : ℕ) → cells_from live gates s 0 ≡ []
unfolding cells_from
no_cells live gates s = refl

pub few-cells : (live : ℕ → Bool) (gates : ℕ → Gate) (s count : ℕ) → length (cells_from live gates s count) ≤ count
unfolding cells_from
few-cells live gates s zero = omega arith
few-cells live gates s (suc count) = go (live s) (few-cells live gates (suc s) count)
  where
    go : (b : Bool) → length (cells_from live gates (suc s) count) ≤ count →
        length (cond b (cell_of gates s ∷ cells_from live gates (suc s) count) (cells_from live gates (suc s) count)) ≤ suc count
    go true h = omega (arith, h)
    go false h = omega (arith, h)

stay-both : (a b : List (Cell ℕ)) (d : Done ℕ) → stay a (stay b d) ≡ stay (a ++ b) d
stay-both a b d = ap (λ l. record { list = l; steps = d.steps; looks = d.looks }) (sym (append_assoc a b d.list))

-- The cells below the next slot.
pub one_more : (live : ℕ → Bool) (gates : ℕ → Gate) (s : ℕ) →
    cells_from live gates 0 (s + 1) ≡ cells_from live gates 0 s ++ cond (live s) (cell_of gates s ∷ []) []
one_more live gates s =
    cells-part live gates 0 s 1
    ∙ ap (◌++◌ (cells_from live gates 0 s)) (at (0 + s) (omega arith))
  where
    at : (t : ℕ) → t ≡ s → cells_from live gates t 1 ≡ cond (live s) (cell_of gates s ∷ []) []
    at t p =
        ap (λ x. cells_from live gates x 1) p ∙ one_cell live gates s 0
        ∙ ap (λ l. cond (live s) (cell_of gates s ∷ l) l) (no_cells live gates (suc s))

-- What is still to come from a slot on, of so many.
abbrev pub ahead : (ℕ → Bool) → (ℕ → Gate) → ℕ → ℕ → Done ℕ
ahead live gates g s =
    let before = cells_from live gates 0 s in
    stay before (commuting_from g (length before) (cells_from live gates s (g - s)))

module _ (live : ℕ → Bool) (gates : ℕ → Gate) (g s : ℕ) (inside : s < g) where
  abbrev before : List (Cell ℕ)
  before = cells_from live gates 0 s

  abbrev rest : List (Cell ℕ)
  rest = cells_from live gates (suc s) (g - suc s)

  -- The cells from the slot on.
  from-here : cells_from live gates s (g - s) ≡ cond (live s) (cell_of gates s ∷ rest) rest
  from-here = let p : g - s ≡ suc (g - suc s) = omega (arith, inside) in ap (cells_from live gates s) p ∙ one_cell live gates s (g - suc s)

  next : cells_from live gates (s + 1) (g - (s + 1)) ≡ rest
  next = let p : s + 1 ≡ suc s = omega arith in ap (λ x. cells_from live gates x (g - x)) p

  pub ahead-dead : live s ≡ false → ahead live gates g s ≡ ahead live gates g (s + 1)
  ahead-dead h =
      ap₂ (λ l m. stay l (commuting_from g (length l) m)) (sym (append-nil before) ∙ ap (λ b. before ++ cond b (cell_of gates s ∷ []) []) (sym h) ∙ sym (one_more live gates s))
      (from-here ∙ ap (λ b. cond b (cell_of gates s ∷ rest) rest) h ∙ sym next)

  module _ (alive : live s ≡ true) where
    here : cells_from live gates s (g - s) ≡ cell_of gates s ∷ rest
    here = from-here ∙ ap (λ b. cond b (cell_of gates s ∷ rest) rest) alive

    below : cells_from live gates 0 (s + 1) ≡ before ++ (cell_of gates s ∷ [])
    below = one_more live gates s ∙ ap (λ b. before ++ cond b (cell_of gates s ∷ []) []) alive

    fits : suc (length rest) ≤ g
    fits = omega (arith, inside, few-cells live gates (suc s) (g - suc s))

    abbrev on : Done ℕ
    on = commuting_from g (suc (length before)) rest

    -- The gate stays and the sweep is at the next slot.
    kept : stay before (stay (cell_of gates s ∷ []) on) ≡ ahead live gates g (s + 1)
    kept =
        let long : suc (length before) ≡ length (before ++ (cell_of gates s ∷ [])) = omega (arith, length-append before (cell_of gates s ∷ [])) in
        stay-both before (cell_of gates s ∷ []) on
        ∙ ap (λ n. stay (before ++ (cell_of gates s ∷ [])) (commuting_from g n rest)) long
        ∙ ap₂ (λ l m. stay l (commuting_from g (length l) m)) (sym below) (sym next)

    pub ahead-stays : when (is_pair (gates s)) (cut (equal (gates s)) rest) ≡ none → ahead live gates g s ≡ ahead live gates g (s + 1)
    ahead-stays p =
        ap (λ l. stay before (commuting_from g (length before) l)) here
        ∙ ap (stay before) (turn-stays g (length before) (cell_of gates s) rest fits p)
        ∙ kept

    module _ (c : Cut ℕ) (pair : is_pair (gates s) ≡ true) (partner : cut (equal (gates s)) rest ≡ some c) where
      pub ahead-blocked : (looks : ℕ) → walk_past (gates s) c.before ≡ blocked looks →
          ahead live gates g s ≡ look looks (ahead live gates g (s + 1))
      ahead-blocked looks p =
          ap (λ l. stay before (commuting_from g (length before) l)) here
          ∙ ap (stay before) (turn-blocked g (length before) (cell_of gates s) rest fits c pair partner looks p)
          ∙ ap (look looks) kept

      -- The slots after the two have gone.
      module _ (live' : ℕ → Bool)
          (taken : (i : ℕ) → live' i ≡ ((live i && not (eqb i s)) && not (eqb i c.here.beside))) where
        abbrev parts : CutFrom live gates (equal (gates s)) (suc s) (g - suc s) c
        parts = cut-from-parts live gates (equal (gates s)) (suc s) (g - suc s) c partner

        before' : cells_from live' gates 0 (s + 1) ≡ before
        before' =
            one_more live' gates s
            ∙ ap (λ b. cells_from live' gates 0 s ++ cond b (cell_of gates s ∷ []) []) gone
            ∙ append-nil (cells_from live' gates 0 s)
            ∙ cells_same live' live gates gates 0 s (λ i from to. same i (omega (arith, to))) (λ i from to h. refl)
          where
            gone : live' s ≡ false
            gone =
                taken s ∙ ap (λ b. (live s && not b) && not (eqb s c.here.beside)) (eq-eqb s s refl)
                ∙ ap (λ b. b && not (eqb s c.here.beside)) (and-false (live s))

            same : (i : ℕ) → i < s → live' i ≡ live i
            same i h =
                taken i ∙ ap₂ (λ a b. (live i && not a) && not b) (ne_eqb i s (λ e. omega (arith, e, h)))
                (ne_eqb i c.here.beside (λ e. omega (arith, e, h, parts.from)))
                ∙ and-true (live i && true) ∙ and-true (live i)

        after' : cells_from live' gates (s + 1) (g - (s + 1)) ≡ c.before ++ c.after
        after' =
            let p : s + 1 ≡ suc s = omega arith in
            ap (λ x. cells_from live' gates x (g - x)) p
            ∙ cells_same live' (λ j. live j && not (eqb j c.here.beside)) gates gates (suc s) (g - suc s)
            (λ i from to. taken i ∙ ap (λ b. (live i && not b) && not (eqb i c.here.beside)) (ne_eqb i s (λ e. omega (arith, e, from)))
            ∙ ap (λ b. b && not (eqb i c.here.beside)) (and-true (live i)))
            (λ i from to h. refl)
            ∙ sym parts.rest

        pub ahead-reached : (looks : ℕ) → walk_past (gates s) c.before ≡ reached looks →
            ahead live gates g s
            ≡ look looks (fire 2 (length before) (length (cells_from live gates 0 c.here.beside)) (ahead live' gates g (s + 1)))
        ahead-reached looks p =
            ap (λ l. stay before (commuting_from g (length before) l)) here
            ∙ ap (stay before) (turn-reached g (length before) (cell_of gates s) rest fits c pair partner looks p)
            ∙ ap (λ n. stay before (look looks (fire 2 (length before) n (commuting_from g (length before) (without c))))) last
            ∙ ap₂ (λ l m. look looks (fire 2 (length before) (length (cells_from live gates 0 c.here.beside)) (stay l (commuting_from g (length l) m))))
            (sym before') (sym after')
          where
            -- The partner's position: what is below the pair, the pair, and what is between.
            last : suc (length before) + length c.before ≡ length (cells_from live gates 0 c.here.beside)
            last =
                let t = c.here.beside in
                let p : t ≡ (s + 1) + (t - suc s) = omega (arith, parts.from) in
                let q : 0 + (s + 1) ≡ suc s = omega arith in
                let whole : cells_from live gates 0 t ≡ (before ++ (cell_of gates s ∷ [])) ++ c.before =
                ap (cells_from live gates 0) p ∙ cells-part live gates 0 (s + 1) (t - suc s)
                ∙ ap₂ ◌++◌ below (ap (λ x. cells_from live gates x (t - suc s)) q ∙ sym parts.before) in
                omega (arith, ap length whole, length-append (before ++ (cell_of gates s ∷ [])) c.before, length-append before (cell_of gates s ∷ []))
