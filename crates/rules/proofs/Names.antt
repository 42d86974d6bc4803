-- Names for the parts of the definitions that proofs go through one after another.
use mathlib.Core.Bool.{Bool, cond}
use mathlib.Core.List.{List, [], ◌∷◌, ◌++◌}
use mathlib.Core.Option.{Option, some}
use Prim.Native.Nat.{ℕ, suc, ◌+◌}
use lib.ListN.{length}
use Rattle.gates.specs.declared.Gate.{Gate}
use Rattle.rules.specs.Equal.{equal, cancels}
use Rattle.rules.specs.Runs.{Rewrite}
use Rattle.rules.specs.Steps.{Cell, Cut, and_then, try, when, put, put_first, change, cut_at}
use Rattle.rules.specs.Journal.{Replayed, refused_at}
use Rattle.rules.specs.Sweeps.{Done, Walk, blocked, more, stay, fire, cut, walked, without, walk_past}

abbrev pub walk-on : (List (List Gate) → Walk) → List (List Gate) → List Gate → Bool → Walk
walk-on again ts t b = cond b (more (again (ts ++ (t ∷ [])))) (blocked 1)

module _ {A : Type 0} where
  -- ------------------------------------------------------------ a step

  abbrev pub if : Bool → List (Cell A) → Option (List (Cell A))
  if b l = when b (some l)

  abbrev pub if-h : Bool → Option (List (Cell A)) → Option (List (Cell A))
  if-h b o = when b o

  abbrev pub rewritten : ℕ → Cell A → List (Cell A) → Cell A → Option Rewrite → Option (List (Cell A))
  rewritten w e m f o = and_then o λ r. some (put r.ends e (put_first w r.first m ++ put r.ends f []))

  abbrev pub joined : List (Cell A) → List (Cell A) → Option (List (Cell A)) → Option (List (Cell A))
  joined a b o = and_then o λ m. some (a ++ (m ++ b))

  abbrev pub to_last : List ℕ → ℕ → Cut A → Option (Cut A) → Option (List (Cell A))
  to_last kinds k c o = and_then o λ d. joined c.before d.after (change kinds k c.here d.before d.here)

  abbrev pub to-first : List ℕ → ℕ → ℕ → Option (Cut A) → Option (List (Cell A))
  to-first kinds k n o = and_then o λ c. to_last kinds k c (cut_at n c.after)

  abbrev pub then : Option (List (Cell A)) → ℕ → (List (Cell A) → Replayed A) → Replayed A
  then o i f = try o (refused_at i) f

  -- ------------------------------------------------------------ the pair sweep

  abbrev pub pair-if : (List (Cell A) → Done A) → List (Cell A) → Cell A → Cut A → Bool → Done A
  pair-if again gone e c b = cond b (fire 1 (length c.after) (length gone) (again (without c))) (again (e ∷ gone))

  abbrev pub pair-with : List ℕ → (List (Cell A) → Done A) → List (Cell A) → Cell A → Option (Cut A) → Done A
  pair-with kinds again gone e o =
      try o (again (e ∷ gone)) λ c. pair-if again gone e c (cancels kinds c.here.gate e.gate)

  -- ------------------------------------------------------------ the commuting sweep

  abbrev pub kept : (ℕ → List (Cell A) → Done A) → ℕ → Cell A → List (Cell A) → Done A
  kept again i e l = stay (e ∷ []) (again (suc i) l)

  abbrev pub com-walk : (ℕ → List (Cell A) → Done A) → ℕ → Cell A → List (Cell A) → Cut A → Walk → Done A
  com-walk again i e l c w =
      walked w (fire 2 i (suc i + length c.before) (again i (without c))) (kept again i e l)

  abbrev pub com-with : (ℕ → List (Cell A) → Done A) → ℕ → Cell A → List (Cell A) → Option (Cut A) → Done A
  com-with again i e l o = try o (kept again i e l) λ c. com-walk again i e l c (walk_past e.gate c.before)

  abbrev pub com-open : (ℕ → List (Cell A) → Done A) → ℕ → Cell A → List (Cell A) → Bool → Done A
  com-open again i e l b = com-with again i e l (when b (cut (equal e.gate) l))
