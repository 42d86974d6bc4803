-- The firings of each wire, noted in spare words: for each wire the first and the last, for each closer the next and its opener.
use Rattle.std.specs.Prelude.{◌≡◌, true, cond, List, [], ◌∷◌, ◌++◌, ℕ, suc, ◌+◌, ◌*◌, ◌-◌, ◌≤◌, ◌<◌, eqb, set}
use Rattle.gates.specs.Gates.{All}
use Rattle.rules.specs.Runs.{is_h_on}
use Rattle.links.specs.Words.{word}
use Rattle.slots.specs.declared.Extent.{Extent}
use Rattle.slots.specs.Slots.{gate_at, cells_from}
use Rattle.slots.specs.Live.{spare_at, is_live, held}
use Rattle.hadamards.specs.Firings.{Firing, firings}

-- ------------------------------------------------------------ where they stand

abbrev pub openers_at : Extent → ℕ
openers_at k = spare_at k + k.gates

abbrev pub heads_at : Extent → ℕ
heads_at k = spare_at k + 2 * k.gates

abbrev pub tails_at : Extent → ℕ
tails_at k = heads_at k + k.wires

-- The words of all of them.
abbrev pub notes_for : Extent → ℕ
notes_for k = 2 * k.gates + 2 * k.wires

-- ------------------------------------------------------------ what they say

-- From a word on: 0 is the end, and closer + 1 leads to a firing, whose own word leads on.
unfoldable pub Chained : (ℕ → ℕ) → (ℕ → ℕ) → ℕ → List Firing → Type 0
Chained next opener from [] = from ≡ 0
Chained next opener from (f ∷ fs) =
    (from ≡ suc f.closer) × (opener f.closer ≡ f.opener) × Chained next opener (next f.closer) fs

-- The slot behind the last closer; a slot, where there is none.
unfoldable pub behind : ℕ → List Firing → ℕ
behind from [] = from
behind from (f ∷ fs) = behind (suc f.closer) fs

abbrev pub ChainOf : List ℕ → Extent → ℕ → List Firing → Type 0
ChainOf words k w fs = Chained (word words (spare_at k)) (word words (openers_at k)) (word words (heads_at k) w) fs

-- A firing as the last of a wire: the word that leads on from the last, the wire's last, and the words of the closer.
abbrev pub link_at : Extent → ℕ → List ℕ → ℕ
link_at k w words = cond (eqb (word words (tails_at k) w) 0) (heads_at k + w) (spare_at k + (word words (tails_at k) w - 1))

abbrev pub noted_in : Extent → ℕ → ℕ → ℕ → List ℕ → List ℕ
noted_in k w opener closer words =
    set (set (set (set words (link_at k w words) (suc closer)) (tails_at k + w) (suc closer)) (spare_at k + closer) 0)
    (openers_at k + closer) opener

-- A wire's firings up to a slot are noted: with those to come they are all.
pub record NotedTo (bytes words : List ℕ) (k : Extent) (w slot : ℕ) : Type 0 where
  pub firings-so-far : List Firing
  pub all : firings w 0 (held bytes words k)
      ≡ firings-so-far ++ firings w (behind 0 firings-so-far) (cells_from (is_live words k) (gate_at bytes) slot (k.gates - slot))
  pub chain : ChainOf words k w firings-so-far
  pub last : word words (tails_at k) w ≡ behind 0 firings-so-far
  pub inside : All (λ f. f.closer < k.gates) firings-so-far
  pub on-wire : All (λ f. is_h_on w (gate_at bytes f.closer) ≡ true) firings-so-far
  pub rising : All (λ f. suc f.closer ≤ behind 0 firings-so-far) firings-so-far

-- Each wire's firings in the list that is held are noted.
abbrev pub Noted : List ℕ → List ℕ → Extent → Type 0
Noted bytes words k = (w : ℕ) → w < k.wires → ChainOf words k w (firings w 0 (held bytes words k))
