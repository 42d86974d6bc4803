-- The commuting sweep in code, slot by slot: start, turn, finish.
use mathlib.Core.Path.{◌≡◌, refl, sym, ap, ◌∙◌}
use mathlib.Core.List.{List, [], append-nil}
use Prim.Native.Nat.{ℕ, zero, suc, ◌+◌, ◌-◌, ◌≤◌, ◌<◌}
use native.Mathlib.Omega.{arith}
use lib.ListN.{length}
use Rattle.rules.specs.Steps.{Cell}
use Rattle.rules.specs.Sweeps.{Done, idle, stay, commuting_from, commuting_sweep}
use Rattle.rules.proofs.Fuel.{commuting-enough}
use Rattle.links.specs.Words.{Within}
use Rattle.links.proofs.WordLaws.{within_none, within-then}
use Rattle.slots.specs.declared.Extent.{Extent}
use Rattle.slots.specs.Slots.{gate_at, cells_from}
use Rattle.slots.specs.Live.{words_for, is_live, held, Live}
use Rattle.journal.specs.Sweeping.{Did, Went}
use Rattle.journal.proofs.SweepingLaws.{went-none, went_on, went-did, went-looks}
use Rattle.commuting.specs.Ahead.{commuting_ahead}
use Rattle.commuting.proofs.AheadLaws.{few-cells, no_cells}
use Rattle.commuting.proofs.TurnLaws.{went-counted}

-- So far, up to a slot.
pub record SweptTo (bytes words₀ journal₀ : List ℕ) (k : Extent) (steps i : ℕ) (words journal : List ℕ) (s looks : ℕ) : Type 0 where
  pub inside : i ≤ k.gates
  pub live : Live bytes words k
  pub went : Went (commuting_sweep (held bytes words₀ k)) (commuting_ahead bytes words k i) looks steps s journal₀ journal
  pub within : Within 0 (words_for k) words₀ words

sweep-is : (l : List (Cell ℕ)) → commuting_sweep l ≡ commuting_from (length l) 0 l
unfolding commuting_sweep
sweep-is l = refl

-- At the first slot all is to come.
at_first : (bytes words : List ℕ) (k : Extent) → commuting_sweep (held bytes words k) ≡ commuting_ahead bytes words k 0
at_first bytes words k =
    let l = held bytes words k in
    let all : k.gates ≡ k.gates - 0 = omega arith in
    sweep-is l ∙ commuting-enough (length l) k.gates 0 l (omega arith) (few-cells (is_live words k) (gate_at bytes) 0 k.gates)
    ∙ ap (λ n. stay [] (commuting_from k.gates 0 (cells_from (is_live words k) (gate_at bytes) 0 n))) all
    ∙ ap (λ b. stay b (commuting_from k.gates (length b) (cells_from (is_live words k) (gate_at bytes) 0 (k.gates - 0))))
    (sym (no_cells (is_live words k) (gate_at bytes) 0))

from-none : (n i : ℕ) → ◌≡◌ {A = Done ℕ} (commuting_from n i []) (idle [])
unfolding commuting_from
from-none zero i = refl
from-none (suc n) i = refl

-- Past the last nothing is.
at_last : (bytes words : List ℕ) (k : Extent) (i : ℕ) → i ≡ k.gates → commuting_ahead bytes words k i ≡ idle (held bytes words k)
at_last bytes words k i p =
    let none_left : i - i ≡ 0 = omega arith in
    let b = cells_from (is_live words k) (gate_at bytes) 0 i in
    ap (λ g. stay b (commuting_from k.gates (length b) (cells_from (is_live words k) (gate_at bytes) i (g - i)))) (sym p)
    ∙ ap (λ n. stay b (commuting_from k.gates (length b) (cells_from (is_live words k) (gate_at bytes) i n))) none_left
    ∙ ap (λ l. stay b (commuting_from k.gates (length b) l)) (no_cells (is_live words k) (gate_at bytes) i)
    ∙ ap (stay b) (from-none k.gates (length b))
    ∙ ap idle (append-nil b)
    ∙ ap (λ g. idle (cells_from (is_live words k) (gate_at bytes) 0 g)) p

pub swept_none : (bytes words journal : List ℕ) (k : Extent) (steps : ℕ) → Live bytes words k →
    SweptTo bytes words journal k steps 0 words journal steps 0
swept_none bytes words journal k steps live =
    record {
      inside = omega arith;
      live = live;
      went = went-none _ _ steps journal (at_first bytes words k);
      within = within_none 0 (words_for k) words;
    }

module _ {bytes words₀ journal₀ : List ℕ} {k : Extent} {steps i : ℕ} {words journal : List ℕ} {s looks : ℕ}
    (to : SweptTo bytes words₀ journal₀ k steps i words journal s looks) where
  pub swept-more : {words' journal' : List ℕ} {s' looks' : ℕ} → i < k.gates → Live bytes words' k →
      Went (commuting_ahead bytes words k i) (commuting_ahead bytes words' k (i + 1)) (looks' - looks) s s' journal journal' → looks ≤ looks' →
      Within 0 (words_for k) words words' → SweptTo bytes words₀ journal₀ k steps (i + 1) words' journal' s' looks'
  swept-more {words'} h live went more within =
      record {
        inside = omega (arith, h);
        live = live;
        went = went-counted _ _ _ _ _ _ _ _ (went_on _ _ _ _ _ _ _ _ _ _ _ to.went went) (omega (arith, more));
        within = within-then 0 (words_for k) words₀ words words' to.within within;
      }

  module _ (left : k.gates ≤ i) where
    over : Went (commuting_sweep (held bytes words₀ k)) (idle (held bytes words k)) looks steps s journal₀ journal
    over =
        let e : i ≡ k.gates = let h = to.inside in omega (arith, h, left) in
        went-counted _ _ _ _ _ _ _ _ (went_on _ _ _ _ _ _ _ _ _ _ _ to.went (went-none _ _ s journal (at_last bytes words k i e))) (omega arith)

    pub swept_all : Did (commuting_sweep (held bytes words₀ k)) (held bytes words k) steps s journal₀ journal
    swept_all = went-did _ _ looks steps s journal₀ journal over

    pub swept-counted : looks ≡ (commuting_sweep (held bytes words₀ k)).looks
    swept-counted = sym (went-looks _ _ looks steps s journal₀ journal over)
