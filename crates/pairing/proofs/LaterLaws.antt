-- The pair sweep over the live list: what one turn does, and all of them.
use Rattle.std.specs.Prelude.{Some, None}
use mathlib.Core.Path.{◌≡◌, refl, ap, subst, ◌∙◌}
use mathlib.Core.Bool.{true, false}
use mathlib.Core.List.{List, []}
use Prim.Native.Nat.{ℕ, ◌+◌, ◌*◌, ◌-◌, ◌≤◌, ◌<◌}
use native.Mathlib.Omega.{arith}
use lib.ListN.{length}
use lib.Seq.{sets}
use Rattle.rules.specs.Equal.{seven}
use Rattle.rules.specs.Steps.{Cell, step}
use Rattle.rules.specs.Sweeps.{Done, idle, pairs_from, pair_sweep}
use Rattle.rules.specs.Journal.{step_bytes}
use Rattle.links.specs.Words.{Within}
use Rattle.links.proofs.WordLaws.{within_none, within-then}
use Rattle.slots.specs.declared.Slot.{Slot}
use Rattle.slots.specs.declared.Extent.{Extent}
use Rattle.slots.specs.Slots.{gate_at, cells_from, cells_below, slot_of, found}
use Rattle.slots.specs.Live.{words_for, is_live, held, earlier, Live}
use Rattle.slots.proofs.CutLaws.{below-reverse}
use Rattle.journal.specs.Sweeping.{Did, Went, TakenOut}
use Rattle.journal.proofs.SweepingLaws.{went-none, went_on, went-did}
use Rattle.pairing.specs.Ahead.{equal_blocker, pairs_ahead}
use Rattle.slots.proofs.AnswerLaws.{PartedAt, found-parted, found_none}
use Rattle.journal.proofs.WentLaws.{room_for, went-fire}
use Rattle.pairing.proofs.TurnLaws.{slot-skipped, slot-stays, parted-live, parted-below, slots-fire, slots-go}

-- ------------------------------------------------------------ one turn

module _ (bytes words : List ℕ) (k : Extent) (slot steps : ℕ) (journal : List ℕ) (inside : slot < k.gates) where
  pub turn-skips : is_live words k slot ≡ false →
      Went (pairs_ahead bytes words k slot) (pairs_ahead bytes words k (slot + 1)) 0 steps steps journal journal
  turn-skips off = went-none _ _ steps journal (slot-skipped (is_live words k) (gate_at bytes) k.gates slot inside off)

  -- A live slot that has no equal blocker.
  pub turn-keeps : is_live words k slot ≡ true → None ≡ found (slot_of (equal_blocker (gate_at bytes slot) (earlier bytes words k slot))) →
      Went (pairs_ahead bytes words k slot) (pairs_ahead bytes words k (slot + 1)) 0 steps steps journal journal
  turn-keeps on said =
      went-none _ _ steps journal
      (slot-stays (is_live words k) (gate_at bytes) k.gates slot inside on
      (found_none (equal_blocker (gate_at bytes slot) (earlier bytes words k slot)) None said refl))

  -- One that has.
  module _ (on : is_live words k slot ≡ true) (b : Slot)
      (said : Some b ≡ found (slot_of (equal_blocker (gate_at bytes slot) (earlier bytes words k slot)))) where
    parted : PartedAt (equal_blocker (gate_at bytes slot) (earlier bytes words k slot)) b.0
    parted = found-parted (equal_blocker (gate_at bytes slot) (earlier bytes words k slot)) (Some b) b said refl

    pub pair-live : (is_live words k b.0 ≡ true) × (is_live words k slot ≡ true) × (b.0 < slot)
    pair-live = (
      parted-live (is_live words k) (gate_at bytes) k.gates slot b.0 inside on parted,
      on,
      parted-below (is_live words k) (gate_at bytes) k.gates slot b.0 inside on parted,
    )

    pub pair-room : 16 * (steps + length (pairs_ahead bytes words k slot).steps) ≤ length journal → 16 * steps + 16 ≤ length journal
    pair-room =
        room_for _ _ _ _ _ steps (length journal) (slots-fire (is_live words k) (gate_at bytes) k.gates slot b.0 inside on parted)

    -- Both have gone, and the step has been written.
    pub turn-takes : (now written : List ℕ) (kind : ℕ) → kind ≡ 1 → TakenOut k b.0 slot words now →
        written ≡ sets journal (16 * steps) (step_bytes (step kind (length (earlier bytes words k b.0)) (length (earlier bytes words k slot)))) →
        Went (pairs_ahead bytes words k slot) (pairs_ahead bytes now k (slot + 1)) 0 steps (steps + 1) journal written
    turn-takes now written kind one taken w =
        went-fire _ _ _ _ _ steps journal written
        (slots-go (is_live words k) (gate_at bytes) k.gates slot b.0 inside on parted (is_live now k) taken) (w ∙ cc one)

-- ------------------------------------------------------------ all turns

-- The slots below one have had their turns.
pub record SweptTo (bytes words₀ journal₀ : List ℕ) (k : Extent) (steps i : ℕ) (words journal : List ℕ) (s : ℕ) : Type 0 where
  pub inside : i ≤ k.gates
  pub live : Live bytes words k
  pub went : Went (pair_sweep seven (held bytes words₀ k)) (pairs_ahead bytes words k i) 0 steps s journal₀ journal
  pub within : Within 0 (words_for k) words₀ words

-- Before the first turn all is to come, after the last nothing.
sweep-ahead : (bytes words : List ℕ) (k : Extent) → pair_sweep seven (held bytes words k) ≡ pairs_ahead bytes words k 0
unfolding pair_sweep cells_below
sweep-ahead bytes words k =
    let all : k.gates ≡ k.gates - 0 = omega arith in
    ap (λ (n : ℕ). pairs_from seven [] (cells_from (is_live words k) (gate_at bytes) 0 n)) all

none_ahead : (bytes words : List ℕ) (k : Extent) → pairs_ahead bytes words k k.gates ≡ idle (held bytes words k)
unfolding pairs_from cells_from
none_ahead bytes words k =
    let nothing : k.gates - k.gates ≡ 0 = omega arith in
    ap (λ (n : ℕ). pairs_from seven (earlier bytes words k k.gates) (cells_from (is_live words k) (gate_at bytes) k.gates n)) nothing
    ∙ ap (λ (l : List (Cell ℕ)). idle l) (below-reverse (is_live words k) (gate_at bytes) k.gates)

pub swept_none : (bytes words journal : List ℕ) (k : Extent) (steps : ℕ) → Live bytes words k →
    SweptTo bytes words journal k steps 0 words journal steps
swept_none bytes words journal k steps live =
    record {
      inside = omega arith;
      live = live;
      went = went-none _ _ steps journal (sweep-ahead bytes words k);
      within = within_none 0 (words_for k) words;
    }

module _ (bytes words₀ journal₀ : List ℕ) (k : Extent) (steps i : ℕ) (words journal : List ℕ) (s : ℕ)
    (to : SweptTo bytes words₀ journal₀ k steps i words journal s) where
  pub swept-more : (words' journal' : List ℕ) (s' : ℕ) → i < k.gates → Live bytes words' k →
      Went (pairs_ahead bytes words k i) (pairs_ahead bytes words' k (i + 1)) 0 s s' journal journal' → Within 0 (words_for k) words words' →
      SweptTo bytes words₀ journal₀ k steps (i + 1) words' journal' s'
  swept-more words' journal' s' m live w within =
      record {
        inside = omega arith;
        live = live;
        went = went_on _ _ _ 0 0 steps s s' journal₀ journal journal' to.went w;
        within = within-then 0 (words_for k) words₀ words words' to.within within;
      }

  pub swept_all : k.gates ≤ i → Did (pair_sweep seven (held bytes words₀ k)) (held bytes words k) steps s journal₀ journal
  swept_all m =
      let end : i ≡ k.gates = omega (arith, to.inside) in
      went-did _ _ 0 steps s journal₀ journal
      (subst (λ (d : Done ℕ). Went (pair_sweep seven (held bytes words₀ k)) d 0 steps s journal₀ journal)
      (ap (pairs_ahead bytes words k) end ∙ none_ahead bytes words k) to.went)
