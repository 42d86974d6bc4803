-- A sweep again until nothing changes, in code: what is done so far, one more sweep, and the last.
use mathlib.Core.Path.{◌≡◌, refl, sym, ◌∙◌}
use mathlib.Core.List.{List}
use Prim.Native.Nat.{ℕ, ◌+◌, ◌*◌, ◌≤◌, ◌<◌}
use native.Mathlib.Omega.{arith}
use lib.ListN.{length, drop}
use Rattle.rules.specs.Equal.{seven}
use Rattle.rules.specs.Sweeps.{Done, Sweep, idle}
use Rattle.rules.specs.Loop.{repeated, size}
use Rattle.rules.proofs.Replays.{Replays}
use Rattle.links.specs.Words.{Within}
use Rattle.links.proofs.WordLaws.{within_none, within-then}
use Rattle.slots.specs.declared.Extent.{Extent}
use Rattle.slots.specs.Live.{words_for, held, Live}
use Rattle.journal.specs.Sweeping.{Did, Went}
use Rattle.journal.proofs.SweepingLaws.{went-none, went_on, went-did, went-looks}
use Rattle.journal.proofs.WentLaws.{went-fits}
use Rattle.cancel.proofs.RepeatLaws.{among, last-went, again-went, again-lower}

-- Records and words that hold a list, changed within their room; the records as they were from a byte on.
pub record Held (k : Extent) (from : ℕ) (bytes₀ words₀ bytes words : List ℕ) : Type 0 where
  pub live : Live bytes words k
  pub within : Within 0 (words_for k) words₀ words
  pub past : drop from bytes ≡ drop from bytes₀
  pub long : length bytes ≡ length bytes₀

-- So far, with the rest to come.
pub record SoFar (f : Sweep ℕ) (k : Extent) (from : ℕ) (bytes₀ words₀ journal₀ : List ℕ) (steps : ℕ) (bytes words journal : List ℕ) (s looks : ℕ) : Type 0 where
  pub kept : Held k from bytes₀ words₀ bytes words
  pub went : Went (repeated f (held bytes₀ words₀ k)) (repeated f (held bytes words k)) looks steps s journal₀ journal

-- One sweep of them.
pub record Once (f : Sweep ℕ) (k : Extent) (from : ℕ) (bytes words journal bytes' words' journal' : List ℕ) (s after : ℕ) : Type 0 where
  pub kept : Held k from bytes words bytes' words'
  pub did : Did (f (held bytes words k)) (held bytes' words' k) s after journal journal'

pub so-far-none : (f : Sweep ℕ) (k : Extent) (from : ℕ) (bytes words journal : List ℕ) (steps : ℕ) → Live bytes words k →
    SoFar f k from bytes words journal steps bytes words journal steps 0
so-far-none f k from bytes words journal steps live =
    record {
      kept = record { live = live; within = within_none 0 (words_for k) words; past = refl; long = refl };
      went = went-none _ _ steps journal refl;
    }

module _ {f : Sweep ℕ} {k : Extent} {from : ℕ} {bytes₀ words₀ journal₀ bytes words journal : List ℕ} {steps s looks : ℕ}
    (to : SoFar f k from bytes₀ words₀ journal₀ steps bytes words journal s looks) (replays : Replays seven f) where
  pub next_fits : 16 * (steps + length (repeated f (held bytes₀ words₀ k)).steps) ≤ length journal₀ →
      16 * (s + length (f (held bytes words k)).steps) ≤ length journal
  next_fits h =
      let all = went-fits _ _ _ _ _ _ _ to.went h in
      let few = (among f replays (held bytes words k)).steps in
      omega (arith, all, few)

  pub next-looks : looks + (f (held bytes words k)).looks ≤ (repeated f (held bytes₀ words₀ k)).looks
  next-looks =
      let all = to.went.looked in
      let few = (among f replays (held bytes words k)).looks in
      omega (arith, all, few)

  module _ {bytes' words' journal' : List ℕ} {after : ℕ} (once : Once f k from bytes words journal bytes' words' journal' s after) where
    pub kept-so-far : Held k from bytes₀ words₀ bytes' words'
    kept-so-far =
        record {
          live = once.kept.live;
          within = within-then 0 (words_for k) words₀ words words' to.kept.within once.kept.within;
          past = once.kept.past ∙ to.kept.past;
          long = once.kept.long ∙ to.kept.long;
        }

    -- What is done so far, and then this sweep.
    then : {rest : Done ℕ} {more to_s : ℕ} → Went (repeated f (held bytes words k)) rest more s to_s journal journal' →
        Went (repeated f (held bytes₀ words₀ k)) rest (looks + more) steps to_s journal₀ journal'
    then = went_on _ _ _ _ _ _ _ _ _ _ _ to.went

    pub one_more : (after ≡ s → ⊥) → (looks' : ℕ) → looks' ≡ looks + (f (held bytes words k)).looks →
        SoFar f k from bytes₀ words₀ journal₀ steps bytes' words' journal' after looks'
    one_more more looks' e = record { kept = kept-so-far; went = rw e (then (again-went f replays _ once.did more)) }

    pub smaller : (after ≡ s → ⊥) → size (held bytes' words' k) < size (held bytes words k)
    smaller = again-lower f replays _ once.did

    over : after ≡ s → Went (repeated f (held bytes₀ words₀ k)) (idle (held bytes' words' k)) (looks + (f (held bytes words k)).looks) steps s journal₀ journal'
    over p = then (last-went f replays _ once.did p)

    pub all_done : after ≡ s → Did (repeated f (held bytes₀ words₀ k)) (held bytes' words' k) steps s journal₀ journal'
    all_done p = went-did _ _ _ _ _ _ _ (over p)

    pub all-looked : after ≡ s → looks + (f (held bytes words k)).looks ≡ (repeated f (held bytes₀ words₀ k)).looks
    all-looked p = sym (went-looks _ _ _ _ _ _ _ (over p))
