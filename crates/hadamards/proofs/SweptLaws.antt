-- The Hadamard sweep wire by wire: the firings of the wires to come stay as they are noted.
use mathlib.Core.Path.{◌≡◌, refl, sym, ap, ap₂, subst, ◌∙◌}
use mathlib.Core.List.{List}
use Prim.Native.Nat.{ℕ, zero, suc, ◌+◌, ◌*◌, ◌-◌, ◌≤◌, ◌<◌}
use native.Mathlib.Omega.{arith}
use lib.ListN.{length, length-append, drop}
use lib.Seq.{length-sets}
use Rattle.rules.specs.Steps.{Cell}
use Rattle.rules.specs.Journal.{journal_bytes}
use Rattle.rules.specs.Sweeps.{Done, idle, and, hadamards_from, hadamard_sweep}
use Rattle.links.specs.Words.{Within}
use Rattle.links.proofs.WordLaws.{within_none, within-then, within_wider}
use Rattle.slots.specs.declared.Extent.{Extent}
use Rattle.slots.specs.Slots.{gate_at}
use Rattle.slots.specs.Live.{words_for, spare_at, is_live, held, Live}
use Rattle.slots.proofs.StateLaws.{room-enough, links-in-room}
use Rattle.journal.specs.Sweeping.{Did}
use Rattle.journal.proofs.SweepingLaws.{did_none, did-both}
use Rattle.hadamards.specs.Firings.{firings}
use Rattle.hadamards.specs.Chains.{notes_for, ChainOf, Noted}
use Rattle.hadamards.specs.Placing.{OtherWires}
use Rattle.hadamards.proofs.FiringLaws.{firings-kept}
use Rattle.hadamards.proofs.WireLaws.{chain-kept}

-- The sweep over no wire, and over one more.
sweep-none : (l : List (Cell ℕ)) → hadamard_sweep 0 l ≡ idle l
unfolding hadamard_sweep
sweep-none l = refl

sweep-next : (w : ℕ) (l m : List (Cell ℕ)) → m ≡ (hadamard_sweep w l).list →
    and (hadamard_sweep w l) (hadamards_from (length m) w 0 m) ≡ hadamard_sweep (suc w) l
unfolding hadamard_sweep
sweep-next w l m e = ap (λ (x : List (Cell ℕ)). and (hadamard_sweep w l) (hadamards_from (length x) w 0 x)) e

-- More wires, no fewer steps.
sweep-grows : (w m : ℕ) (l : List (Cell ℕ)) → length (hadamard_sweep w l).steps ≤ length (hadamard_sweep (w + m) l).steps
unfolding hadamard_sweep
sweep-grows w zero l = let same : w + 0 ≡ w = omega arith in omega (arith, ap (λ (n : ℕ). length (hadamard_sweep n l).steps) same)
sweep-grows w (suc m) l =
    let same : w + suc m ≡ suc (w + m) = omega arith in
    let c : Done ℕ = hadamard_sweep (w + m) l in
    omega (
      arith,
      sweep-grows w m l,
      ap (λ (n : ℕ). length (hadamard_sweep n l).steps) same,
      length-append c.steps (hadamards_from (length c.list) (w + m) 0 c.list).steps,
    )

-- The wires below one are done; the firings of the others are noted.
pub record SweptTo (b₀ ws₀ j₀ : List ℕ) (k : Extent) (steps : ℕ) (b ws j : List ℕ) (s w : ℕ) : Type 0 where
  pub inside : w ≤ k.wires
  pub live : Live b ws k
  pub did : Did (hadamard_sweep w (held b₀ ws₀ k)) (held b ws k) steps s j₀ j
  pub noted : (v : ℕ) → w ≤ v → v < k.wires → ChainOf ws k v (firings v 0 (held b ws k))
  pub within : Within 0 (spare_at k) ws₀ ws
  pub long : length b ≡ length b₀
  pub past : drop (16 * k.gates) b ≡ drop (16 * k.gates) b₀

pub swept_none : (b ws j : List ℕ) (k : Extent) (steps : ℕ) → Live b ws k → Noted b ws k → SweptTo b ws j k steps b ws j steps 0
swept_none b ws j k steps l h =
    record {
      inside = omega arith;
      live = l;
      did = subst (λ (d : Done ℕ). Did d (held b ws k) steps steps j j) (sym (sweep-none (held b ws k))) (did_none (held b ws k) steps j);
      noted = λ v m n. h v n;
      within = within_none 0 (spare_at k) ws;
      long = refl;
      past = refl;
    }

-- The firings of a wire stay what they are where only another wire's gates have changed.
firings-stay : (k : Extent) (w v : ℕ) (b ws b' ws' : List ℕ) → OtherWires k w b ws b' ws' → (v ≡ w → ⊥) →
    firings v 0 (held b ws k) ≡ firings v 0 (held b' ws' k)
firings-stay k w v b ws b' ws' o d =
    firings-kept (is_live ws k) (is_live ws' k) (gate_at b) (gate_at b') v 0 0 k.gates (λ i l m. o.live v i d) (λ i l m. o.gate v i d)

module _ (b₀ ws₀ j₀ : List ℕ) (k : Extent) (steps : ℕ) (b ws j : List ℕ) (s w : ℕ)
    (h : SweptTo b₀ ws₀ j₀ k steps b ws j s w) where
  pub swept-long : length j ≡ length j₀
  swept-long = ap length h.did.journal ∙ length-sets j₀ (16 * steps) (journal_bytes (hadamard_sweep w (held b₀ ws₀ k)).steps)

  -- There is room for the steps of the next wire.
  pub swept-room : w < k.wires → 16 * (steps + length (hadamard_sweep k.wires (held b₀ ws₀ k)).steps) ≤ length j₀ →
      16 * (s + length (hadamards_from (length (held b ws k)) w 0 (held b ws k)).steps) ≤ length j
  swept-room m r =
      let all : suc w + (k.wires - suc w) ≡ k.wires = omega (arith, m) in
      omega (
        arith,
        h.did.count,
        length-append (hadamard_sweep w (held b₀ ws₀ k)).steps (hadamards_from (length (held b ws k)) w 0 (held b ws k)).steps,
        ap (λ (d : Done ℕ). length d.steps) (sweep-next w (held b₀ ws₀ k) (held b ws k) h.did.list),
        sweep-grows (suc w) (k.wires - suc w) (held b₀ ws₀ k),
        ap (λ (n : ℕ). length (hadamard_sweep n (held b₀ ws₀ k)).steps) all,
        swept-long,
        r,
      )

  pub swept-more : (b' ws' j' : List ℕ) (s' : ℕ) → w < k.wires → Live b' ws' k →
      Did (hadamards_from (length (held b ws k)) w 0 (held b ws k)) (held b' ws' k) s s' j j' → OtherWires k w b ws b' ws' →
      Within 0 (spare_at k) ws ws' → length b' ≡ length b → drop (16 * k.gates) b' ≡ drop (16 * k.gates) b →
      SweptTo b₀ ws₀ j₀ k steps b' ws' j' s' (w + 1)
  swept-more b' ws' j' s' m l d o p n q =
      record {
        inside = omega (arith, m);
        live = l;
        did = let one_more : suc w ≡ w + 1 = omega arith in
            subst (λ (c : Done ℕ). Did c (held b' ws' k) steps s' j₀ j')
            (sweep-next w (held b₀ ws₀ k) (held b ws k) h.did.list ∙ ap (λ (n : ℕ). hadamard_sweep n (held b₀ ws₀ k)) one_more)
            (did-both _ _ (held b ws k) (held b' ws' k) steps s s' j₀ j j' h.did d);
        noted = λ v x y. subst (ChainOf ws' k v) (firings-stay k w v b ws b' ws' o (λ e. omega (arith, e, x)))
            (chain-kept k ws ws' p v (firings v 0 (held b ws k)) (h.noted v (omega (arith, x)) y));
        within = within-then 0 (spare_at k) ws₀ ws ws' h.within p;
        long = n ∙ h.long;
        past = q ∙ h.past;
      }

  -- All wires are done: so is the sweep, over the list as it was before the firings were noted.
  pub swept_all : (was : List ℕ) → k.wires ≤ w → held b₀ ws₀ k ≡ held b₀ was k →
      Did (hadamard_sweep k.wires (held b₀ was k)) (held b ws k) steps s j₀ j
  swept_all was m e =
      let end : w ≡ k.wires = omega (arith, m, h.inside) in
      subst (λ (d : Done ℕ). Did d (held b ws k) steps s j₀ j) (ap₂ (λ (n : ℕ) (l : List (Cell ℕ)). hadamard_sweep n l) end e) h.did
