-- What an h opens on its wire, slot by slot: from each gate on the wire to the next.
use Rattle.std.specs.Prelude.{Option as Answer, Some, None, Ok}
use mathlib.Core.Path.{◌≡◌, refl, sym, ap, ap₂, subst, ◌∙◌}
use mathlib.Core.Bool.{Bool, true, false, cond}
use mathlib.Core.List.{List, [], ◌∷◌}
use mathlib.Core.Option.{Option, some, none}
use Prim.Native.Nat.{ℕ, suc, ◌+◌, ◌*◌, ◌-◌, ◌%◌, ◌≤◌, ◌<◌}
use native.Mathlib.Omega.{arith}
use lib.ListN.{length, get_or}
use borrow.Author.Tests.{eq-eqb, ne_eqb}
use Rattle.gates.specs.declared.Gate.TheVariants.{Z}
use Rattle.gates.specs.Gates.{wire, wires_of, touches}
use Rattle.gates.specs.declared.records.NoGate.{NoGate}
use Rattle.gates.specs.Records.{kind_of, record_at, gate_of, is_h}
use Rattle.rules.specs.Runs.{is_h_on, worth, rewrite}
use Rattle.rules.specs.Steps.{Cell, Cut}
use Rattle.rules.specs.Sweeps.{cut}
use Rattle.slots.specs.declared.Extent.{Extent}
use Rattle.slots.specs.declared.Slot.{Slot}
use Rattle.slots.specs.Slots.{gate_at, cell_of, cells_from, slot_of, slot_as, found}
use Rattle.slots.specs.Live.{is_live, later, Live}
use Rattle.slots.proofs.CutLaws.{cut-from-parts}
use Rattle.slots.proofs.StateLaws.{reads-gate}
use Rattle.hadamards.specs.Firings.{closing_of}
use Rattle.hadamards.specs.declared.closing.Run.{Run}
use Rattle.hadamards.specs.Closings.{ran_to, run_from, close_by, as_ran}
use Rattle.hadamards.proofs.ClosingLaws.{run_by, run_at, run_step, closed_by, x_next, run-closes, x_closes, x-closes, none-closes, alone-on, in-run-small, h-alone}

module _ (bytes words : List ℕ) (k : Extent) where
  -- ------------------------------------------------------------ the next gate on a wire

  abbrev pub next_in : ℕ → ℕ → Option (Cut ℕ)
  next_in w at = cut (touches w) (later bytes words k at)

  -- The next gate on a wire past a slot.
  pub record NextOn (w at j : ℕ) : Type 0 where
    pub past : at < j
    pub inside : j < k.gates
    pub live : is_live words k j ≡ true
    pub on : touches w (gate_at bytes j) ≡ true
    pub before : List (Cell ℕ)
    pub parts : next_in w at ≡ some (record { before = before; here = cell_of (gate_at bytes) j; after = later bytes words k j })

  -- The answers of `after_on`, asked at a gate of one wire.
  module _ (w at : ℕ) (wires : wires_of (gate_at bytes at) ≡ w ∷ []) where
    -- What it finds.
    abbrev next_found : Answer Slot
    next_found = found (slot_of (cut (touches (get_or (wires_of (gate_at bytes at)) 0 0)) (later bytes words k at)))

    on-wire : next_found ≡ found (slot_of (next_in w at))
    on-wire = ap (λ (ws : List ℕ). found (slot_of (next_in (get_or ws 0 0) at))) wires

    pub next-none : None ≡ next_found → next_in w at ≡ none
    next-none e = go (next_in w at) (e ∙ on-wire)
      where
        go : (o : Option (Cut ℕ)) → None ≡ found (slot_of o) → o ≡ none
        go none q = refl
        go (some c) q = cc

    pub next-on : (j : Slot) → Some j ≡ next_found → NextOn w at j.0
    next-on j e = go (next_in w at) refl (e ∙ on-wire)
      where
        go : (o : Option (Cut ℕ)) → next_in w at ≡ o → Some j ≡ found (slot_of o) → NextOn w at j.0
        go none p q = cc
        go (some c) p q =
            let s = cut-from-parts (is_live words k) (gate_at bytes) (touches w) (suc at) (k.gates - suc at) c p in
            let long : suc at + (k.gates - suc at) - suc c.here.beside ≡ k.gates - suc c.here.beside =
            omega (arith, s.from, s.inside) in
            let same : slot_as c.here.beside ≡ j = cc in
            subst (λ (i : Slot). NextOn w at i.0) same
            (record {
              past = s.from;
              inside = omega (arith, s.from, s.inside);
              live = s.live_here;
              on = s.meets;
              before = c.before;
              parts = p
                  ∙ ap₂ (λ (x : Cell ℕ) (l : List (Cell ℕ)). some (record { before = c.before; here = x; after = l })) s.here
                  (s.after ∙ ap (cells_from (is_live words k) (gate_at bytes) (suc c.here.beside)) long);
            })

  -- Its record can be read.
  pub next-reads : (w at j : ℕ) → Live bytes words k → NextOn w at j →
      (16 * j + 16 ≤ length bytes) × (gate_of (record_at bytes j) ≡ Ok (gate_at bytes j))
  next-reads w at j l n = (
    omega (arith, l.loaded.long, n.inside),
    reads-gate k.wires bytes j (l.loaded.sound j n.live),
  )

  -- ------------------------------------------------------------ the run behind an h

  -- Up to a slot, the gates past another are of a run on the wire, of that sum.
  pub record Running (w from at sum : ℕ) : Type 0 where
    pub live : is_live words k at ≡ true
    pub alone : wires_of (gate_at bytes at) ≡ w ∷ []
    pub small : sum < 8
    pub so_far : run_from w 0 (later bytes words k from) ≡ run_from w sum (later bytes words k at)

  pub run-starts : (w slot : ℕ) → is_live words k slot ≡ true → is_h_on w (gate_at bytes slot) ≡ true → Running w slot slot 0
  run-starts w slot t h = record { live = t; alone = h-alone w (gate_at bytes slot) h; small = omega arith; so_far = refl }

  -- At the next gate on the wire: it is of the run, it closes the run, or it ends it.
  pub run-goes : (w from at sum j e : ℕ) → Running w from at sum → NextOn w at j → worth (gate_at bytes j) ≡ some e →
      Running w from j ((sum + e) % 8)
  run-goes w from at sum j e r n h =
      record {
        live = n.live;
        alone = alone-on w (gate_at bytes j) (in-run-small (gate_at bytes j) e h) n.on;
        small = omega arith;
        so_far = r.so_far ∙ run_step w sum (later bytes words k at) ∙ ap (run_at w sum) n.parts
            ∙ ap (run_by w sum (cell_of (gate_at bytes) j) (later bytes words k j)) h;
      }

  run_ends : (w from at sum j : ℕ) (b : Bool) → Running w from at sum → NextOn w at j → worth (gate_at bytes j) ≡ none →
      is_h (gate_at bytes j) ≡ b → run_from w 0 (later bytes words k from) ≡ cond b (ran_to j sum) none
  run_ends w from at sum j b r n h q =
      r.so_far ∙ run_step w sum (later bytes words k at) ∙ ap (run_at w sum) n.parts
      ∙ ap (run_by w sum (cell_of (gate_at bytes) j) (later bytes words k j)) h ∙ ap (λ (x : Bool). cond x (ran_to j sum) none) q

  pub run-closed : (w from at sum j kind : ℕ) → Running w from at sum → NextOn w at j → worth (gate_at bytes j) ≡ none →
      kind ≡ kind_of (gate_at bytes j) → kind ≡ 1 → ran_to j sum ≡ run_from w 0 (later bytes words k from)
  run-closed w from at sum j kind r n h e q = sym (run_ends w from at sum j true r n h (eq-eqb (kind_of (gate_at bytes j)) 1 (sym e ∙ q)))

  pub run-broken : (w from at sum j kind : ℕ) → Running w from at sum → NextOn w at j → worth (gate_at bytes j) ≡ none →
      kind ≡ kind_of (gate_at bytes j) → (kind ≡ 1 → ⊥) → none ≡ run_from w 0 (later bytes words k from)
  run-broken w from at sum j kind r n h e q =
      sym (run_ends w from at sum j false r n h (ne_eqb (kind_of (gate_at bytes j)) 1 (λ p. q (e ∙ p))))

  pub run-open : (w from at sum : ℕ) → Running w from at sum → next_in w at ≡ none → none ≡ run_from w 0 (later bytes words k from)
  run-open w from at sum r n = sym (r.so_far ∙ run_step w sum (later bytes words k at) ∙ ap (run_at w sum) n)

  -- ------------------------------------------------------------ what an h opens

  pub opens-nothing : (w slot : ℕ) → next_in w slot ≡ none → none ≡ closing_of w (later bytes words k slot)
  opens-nothing w slot n = sym (none-closes w (later bytes words k slot) n)

  -- An x past it, which has no other wire, and the gate past that.
  module _ (w slot x kind : ℕ) (n : NextOn w slot x) (kind-is : kind ≡ kind_of (gate_at bytes x)) where
    pub x-alone : kind ≡ 0 → wires_of (gate_at bytes x) ≡ w ∷ []
    x-alone q = alone-on w (gate_at bytes x) (omega (arith, kind-is, q)) n.on

    x-opens : kind ≡ 0 → closing_of w (later bytes words k slot) ≡ x_closes w (next_in w x)
    x-opens q =
        x-closes w (later bytes words k slot)
        (record { before = n.before; here = cell_of (gate_at bytes) x; after = later bytes words k x })
        n.parts (eq-eqb (kind_of (gate_at bytes x)) 0 (sym kind-is ∙ q))

    pub x-open : kind ≡ 0 → next_in w x ≡ none → none ≡ closing_of w (later bytes words k slot)
    x-open q m = sym (x-opens q ∙ ap (x_closes w) m)

    x-then : (h : ℕ) (b : Bool) → kind ≡ 0 → NextOn w x h → is_h (gate_at bytes h) ≡ b →
        cond b (close_by h (rewrite none (some (Z (wire w))))) none ≡ closing_of w (later bytes words k slot)
    x-then h b q m e =
        sym (x-opens q ∙ ap (x_closes w) m.parts ∙ ap (λ (t : Bool). cond t (close_by h (rewrite none (some (Z (wire w))))) none) e)

    pub x-closed : (h other : ℕ) → kind ≡ 0 → NextOn w x h → other ≡ kind_of (gate_at bytes h) → other ≡ 1 →
        close_by h (rewrite none (some (Z (wire w)))) ≡ closing_of w (later bytes words k slot)
    x-closed h other q m e p = x-then h true q m (eq-eqb (kind_of (gate_at bytes h)) 1 (sym e ∙ p))

    pub x-broken : (h other : ℕ) → kind ≡ 0 → NextOn w x h → other ≡ kind_of (gate_at bytes h) → (other ≡ 1 → ⊥) →
        none ≡ closing_of w (later bytes words k slot)
    x-broken h other q m e p = x-then h false q m (ne_eqb (kind_of (gate_at bytes h)) 1 (λ i. p (e ∙ i)))

    -- Any other gate: what the run says.
    pub run-opens : (run : Answer Run) → (kind ≡ 0 → ⊥) → as_ran run ≡ run_from w 0 (later bytes words k slot) →
        closed_by w (as_ran run) ≡ closing_of w (later bytes words k slot)
    run-opens run q r =
        ap (closed_by w) r
        ∙ sym (run-closes w (later bytes words k slot)
        (ap x_next n.parts ∙ ne_eqb (kind_of (gate_at bytes x)) 0 (λ i. q (kind-is ∙ i))))
