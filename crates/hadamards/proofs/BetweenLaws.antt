-- What stands between the two h of a firing once it is placed: the first on the wire takes another gate and the others go, or all go.
use Rattle.std.specs.Prelude.{Option as Answer, Some, None}
use mathlib.Core.Path.{◌≡◌, refl, sym, ap, ap₂, subst, ◌∙◌}
use mathlib.Core.Bool.{Bool, true, false, not, cond, ◌&&◌}
use mathlib.Core.List.{List, [], ◌∷◌}
use mathlib.Core.Option.{some, none}
use Prim.Native.Nat.{ℕ, zero, suc, ◌+◌, ◌-◌, ◌≤◌, ◌<◌}
use native.Mathlib.Omega.{arith}
use lib.Dec.{eqb}
use lib.ListN.{get_or}
use borrow.Author.Tests.{eqb-true, eqb-false}
use Rattle.gates.specs.declared.Gate.{Gate}
use Rattle.gates.specs.Gates.{wire, wires_of, touches}
use Rattle.gates.specs.Records.{is_h}
use Rattle.gates.proofs.Joined.{and_right}
use Rattle.rules.specs.Runs.{Rewrite, rewrite_of}
use Rattle.rules.specs.Steps.{Cell, track, off_wire, put, put_first}
use Rattle.rules.specs.Sweeps.{cut}
use Rattle.links.proofs.SeekLaws.{parted}
use Rattle.slots.specs.declared.Extent.{Extent}
use Rattle.slots.specs.declared.Slot.{Slot}
use Rattle.slots.specs.Slots.{gate_at, cell_of, cells_from, slot_of, found}
use Rattle.slots.specs.Live.{is_live, later}
use Rattle.slots.proofs.StateLaws.{live_below}
use Rattle.hadamards.specs.Closings.{put_as}
use Rattle.hadamards.specs.Firings.{Firing, closing_of}
use Rattle.hadamards.specs.Placing.{DroppedOn, SameSlot, OneWire, Takes, Placed, Allowed, gap, PlacedBetween}
use Rattle.hadamards.proofs.PlacingLaws.{NextOn, next-on, next-there}
use Rattle.hadamards.proofs.OneWireLaws.{rewrite-one-wire, one-wire-first, h-first, closing-between, between-one-wire, between-some, same_then, dropped-outside, dropped-inside, others-then, others-dropped, others-placed}

-- ------------------------------------------------------------ lists of slots, changed on a wire

module _ (live live' : ℕ → Bool) (gates gates' : ℕ → Gate) (w : ℕ) where
  -- All on the wire go.
  off-cells : (i count : ℕ) → ((j : ℕ) → i ≤ j → j < i + count → live' j ≡ (live j && not (touches w (gates j)))) →
      ((j : ℕ) → i ≤ j → j < i + count → gates' j ≡ gates j) → cells_from live' gates' i count ≡ off_wire w (cells_from live gates i count)
  unfolding cells_from off_wire
  off-cells i zero e f = refl
  off-cells i (suc count) e f =
      go (live i) (live' i) (touches w (gates i)) refl (e i (omega arith) (omega arith)) (f i (omega arith) (omega arith))
      (off-cells (suc i) count (λ j a b. e j (omega arith) (omega arith)) (λ j a b. f j (omega arith) (omega arith)))
    where
      l : List (Cell ℕ)
      l = cells_from live gates (suc i) count

      l' : List (Cell ℕ)
      l' = cells_from live' gates' (suc i) count

      go : (b c t : Bool) → touches w (gates i) ≡ t → c ≡ (b && not t) → gates' i ≡ gates i → l' ≡ off_wire w l →
          cond c (cell_of gates' i ∷ l') l' ≡ off_wire w (cond b (cell_of gates i ∷ l) l)
      go true c true q p g h =
          ap (λ (x : Bool). cond x (cell_of gates' i ∷ l') l') p ∙ h
          ∙ sym (ap (λ (x : Bool). cond x (off_wire w l) (cell_of gates i ∷ off_wire w l)) q)
      go true c false q p g h =
          ap (λ (x : Bool). cond x (cell_of gates' i ∷ l') l') p
          ∙ ap₂ (λ (x : Gate) (m : List (Cell ℕ)). record { gate = x; beside = i } ∷ m) g h
          ∙ sym (ap (λ (x : Bool). cond x (off_wire w l) (cell_of gates i ∷ off_wire w l)) q)
      go false c t q p g h = ap (λ (x : Bool). cond x (cell_of gates' i ∷ l') l') p ∙ h

  -- The first on the wire takes another gate, and the others go.
  put-cells : (x : ℕ) (g : Gate) → live x ≡ true → touches w (gates x) ≡ true → live' x ≡ true → gates' x ≡ g → (i count : ℕ) → i ≤ x → x < i + count →
      ((j : ℕ) → i ≤ j → j < x → (live j && touches w (gates j)) ≡ false) → ((j : ℕ) → i ≤ j → j < x → live' j ≡ live j) →
      ((j : ℕ) → x < j → j < i + count → live' j ≡ (live j && not (touches w (gates j)))) → ((j : ℕ) → (j ≡ x → ⊥) → gates' j ≡ gates j) →
      cells_from live' gates' i count ≡ put_first w (some g) (cells_from live gates i count)
  unfolding cells_from put_first
  put-cells x g t u t' q i zero a b clear before after same = absurd (omega arith)
  put-cells x g t u t' q i (suc count) a b clear before after same =
      go (eqb i x) refl
      (λ m. put-cells x g t u t' q (suc i) count m (omega arith) (λ j y z. clear j (omega arith) z) (λ j y z. before j (omega arith) z)
      (λ j y z. after j y (omega arith)) same)
      (λ m. off-cells (suc i) count (λ j y z. after j (omega arith) (omega arith)) (λ j y z. same j (λ d. omega arith)))
    where
      l : List (Cell ℕ)
      l = cells_from live gates (suc i) count

      l' : List (Cell ℕ)
      l' = cells_from live' gates' (suc i) count

      passed : (b c t : Bool) → touches w (gates i) ≡ t → (b && t) ≡ false → c ≡ b → gates' i ≡ gates i → l' ≡ put_first w (some g) l →
          cond c (cell_of gates' i ∷ l') l' ≡ put_first w (some g) (cond b (cell_of gates i ∷ l) l)
      passed true c t v n p f h =
          ap (λ (y : Bool). cond y (cell_of gates' i ∷ l') l') p
          ∙ ap₂ (λ (y : Gate) (m : List (Cell ℕ)). record { gate = y; beside = i } ∷ m) f h
          ∙ sym (ap (λ (y : Bool). cond y (put (some g) (cell_of gates i) (off_wire w l)) (cell_of gates i ∷ put_first w (some g) l)) (v ∙ n))
      passed false c t v n p f h = ap (λ (y : Bool). cond y (cell_of gates' i ∷ l') l') p ∙ h

      changed : (b c t : Bool) → touches w (gates i) ≡ t → t ≡ true → b ≡ true → c ≡ true → gates' i ≡ g → l' ≡ off_wire w l →
          cond c (cell_of gates' i ∷ l') l' ≡ put_first w (some g) (cond b (cell_of gates i ∷ l) l)
      changed b c t v n o p f h =
          ap (λ (y : Bool). cond y (cell_of gates' i ∷ l') l') p
          ∙ ap₂ (λ (y : Gate) (m : List (Cell ℕ)). record { gate = y; beside = i } ∷ m) f h
          ∙ sym (ap (λ (y : Bool). cond y (put (some g) (cell_of gates i) (off_wire w l)) (cell_of gates i ∷ put_first w (some g) l)) (v ∙ n))
          ∙ sym (ap (λ (y : Bool). put_first w (some g) (cond y (cell_of gates i ∷ l) l)) o)

      go : (here : Bool) → eqb i x ≡ here → (suc i ≤ x → l' ≡ put_first w (some g) l) → (i ≡ x → l' ≡ off_wire w l) →
          cond (live' i) (cell_of gates' i ∷ l') l' ≡ put_first w (some g) (cond (live i) (cell_of gates i ∷ l) l)
      go true e on rest =
          let at = eqb-true i x e in
          changed (live i) (live' i) (touches w (gates i)) refl (ap (λ (y : ℕ). touches w (gates y)) at ∙ u) (ap live at ∙ t) (ap live' at ∙ t')
          (ap gates' at ∙ q) (rest at)
      go false e on rest =
          let m : i < x = omega (arith, eqb-false i x e) in
          passed (live i) (live' i) (touches w (gates i)) refl (clear i (omega arith) m) (before i (omega arith) m) (same i (eqb-false i x e)) (on m)

-- Nothing in place of the first: all go.
put-none : (w : ℕ) (l : List (Cell ℕ)) → put_first w none l ≡ off_wire w l
unfolding put_first off_wire
put-none w [] = refl
put-none w (e ∷ l) = go (touches w e.gate) (put-none w l)
  where
    go : (b : Bool) → put_first w none l ≡ off_wire w l →
        cond b (put none e (off_wire w l)) (e ∷ put_first w none l) ≡ cond b (off_wire w l) (e ∷ off_wire w l)
    go true h = refl
    go false h = ap (◌∷◌ e) h

-- ------------------------------------------------------------ between the two h of a firing

module _ (k : Extent) (w : ℕ) (f : Firing) (bytes words : List ℕ) (allowed : Allowed bytes words k w f) where
  gap-allowed : rewrite_of (wire w) (track w (gap bytes words k f)) ≡ some allowed.rewrite
  gap-allowed = closing-between (is_live words k) (gate_at bytes) w (suc f.opener) (k.gates - suc f.opener) f.closer allowed.rewrite allowed.closes

  opener-first : get_or (wires_of (gate_at bytes f.opener)) 0 0 ≡ w
  opener-first = h-first w (gate_at bytes f.opener) allowed.opener-h

  closer-touches : touches w (gate_at bytes f.closer) ≡ true
  closer-touches = and_right (is_h (gate_at bytes f.closer)) (touches w (gate_at bytes f.closer)) allowed.closer-h

  pub gap-one-wire : (j : ℕ) → f.opener < j → j < f.closer → is_live words k j ≡ true → touches w (gate_at bytes j) ≡ true → OneWire w (gate_at bytes j)
  gap-one-wire j a b t u =
      between-one-wire (is_live words k) (gate_at bytes) w (suc f.opener) (f.closer - suc f.opener) allowed.rewrite gap-allowed j a
      (omega (arith, a, b)) t u

  pub gap-asked : (is_live words k f.opener ≡ true) × (is_live words k f.closer ≡ true) × (f.opener < f.closer)
      × (touches (get_or (wires_of (gate_at bytes f.opener)) 0 0) (gate_at bytes f.closer) ≡ true)
  gap-asked = (
    allowed.opener-live,
    allowed.closer-live,
    allowed.apart,
    ap (λ (v : ℕ). touches v (gate_at bytes f.closer)) opener-first ∙ closer-touches,
  )

  -- The next on the first h's wire; and there is one.
  abbrev next_found : Answer Slot
  next_found = found (slot_of (cut (touches (get_or (wires_of (gate_at bytes f.opener)) 0 0)) (later bytes words k f.opener)))

  pub opener-next : (s : Slot) → Some s ≡ next_found → NextOn bytes words k w f.opener s.0
  opener-next s e =
      subst (λ (v : ℕ). NextOn bytes words k v f.opener s.0) opener-first
      (next-on bytes words k (get_or (wires_of (gate_at bytes f.opener)) 0 0) f.opener (live_below words k f.opener allowed.opener-live) s e)

  pub opener-alone : None ≡ next_found → ⊥
  opener-alone = next-there bytes words k (get_or (wires_of (gate_at bytes f.opener)) 0 0) f.opener f.closer gap-asked.1 gap-asked.3 gap-asked.2

  -- All on the wire between have gone.
  pub dropped-between : (put : Answer Gate) → put ≡ None → (now : List ℕ) →
      DroppedOn bytes k (get_or (wires_of (gate_at bytes f.opener)) 0 0) f.opener f.closer words now → PlacedBetween k w f (put_as put) bytes words bytes now
  dropped-between put is now h =
      record {
        between =
            off-cells (is_live words k) (is_live now k) (gate_at bytes) (gate_at bytes) w (suc f.opener) (f.closer - suc f.opener)
            (λ j a b. dropped-inside bytes k w f.opener f.closer words now on-wire j a (omega (arith, a, b))) (λ j a b. refl)
            ∙ sym (put-none w (gap bytes words k f)) ∙ sym (ap (λ (p : Answer Gate). put_first w (put_as p) (gap bytes words k f)) is);
        outside = λ j out. record { live = dropped-outside bytes k w f.opener f.closer words now on-wire j out; gate = refl };
        others = others-dropped k w bytes words now f.opener f.closer on-wire gap-one-wire;
      }
    where
      on-wire : DroppedOn bytes k w f.opener f.closer words now
      on-wire = subst (λ (v : ℕ). DroppedOn bytes k v f.opener f.closer words now) opener-first h

  module _ (put : Answer Gate) (g : Gate) (is : put ≡ Some g)
      (agreed : (r : Rewrite) → closing_of w (later bytes words k f.opener) ≡ some (record { closer = f.closer; rewrite = r }) → put_as put ≡ r.first) where
    first_some : allowed.rewrite.first ≡ some g
    first_some = sym (agreed allowed.rewrite allowed.closes) ∙ ap put_as is

    -- What is put in is of the wire alone.
    pub put-one-wire : (h : Gate) → put_as put ≡ some h → OneWire w h
    put-one-wire h e =
        (rewrite-one-wire w (track w (gap bytes words k f)) allowed.rewrite gap-allowed).0 h (first_some ∙ sym (ap put_as is) ∙ e)

    module _ (x : ℕ) (next : NextOn bytes words k w f.opener x) where
      -- The first on the wire after the first h stands between the two.
      pub first-between : x < f.closer
      first-between = parted x f.closer (λ m. m) (λ m. absurd (nothing m))
        where
          nothing : f.closer ≤ x → ⊥
          nothing m =
              between-some (is_live words k) (gate_at bytes) w (suc f.opener) (f.closer - suc f.opener) allowed.rewrite g gap-allowed first_some
              (λ j a b. next.clear j a (omega (arith, a, b, m)))

      pub first-one-wire : OneWire w (gate_at bytes x)
      first-one-wire = gap-one-wire x next.past first-between next.live next.on

      module _ (bytes' words' : List ℕ) (placed : Placed k x (put_as put) bytes words bytes' words') where
        takes : Takes k x (some g) bytes' words'
        takes = subst (λ (p : Answer Gate). Takes k x (put_as p) bytes' words') is placed.here

        here-one-wire : OneWire w (gate_at bytes' x)
        here-one-wire = subst (OneWire w) (sym takes.1) (put-one-wire g (ap put_as is))

        closer-same : SameSlot k bytes words bytes' words' f.closer
        closer-same = placed.other f.closer (λ e. omega (arith, e, first-between))

        pub rest-asked : (is_live words' k x ≡ true) × (is_live words' k f.closer ≡ true) × (x < f.closer)
            × (touches (get_or (wires_of (gate_at bytes' x)) 0 0) (gate_at bytes' f.closer) ≡ true)
        rest-asked = (
          takes.0,
          closer-same.live ∙ allowed.closer-live,
          first-between,
          ap₂ touches (one-wire-first w (gate_at bytes' x) here-one-wire) closer-same.gate ∙ closer-touches,
        )

        -- The first has taken another gate, and the others have gone.
        pub placed-between : (now : List ℕ) → DroppedOn bytes' k (get_or (wires_of (gate_at bytes' x)) 0 0) x f.closer words' now →
            PlacedBetween k w f (put_as put) bytes words bytes' now
        placed-between now h =
            record {
              between =
                  put-cells (is_live words k) (is_live now k) (gate_at bytes) (gate_at bytes') w x g next.live next.on
                  (out x (λ m. absurd (omega (arith, m))) ∙ takes.0) takes.1 (suc f.opener) (f.closer - suc f.opener) next.past
                  (omega (arith, first-between, next.past)) (λ j a b. next.clear j a b)
                  (λ j a b. out j (λ m. absurd (omega (arith, m, b))) ∙ (placed.other j (λ e. omega (arith, e, b))).live)
                  (λ j a b. inner j a (omega (arith, a, b, next.past))) (λ j d. (placed.other j d).gate)
                  ∙ sym (ap (λ (p : Answer Gate). put_first w (put_as p) (gap bytes words k f)) is);
              outside = λ j o. same_then k bytes words bytes' words' bytes' now j (placed.other j (λ e. apart j o e))
                  (record { live = out j (λ m. o (omega (arith, m, next.past))); gate = refl });
              others = others-then k w bytes words bytes' words' bytes' now
                  (others-placed k w x (put_as put) bytes words bytes' words' placed first-one-wire put-one-wire)
                  (others-dropped k w bytes' words' now x f.closer on-wire (λ j a b t u. one j a b t u));
            }
          where
            on-wire : DroppedOn bytes' k w x f.closer words' now
            on-wire = subst (λ (v : ℕ). DroppedOn bytes' k v x f.closer words' now) (one-wire-first w (gate_at bytes' x) here-one-wire) h

            out : (j : ℕ) → (x < j → f.closer ≤ j) → is_live now k j ≡ is_live words' k j
            out = dropped-outside bytes' k w x f.closer words' now on-wire

            inner : (j : ℕ) → x < j → j < f.closer → is_live now k j ≡ (is_live words k j && not (touches w (gate_at bytes j)))
            inner j a b =
                let same = placed.other j (λ e. omega (arith, e, a)) in
                dropped-inside bytes' k w x f.closer words' now on-wire j a b
                ∙ ap₂ (λ (l : Bool) (y : Gate). l && not (touches w y)) same.live same.gate

            apart : (j : ℕ) → (f.opener < j → f.closer ≤ j) → j ≡ x → ⊥
            apart j o e = omega (arith, o (omega (arith, e, next.past)), e, first-between)

            one : (j : ℕ) → x < j → j < f.closer → is_live words' k j ≡ true → touches w (gate_at bytes' j) ≡ true → OneWire w (gate_at bytes' j)
            one j a b t u =
                let same = placed.other j (λ e. omega (arith, e, a)) in
                subst (OneWire w) (sym same.gate)
                (gap-one-wire j (omega (arith, a, next.past)) b (sym same.live ∙ t) (ap (touches w) (sym same.gate) ∙ u))
