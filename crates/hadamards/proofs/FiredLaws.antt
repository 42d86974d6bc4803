-- A firing carried out: between its two h stands what the step puts there, and nothing else has changed.
use Rattle.std.specs.Prelude.{Option as Answer}
use mathlib.Core.Path.{◌≡◌, refl, sym, ap, subst, ◌∙◌}
use mathlib.Core.Bool.{Bool, true, cond}
use mathlib.Core.List.{List, [], ◌∷◌, ◌++◌, append-nil}
use mathlib.Core.Option.{Option, some, none}
use Prim.Native.Nat.{ℕ, suc, ◌+◌, ◌-◌, ◌≤◌, ◌<◌}
use native.Mathlib.Omega.{arith}
use Rattle.gates.specs.declared.Wire.{Wire}
use Rattle.gates.specs.declared.Gate.{Gate}
use Rattle.gates.specs.declared.Gate.TheVariants.{H}
use Rattle.gates.specs.Gates.{wire, wires_of, touches}
use Rattle.gates.specs.Records.{record_of, is_h}
use Rattle.gates.proofs.Joined.{and_left}
use Rattle.rules.specs.Runs.{Rewrite, is_h_on}
use Rattle.rules.specs.Steps.{Cell, put, put_first}
use Rattle.rules.proofs.Between.{is-h, h-wire}
use Rattle.slots.specs.declared.Extent.{Extent}
use Rattle.slots.specs.Slots.{gate_at, cell_of, cells_from}
use Rattle.slots.specs.Live.{is_live, later}
use Rattle.slots.proofs.HeldLaws.{cells_same}
use Rattle.slots.proofs.CutLaws.{cells-part}
use Rattle.hadamards.specs.Firings.{Close, Firing, closing_of}
use Rattle.hadamards.specs.declared.closing.Closing.{Closing}
use Rattle.hadamards.specs.declared.closing.Forms.{Forms}
use Rattle.hadamards.specs.Closings.{as_close, as_rewrite}
use Rattle.hadamards.specs.Placing.{cells, SameSlot, OneWire, Takes, Placed, OtherWires, Allowed, gap, PlacedBetween, Fired}
use Rattle.hadamards.proofs.OneWireLaws.{rewrite-one-wire, closing-between, same_then, others-then, others-placed}

-- ------------------------------------------------------------ gates of one wire

pub h-one-wire : (w : ℕ) (g : Gate) → is_h_on w g ≡ true → OneWire w g
unfolding wires_of record_of
h-one-wire w g h =
    subst (OneWire w) (sym (is-h g (and_left (is_h g) (touches w g) h) ∙ ap (λ (v : ℕ). H (wire v)) (h-wire w g h)))
    (record { wires = refl; words = refl })

-- What a firing puts in place of its two h.
pub closing-ends : (bytes words : List ℕ) (k : Extent) (w opener closer : ℕ) (r : Rewrite) →
    closing_of w (later bytes words k opener) ≡ some (record { closer = closer; rewrite = r }) → (g : Gate) → r.ends ≡ some g → OneWire w g
closing-ends bytes words k w opener closer r e =
    (rewrite-one-wire w _ r (closing-between (is_live words k) (gate_at bytes) w (suc opener) (k.gates - suc opener) closer r e)).1

-- ------------------------------------------------------------ slots that are as they were

pub others-none : (k : Extent) (w : ℕ) (bytes words : List ℕ) → OtherWires k w bytes words bytes words
others-none k w bytes words = record { live = λ v j d. refl; gate = λ v j d t. refl }

-- Slots that are all as they were have the cells that they had.
pub same-cells : (k : Extent) (a aw b bw : List ℕ) (i count : ℕ) → ((j : ℕ) → i ≤ j → j < i + count → SameSlot k a aw b bw j) →
    cells b bw k i count ≡ cells a aw k i count
same-cells k a aw b bw i count h =
    cells_same (is_live bw k) (is_live aw k) (gate_at b) (gate_at a) i count (λ j l m. (h j l m).live) (λ j l m t. (h j l m).gate)

-- ------------------------------------------------------------ what stands where the firing was

one_cell : (live : ℕ → Bool) (gates : ℕ → Gate) (i : ℕ) → cells_from live gates i 1 ≡ cond (live i) (cell_of gates i ∷ []) []
unfolding cells_from
one_cell live gates i = refl

-- A slot that takes a gate or goes, in front of others.
taken : (k : Extent) (slot : ℕ) (o : Option Gate) (g : Gate) (bytes words : List ℕ) (l : List (Cell ℕ)) → Takes k slot o bytes words →
    cells bytes words k slot 1 ++ l ≡ put o (record { gate = g; beside = slot }) l
taken k slot none g bytes words l h =
    ap (λ (m : List (Cell ℕ)). m ++ l)
    (one_cell (is_live words k) (gate_at bytes) slot ∙ ap (λ (b : Bool). cond b (cell_of (gate_at bytes) slot ∷ []) []) h)
taken k slot (some g') g bytes words l h =
    ap (λ (m : List (Cell ℕ)). m ++ l)
    (one_cell (is_live words k) (gate_at bytes) slot ∙ ap (λ (b : Bool). cond b (cell_of (gate_at bytes) slot ∷ []) []) h.0)
    ∙ ap (λ (x : Gate). record { gate = x; beside = slot } ∷ l) h.1

module _ (live : ℕ → Bool) (gates : ℕ → Gate) where
  -- The cells up to a slot, parted at it and at one before it.
  parts : (o c : ℕ) → o < c → cells_from live gates 0 (suc c)
      ≡ cells_from live gates 0 o ++ (cells_from live gates o 1 ++ (cells_from live gates (suc o) (c - suc o) ++ cells_from live gates c 1))
  parts o c m =
      let all : suc c ≡ o + (1 + ((c - suc o) + 1)) = omega (arith, m) in
      let start : 0 + o ≡ o = omega arith in
      let next : o + 1 ≡ suc o = omega arith in
      let last : suc o + (c - suc o) ≡ c = omega (arith, m) in
      ap (cells_from live gates 0) all
      ∙ cells-part live gates 0 o (1 + ((c - suc o) + 1))
      ∙ ap (λ (l : List (Cell ℕ)). cells_from live gates 0 o ++ l)
      (ap (λ (i : ℕ). cells_from live gates i (1 + ((c - suc o) + 1))) start ∙ cells-part live gates o 1 ((c - suc o) + 1)
      ∙ ap (λ (l : List (Cell ℕ)). cells_from live gates o 1 ++ l)
      (ap (λ (i : ℕ). cells_from live gates i ((c - suc o) + 1)) next
      ∙ cells-part live gates (suc o) (c - suc o) 1
      ∙ ap (λ (i : ℕ). cells_from live gates (suc o) (c - suc o) ++ cells_from live gates i 1) last))

module _ (k : Extent) (w : ℕ) (f : Firing) (a aw b bw : List ℕ) (o : Option Gate) (may : Allowed a aw k w f)
    (mid : PlacedBetween k w f o a aw b bw) where
  opener-stays : SameSlot k a aw b bw f.opener
  opener-stays = mid.outside f.opener (λ m. absurd (omega (arith, m)))

  -- After the gates between, the first h still stands; after the first h, the second.
  pub opener-ready : (is_live bw k f.opener ≡ true) × OneWire w (gate_at b f.opener)
  opener-ready = (
    opener-stays.live ∙ may.opener-live,
    subst (OneWire w) (sym opener-stays.gate) (h-one-wire w (gate_at a f.opener) may.opener-h),
  )

  module _ (e : Option Gate) (c cw : List ℕ) (first : Placed k f.opener e b bw c cw) where
    closer-stays : SameSlot k a aw c cw f.closer
    closer-stays =
        same_then k a aw b bw c cw f.closer (mid.outside f.closer (λ m. omega arith))
        (first.other f.closer (λ q. omega (arith, q, may.apart)))

    pub closer-ready : (is_live cw k f.closer ≡ true) × OneWire w (gate_at c f.closer)
    closer-ready = (
      closer-stays.live ∙ may.closer-live,
      subst (OneWire w) (sym closer-stays.gate) (h-one-wire w (gate_at a f.closer) may.closer-h),
    )

module _ (k : Extent) (w : ℕ) (f : Firing) (r : Rewrite) (a aw b bw c cw d dw : List ℕ) (may : Allowed a aw k w f)
    (ends : (g : Gate) → r.ends ≡ some g → OneWire w g) (mid : PlacedBetween k w f r.first a aw b bw)
    (first : Placed k f.opener r.ends b bw c cw) (last : Placed k f.closer r.ends c cw d dw) where
  abbrev at : ℕ
  at = f.opener

  abbrev to : ℕ
  to = f.closer

  -- What the two h take leaves the other slots.
  ends-leave : (j : ℕ) → (j ≡ at → ⊥) → (j ≡ to → ⊥) → SameSlot k b bw d dw j
  ends-leave j p q = same_then k b bw c cw d dw j (first.other j p) (last.other j q)

  outside-stays : (j : ℕ) → (at < j → to < j) → (j ≡ at → ⊥) → SameSlot k a aw d dw j
  outside-stays j p q =
      same_then k a aw b bw d dw j (mid.outside j (λ m. le (p m))) (ends-leave j q beyond)
    where
      le : to < j → to ≤ j
      le m = omega (arith, m)

      beyond : j ≡ to → ⊥
      beyond e = omega (arith, p (omega (arith, e, may.apart)), e)

  opener-takes : Takes k at r.ends d dw
  opener-takes = go r.ends first.here (last.other at (λ e. omega (arith, e, may.apart)))
    where
      go : (o : Option Gate) → Takes k at o c cw → SameSlot k c cw d dw at → Takes k at o d dw
      go none h s = s.live ∙ h
      go (some g) h s = (s.live ∙ h.0, s.gate ∙ h.1)

  rest-is : cells d dw k (suc at) (to - suc at) ++ cells d dw k to 1
      ≡ put_first w r.first (gap a aw k f) ++ put r.ends (cell_of (gate_at a) to) []
  rest-is =
      ap (λ (l : List (Cell ℕ)). l ++ cells d dw k to 1)
      (same-cells k b bw d dw (suc at) (to - suc at) (λ j l m. ends-leave j (λ e. omega (arith, e, l)) (λ e. omega (arith, e, m, may.apart)))
      ∙ mid.between)
      ∙ ap (λ (l : List (Cell ℕ)). put_first w r.first (gap a aw k f) ++ l)
      (sym (append-nil (cells d dw k to 1)) ∙ taken k to r.ends (gate_at a to) d dw [] last.here)

  done : Fired k w f r a aw d dw
  done =
      record {
        front = parts (is_live dw k) (gate_at d) at to may.apart
            ∙ ap (λ (l : List (Cell ℕ)). l ++ (cells d dw k at 1 ++ (cells d dw k (suc at) (to - suc at) ++ cells d dw k to 1)))
            (same-cells k a aw d dw 0 at (λ j l m. outside-stays j (λ n. absurd (omega (arith, m, n))) (λ e. omega (arith, e, m))))
            ∙ ap (λ (l : List (Cell ℕ)). cells a aw k 0 at ++ l)
            (taken k at r.ends (gate_at a at) d dw (cells d dw k (suc at) (to - suc at) ++ cells d dw k to 1) opener-takes
            ∙ ap (put r.ends (cell_of (gate_at a) at)) rest-is);
        back = λ j m. outside-stays j (λ n. m) (λ e. omega (arith, e, m, may.apart));
        others = others-then k w a aw c cw d dw
            (others-then k w a aw b bw c cw mid.others
            (others-placed k w at r.ends b bw c cw first (opener-ready k w f a aw b bw r.first may mid).1 ends))
            (others-placed k w to r.ends c cw d dw last (closer-ready k w f a aw b bw r.first may mid r.ends c cw first).1 ends);
      }

-- The gates between, the first h and the second, each with what the code found to put there: the firing is carried out.
pub fired-all : (k : Extent) (w : ℕ) (f : Firing) (r : Rewrite) (x e : Option Gate) (a aw b bw c cw d dw : List ℕ) →
    (x ≡ r.first) → (e ≡ r.ends) → Allowed a aw k w f →
    closing_of w (later a aw k f.opener) ≡ some (record { closer = f.closer; rewrite = r }) →
    PlacedBetween k w f x a aw b bw → Placed k f.opener e b bw c cw → Placed k f.closer e c cw d dw → Fired k w f r a aw d dw
fired-all k w f r x e a aw b bw c cw d dw p q may closes mid first last =
    done k w f r a aw b bw c cw d dw may (closing-ends a aw k w f.opener f.closer r closes)
    (subst (λ (o : Option Gate). PlacedBetween k w f o a aw b bw) p mid)
    (subst (λ (o : Option Gate). Placed k f.opener o b bw c cw) q first)
    (subst (λ (o : Option Gate). Placed k f.closer o c cw d dw) q last)

-- What the code found to put in place of the gates.
pub forms-are : (w : Wire) (x : Answer Closing) (forms : Forms) (l : List (Cell ℕ)) (c : Close) → as_close w x ≡ closing_of w.0 l →
    ((c : Close) → as_close w x ≡ some c → as_rewrite forms ≡ c.rewrite) → closing_of w.0 l ≡ some c → as_rewrite forms ≡ c.rewrite
forms-are w x forms l c p h q = h c (p ∙ q)
