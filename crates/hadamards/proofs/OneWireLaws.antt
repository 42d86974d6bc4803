-- Gates of one wire: those between two h of it that fire are, what is put in is, and other wires do not see them change.
use mathlib.Core.Path.{◌≡◌, refl, sym, ap, ap₂, subst, ◌∙◌}
use mathlib.Core.Bool.{Bool, true, false, not, cond, ◌&&◌, ◌||◌, false≢true}
use mathlib.Core.List.{List, [], ◌∷◌}
use mathlib.Core.Option.{Option, some, none}
use Prim.Native.Nat.{ℕ, zero, suc, ◌+◌, ◌-◌, ◌≤◌, ◌<◌}
use native.Mathlib.Omega.{arith}
use lib.Dec.{eqb, ltb}
use lib.ListN.{get_or}
use borrow.Author.Tests.{eqb-true, lt-ltb, le-ltb}
use Rattle.gates.specs.declared.Gate.{Gate}
use Rattle.gates.specs.declared.Gate.TheVariants.{X, H, S, Sdg, Z, T, Tdg, Cnot, Cz, Ccx, Ccz, Measure, Reset, Y, Sx, Swap, Cy, Ch, Cswap}
use Rattle.gates.specs.Gates.{wire, wires_of, has, touches}
use Rattle.gates.specs.Records.{with_words, record_of, kind_of}
use Rattle.rules.specs.Runs.{Rewrite, worth, sum_of, by_eighths, rewrite_of, is_h_on}
use Rattle.rules.specs.Steps.{Cell, Cut, first_of, track}
use Rattle.rules.specs.Sweeps.{cut}
use Rattle.rules.proofs.Between.{h-wire, inside, between-inside, Fits, Fit, PutIn, rewrite-fit, track-every}
use Rattle.links.proofs.SeekLaws.{parted}
use Rattle.slots.specs.declared.Extent.{Extent}
use Rattle.slots.specs.Slots.{gate_at, cell_of, cells_from}
use Rattle.slots.specs.Live.{is_live}
use Rattle.slots.proofs.HeldLaws.{test-from}
use Rattle.slots.proofs.CutLaws.{cut-from-parts}
use Rattle.slots.proofs.RunLaws.{has-none, has_other, at_slot}
use Rattle.hadamards.specs.Firings.{Close, closing_of}
use Rattle.hadamards.specs.Placing.{DroppedOn, SameSlot, OneWire, Takes, Placed, OtherWires}
use Rattle.hadamards.proofs.TriedLaws.{close_by, close_at, closing-is}

-- ------------------------------------------------------------ gates of one wire

same-wire : (w v : ℕ) → eqb w v || false ≡ true → v ≡ w
same-wire w v h = sym (eqb-true w v (go (eqb w v) h))
  where
    go : (b : Bool) → b || false ≡ true → b ≡ true
    go true e = refl
    go false e = e

on-wire : (g : Gate) (w v : ℕ) → wires_of g ≡ v ∷ [] → record_of g ≡ with_words (kind_of g) v 0 0 → eqb w v || false ≡ true → OneWire w g
on-wire g w v ws rs t = subst (λ (u : ℕ). OneWire u g) (same-wire w v t) (record { wires = ws; words = rs })

-- An x, or a gate of a run, that touches a wire.
pub inside-one-wire : (w : ℕ) (g : Gate) → inside g ≡ true → touches w g ≡ true → OneWire w g
unfolding record_of worth wires_of has
inside-one-wire w (X v) h t = on-wire (X v) w v.0 refl refl t
inside-one-wire w (S v) h t = on-wire (S v) w v.0 refl refl t
inside-one-wire w (Sdg v) h t = on-wire (Sdg v) w v.0 refl refl t
inside-one-wire w (Z v) h t = on-wire (Z v) w v.0 refl refl t
inside-one-wire w (T v) h t = on-wire (T v) w v.0 refl refl t
inside-one-wire w (Tdg v) h t = on-wire (Tdg v) w v.0 refl refl t
inside-one-wire w (H v) h t = absurd (false≢true h)
inside-one-wire w (Cnot a b) h t = absurd (false≢true h)
inside-one-wire w (Cz a b) h t = absurd (false≢true h)
inside-one-wire w (Ccx a b c) h t = absurd (false≢true h)
inside-one-wire w (Ccz a b c) h t = absurd (false≢true h)
inside-one-wire w (Measure v b) h t = absurd (false≢true h)
inside-one-wire w (Reset v) h t = absurd (false≢true h)
inside-one-wire w (Y v) h t = absurd (false≢true h)
inside-one-wire w (Sx v) h t = absurd (false≢true h)
inside-one-wire w (Swap a b) h t = absurd (false≢true h)
inside-one-wire w (Cy a b) h t = absurd (false≢true h)
inside-one-wire w (Ch a b) h t = absurd (false≢true h)
inside-one-wire w (Cswap a b c) h t = absurd (false≢true h)

put-in-one-wire : (w : ℕ) → PutIn (OneWire w) (OneWire w) (wire w)
unfolding record_of wires_of
put-in-one-wire w =
    record {
      s = record { wires = refl; words = refl };
      sdg = record { wires = refl; words = refl };
      x = record { wires = refl; words = refl };
      z = record { wires = refl; words = refl };
      h = record { wires = refl; words = refl };
    }

-- What a rewrite puts in place of the first gate between, and of the two h.
pub rewrite-one-wire : (w : ℕ) (l : List Gate) (r : Rewrite) → rewrite_of (wire w) l ≡ some r →
    ((g : Gate) → r.first ≡ some g → OneWire w g) × ((g : Gate) → r.ends ≡ some g → OneWire w g)
rewrite-one-wire w l r e =
    let fit = subst (Fit (OneWire w) (OneWire w)) e (rewrite-fit (OneWire w) (OneWire w) (wire w) l (put-in-one-wire w)) in
    (told r.first fit.1, told r.ends fit.0)
  where
    told : (o : Option Gate) → Fits (OneWire w) o → (g : Gate) → o ≡ some g → OneWire w g
    told none f g q = absurd (let z : ◌≡◌ {A = ℕ} 0 1 = cc in omega arith)
    told (some h) f g q = let same : h ≡ g = cc in subst (OneWire w) same f

-- It touches no other wire.
pub one-wire-off : (w v : ℕ) (g : Gate) → OneWire w g → (v ≡ w → ⊥) → touches v g ≡ false
one-wire-off w v g h d = ap (has v) h.wires ∙ has_other v w [] d ∙ has-none v

pub one-wire-first : (w : ℕ) (g : Gate) → OneWire w g → get_or (wires_of g) 0 0 ≡ w
one-wire-first w g h = ap (λ (ws : List ℕ). get_or ws 0 0) h.wires

-- An h on a wire has it as its first.
pub h-first : (w : ℕ) (g : Gate) → is_h_on w g ≡ true → get_or (wires_of g) 0 0 ≡ w
h-first w g h = go (wires_of g) ∙ h-wire w g h
  where
    go : (ws : List ℕ) → get_or ws 0 0 ≡ first_of ws
    go [] = refl
    go (v ∷ ws) = refl

-- ------------------------------------------------------------ what a closing says of the slots between

module _ (live : ℕ → Bool) (gates : ℕ → Gate) (w : ℕ) where
  pub closing-between : (i count c : ℕ) (r : Rewrite) → closing_of w (cells_from live gates i count) ≡ some (record { closer = c; rewrite = r }) →
      rewrite_of (wire w) (track w (cells_from live gates i (c - i))) ≡ some r
  closing-between i count c r e = first (cut (is_h_on w) l) refl (sym (closing-is w l) ∙ e)
    where
      l : List (Cell ℕ)
      l = cells_from live gates i count

      second : (x : Cut ℕ) → cut (is_h_on w) l ≡ some x → (o : Option Rewrite) → rewrite_of (wire w) (track w x.before) ≡ o →
          close_by x o ≡ some (record { closer = c; rewrite = r }) → rewrite_of (wire w) (track w (cells_from live gates i (c - i))) ≡ some r
      second x q none u h = cc
      second x q (some s) u h =
          let same : ◌≡◌ {A = Close} (record { closer = x.here.beside; rewrite = s }) (record { closer = c; rewrite = r }) = cc in
          ap (λ (y : Close). rewrite_of (wire w) (track w (cells_from live gates i (y.closer - i)))) (sym same)
          ∙ ap (λ (m : List (Cell ℕ)). rewrite_of (wire w) (track w m)) (sym (cut-from-parts live gates (is_h_on w) i count x q).before)
          ∙ u ∙ ap (λ (y : Close). some y.rewrite) same

      first : (o : Option (Cut ℕ)) → cut (is_h_on w) l ≡ o → close_at w o ≡ some (record { closer = c; rewrite = r }) →
          rewrite_of (wire w) (track w (cells_from live gates i (c - i))) ≡ some r
      first none q h = cc
      first (some x) q h = second x q (rewrite_of (wire w) (track w x.before)) refl h

  -- All that touch the wire have no other.
  pub between-one-wire : (i count : ℕ) (r : Rewrite) → rewrite_of (wire w) (track w (cells_from live gates i count)) ≡ some r →
      (j : ℕ) → i ≤ j → j < i + count → live j ≡ true → touches w (gates j) ≡ true → OneWire w (gates j)
  between-one-wire i count r e j a b t u =
      inside-one-wire w (gates j)
      (go (touches w (gates j)) (inside (gates j)) u
      (test-from live gates (λ g. not (touches w g) || inside g) i count
      (track-every inside w (cells_from live gates i count) (between-inside (wire w) (track w (cells_from live gates i count)) r e)) j a b t))
      u
    where
      go : (p q : Bool) → p ≡ true → not p || q ≡ true → q ≡ true
      go true q v h = h
      go false q v h = absurd (false≢true v)

  track-none : (i count : ℕ) → ((j : ℕ) → i ≤ j → j < i + count → (live j && touches w (gates j)) ≡ false) →
      track w (cells_from live gates i count) ≡ []
  unfolding cells_from track
  track-none i zero off = refl
  track-none i (suc count) off =
      go (live i) (touches w (gates i)) refl (off i (omega arith) (omega arith)) (track-none (suc i) count (λ j a b. off j (omega arith) (omega arith)))
    where
      l : List (Cell ℕ)
      l = cells_from live gates (suc i) count

      go : (b c : Bool) → touches w (gates i) ≡ c → (b && c) ≡ false → track w l ≡ [] → track w (cond b (cell_of gates i ∷ l) l) ≡ []
      go true c q f h = ap (λ (t : Bool). cond t (gates i ∷ track w l) (track w l)) (q ∙ f) ∙ h
      go false c q f h = h

  -- Where a gate is put in, one is on the wire.
  pub between-some : (i count : ℕ) (r : Rewrite) (g : Gate) → rewrite_of (wire w) (track w (cells_from live gates i count)) ≡ some r → r.first ≡ some g →
      ((j : ℕ) → i ≤ j → j < i + count → (live j && touches w (gates j)) ≡ false) → ⊥
  unfolding rewrite_of sum_of by_eighths
  between-some i count r g e q off =
      let nothing : some (record { ends = none; first = none }) ≡ some r = sym (ap (rewrite_of (wire w)) (track-none i count off)) ∙ e in
      let z : ◌≡◌ {A = ℕ} 0 1 = cc in omega arith

-- ------------------------------------------------------------ slots that stay

pub same_then : (k : Extent) (a b c d e f : List ℕ) (j : ℕ) → SameSlot k a b c d j → SameSlot k c d e f j → SameSlot k a b e f j
same_then k a b c d e f j p q = record { live = q.live ∙ p.live; gate = q.gate ∙ p.gate }

module _ (bytes : List ℕ) (k : Extent) (w from to : ℕ) (was now : List ℕ) (h : DroppedOn bytes k w from to was now) where
  pub dropped-outside : (j : ℕ) → (from < j → to ≤ j) → is_live now k j ≡ is_live was k j
  dropped-outside j out =
      h j
      ∙ parted from j
      (λ m. go (is_live was k j) (ltb from j) (ltb j to) (touches w (gate_at bytes j)) (ap₂ ◌&&◌ (lt-ltb from j m) (le-ltb j to (out m))))
      (λ m. go (is_live was k j) (ltb from j) (ltb j to) (touches w (gate_at bytes j)) (ap (λ (b : Bool). b && ltb j to) (le-ltb from j m)))
    where
      go : (a p q t : Bool) → (p && q) ≡ false → (a && not ((p && q) && t)) ≡ a
      go true p q t e = ap (λ (b : Bool). not (b && t)) e
      go false p q t e = refl

  pub dropped-inside : (j : ℕ) → from < j → j < to → is_live now k j ≡ (is_live was k j && not (touches w (gate_at bytes j)))
  dropped-inside j a b =
      h j
      ∙ ap (λ (t : Bool). is_live was k j && not (t && touches w (gate_at bytes j))) (ap₂ ◌&&◌ (lt-ltb from j a) (lt-ltb j to b))

-- ------------------------------------------------------------ other wires

module _ (k : Extent) (w : ℕ) where
  pub others-then : (a b c d e f : List ℕ) → OtherWires k w a b c d → OtherWires k w c d e f → OtherWires k w a b e f
  others-then a b c d e f p q =
      record {
        live = λ v j n. p.live v j n ∙ q.live v j n;
        gate = λ v j n t. p.gate v j n t ∙ q.gate v j n (sym (p.live v j n) ∙ t);
      }

  -- Slots of the wire alone go.
  pub others-dropped : (bytes was now : List ℕ) (from to : ℕ) → DroppedOn bytes k w from to was now →
      ((j : ℕ) → from < j → j < to → is_live was k j ≡ true → touches w (gate_at bytes j) ≡ true → OneWire w (gate_at bytes j)) →
      OtherWires k w bytes was bytes now
  others-dropped bytes was now from to h one = record { live = λ v j n. at v j n; gate = λ v j n t. refl }
    where
      at : (v j : ℕ) → (v ≡ w → ⊥) → (is_live was k j && touches v (gate_at bytes j)) ≡ (is_live now k j && touches v (gate_at bytes j))
      at v j n =
          parted from j
          (λ a. parted j to
          (λ b. go (is_live was k j) refl (touches w (gate_at bytes j)) refl (touches v (gate_at bytes j))
          (λ t u. one-wire-off w v (gate_at bytes j) (one j a b t u) n)
          ∙ sym (ap (λ (x : Bool). x && touches v (gate_at bytes j)) (dropped-inside bytes k w from to was now h j a b)))
          (λ b. ap (λ (x : Bool). x && touches v (gate_at bytes j)) (sym (dropped-outside bytes k w from to was now h j (λ m. b)))))
          (λ a. ap (λ (x : Bool). x && touches v (gate_at bytes j)) (sym (dropped-outside bytes k w from to was now h j (λ m. absurd (omega (arith, a, m))))))
        where
          go : (b : Bool) → is_live was k j ≡ b → (t : Bool) → touches w (gate_at bytes j) ≡ t → (u : Bool) →
              (is_live was k j ≡ true → touches w (gate_at bytes j) ≡ true → u ≡ false) → (b && u) ≡ ((b && not t) && u)
          go true p true q u f = f p q
          go true p false q u f = refl
          go false p t q u f = refl

  -- A slot of the wire alone takes another gate of it alone, or goes.
  pub others-placed : (slot : ℕ) (o : Option Gate) (bytes words bytes' words' : List ℕ) → Placed k slot o bytes words bytes' words' →
      OneWire w (gate_at bytes slot) → ((g : Gate) → o ≡ some g → OneWire w g) → OtherWires k w bytes words bytes' words'
  others-placed slot o bytes words bytes' words' p there here =
      record {
        live = λ v j n. at_slot (λ b. on v j ≡ on' v j) j slot
            (λ e. ap (on v) e ∙ was v n ∙ sym (is v n) ∙ sym (ap (on' v) e))
            (λ d. ap₂ (λ (a : Bool) (g : Gate). a && touches v g) (sym (p.other j d).live) (sym (p.other j d).gate));
        gate = λ v j n t. at_slot (λ b. gate_at bytes j ≡ gate_at bytes' j) j slot (λ e. absurd (false≢true (sym (ap (on v) e ∙ was v n) ∙ t)))
            (λ d. sym (p.other j d).gate);
      }
    where
      on : ℕ → ℕ → Bool
      on v j = is_live words k j && touches v (gate_at bytes j)

      on' : ℕ → ℕ → Bool
      on' v j = is_live words' k j && touches v (gate_at bytes' j)

      neither : (b c : Bool) → c ≡ false → (b && c) ≡ false
      neither true c q = q
      neither false c q = refl

      was : (v : ℕ) → (v ≡ w → ⊥) → on v slot ≡ false
      was v n = neither (is_live words k slot) (touches v (gate_at bytes slot)) (one-wire-off w v (gate_at bytes slot) there n)

      takes : (v : ℕ) → (v ≡ w → ⊥) → (o : Option Gate) → Takes k slot o bytes' words' → ((g : Gate) → o ≡ some g → OneWire w g) → on' v slot ≡ false
      takes v n none t one = ap (λ (b : Bool). b && touches v (gate_at bytes' slot)) t
      takes v n (some g) t one = neither (is_live words' k slot) (touches v (gate_at bytes' slot)) (ap (touches v) t.1 ∙ one-wire-off w v g (one g refl) n)

      is : (v : ℕ) → (v ≡ w → ⊥) → on' v slot ≡ false
      is v n = takes v n o p.here here
