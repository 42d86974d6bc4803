-- What an h opens on its wire, gate by gate: a run and the h that closes it, or an x and an h.
use Rattle.std.specs.Prelude.{Some, None}
use mathlib.Core.Path.{◌≡◌, refl, sym, ap, ap₂, ◌∙◌}
use mathlib.Core.Bool.{Bool, true, false, cond, ◌||◌, ◌&&◌, or-false}
use mathlib.Core.List.{List, [], ◌∷◌}
use mathlib.Core.Option.{Option, some, none}
use Prim.Native.Nat.{ℕ, ◌+◌, ◌%◌, ◌<◌}
use native.Mathlib.Omega.{arith}
use lib.Dec.{eqb}
use borrow.Author.Tests.{eqb-true, ne_eqb}
use Rattle.gates.specs.declared.Wire.{Wire}
use Rattle.gates.specs.declared.Gate.{Gate}
use Rattle.gates.specs.declared.Gate.TheVariants.{X, H, S, Sdg, Z, T, Tdg, Cnot, Cz, Ccx, Ccz, Measure, Reset, Y, Sx, Swap, Cy, Ch, Cswap}
use Rattle.gates.specs.Gates.{wire, wires_of, has, touches}
use Rattle.gates.specs.Records.{kind_of, record_of, is_h}
use Rattle.gates.proofs.Joined.{and_left, and_right}
use Rattle.rules.specs.Runs.{Rewrite, is_h_on, worth, plus, sum_of, rewrite, by_eighths, by_sum, lone_x, rewrite_of}
use Rattle.rules.specs.Steps.{Cell, Cut, and_then, try, first_of, track, onto}
use Rattle.rules.specs.Sweeps.{cut}
use Rattle.rules.proofs.EqualLaws.{none-not-some}
use Rattle.leaves.specs.Answers.{worth_by}
use Rattle.leaves.proofs.RunLaws.{worth-by}
use Rattle.slots.specs.declared.Slot.{Slot}
use Rattle.slots.specs.Slots.{found}
use Rattle.hadamards.specs.Firings.{Close, closing_of}
use Rattle.hadamards.specs.declared.closing.Closing.{Closing}
use Rattle.hadamards.specs.Closings.{Ran, ran_to, run_from, close_by, as_close, closer_of}
use Rattle.hadamards.proofs.TriedLaws.{closing-is}
use Rattle.hadamards.proofs.FiringLaws.{off-no-h}

-- ------------------------------------------------------------ the definitions, cell by cell

cut-if : (p : Gate → Bool) (e : Cell ℕ) (l : List (Cell ℕ)) (b : Bool) → p e.gate ≡ b →
    cut p (e ∷ l) ≡ cond b (some (record { before = []; here = e; after = l })) (onto e (cut p l))
unfolding cut
cut-if p e l b q = ap (λ (t : Bool). cond t (some (record { before = []; here = e; after = l })) (onto e (cut p l))) q

-- What a gate on the wire does to a run: it ends it, or it is of it.
abbrev pub run_by : ℕ → ℕ → Cell ℕ → List (Cell ℕ) → Option ℕ → Option Ran
run_by w s e l o = try o (cond (is_h e.gate) (ran_to e.beside s) none) λ j. run_from w ((s + j) % 8) l

abbrev pub run_at : ℕ → ℕ → Option (Cut ℕ) → Option Ran
run_at w s o = try o none λ c. run_by w s c.here c.after (worth c.here.gate)

-- A run goes on with the next gate on the wire.
pub run_step : (w s : ℕ) (l : List (Cell ℕ)) → run_from w s l ≡ run_at w s (cut (touches w) l)
unfolding run_from cut
run_step w s [] = refl
run_step w s (e ∷ l) = go (touches w e.gate) refl (run_step w s l)
  where
    past : (o : Option (Cut ℕ)) → run_at w s o ≡ run_at w s (onto e o)
    past none = refl
    past (some c) = refl

    go : (b : Bool) → touches w e.gate ≡ b → run_from w s l ≡ run_at w s (cut (touches w) l) →
        cond b (run_by w s e l (worth e.gate)) (run_from w s l)
        ≡ run_at w s (cond b (some (record { before = []; here = e; after = l })) (onto e (cut (touches w) l)))
    go true q h = refl
    go false q h = h ∙ past (cut (touches w) l)

-- ------------------------------------------------------------ the next h closes

-- With what is made of the gates before it on the wire.
abbrev closes_with : (List Gate → Option Rewrite) → ℕ → Option (Cut ℕ) → Option Close
closes_with f w o = and_then o λ c. close_by c.here.beside (f (track w c.before))

abbrev closes : (List Gate → Option Rewrite) → ℕ → List (Cell ℕ) → Option Close
closes f w l = closes_with f w (cut (is_h_on w) l)

closes-same : (f g : List Gate → Option Rewrite) (w : ℕ) (l : List (Cell ℕ)) → ((t : List Gate) → f t ≡ g t) → closes f w l ≡ closes g w l
closes-same f g w l same = go (cut (is_h_on w) l)
  where
    go : (o : Option (Cut ℕ)) → closes_with f w o ≡ closes_with g w o
    go none = refl
    go (some c) = ap (close_by c.here.beside) (same (track w c.before))

closes-none : (f : List Gate → Option Rewrite) (w : ℕ) (l : List (Cell ℕ)) → ((t : List Gate) → f t ≡ none) → closes f w l ≡ none
closes-none f w l nothing = closes-same f (λ t. none) w l nothing ∙ go (cut (is_h_on w) l)
  where
    go : (o : Option (Cut ℕ)) → closes_with (λ t. none) w o ≡ none
    go none = refl
    go (some c) = refl

closes-h : (f : List Gate → Option Rewrite) (w : ℕ) (e : Cell ℕ) (l : List (Cell ℕ)) → is_h_on w e.gate ≡ true →
    closes f w (e ∷ l) ≡ close_by e.beside (f [])
unfolding track
closes-h f w e l q = ap (closes_with f w) (cut-if (is_h_on w) e l true q)

-- A cell that is no h on the wire: its gate is before those to come, if it is on the wire.
closes-past : (f : List Gate → Option Rewrite) (w : ℕ) (e : Cell ℕ) (l : List (Cell ℕ)) (b : Bool) → is_h_on w e.gate ≡ false →
    touches w e.gate ≡ b → closes f w (e ∷ l) ≡ closes (λ t. f (cond b (e.gate ∷ t) t)) w l
unfolding track
closes-past f w e l b q r = ap (closes_with f w) (cut-if (is_h_on w) e l false q) ∙ go (cut (is_h_on w) l)
  where
    go : (o : Option (Cut ℕ)) → closes_with f w (onto e o) ≡ closes_with (λ t. f (cond b (e.gate ∷ t) t)) w o
    go none = refl
    go (some c) = ap (λ (x : Bool). close_by c.here.beside (f (cond x (e.gate ∷ track w c.before) (track w c.before)))) r

no-h-on : (w : ℕ) (g : Gate) → is_h g ≡ false → is_h_on w g ≡ false
no-h-on w g q = ap (λ (t : Bool). t && touches w g) q

-- The next gate on the wire closes, or is before those to come.
abbrev closes_by : (List Gate → Option Rewrite) → ℕ → Cell ℕ → List (Cell ℕ) → Bool → Option Close
closes_by f w e l b = cond b (close_by e.beside (f [])) (closes (λ t. f (e.gate ∷ t)) w l)

abbrev closes_at : (List Gate → Option Rewrite) → ℕ → Option (Cut ℕ) → Option Close
closes_at f w o = and_then o λ c. closes_by f w c.here c.after (is_h c.here.gate)

closes-on : (f : List Gate → Option Rewrite) (w : ℕ) (e : Cell ℕ) (l : List (Cell ℕ)) (b : Bool) → touches w e.gate ≡ true →
    is_h e.gate ≡ b → closes f w (e ∷ l) ≡ closes_by f w e l b
closes-on f w e l true on q = closes-h f w e l (ap₂ ◌&&◌ q on)
closes-on f w e l false on q = closes-past f w e l true (no-h-on w e.gate q) on

closes-step : (f : List Gate → Option Rewrite) (w : ℕ) (l : List (Cell ℕ)) → closes f w l ≡ closes_at f w (cut (touches w) l)
unfolding cut
closes-step f w [] = refl
closes-step f w (e ∷ l) = go (touches w e.gate) refl (closes-step f w l)
  where
    past : (o : Option (Cut ℕ)) → closes_at f w o ≡ closes_at f w (onto e o)
    past none = refl
    past (some c) = refl

    go : (b : Bool) → touches w e.gate ≡ b → closes f w l ≡ closes_at f w (cut (touches w) l) →
        closes f w (e ∷ l) ≡ closes_at f w (cond b (some (record { before = []; here = e; after = l })) (onto e (cut (touches w) l)))
    go true q h = closes-on f w e l (is_h e.gate) q refl
    go false q h = closes-past f w e l false (off-no-h w e.gate q) q ∙ h ∙ past (cut (touches w) l)

-- ------------------------------------------------------------ a run

abbrev pub closed_by : ℕ → Option Ran → Option Close
closed_by w o = and_then o λ r. close_by r.closer (by_eighths (wire w) r.sum)

-- A sum so far, and the gates to come.
abbrev summed : ℕ → ℕ → Option ℕ → Option Rewrite
summed w s o = by_sum (wire w) (plus (some s) o)

plus-both : (s j : ℕ) (o : Option ℕ) → plus (some s) (plus (some j) o) ≡ plus (some (s + j)) o
plus-both s j none = refl
plus-both s j (some i) = ap some (omega arith)

worth-kind : (g : Gate) (n : ℕ) → eqb (kind_of g) n ≡ true → worth g ≡ worth_by n
worth-kind g n q = worth-by g ∙ ap worth_by (eqb-true (kind_of g) n q)

-- Neither an x nor an h is of a run.
worth-h : (g : Gate) → is_h g ≡ true → worth g ≡ none
unfolding worth_by
worth-h g q = worth-kind g 1 q

worth-x : (g : Gate) → eqb (kind_of g) 0 ≡ true → worth g ≡ none
unfolding worth_by
worth-x g q = worth-kind g 0 q

worth-no-h : (g : Gate) (j : ℕ) → worth g ≡ some j → is_h g ≡ false
worth-no-h g j e = go (is_h g) refl
  where
    go : (b : Bool) → is_h g ≡ b → b ≡ false
    go true q = absurd (none-not-some j (sym (worth-h g q) ∙ e))
    go false q = refl

x-no-h : (g : Gate) → eqb (kind_of g) 0 ≡ true → is_h g ≡ false
x-no-h g q = ap (λ (n : ℕ). eqb n 1) (eqb-true (kind_of g) 0 q)

run-sums : (w s : ℕ) (l : List (Cell ℕ)) → closes (λ t. summed w s (sum_of t)) w l ≡ closed_by w (run_from w (s % 8) l)
unfolding run_from cut sum_of
run-sums w s [] = refl
run-sums w s (e ∷ l) = go (touches w e.gate) refl (λ i. run-sums w i l)
  where
    f : List Gate → Option Rewrite
    f t = summed w s (sum_of t)

    ended : (b : Bool) → worth e.gate ≡ none → closes_by f w e l b ≡ closed_by w (cond b (ran_to e.beside (s % 8)) none)
    ended true r = ap (λ (x : ℕ). close_by e.beside (by_eighths (wire w) x)) (omega arith)
    ended false r = closes-none (λ t. f (e.gate ∷ t)) w l (λ t. ap (λ (o : Option ℕ). summed w s (plus o (sum_of t))) r)

    on-run : ((i : ℕ) → closes (λ t. summed w i (sum_of t)) w l ≡ closed_by w (run_from w (i % 8) l)) → touches w e.gate ≡ true →
        (o : Option ℕ) → worth e.gate ≡ o → closes f w (e ∷ l) ≡ closed_by w (run_by w (s % 8) e l o)
    on-run again on none r = closes-on f w e l (is_h e.gate) on refl ∙ ended (is_h e.gate) r
    on-run again on (some j) r =
        let same : (s + j) % 8 ≡ (s % 8 + j) % 8 = omega arith in
        closes-past f w e l true (no-h-on w e.gate (worth-no-h e.gate j r)) on
        ∙ closes-same (λ t. f (e.gate ∷ t)) (λ t. summed w (s + j) (sum_of t)) w l
        (λ t. ap (λ (o : Option ℕ). summed w s (plus o (sum_of t))) r ∙ ap (by_sum (wire w)) (plus-both s j (sum_of t)))
        ∙ again (s + j) ∙ ap (λ (i : ℕ). closed_by w (run_from w i l)) same

    go : (b : Bool) → touches w e.gate ≡ b →
        ((i : ℕ) → closes (λ t. summed w i (sum_of t)) w l ≡ closed_by w (run_from w (i % 8) l)) →
        closes f w (e ∷ l) ≡ closed_by w (cond b (run_by w (s % 8) e l (worth e.gate)) (run_from w (s % 8) l))
    go true q again = on-run again q (worth e.gate) refl
    go false q again = closes-past f w e l false (off-no-h w e.gate q) q ∙ again s

-- ------------------------------------------------------------ what an h opens

-- Whether the first gate on the wire is an x.
abbrev pub x_next : Option (Cut ℕ) → Bool
x_next none = false
x_next (some c) = eqb (kind_of c.here.gate) 0

-- Where it is none, all that counts is the sum.
pub run-closes : (w : ℕ) (l : List (Cell ℕ)) → x_next (cut (touches w) l) ≡ false → closing_of w l ≡ closed_by w (run_from w 0 l)
unfolding rewrite_of sum_of
run-closes w l no-x = closing-is w l ∙ closes-step f w l ∙ go (cut (touches w) l) no-x ∙ sym (closes-step g w l) ∙ run-sums w 0 l
  where
    f : List Gate → Option Rewrite
    f = rewrite_of (wire w)

    g : List Gate → Option Rewrite
    g t = summed w 0 (sum_of t)

    from-none : (o : Option ℕ) → by_sum (wire w) o ≡ summed w 0 o
    from-none none = refl
    from-none (some n) = let same : n ≡ 0 + n = omega arith in ap (λ (i : ℕ). by_eighths (wire w) (i % 8)) same

    not-alone : (x : Gate) (t : List Gate) → eqb (kind_of x) 0 ≡ false → lone_x (x ∷ t) ≡ false
    not-alone x [] q = q
    not-alone x (y ∷ t) q = refl

    same : (x : Gate) (t : List Gate) → eqb (kind_of x) 0 ≡ false → f (x ∷ t) ≡ g (x ∷ t)
    same x t q =
        ap (λ (b : Bool). cond b (rewrite none (some (Z (wire w)))) (by_sum (wire w) (sum_of (x ∷ t)))) (not-alone x t q)
        ∙ from-none (sum_of (x ∷ t))

    at-gate : (e : Cell ℕ) (r : List (Cell ℕ)) (b : Bool) → eqb (kind_of e.gate) 0 ≡ false → closes_by f w e r b ≡ closes_by g w e r b
    at-gate e r true q = refl
    at-gate e r false q = closes-same (λ t. f (e.gate ∷ t)) (λ t. g (e.gate ∷ t)) w r (λ t. same e.gate t q)

    go : (o : Option (Cut ℕ)) → x_next o ≡ false → closes_at f w o ≡ closes_at g w o
    go none q = refl
    go (some c) q = at-gate c.here c.after (is_h c.here.gate) q

-- What an x and the next gate on the wire close.
abbrev pub x_closes : ℕ → Option (Cut ℕ) → Option Close
x_closes w o = and_then o λ c. cond (is_h c.here.gate) (close_by c.here.beside (rewrite none (some (Z (wire w))))) none

pub x-closes : (w : ℕ) (l : List (Cell ℕ)) (c : Cut ℕ) → cut (touches w) l ≡ some c → eqb (kind_of c.here.gate) 0 ≡ true →
    closing_of w l ≡ x_closes w (cut (touches w) c.after)
unfolding rewrite_of sum_of
x-closes w l c e x =
    closing-is w l ∙ closes-step f w l ∙ ap (closes_at f w) e
    ∙ ap (closes_by f w c.here c.after) (x-no-h c.here.gate x)
    ∙ closes-step g w c.after ∙ go (cut (touches w) c.after)
  where
    f : List Gate → Option Rewrite
    f = rewrite_of (wire w)

    g : List Gate → Option Rewrite
    g t = f (c.here.gate ∷ t)

    nothing : (y : Gate) (t : List Gate) → g (y ∷ t) ≡ none
    nothing y t = ap (λ (o : Option ℕ). by_sum (wire w) (plus o (sum_of (y ∷ t)))) (worth-x c.here.gate x)

    at-gate : (d : Cell ℕ) (r : List (Cell ℕ)) (b : Bool) →
        closes_by g w d r b ≡ cond b (close_by d.beside (rewrite none (some (Z (wire w))))) none
    at-gate d r true =
        ap (λ (b : Bool). close_by d.beside (cond b (rewrite none (some (Z (wire w)))) (by_sum (wire w) (sum_of (c.here.gate ∷ []))))) x
    at-gate d r false = closes-none (λ t. g (d.gate ∷ t)) w r (nothing d.gate)

    go : (o : Option (Cut ℕ)) → closes_at g w o ≡ x_closes w o
    go none = refl
    go (some d) = at-gate d.here d.after (is_h d.here.gate)

-- With no gate on the wire nothing closes.
pub none-closes : (w : ℕ) (l : List (Cell ℕ)) → cut (touches w) l ≡ none → closing_of w l ≡ none
none-closes w l e = closing-is w l ∙ closes-step (rewrite_of (wire w)) w l ∙ ap (closes_at (rewrite_of (wire w)) w) e

-- ------------------------------------------------------------ gates of one wire

-- The kinds up to tdg.
single : (g : Gate) → kind_of g < 7 → wires_of g ≡ first_of (wires_of g) ∷ []
unfolding record_of wires_of
single (X w) h = refl
single (H w) h = refl
single (S w) h = refl
single (Sdg w) h = refl
single (Z w) h = refl
single (T w) h = refl
single (Tdg w) h = refl
single (Cnot c t) h = absurd (omega arith)
single (Cz c t) h = absurd (omega arith)
single (Ccx c d t) h = absurd (omega arith)
single (Ccz c d t) h = absurd (omega arith)
single (Measure w b) h = refl
single (Reset w) h = refl
single (Y w) h = refl
single (Sx w) h = refl
single (Swap a b) h = absurd (omega arith)
single (Cy c t) h = absurd (omega arith)
single (Ch c t) h = absurd (omega arith)
single (Cswap c a b) h = absurd (omega arith)

-- Such a gate on a wire has no other.
pub alone-on : (w : ℕ) (g : Gate) → kind_of g < 7 → touches w g ≡ true → wires_of g ≡ w ∷ []
unfolding has
alone-on w g small on =
    single g small
    ∙ ap (λ (v : ℕ). v ∷ [])
    (sym (eqb-true w (first_of (wires_of g)) (sym (or-false (eqb w (first_of (wires_of g)))) ∙ sym (ap (has w) (single g small)) ∙ on)))

-- A gate of a run is one.
pub in-run-small : (g : Gate) (j : ℕ) → worth g ≡ some j → kind_of g < 7
unfolding worth_by
in-run-small g j e =
    small (eqb kind 5) refl (omega arith) (some 1) _
    (small (eqb kind 2) refl (omega arith) (some 2) _
    (small (eqb kind 4) refl (omega arith) (some 4) _
    (small (eqb kind 3) refl (omega arith) (some 6) _
    (small (eqb kind 6) refl (omega arith) (some 7) none (λ q. absurd (none-not-some j q))))))
    (sym (worth-by g) ∙ e)
  where
    kind : ℕ
    kind = kind_of g

    small : (b : Bool) {n : ℕ} → eqb kind n ≡ b → n < 7 → (here rest : Option ℕ) → (rest ≡ some j → kind < 7) → cond b here rest ≡ some j → kind < 7
    small true {n} q n<7 here rest h p = let same : kind ≡ n = eqb-true kind n q in omega (arith, same, n<7)
    small false q n<7 here rest h p = h p

pub h-alone : (w : ℕ) (g : Gate) → is_h_on w g ≡ true → wires_of g ≡ w ∷ []
h-alone w g h =
    let is : kind_of g ≡ 1 = eqb-true (kind_of g) 1 (and_left (is_h g) (touches w g) h) in
    alone-on w g (omega (arith, is)) (and_right (is_h g) (touches w g) h)
