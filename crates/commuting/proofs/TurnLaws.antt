-- One turn of the commuting sweep in code: the partner that is found, the walk's answer, and what is then still to come.
use Rattle.std.specs.Prelude.{Some, None}
use mathlib.Core.Path.{◌≡◌, refl, sym, ap, ap₂, subst, ◌∙◌}
use mathlib.Core.Bool.{Bool, true, false, not, ◌&&◌}
use mathlib.Core.List.{List, ◌∷◌}
use mathlib.Core.Option.{none}
use Prim.Native.Nat.{ℕ, suc, ◌+◌, ◌*◌, ◌-◌, ◌≤◌, ◌<◌}
use native.Mathlib.Numerals.{add-one}
use native.Mathlib.Omega.{arith}
use Rattle.std.proofs.lemmas.Bool.Decides.{nat_tests}
use lib.Dec.{eqb}
use lib.ListN.{length, length-reverse}
use lib.Seq.{sets}
use Rattle.gates.specs.declared.Gate.{Gate}
use Rattle.gates.specs.declared.Gate.TheVariants.{X, H, S, Sdg, Z, T, Tdg, Cnot, Cz, Ccx, Ccz, Measure, Reset, Y, Sx, Swap, Cy, Ch, Cswap}
use Rattle.gates.specs.Gates.{has, wires_of}
use Rattle.gates.specs.Records.{record_of}
use Rattle.rules.specs.Equal.{inserted, sorted, ordered, canonical, equal, is_pair}
use Rattle.rules.specs.Steps.{Cut, step, when}
use Rattle.rules.specs.Journal.{step_bytes}
use Rattle.rules.specs.Sweeps.{Done, cut, look, fire, walk_past}
use Rattle.leaves.specs.Answers.{pair_of}
use Rattle.slots.specs.declared.Extent.{Extent}
use Rattle.slots.specs.declared.Slot.{Slot}
use Rattle.slots.specs.Slots.{gate_at, cells_from, slot_of, found}
use Rattle.slots.specs.Live.{is_live, earlier, later}
use Rattle.slots.proofs.CutLaws.{CutFrom, cut-from-parts, below-reverse}
use Rattle.slots.proofs.AnswerLaws.{PartedAt, found-parted, found_none}
use Rattle.slots.proofs.StateLaws.{live_below}
use Rattle.journal.specs.Sweeping.{Went, TakenOut}
use Rattle.journal.proofs.SweepingLaws.{went-none, went-looking, went-step}
use Rattle.commuting.specs.declared.walk.Ending.{Ending}
use Rattle.commuting.specs.declared.walk.Walked.{Walked}
use Rattle.commuting.specs.Walking.{ends_as, as_walk}
use Rattle.commuting.specs.Ahead.{commuting_ahead}
use Rattle.commuting.proofs.AheadLaws.{ahead, ahead-dead, ahead-stays, ahead-blocked, ahead-reached}

-- The position of a slot, counted from either end.
pub place_is : (bytes words : List ℕ) (k : Extent) (s : ℕ) →
    length (earlier bytes words k s) ≡ length (cells_from (is_live words k) (gate_at bytes) 0 s)
place_is bytes words k s =
    sym (length-reverse (earlier bytes words k s)) ∙ ap length (below-reverse (is_live words k) (gate_at bytes) s)

-- Looks counted another way.
pub went-counted : (from to : Done ℕ) (looks n before after : ℕ) (was now : List ℕ) → Went from to looks before after was now → looks ≡ n →
    Went from to n before after was now
went-counted from to looks n before after was now p e = subst (λ (x : ℕ). Went from to x before after was now) e p

-- ------------------------------------------------------------ pairs

-- What has no canonical pair is no pair.
pub other-no-pair : (g : Gate) → pair_of g ≡ None → is_pair g ≡ false
unfolding pair_of canonical ordered has record_of wires_of sorted inserted
other-no-pair (X w) p = refl
other-no-pair (H w) p = refl
other-no-pair (S w) p = refl
other-no-pair (Sdg w) p = refl
other-no-pair (Z w) p = refl
other-no-pair (T w) p = refl
other-no-pair (Tdg w) p = refl
other-no-pair (Measure w b) p = refl
other-no-pair (Reset w) p = refl
other-no-pair (Y w) p = refl
other-no-pair (Sx w) p = refl
other-no-pair (Swap a b) p = refl
other-no-pair (Cy a b) p = refl
other-no-pair (Ch a b) p = refl
other-no-pair (Cswap a b c) p = refl
other-no-pair (Cnot a b) p = cc
other-no-pair (Cz a b) p = grind (arith, nat_tests)
other-no-pair (Ccx a b c) p = grind (arith, nat_tests)
other-no-pair (Ccz a b c) p = grind (arith, nat_tests)

-- ------------------------------------------------------------ nothing is done

module _ (bytes words : List ℕ) (k : Extent) (s : ℕ) where
  -- What the turn at a slot does.
  abbrev pub Turn : ℕ → ℕ → ℕ → List ℕ → List ℕ → List ℕ → Type 0
  Turn looks n m now journal journal' =
      Went (commuting_ahead bytes words k s) (commuting_ahead bytes now k (s + 1)) looks n m journal journal'

  pub turn-dead : s < k.gates → is_live words k s ≡ false → (looks n : ℕ) (journal : List ℕ) → looks ≡ 0 → Turn looks n n words journal journal
  turn-dead inside p looks n journal e =
      went-counted _ _ 0 looks n n journal journal
      (went-none _ _ n journal (ahead-dead (is_live words k) (gate_at bytes) k.gates s inside p)) (sym e)

  module _ (alive : is_live words k s ≡ true) where
    stays : when (is_pair (gate_at bytes s)) (cut (equal (gate_at bytes s)) (later bytes words k s)) ≡ none →
        (looks n : ℕ) (journal : List ℕ) → looks ≡ 0 → Turn looks n n words journal journal
    stays p looks n journal e =
        went-counted _ _ 0 looks n n journal journal
        (went-none _ _ n journal (ahead-stays (is_live words k) (gate_at bytes) k.gates s (live_below words k s alive) alive p)) (sym e)

    pub turn-other : is_pair (gate_at bytes s) ≡ false → (looks n : ℕ) (journal : List ℕ) → looks ≡ 0 → Turn looks n n words journal journal
    turn-other p = stays (ap (λ b. when b (cut (equal (gate_at bytes s)) (later bytes words k s))) p)

    pub turn_alone : is_pair (gate_at bytes s) ≡ true → None ≡ found (slot_of (cut (equal (gate_at bytes s)) (later bytes words k s))) →
        (looks n : ℕ) (journal : List ℕ) → looks ≡ 0 → Turn looks n n words journal journal
    turn_alone pair said = stays (ap₂ when pair (found_none (cut (equal (gate_at bytes s)) (later bytes words k s)) None said refl))

-- ------------------------------------------------------------ a pair and its partner

-- A live pair, and the partner that is found.
pub record Partnered (bytes words : List ℕ) (k : Extent) (s : ℕ) (other : Slot) : Type 0 where
  pub alive : is_live words k s ≡ true
  pub pair : is_pair (gate_at bytes s) ≡ true
  pub said : Some other ≡ found (slot_of (cut (equal (gate_at bytes s)) (later bytes words k s)))

module _ {bytes words : List ℕ} {k : Extent} {s : ℕ} {other : Slot} (t : Partnered bytes words k s other) where
  inside : s < k.gates
  inside = live_below words k s t.alive

  parted : PartedAt (cut (equal (gate_at bytes s)) (later bytes words k s)) other.0
  parted = found-parted (cut (equal (gate_at bytes s)) (later bytes words k s)) (Some other) other t.said refl

  abbrev partner : Cut ℕ
  partner = parted.parts

  parts : CutFrom (is_live words k) (gate_at bytes) (equal (gate_at bytes s)) (suc s) (k.gates - suc s) partner
  parts = cut-from-parts (is_live words k) (gate_at bytes) (equal (gate_at bytes s)) (suc s) (k.gates - suc s) partner parted.is

  -- What the walk and the step ask of the partner.
  pub partner-live : (is_live words k s ≡ true) × (is_live words k other.0 ≡ true) × (s < other.0)
  partner-live = (
    t.alive,
    subst (λ t. is_live words k t ≡ true) parted.slot parts.live_here,
    subst (λ t. s < t) parted.slot (let p = parts.from in omega (arith, p)),
  )

  pub partner-equal : equal (gate_at bytes s) (gate_at bytes other.0) ≡ true
  partner-equal = subst (λ t. equal (gate_at bytes s) (gate_at bytes t) ≡ true) parted.slot parts.meets

  -- The gates between, as the walk has them.
  between : partner.before ≡ cells_from (is_live words k) (gate_at bytes) (suc s) (other.0 - suc s)
  between = parts.before ∙ ap (λ t. cells_from (is_live words k) (gate_at bytes) (suc s) (t - suc s)) parted.slot

  module _ (w : Walked)
      (walks : as_walk w ≡ walk_past (gate_at bytes s) (cells_from (is_live words k) (gate_at bytes) (suc s) (other.0 - suc s))) where
    ends : (e : Ending) → w.ending ≡ e → walk_past (gate_at bytes s) partner.before ≡ ends_as e w.looks
    ends e p = ap (walk_past (gate_at bytes s)) between ∙ sym walks ∙ ap (λ x. ends_as x w.looks) p

    blocks : w.ending ≡ Ending.Blocked →
        commuting_ahead bytes words k s ≡ look w.looks (commuting_ahead bytes words k (s + 1))
    blocks p =
        ahead-blocked (is_live words k) (gate_at bytes) k.gates s inside t.alive partner t.pair parted.is w.looks (ends Ending.Blocked p)

    pub turn-blocked : w.ending ≡ Ending.Blocked → (looks n : ℕ) (journal : List ℕ) → looks ≡ w.looks →
        Turn bytes words k s looks n n words journal journal
    turn-blocked p looks n journal e =
        went-counted _ _ w.looks looks n n journal journal
        (went-looking _ _ w.looks n journal (ap (λ d. d.list) (blocks p)) (ap (λ d. d.steps) (blocks p)) (ap (λ d. d.looks) (blocks p))) (sym e)

    -- With both gone, as any list of marks says it.
    reaches : w.ending ≡ Ending.Reached → (left : ℕ → Bool) →
        ((i : ℕ) → left i ≡ ((is_live words k i && not (eqb i s)) && not (eqb i partner.here.beside))) →
        commuting_ahead bytes words k s
        ≡ look w.looks (fire 2 (length (cells_from (is_live words k) (gate_at bytes) 0 s))
        (length (cells_from (is_live words k) (gate_at bytes) 0 partner.here.beside)) (ahead left (gate_at bytes) k.gates (s + 1)))
    reaches p left taken =
        ahead-reached (is_live words k) (gate_at bytes) k.gates s inside t.alive partner t.pair parted.is left taken w.looks
        (ends Ending.Reached p)

    -- The looks of the walk are among those to come.
    pub looks-to-come : w.looks ≤ (commuting_ahead bytes words k s).looks
    looks-to-come = go w.ending refl
      where
        go : (e : Ending) → w.ending ≡ e → w.looks ≤ (commuting_ahead bytes words k s).looks
        go Ending.Blocked p = omega (arith, ap (λ d. d.looks) (blocks p))
        go Ending.Reached p = omega (arith, ap (λ d. d.looks) (reaches p _ (λ i. refl)))

    -- There is room for the step, since it is one of those to come.
    pub step_room : w.ending ≡ Ending.Reached → (n size : ℕ) → 16 * (n + length (commuting_ahead bytes words k s).steps) ≤ size →
        16 * n + 16 ≤ size
    step_room p n size h = omega (arith, h, ap (λ d. length d.steps) (reaches p _ (λ i. refl)))

    pub turn-reached : w.ending ≡ Ending.Reached → (now : List ℕ) → TakenOut k s other.0 words now → (kind : ℕ) → kind ≡ 2 →
        (looks n : ℕ) (journal journal' : List ℕ) →
        journal' ≡ sets journal (16 * n) (step_bytes (step kind (length (earlier bytes words k s)) (length (earlier bytes words k other.0)))) →
        looks ≡ w.looks → Turn bytes words k s looks n (n + 1) now journal journal'
    turn-reached p now taken kind two looks n journal journal' q e =
        let goes =
        reaches p (is_live now k)
        (λ i. taken i ∙ ap (λ t. (is_live words k i && not (eqb i s)) && not (eqb i t)) (sym parted.slot)) in
        let placed =
        ap₂ (step 2) (sym (place_is bytes words k s))
        (ap (λ t. length (cells_from (is_live words k) (gate_at bytes) 0 t)) parted.slot ∙ sym (place_is bytes words k other.0)) in
        rw (add-one n, e)
        (went-step _ _ (step 2 (length (earlier bytes words k s)) (length (earlier bytes words k other.0))) w.looks n journal journal'
        (ap (λ d. d.list) goes)
        (ap (λ d. d.steps) goes ∙ ap (λ x. x ∷ (commuting_ahead bytes now k (s + 1)).steps) placed)
        (ap (λ d. d.looks) goes)
        (q ∙ ap (λ (kind : ℕ). sets journal (16 * n) (step_bytes (step kind (length (earlier bytes words k s)) (length (earlier bytes words k other.0))))) two))
