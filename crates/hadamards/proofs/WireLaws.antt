-- The firings of a wire carried out one after another, as their chain in the spare words leads from one to the next.
use mathlib.Core.Path.{◌≡◌, refl, sym, ap, ap₂, subst, ◌∙◌}
use mathlib.Core.Bool.{true}
use mathlib.Core.List.{List, [], ◌∷◌, ◌++◌, reverse, append_assoc}
use mathlib.Core.Option.{some}
use Prim.Native.Nat.{ℕ, suc, ◌+◌, ◌*◌, ◌-◌, ◌≤◌, ◌<◌}
use native.Mathlib.Omega.{arith}
use lib.ListN.{length, length-append, length-reverse, get_or, drop}
use lib.Seq.{sets, length-sets}
use Rattle.rules.specs.Runs.{Rewrite}
use Rattle.rules.specs.Steps.{Cell, step}
use Rattle.rules.specs.Journal.{step_bytes, journal_bytes}
use Rattle.rules.specs.Sweeps.{Done, idle, stay, fire, hadamards_from}
use Rattle.rules.proofs.Fuel.{hadamards-enough}
use Rattle.links.specs.Words.{word, Within}
use Rattle.links.proofs.WordLaws.{within_none, within-then}
use Rattle.slots.specs.declared.Extent.{Extent}
use Rattle.slots.specs.Slots.{gate_at, cell_of, cells_from}
use Rattle.slots.specs.Live.{spare_at, is_live, held, earlier, later, Live}
use Rattle.slots.proofs.CutLaws.{cells-part, below-reverse, held-parts}
use Rattle.journal.specs.Sweeping.{Did, Went}
use Rattle.journal.proofs.SweepingLaws.{went-none, went-step, went_on, went-room, went-did}
use Rattle.hadamards.specs.Firings.{Firing, closing_of, firings}
use Rattle.hadamards.specs.Chains.{openers_at, heads_at, Chained, ChainOf}
use Rattle.hadamards.specs.Placing.{cells, OtherWires, Allowed, in_place, Fired, wire_ahead}
use Rattle.hadamards.proofs.FiringLaws.{after, First, first-firing, no-firing, cells_fit}
use Rattle.hadamards.proofs.OneWireLaws.{others-then}
use Rattle.hadamards.proofs.FiredLaws.{others-none, same-cells}

-- ------------------------------------------------------------ chains

chained_same : (next next' opener opener' : ℕ → ℕ) (from : ℕ) (fs : List Firing) → ((i : ℕ) → next' i ≡ next i) →
    ((i : ℕ) → opener' i ≡ opener i) → Chained next opener from fs → Chained next' opener' from fs
unfolding Chained
chained_same next next' opener opener' from [] p q h = h
chained_same next next' opener opener' from (f ∷ fs) p q h = (
  h.0,
  q f.closer ∙ h.1,
  subst (λ (x : ℕ). Chained next' opener' x fs) (sym (p f.closer))
      (chained_same next next' opener opener' (next f.closer) fs p q h.2),
)

-- Only links have changed: words past them are as they were, and so are the chains there.
module _ (k : Extent) (was now : List ℕ) (p : Within 0 (spare_at k) was now) where
  past-links : (x : ℕ) → spare_at k ≤ x → get_or now x 0 ≡ get_or was x 0
  past-links x m = p.same x (λ l. omega (arith, l, m))

  rest-kept : (from : ℕ) (fs : List Firing) → Chained (word was (spare_at k)) (word was (openers_at k)) from fs →
      Chained (word now (spare_at k)) (word now (openers_at k)) from fs
  rest-kept from fs =
      chained_same (word was (spare_at k)) (word now (spare_at k)) (word was (openers_at k)) (word now (openers_at k)) from fs
      (λ i. past-links (spare_at k + i) (omega arith)) (λ i. past-links (openers_at k + i) (omega arith))

  pub chain-kept : (w : ℕ) (fs : List Firing) → ChainOf was k w fs → ChainOf now k w fs
  chain-kept w fs h =
      subst (λ (x : ℕ). Chained (word now (spare_at k)) (word now (openers_at k)) x fs) (sym (past-links (heads_at k + w) (omega arith)))
      (rest-kept (word was (heads_at k) w) fs h)

chain-end : (next opener : ℕ → ℕ) (from : ℕ) (fs : List Firing) → from ≡ 0 → Chained next opener from fs → fs ≡ []
unfolding Chained
chain-end next opener from [] e h = refl
chain-end next opener from (f ∷ fs) e h = absurd (omega (arith, e, h.0))

-- ------------------------------------------------------------ what is to come

module _ (b ws : List ℕ) (k : Extent) (w : ℕ) where
  -- Before the first firing all of the wire's walk is to come.
  ahead-all : wire_ahead b ws k w 0 ≡ hadamards_from (length (held b ws k)) w 0 (held b ws k)
  unfolding cells_from
  ahead-all =
      let all : k.gates - 0 ≡ k.gates = omega arith in
      ap (hadamards_from k.gates w 0) (ap (cells b ws k 0) all)
      ∙ hadamards-enough k.gates (length (held b ws k)) w 0 (held b ws k) (cells_fit (is_live ws k) (gate_at b) 0 k.gates) (omega arith)

  -- The cells before a slot, parted at another.
  front-is : (from o : ℕ) → from ≤ o → cells b ws k 0 o ≡ cells b ws k 0 from ++ cells b ws k from (o - from)
  front-is from o m =
      let all : o ≡ from + (o - from) = omega (arith, m) in
      let start : 0 + from ≡ from = omega arith in
      ap (cells b ws k 0) all ∙ cells-part (is_live ws k) (gate_at b) 0 from (o - from)
      ∙ ap (λ (x : ℕ). cells b ws k 0 from ++ cells b ws k x (o - from)) start

  -- No firing is left: nothing is to come.
  ahead_none : (from : ℕ) → from ≤ k.gates → firings w from (cells b ws k from (k.gates - from)) ≡ [] →
      wire_ahead b ws k w from ≡ idle (held b ws k)
  ahead_none from m h =
      ap (stay (cells b ws k 0 from))
      (no-firing (is_live ws k) (gate_at b) w from from (k.gates - from) (length (cells b ws k 0 from)) k.gates (omega arith) (omega arith) h)
      ∙ ap idle (sym (front-is from k.gates m))

  -- The positions of opener and closer.
  earlier-length : (i : ℕ) → length (earlier b ws k i) ≡ length (cells b ws k 0 i)
  earlier-length i = sym (length-reverse (earlier b ws k i)) ∙ ap length (below-reverse (is_live ws k) (gate_at b) i)

  closer-at : (o c : ℕ) → o < c → is_live ws k o ≡ true →
      length (earlier b ws k c) ≡ suc (length (earlier b ws k o)) + length (cells b ws k (suc o) (c - suc o))
  closer-at o c m t =
      omega (
        arith,
        earlier-length c,
        ap length (held-parts (is_live ws k) (gate_at b) o c t m),
        length-append (reverse (earlier b ws k o)) (cell_of (gate_at b) o ∷ cells b ws k (suc o) (c - suc o)),
        length-reverse (earlier b ws k o),
      )

-- A step in front of what comes after, behind cells that stay.
step-made : (x y p t x' t' : List (Cell ℕ)) (n w first last first' last' : ℕ) (d : Done ℕ) →
    d ≡ stay y (fire 3 first last (stay p (hadamards_from n w (length x + length y + length p) t))) → x' ≡ (x ++ y) ++ p → t ≡ t' →
    first ≡ first' → last ≡ last' → stay x d ≡ fire 3 first' last' (stay x' (hadamards_from n w (length x') t'))
step-made x y p t x' t' n w first last first' last' d e f g a b =
    ap (stay x) e ∙ joined (hadamards_from n w (length x + length y + length p) t)
    ∙ ap (λ (m : ℕ). fire 3 first' last' (stay ((x ++ y) ++ p) (hadamards_from n w m t))) place
    ∙ ap₂ (λ (l m : List (Cell ℕ)). fire 3 first' last' (stay l (hadamards_from n w (length l) m))) (sym f) g
  where
    joined : (c : Done ℕ) → stay x (stay y (fire 3 first last (stay p c))) ≡ fire 3 first' last' (stay ((x ++ y) ++ p) c)
    joined c = λ i. record {
      list = (sym (append_assoc x y (p ++ c.list)) ∙ sym (append_assoc (x ++ y) p c.list)) i;
      steps = step 3 (a i) (b i) ∷ c.steps;
      looks = c.looks;
    }

    place : length x + length y + length p ≡ length ((x ++ y) ++ p)
    place = omega (arith, length-append (x ++ y) p, length-append x y)

-- ------------------------------------------------------------ the firings so far

-- The firings before a slot have been carried out, and a link leads to those that are left.
pub record WireTo (b₀ ws₀ j₀ : List ℕ) (k : Extent) (w steps : ℕ) (b ws j : List ℕ) (s link : ℕ) : Type 0 where
  pub from : ℕ
  pub inside : from ≤ k.gates
  pub left : List Firing
  pub are : firings w from (cells b ws k from (k.gates - from)) ≡ left
  pub chain : Chained (word ws (spare_at k)) (word ws (openers_at k)) link left
  pub went : Went (wire_ahead b₀ ws₀ k w 0) (wire_ahead b ws k w from) 0 steps s j₀ j
  pub live : Live b ws k
  pub others : OtherWires k w b₀ ws₀ b ws
  pub within : Within 0 (spare_at k) ws₀ ws
  pub long : length b ≡ length b₀
  pub past : drop (16 * k.gates) b ≡ drop (16 * k.gates) b₀

pub wire-none : (b ws j : List ℕ) (k : Extent) (w steps link : ℕ) → Live b ws k → ChainOf ws k w (firings w 0 (held b ws k)) →
    link ≡ word ws (heads_at k) w → WireTo b ws j k w steps b ws j steps link
wire-none b ws j k w steps link l h e =
    record {
      from = 0;
      inside = omega arith;
      left = firings w 0 (held b ws k);
      are = let all : k.gates - 0 ≡ k.gates = omega arith in ap (λ (n : ℕ). firings w 0 (cells b ws k 0 n)) all;
      chain = subst (λ (x : ℕ). Chained (word ws (spare_at k)) (word ws (openers_at k)) x (firings w 0 (held b ws k))) (sym e) h;
      went = went-none (wire_ahead b ws k w 0) (wire_ahead b ws k w 0) steps j refl;
      live = l;
      others = others-none k w b ws;
      within = within_none 0 (spare_at k) ws;
      long = refl;
      past = refl;
    }

module _ (b₀ ws₀ j₀ : List ℕ) (k : Extent) (w steps : ℕ) (b ws j : List ℕ) (s link : ℕ)
    (h : WireTo b₀ ws₀ j₀ k w steps b ws j s link) where
  -- No link leads on: the wire is done.
  pub wire-done : link ≡ 0 →
      Did (hadamards_from (length (held b₀ ws₀ k)) w 0 (held b₀ ws₀ k)) (held b ws k) steps s j₀ j
  wire-done e =
      went-did (hadamards_from (length (held b₀ ws₀ k)) w 0 (held b₀ ws₀ k)) (held b ws k) 0 steps s j₀ j
      (subst (λ (d : Done ℕ). Went d (idle (held b ws k)) 0 steps s j₀ j) (ahead-all b₀ ws₀ k w)
      (subst (λ (d : Done ℕ). Went (wire_ahead b₀ ws₀ k w 0) d 0 steps s j₀ j)
      (ahead_none b ws k w h.from h.inside (h.are ∙ chain-end _ _ link h.left e h.chain)) h.went))

  -- The journal is as long as it was.
  pub wire-long : length j ≡ length j₀
  wire-long = ap length h.went.journal ∙ length-sets j₀ (16 * steps) (journal_bytes h.went.steps)

  -- The next pair, as the words have it from a place on that is the first past the links.
  module _ (at : ℕ) (here : at ≡ spare_at k) (more : link ≡ 0 → ⊥) where
    abbrev next : Firing
    next = record { opener = get_or ws (at + k.gates + (link - 1)) 0; closer = link - 1 }

    record Turn : Type 0 where
      rest : List Firing
      first : First (is_live ws k) (gate_at b) w h.from (k.gates - h.from) (length (cells b ws k 0 h.from)) k.gates next rest
      chained : Chained (word ws (spare_at k)) (word ws (openers_at k)) (get_or ws (at + (link - 1)) 0) rest

    turn-of : (fs : List Firing) → firings w h.from (cells b ws k h.from (k.gates - h.from)) ≡ fs →
        Chained (word ws (spare_at k)) (word ws (openers_at k)) link fs → Turn
    unfolding Chained
    turn-of [] e c = absurd (more c)
    turn-of (f ∷ fs) e c =
        let closer-is : f.closer ≡ link - 1 = omega (arith, c.0) in
        let opener-at : openers_at k + f.closer ≡ at + k.gates + (link - 1) = omega (arith, here, closer-is) in
        let next-at : spare_at k + f.closer ≡ at + (link - 1) = omega (arith, here, closer-is) in
        let is : f ≡ next = λ x. record { opener = (sym c.1 ∙ ap (λ (n : ℕ). get_or ws n 0) opener-at) x; closer = closer-is x } in
        record {
          rest = fs;
          first = first-firing (is_live ws k) (gate_at b) w h.from h.from (k.gates - h.from) (length (cells b ws k 0 h.from)) k.gates next fs
              (omega arith) (omega arith) (e ∙ ap (λ (g : Firing). g ∷ fs) is);
          chained = subst (λ (n : ℕ). Chained (word ws (spare_at k)) (word ws (openers_at k)) n fs) (ap (λ (n : ℕ). get_or ws n 0) next-at) c.2;
        }

    turn : Turn
    turn = turn-of h.left h.are h.chain

    pub next-inside : link - 1 < k.gates
    next-inside = omega (arith, turn.first.closer-in, h.inside)

    later-is : h.from + (k.gates - h.from) - suc next.opener ≡ k.gates - suc next.opener
    later-is = omega (arith, h.inside)

    next-closes : closing_of w (later b ws k next.opener) ≡ some (record { closer = next.closer; rewrite = turn.first.rewrite })
    next-closes = ap (λ (n : ℕ). closing_of w (cells b ws k (suc next.opener) n)) (sym later-is) ∙ turn.first.closes

    pub next-allowed : Allowed b ws k w next
    next-allowed =
        record {
          opener-live = turn.first.opener-live;
          opener-h = turn.first.opener-h;
          closer-live = turn.first.closer-live;
          closer-h = turn.first.closer-h;
          apart = turn.first.closer-past;
          rewrite = turn.first.rewrite;
          closes = next-closes;
        }

    -- There is room for its step.
    pub next-room : 16 * (steps + length (hadamards_from (length (held b₀ ws₀ k)) w 0 (held b₀ ws₀ k)).steps) ≤ length j₀ →
        16 * s + 16 ≤ length j
    next-room r =
        went-room (wire_ahead b₀ ws₀ k w 0) (wire_ahead b ws k w h.from) 0 steps s j₀ j _ _ h.went
        (ap (λ (d : Done ℕ). d.steps) turn.first.goes)
        (subst (λ (d : Done ℕ). 16 * (steps + length d.steps) ≤ length j₀) (sym (ahead-all b₀ ws₀ k w)) r)

    -- The pair is carried out.
    module _ (b' ws' j' : List ℕ)
        (fired : (r : Rewrite) → closing_of w (later b ws k next.opener) ≡ some (record { closer = next.closer; rewrite = r }) →
        Fired k w next r b ws b' ws')
        (written : j' ≡ sets j (16 * s) (step_bytes (step 3 (length (earlier b ws k next.opener)) (length (earlier b ws k next.closer))))) where
      abbrev end : ℕ
      end = suc (link - 1)

      done : Fired k w next turn.first.rewrite b ws b' ws'
      done = fired turn.first.rewrite next-closes

      -- What comes after the pair is as it was.
      back_is : after (is_live ws k) (gate_at b) h.from (k.gates - h.from) next ≡ cells b' ws' k end (k.gates - end)
      back_is =
          let rest : h.from + (k.gates - h.from) - end ≡ k.gates - end = omega (arith, h.inside) in
          ap (cells b ws k end) rest ∙ sym (same-cells k b ws b' ws' end (k.gates - end) (λ i l m. done.back i (omega (arith, l))))

      front-now : cells b' ws' k 0 end ≡ (cells b ws k 0 h.from ++ cells b ws k h.from (next.opener - h.from)) ++ in_place b ws k w turn.first.rewrite next
      front-now =
          done.front
          ∙ ap (λ (l : List (Cell ℕ)). l ++ in_place b ws k w turn.first.rewrite next) (front-is b ws k w h.from next.opener turn.first.opener-from)

      one-step : wire_ahead b ws k w h.from
          ≡ fire 3 (length (earlier b ws k next.opener)) (length (earlier b ws k next.closer)) (wire_ahead b' ws' k w end)
      one-step =
          let first : length (cells b ws k 0 h.from) + length (cells b ws k h.from (next.opener - h.from)) ≡ length (earlier b ws k next.opener) =
          omega (
            arith,
            earlier-length b ws k w next.opener,
            ap length (front-is b ws k w h.from next.opener turn.first.opener-from),
            length-append (cells b ws k 0 h.from) (cells b ws k h.from (next.opener - h.from)),
          ) in
          step-made (cells b ws k 0 h.from) (cells b ws k h.from (next.opener - h.from)) (in_place b ws k w turn.first.rewrite next)
          (after (is_live ws k) (gate_at b) h.from (k.gates - h.from) next) (cells b' ws' k 0 end) (cells b' ws' k end (k.gates - end))
          k.gates w _ _ (length (earlier b ws k next.opener)) (length (earlier b ws k next.closer))
          (hadamards_from k.gates w (length (cells b ws k 0 h.from)) (cells b ws k h.from (k.gates - h.from)))
          turn.first.goes front-now back_is first
          (ap (λ (n : ℕ). suc n + length (cells b ws k (suc next.opener) (next.closer - suc next.opener))) first
          ∙ sym (closer-at b ws k w next.opener next.closer turn.first.closer-past turn.first.opener-live))

      pub wire-more : Live b' ws' k → Within 0 (spare_at k) ws ws' → length b' ≡ length b → drop (16 * k.gates) b' ≡ drop (16 * k.gates) b →
          WireTo b₀ ws₀ j₀ k w steps b' ws' j' (s + 1) (get_or ws (at + (link - 1)) 0)
      wire-more l p n q =
          record {
            from = end;
            inside = next-inside;
            left = turn.rest;
            are = ap (firings w end) (sym back_is) ∙ sym turn.first.rest;
            chain = rest-kept k ws ws' p (get_or ws (at + (link - 1)) 0) turn.rest turn.chained;
            went = let one_more : suc s ≡ s + 1 = omega arith in
                subst (λ (m : ℕ). Went (wire_ahead b₀ ws₀ k w 0) (wire_ahead b' ws' k w end) 0 steps m j₀ j') one_more
                (went_on (wire_ahead b₀ ws₀ k w 0) (wire_ahead b ws k w h.from) (wire_ahead b' ws' k w end) 0 0 steps s (suc s) j₀ j j' h.went
                (went-step (wire_ahead b ws k w h.from) (wire_ahead b' ws' k w end) _ 0 s j j'
                (ap (λ (d : Done ℕ). d.list) one-step) (ap (λ (d : Done ℕ). d.steps) one-step)
                (let looks : (wire_ahead b ws k w h.from).looks ≡ (wire_ahead b' ws' k w end).looks = ap (λ (d : Done ℕ). d.looks) one-step in
                omega (arith, looks)) written));
            live = l;
            others = others-then k w b₀ ws₀ b ws b' ws' h.others done.others;
            within = within-then 0 (spare_at k) ws₀ ws ws' h.within p;
            long = n ∙ h.long;
            past = q ∙ h.past;
          }
