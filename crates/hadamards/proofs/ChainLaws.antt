-- Chains of firings in spare words: their room, what the noting of a firing stores, and the chain that it makes longer.
use mathlib.Core.Path.{◌≡◌, refl, sym, ap, subst, ◌∙◌}
use mathlib.Core.Bool.{Bool, true, false, cond}
use mathlib.Core.List.{List, [], ◌∷◌, ◌++◌}
use Prim.Native.Nat.{ℕ, suc, ◌+◌, ◌*◌, ◌-◌, ◌≤◌, ◌<◌}
use native.Mathlib.Omega.{arith}
use lib.Dec.{eqb}
use lib.ListN.{length, get_or, set, length-set}
use lib.Seq.{get_or-set_same, get_or-set_other}
use borrow.Author.Tests.{eqb-true, eqb-false}
use Rattle.gates.specs.Gates.{All}
use Rattle.links.specs.Words.{word, Within}
use Rattle.links.proofs.WordLaws.{within-then, within-set}
use Rattle.slots.specs.declared.Extent.{Extent}
use Rattle.slots.specs.Live.{words_for, spare_at}
use Rattle.slots.proofs.StateLaws.{room-enough}
use Rattle.hadamards.specs.Firings.{Firing}
use Rattle.hadamards.specs.Chains.{tails_at, notes_for, Chained, behind, noted_in}

pub notes-in-room : (k : Extent) → 0 < k.gates → spare_at k + notes_for k ≤ words_for k
notes-in-room k any = omega (arith, room-enough k any)

-- ------------------------------------------------------------ chains

pub behind_more : (x : ℕ) (fs : List Firing) (f : Firing) → behind x (fs ++ (f ∷ [])) ≡ suc f.closer
unfolding behind
behind_more x [] f = refl
behind_more x (e ∷ fs) f = behind_more (suc e.closer) fs f

-- What holds of all closers holds of the last.
pub last_meets : (P : ℕ → Type 0) (x : ℕ) (fs : List Firing) → P x → All (λ f. P f.closer) fs →
    (0 < behind (suc x) fs) × P (behind (suc x) fs - 1)
unfolding behind
last_meets P x [] p h = let same : x ≡ suc x - 1 = omega arith in (omega arith, subst P same p)
last_meets P x (f ∷ fs) p h = last_meets P f.closer fs h.0 h.1

-- A chain whose words stay.
pub chain-stays : (next next' opener opener' : ℕ → ℕ) (from : ℕ) (fs : List Firing) →
    All (λ f. (next' f.closer ≡ next f.closer) × (opener' f.closer ≡ opener f.closer)) fs →
    Chained next opener from fs → Chained next' opener' from fs
unfolding Chained
chain-stays next next' opener opener' from [] h c = c
chain-stays next next' opener opener' from (f ∷ fs) h c = (
  c.0,
  h.0.1 ∙ c.1,
  subst (λ (x : ℕ). Chained next' opener' x fs) (sym h.0.0) (chain-stays next next' opener opener' (next f.closer) fs h.1 c.2),
)

-- The last closer's word is the end.
chain-ends : (next opener : ℕ → ℕ) (x : ℕ) (fs : List Firing) → Chained next opener (next x) fs → next (behind (suc x) fs - 1) ≡ 0
unfolding Chained behind
chain-ends next opener x [] c = let same : suc x - 1 ≡ x = omega arith in ap next same ∙ c
chain-ends next opener x (f ∷ fs) c = chain-ends next opener f.closer fs c.2

-- One firing more: the last closer's word leads to its closer, whose own word is the end.
module _ (next next' opener opener' : ℕ → ℕ) (tail : ℕ) (f : Firing) (new-end : next' f.closer ≡ 0) (new-opener : opener' f.closer ≡ f.opener)
    (leads : (y : ℕ) → suc y ≡ tail → next' y ≡ suc f.closer)
    (nexts : (y : ℕ) → y < f.closer → (suc y ≡ tail → ⊥) → next' y ≡ next y)
    (openers : (y : ℕ) → y < f.closer → opener' y ≡ opener y) where
  more : (old-end : (y : ℕ) → suc y ≡ tail → next y ≡ 0) (x : ℕ) (fs : List Firing) → x < f.closer → All (λ e. e.closer < f.closer) fs →
      behind (suc x) fs ≡ tail → Chained next opener (next x) fs → Chained next' opener' (next' x) (fs ++ (f ∷ []))
  unfolding Chained behind
  more old-end x [] l h b c = (leads x b, new-opener, new-end)
  more old-end x (e ∷ fs) l h b c = (
    nexts x l not_last ∙ c.0,
    openers e.closer h.0 ∙ c.1,
    more old-end e.closer fs h.0 h.1 b c.2,
  )
    where
      not_last : suc x ≡ tail → ⊥
      not_last q = zero-suc (sym (old-end x q) ∙ c.0)
        where
          zero-suc : 0 ≡ suc e.closer → ⊥
          zero-suc z = omega (arith, z)

  pub chain_more : (from from' : ℕ) (fs : List Firing) → All (λ e. e.closer < f.closer) fs → behind 0 fs ≡ tail →
      (tail ≡ 0 → from' ≡ suc f.closer) → ((tail ≡ 0 → ⊥) → from' ≡ from) → Chained next opener from fs →
      Chained next' opener' from' (fs ++ (f ∷ []))
  unfolding Chained behind
  chain_more from from' [] h b start same c = (start (sym b), new-opener, new-end)
  chain_more from from' (e ∷ fs) h b start same c = (
    same some-tail ∙ c.0,
    openers e.closer h.0 ∙ c.1,
    more old-end e.closer fs h.0 h.1 b c.2,
  )
    where
      old-end : (y : ℕ) → suc y ≡ tail → next y ≡ 0
      old-end y q =
          let last : y ≡ behind (suc e.closer) fs - 1 = omega (arith, q, b) in
          ap next last ∙ chain-ends next opener e.closer fs c.2

      some-tail : tail ≡ 0 → ⊥
      some-tail z = positive (last_meets (λ y. Unit {0}) e.closer fs tt (units fs)).0
        where
          units : (fs : List Firing) → All (λ (f : Firing). Unit {0}) fs
          units [] = tt
          units (f ∷ fs) = (tt, units fs)

          positive : 0 < behind (suc e.closer) fs → ⊥
          positive p = omega (arith, p, b, z)

-- ------------------------------------------------------------ what the noting of a firing stores

-- Next links, openers, heads and tails stand from a place on, one after another.
module _ (at g n w opener closer : ℕ) (was : List ℕ) where
  abbrev tail : ℕ
  tail = get_or was (at + 2 * g + n + w) 0

  abbrev link : ℕ
  link = cond (eqb tail 0) (at + 2 * g + w) (at + (tail - 1))

  abbrev linked : List ℕ
  linked = set was link (suc closer)

  abbrev tailed : List ℕ
  tailed = set linked (at + 2 * g + n + w) (suc closer)

  abbrev ended : List ℕ
  ended = set tailed (at + closer) 0

  abbrev noted : List ℕ
  noted = set ended (at + g + closer) opener

  -- What each of the four parts then holds.
  pub record Stored (now : List ℕ) : Type 0 where
    pub within : Within at (2 * g + 2 * n) was now
    pub head-leads : tail ≡ 0 → get_or now (at + 2 * g + w) 0 ≡ suc closer
    pub head-stays : (v : ℕ) → v < n → (tail ≡ 0 → v ≡ w → ⊥) → get_or now (at + 2 * g + v) 0 ≡ get_or was (at + 2 * g + v) 0
    pub tail-new : get_or now (at + 2 * g + n + w) 0 ≡ suc closer
    pub tail-stays : (v : ℕ) → (v ≡ w → ⊥) → get_or now (at + 2 * g + n + v) 0 ≡ get_or was (at + 2 * g + n + v) 0
    pub last-leads : (y : ℕ) → suc y ≡ tail → get_or now (at + y) 0 ≡ suc closer
    pub next-end : get_or now (at + closer) 0 ≡ 0
    pub next-stays : (y : ℕ) → y < g → (y ≡ closer → ⊥) → (suc y ≡ tail → ⊥) → get_or now (at + y) 0 ≡ get_or was (at + y) 0
    pub opener-new : get_or now (at + g + closer) 0 ≡ opener
    pub opener-stays : (y : ℕ) → y < g → (y ≡ closer → ⊥) → get_or now (at + g + y) 0 ≡ get_or was (at + g + y) 0

  by-link : (P : ℕ → Type 0) → (tail ≡ 0 → P (at + 2 * g + w)) → ((tail ≡ 0 → ⊥) → P (at + (tail - 1))) → P link
  by-link P f h = go (eqb tail 0) refl
    where
      go : (b : Bool) → eqb tail 0 ≡ b → P (cond b (at + 2 * g + w) (at + (tail - 1)))
      go true e = f (eqb-true tail 0 e)
      go false e = h (eqb-false tail 0 e)

  not-opener : (x : ℕ) → (x ≡ at + g + closer → ⊥) → get_or noted x 0 ≡ get_or ended x 0
  not-opener x = get_or-set_other ended (at + g + closer) x opener 0

  not-closer : (x : ℕ) → (x ≡ at + closer → ⊥) → get_or ended x 0 ≡ get_or tailed x 0
  not-closer x = get_or-set_other tailed (at + closer) x 0 0

  not-tail : (x : ℕ) → (x ≡ at + 2 * g + n + w → ⊥) → get_or tailed x 0 ≡ get_or linked x 0
  not-tail x = get_or-set_other linked (at + 2 * g + n + w) x (suc closer) 0

  other : (x : ℕ) → (x ≡ link → ⊥) → (x ≡ at + 2 * g + n + w → ⊥) → (x ≡ at + closer → ⊥) → (x ≡ at + g + closer → ⊥) →
      get_or noted x 0 ≡ get_or was x 0
  other x a b c d = not-opener x d ∙ not-closer x c ∙ not-tail x b ∙ get_or-set_other was link x (suc closer) 0 a

  long-linked : length linked ≡ length was
  long-linked = length-set was link (suc closer)

  long-tailed : length tailed ≡ length was
  long-tailed = length-set linked (at + 2 * g + n + w) (suc closer) ∙ long-linked

  long-ended : length ended ≡ length was
  long-ended = length-set tailed (at + closer) 0 ∙ long-tailed

  module _ (wide : w < n) (inside : closer < g) (early : tail ≤ closer) (room : at + (2 * g + 2 * n) ≤ length was) where
    link-from : at ≤ link
    link-from = by-link (λ x. at ≤ x) (λ z. omega arith) (λ z. omega arith)

    link-below : link < at + 2 * g + n
    link-below = by-link (λ x. x < at + 2 * g + n) (λ z. omega arith) (λ z. omega arith)

    leads : get_or noted link 0 ≡ suc closer
    leads =
        not-opener link (by-link (λ x. x ≡ at + g + closer → ⊥) (λ z e. omega arith) (λ z e. omega arith))
        ∙ not-closer link (by-link (λ x. x ≡ at + closer → ⊥) (λ z e. omega arith) (λ z e. z (first e)))
        ∙ not-tail link (λ e. omega (arith, e, link-below)) ∙ get_or-set_same was link (suc closer) 0 (omega (arith, link-below))
      where
        first : at + (tail - 1) ≡ at + closer → tail ≡ 0
        first e = omega (arith, e, early)

    last_of : (y : ℕ) → (tail ≡ 0 → ⊥) → at + y ≡ at + (tail - 1) → suc y ≡ tail
    last_of y z e = omega (arith, e, z)

    long : (l : List ℕ) (x : ℕ) → x < at + (2 * g + 2 * n) → length l ≡ length was → x < length l
    long l x m e = omega (arith, m, e, room)

    pub stored : Stored noted
    stored =
        record {
          within =
              within-then at (2 * g + 2 * n) was linked noted
              (within-set at (2 * g + 2 * n) was link (suc closer) link-from (omega (arith, link-below)))
              (within-then at (2 * g + 2 * n) linked tailed noted
              (within-set at (2 * g + 2 * n) linked (at + 2 * g + n + w) (suc closer) (omega arith) (omega arith))
              (within-then at (2 * g + 2 * n) tailed ended noted
              (within-set at (2 * g + 2 * n) tailed (at + closer) 0 (omega arith) (omega arith))
              (within-set at (2 * g + 2 * n) ended (at + g + closer) opener (omega arith) (omega arith))));
          head-leads =
              by-link (λ x. get_or noted x 0 ≡ suc closer → tail ≡ 0 → get_or noted (at + 2 * g + w) 0 ≡ suc closer) (λ z h e. h)
              (λ z h e. absurd (z e)) leads;
          head-stays = λ v m d. other (at + 2 * g + v)
              (by-link (λ x. at + 2 * g + v ≡ x → ⊥) (λ z e. d z (omega arith)) (λ z e. omega arith))
              (λ e. omega arith) (λ e. omega arith) (λ e. omega arith);
          tail-new = not-opener (at + 2 * g + n + w) (λ e. omega (arith, e)) ∙ not-closer (at + 2 * g + n + w) (λ e. omega (arith, e))
              ∙ get_or-set_same linked (at + 2 * g + n + w) (suc closer) 0 (long linked (at + 2 * g + n + w) (omega arith) long-linked);
          tail-stays = λ v d. other (at + 2 * g + n + v) (λ e. omega (arith, e, link-below)) (λ e. d (omega arith)) (λ e. omega arith)
              (λ e. omega arith);
          last-leads =
              by-link (λ x. get_or noted x 0 ≡ suc closer → (y : ℕ) → suc y ≡ tail → get_or noted (at + y) 0 ≡ suc closer)
              (λ z h y e. absurd (omega arith))
              (λ z h y e. let same : at + y ≡ at + (tail - 1) = omega (arith, e) in ap (λ (x : ℕ). get_or noted x 0) same ∙ h) leads;
          next-end = not-opener (at + closer) (λ e. omega (arith, e))
              ∙ get_or-set_same tailed (at + closer) 0 0 (long tailed (at + closer) (omega arith) long-tailed);
          next-stays = λ y m c t. other (at + y) (by-link (λ x. at + y ≡ x → ⊥) (λ z e. omega arith) (λ z e. t (last_of y z e)))
              (λ e. omega arith) (λ e. c (omega arith)) (λ e. omega arith);
          opener-new = get_or-set_same ended (at + g + closer) opener 0 (long ended (at + g + closer) (omega arith) long-ended);
          opener-stays = λ y m c. other (at + g + y) (by-link (λ x. at + g + y ≡ x → ⊥) (λ z e. omega arith) (λ z e. omega arith))
              (λ e. omega arith) (λ e. omega arith) (λ e. c (omega arith));
        }

-- The place of a wire's tail, from where the spare words start.
pub tail-inside : (k : Extent) (at : ℕ) (was : List ℕ) → at ≡ spare_at k → spare_at k + notes_for k ≤ length was → (w : ℕ) → w < k.wires →
    at + 2 * k.gates + k.wires + w < length was
tail-inside k at was is room w wide = omega arith
