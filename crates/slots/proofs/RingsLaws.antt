-- All wires at once: what a change at one wire's nodes does to the links of every wire.
use mathlib.Core.Path.{◌≡◌, refl, sym, subst, ◌∙◌}
use mathlib.Core.Bool.{Bool, true, false}
use mathlib.Core.Option.{Option, some, none}
use Prim.Native.Nat.{ℕ, suc, ◌+◌, ◌*◌, ◌-◌, ◌≤◌, ◌<◌}
use native.Mathlib.Omega.{arith}
use lib.Dec.{eqb}
use borrow.Author.Tests.{eqb-true, eqb-false}
use Rattle.gates.specs.declared.Gate.{Gate}
use Rattle.links.specs.Seek.{latest, earliest, node_at, LinkedBack, LinkedOn}
use Rattle.links.proofs.SeekLaws.{IsLatest, IsEarliest, latest-is, earliest-is, without}
use Rattle.links.proofs.RingLaws.{Apart, Passed, back-passed, on-passed, last-passed, first-passed}
use Rattle.links.proofs.StackLaws.{latest-named, earliest-named, back-carried, on-carried}
use Rattle.slots.proofs.WireLaws.{node, end, size, Touching, node-below, node-wire, apart}

module _ (gates : ℕ → Gate) (slots wires : ℕ) where
  -- What is said of one wire: each gate is linked, and its end.
  abbrev pub EachBack : (ℕ → ℕ) → (ℕ → ℕ → Bool) → ℕ → Type 0
  EachBack prev on w = LinkedBack prev (node gates slots wires w) (end gates slots wires w) (on w) slots

  abbrev pub LastBack : (ℕ → ℕ) → (ℕ → ℕ → Bool) → ℕ → Type 0
  LastBack prev on w =
      prev (end gates slots wires w) ≡ node_at (node gates slots wires w) (end gates slots wires w) (latest (on w) slots)

  abbrev pub EachOn : (ℕ → ℕ) → (ℕ → ℕ → Bool) → ℕ → Type 0
  EachOn next on w = LinkedOn next (node gates slots wires w) (end gates slots wires w) (on w) slots

  abbrev pub FirstOn : (ℕ → ℕ) → (ℕ → ℕ → Bool) → ℕ → Type 0
  FirstOn next on w =
      next (end gates slots wires w) ≡ node_at (node gates slots wires w) (end gates slots wires w) (earliest (on w) 0 slots)

  pub record Back (prev : ℕ → ℕ) (on : ℕ → ℕ → Bool) : Type 0 where
    pub each : (w : ℕ) → w < wires → EachBack prev on w
    pub last : (w : ℕ) → w < wires → LastBack prev on w

  pub record Ahead (next : ℕ → ℕ) (on : ℕ → ℕ → Bool) : Type 0 where
    pub each : (w : ℕ) → w < wires → EachOn next on w
    pub first : (w : ℕ) → w < wires → FirstOn next on w

  -- ------------------------------------------------------------ nodes of other wires

  -- The node of a slot on one wire, or that wire's end, is none of another wire's.
  module _ (on : ℕ → ℕ → Bool) (touching : Touching gates slots wires on) (v w : ℕ) (differ : w ≡ v → ⊥) where
    pub not-node : (i j : ℕ) → i < slots → j < slots → on w i ≡ true → on v j ≡ true →
        node gates slots wires w i ≡ node gates slots wires v j → ⊥
    not-node i j a b t u e = differ (node-wire gates slots wires w v i j (touching w i a t) (touching v j b u) e)

    pub not_end : (i : ℕ) → i < slots → on w i ≡ true → node gates slots wires w i ≡ end gates slots wires v → ⊥
    not_end i a t e = go (node-below gates slots wires w i a (touching w i a t))
      where
        go : node gates slots wires w i < 3 * slots → ⊥
        go l = omega (arith, l, e)

    pub ends-differ : end gates slots wires w ≡ end gates slots wires v → ⊥
    ends-differ e = differ (omega (arith, e))

    pub end-not-node : (j : ℕ) → j < slots → on v j ≡ true → end gates slots wires w ≡ node gates slots wires v j → ⊥
    end-not-node j b u e = go (node-below gates slots wires v j b (touching v j b u))
      where
        go : node gates slots wires v j < 3 * slots → ⊥
        go l = omega (arith, l, e)

    -- None of what a question on the other wire can answer.
    node-not-at : (r : Option ℕ) → ((j : ℕ) → r ≡ some j → (j < slots) × (on v j ≡ true)) → (i : ℕ) → i < slots → on w i ≡ true →
        node gates slots wires w i ≡ node_at (node gates slots wires v) (end gates slots wires v) r → ⊥
    node-not-at none k i a t e = not_end i a t e
    node-not-at (some j) k i a t e = not-node i j a (k j refl).0 t (k j refl).1 e

    end-not-at : (r : Option ℕ) → ((j : ℕ) → r ≡ some j → (j < slots) × (on v j ≡ true)) →
        end gates slots wires w ≡ node_at (node gates slots wires v) (end gates slots wires v) r → ⊥
    end-not-at none k e = ends-differ e
    end-not-at (some j) k e = end-not-node j (k j refl).0 (k j refl).1 e

  from-latest : (on : ℕ → Bool) (i : ℕ) → i ≤ slots → (j : ℕ) → latest on i ≡ some j → (j < slots) × (on j ≡ true)
  from-latest on i m j e = let h = subst (λ (r : Option ℕ). IsLatest on i r) e (latest-is on i) in (omega (arith, h.0), h.1)

  from-earliest : (on : ℕ → Bool) (i count : ℕ) → i + count ≡ slots → (j : ℕ) → earliest on i count ≡ some j →
      (j < slots) × (on j ≡ true)
  from-earliest on i count q j e =
      let h = subst (λ (r : Option ℕ). IsEarliest on i slots r) e (earliest-is on i count slots q) in (h.1, h.2)

  -- ------------------------------------------------------------ links that are carried over

  -- By cases: the wire in question, or another.
  pub by-wire : (P : ℕ → Type 0) (v w : ℕ) → (w ≡ v → P v) → ((w ≡ v → ⊥) → P w) → P w
  by-wire P v w f g = go (eqb w v) refl
    where
      go : (b : Bool) → eqb w v ≡ b → P w
      go true e = subst P (sym (eqb-true w v e)) (f (eqb-true w v e))
      go false e = g (eqb-false w v e)

  module _ (on on' : ℕ → ℕ → Bool) (w : ℕ) (same : (i : ℕ) → i < slots → on w i ≡ on' w i) where
    pub kept_back : (f g : ℕ → ℕ) →
        ((i : ℕ) → i < slots → on w i ≡ true → g (node gates slots wires w i) ≡ f (node gates slots wires w i)) →
        EachBack f on w → EachBack g on' w
    kept_back f g k h =
        back-carried (node gates slots wires w) (node gates slots wires w) (end gates slots wires w) (on w) (on' w) slots same (λ i m t. refl) f g k h

    pub kept_on : (f g : ℕ → ℕ) →
        ((i : ℕ) → i < slots → on w i ≡ true → g (node gates slots wires w i) ≡ f (node gates slots wires w i)) →
        EachOn f on w → EachOn g on' w
    kept_on f g k h =
        on-carried (node gates slots wires w) (node gates slots wires w) (end gates slots wires w) (on w) (on' w) slots same (λ i m t. refl) f g k h

    pub kept-last : (f g : ℕ → ℕ) → g (end gates slots wires w) ≡ f (end gates slots wires w) → LastBack f on w → LastBack g on' w
    kept-last f g k h =
        k ∙ h ∙ latest-named (node gates slots wires w) (node gates slots wires w) (end gates slots wires w) (on w) (on' w) slots same (λ i m t. refl) slots (omega arith)

    pub kept-first : (f g : ℕ → ℕ) → g (end gates slots wires w) ≡ f (end gates slots wires w) → FirstOn f on w → FirstOn g on' w
    kept-first f g k h =
        k ∙ h ∙ earliest-named (node gates slots wires w) (node gates slots wires w) (end gates slots wires w) (on w) (on' w) slots same (λ i m t. refl) 0 slots (omega arith)

  -- The same links under another name for the same test.
  pub back-same : (f : ℕ → ℕ) (on on' : ℕ → ℕ → Bool) → ((w i : ℕ) → w < wires → i < slots → on w i ≡ on' w i) → Back f on → Back f on'
  back-same f on on' same h =
      record {
        each = λ w m. kept_back on on' w (λ i k. same w i m k) f f (λ i k t. refl) (h.each w m);
        last = λ w m. kept-last on on' w (λ i k. same w i m k) f f refl (h.last w m);
      }

  pub ahead-same : (f : ℕ → ℕ) (on on' : ℕ → ℕ → Bool) → ((w i : ℕ) → w < wires → i < slots → on w i ≡ on' w i) → Ahead f on → Ahead f on'
  ahead-same f on on' same h =
      record {
        each = λ w m. kept_on on on' w (λ i k. same w i m k) f f (λ i k t. refl) (h.each w m);
        first = λ w m. kept-first on on' w (λ i k. same w i m k) f f refl (h.first w m);
      }

  -- ------------------------------------------------------------ a slot's node on one wire is passed by

  module _ (on on' : ℕ → ℕ → Bool) (touching : Touching gates slots wires on) (next prev next' prev' : ℕ → ℕ)
      (v : ℕ) (v< : v < wires) (s : ℕ) (s< : s < slots) (there : on v s ≡ true)
      (gone : (i : ℕ) → i < slots → without (on v) s i ≡ on' v i)
      (others : (w i : ℕ) → (w ≡ v → ⊥) → i < slots → on w i ≡ on' w i)
      (passed : Passed (size gates slots wires) (prev (node gates slots wires v s)) (next (node gates slots wires v s)) next prev next' prev')
      (back : Back prev on) (ahead : Ahead next on) where
    is-after : next (node gates slots wires v s)
        ≡ node_at (node gates slots wires v) (end gates slots wires v) (earliest (on v) (suc s) (slots - suc s))
    is-after = ahead.each v v< s s< there

    is-before : prev (node gates slots wires v s) ≡ node_at (node gates slots wires v) (end gates slots wires v) (latest (on v) s)
    is-before = back.each v v< s s< there

    a : Apart (node gates slots wires v) (end gates slots wires v) (size gates slots wires) (on v) slots
    a = apart gates slots wires on touching v v<

    after-ok : (j : ℕ) → earliest (on v) (suc s) (slots - suc s) ≡ some j → (j < slots) × (on v j ≡ true)
    after-ok = from-earliest (on v) (suc s) (slots - suc s) (omega arith)

    before-ok : (j : ℕ) → latest (on v) s ≡ some j → (j < slots) × (on v j ≡ true)
    before-ok = from-latest (on v) s (omega arith)

    prev-kept : (w i : ℕ) → (w ≡ v → ⊥) → w < wires → i < slots → on w i ≡ true →
        prev' (node gates slots wires w i) ≡ prev (node gates slots wires w i)
    prev-kept w i d m k t =
        passed.prev-other (node gates slots wires w i) ((apart gates slots wires on touching w m).small i k t)
        (λ e. node-not-at on touching v w d (earliest (on v) (suc s) (slots - suc s)) after-ok i k t (e ∙ is-after))

    next-kept : (w i : ℕ) → (w ≡ v → ⊥) → w < wires → i < slots → on w i ≡ true →
        next' (node gates slots wires w i) ≡ next (node gates slots wires w i)
    next-kept w i d m k t =
        passed.next-other (node gates slots wires w i) ((apart gates slots wires on touching w m).small i k t)
        (λ e. node-not-at on touching v w d (latest (on v) s) before-ok i k t (e ∙ is-before))

    last-kept : (w : ℕ) → (w ≡ v → ⊥) → w < wires → prev' (end gates slots wires w) ≡ prev (end gates slots wires w)
    last-kept w d m =
        passed.prev-other (end gates slots wires w) (apart gates slots wires on touching w m).low
        (λ e. end-not-at on touching v w d (earliest (on v) (suc s) (slots - suc s)) after-ok (e ∙ is-after))

    first-kept : (w : ℕ) → (w ≡ v → ⊥) → w < wires → next' (end gates slots wires w) ≡ next (end gates slots wires w)
    first-kept w d m =
        passed.next-other (end gates slots wires w) (apart gates slots wires on touching w m).low
        (λ e. end-not-at on touching v w d (latest (on v) s) before-ok (e ∙ is-before))

    pub passed-back : Back prev' on'
    passed-back =
        record {
          each = λ w m. by-wire (EachBack prev' on') v w
              (λ e. kept_back (λ x. without (on v) s) on' v gone prev' prev' (λ i k t. refl)
              (back-passed (node gates slots wires v) (end gates slots wires v) (size gates slots wires) (on v) slots a next prev next' prev' s s< there (back.each v v<) (ahead.each v v<) passed))
              (λ d. kept_back on on' w (λ i k. others w i d k) prev prev' (λ i k t. prev-kept w i d m k t) (back.each w m));
          last = λ w m. by-wire (LastBack prev' on') v w
              (λ e. kept-last (λ x. without (on v) s) on' v gone prev' prev' refl
              (last-passed (node gates slots wires v) (end gates slots wires v) (size gates slots wires) (on v) slots a next prev next' prev' s s< there (back.each v v<) (ahead.each v v<) passed (back.last v v<)))
              (λ d. kept-last on on' w (λ i k. others w i d k) prev prev' (last-kept w d m) (back.last w m));
        }

    pub passed-ahead : Ahead next' on'
    passed-ahead =
        record {
          each = λ w m. by-wire (EachOn next' on') v w
              (λ e. kept_on (λ x. without (on v) s) on' v gone next' next' (λ i k t. refl)
              (on-passed (node gates slots wires v) (end gates slots wires v) (size gates slots wires) (on v) slots a next prev next' prev' s s< there (back.each v v<) (ahead.each v v<) passed))
              (λ d. kept_on on on' w (λ i k. others w i d k) next next' (λ i k t. next-kept w i d m k t) (ahead.each w m));
          first = λ w m. by-wire (FirstOn next' on') v w
              (λ e. kept-first (λ x. without (on v) s) on' v gone next' next' refl
              (first-passed (node gates slots wires v) (end gates slots wires v) (size gates slots wires) (on v) slots a next prev next' prev' s s< there (back.each v v<) (ahead.each v v<) passed (ahead.first v v<)))
              (λ d. kept-first on on' w (λ i k. others w i d k) next next' (first-kept w d m) (ahead.first w m));
        }
