-- Links that are built: a slot put on as the latest, the latest taken off, links forward filled in from the last slot down.
use mathlib.Core.Path.{◌≡◌, refl, sym, ap, subst, ◌∙◌}
use mathlib.Core.Bool.{Bool, true, false, cond, false≢true}
use mathlib.Core.Option.{Option, some, none}
use Prim.Native.Nat.{ℕ, suc, ◌+◌, ◌-◌, ◌≤◌, ◌<◌}
use native.Mathlib.Omega.{arith}
use lib.Dec.{eqb}
use borrow.Author.Tests.{eqb-true, eqb-false}
use Rattle.links.specs.Seek.{latest, earliest, node_at, LinkedBack, LinkedOn}
use Rattle.links.proofs.SeekLaws.{IsLatest, IsEarliest, latest-is, earliest-is, latest-one, latest-same, earliest-same, earliest-one, without, without-there, latest-without, latest-without-other, parted}
use Rattle.links.proofs.RingLaws.{Apart}

-- ------------------------------------------------------------ other names for the same

-- Nodes that agree on the slots that meet a test.
same_at : (node node' : ℕ → ℕ) (end : ℕ) (r : Option ℕ) → ((j : ℕ) → r ≡ some j → node j ≡ node' j) →
    node_at node end r ≡ node_at node' end r
same_at node node' end none h = refl
same_at node node' end (some j) h = h j refl

module _ (node node' : ℕ → ℕ) (end : ℕ) (on on' : ℕ → Bool) (slots : ℕ)
    (tests : (i : ℕ) → i < slots → on i ≡ on' i) (nodes : (i : ℕ) → i < slots → on i ≡ true → node i ≡ node' i) where
  pub latest-named : (i : ℕ) → i ≤ slots → node_at node end (latest on i) ≡ node_at node' end (latest on' i)
  latest-named i m =
      same_at node node' end (latest on i)
      (λ j e. let h = subst (λ (r : Option ℕ). IsLatest on i r) e (latest-is on i) in nodes j (omega (arith, h.0)) h.1)
      ∙ ap (node_at node' end) (latest-same on on' i (λ l k. tests l (omega arith)))

  pub earliest-named : (i count : ℕ) → i + count ≡ slots →
      node_at node end (earliest on i count) ≡ node_at node' end (earliest on' i count)
  earliest-named i count q =
      same_at node node' end (earliest on i count)
      (λ j e. let h = subst (λ (r : Option ℕ). IsEarliest on i slots r) e (earliest-is on i count slots q) in nodes j h.1 h.2)
      ∙ ap (node_at node' end) (earliest-same on on' i count slots q (λ l k m. tests l m))

  -- Links that agree at the nodes in question.
  pub back-carried : (prev prev' : ℕ → ℕ) → ((i : ℕ) → i < slots → on i ≡ true → prev' (node' i) ≡ prev (node i)) →
      LinkedBack prev node end on slots → LinkedBack prev' node' end on' slots
  back-carried prev prev' same h i m t =
      let here = tests i m ∙ t in same i m here ∙ h i m here ∙ latest-named i (omega arith)

  pub on-carried : (next next' : ℕ → ℕ) → ((i : ℕ) → i < slots → on i ≡ true → next' (node' i) ≡ next (node i)) →
      LinkedOn next node end on slots → LinkedOn next' node' end on' slots
  on-carried next next' same h i m t =
      let here = tests i m ∙ t in same i m here ∙ h i m here ∙ earliest-named (suc i) (slots - suc i) (omega arith)

  pub apart-carried : (size : ℕ) → Apart node end size on slots → Apart node' end size on' slots
  apart-carried size a =
      record {
        nodes = λ i j m k t u e. a.nodes i j m k (tests i m ∙ t) (tests j k ∙ u) (nodes i m (tests i m ∙ t) ∙ e ∙ sym (nodes j k (tests j k ∙ u)));
        ends = λ i m t e. a.ends i m (tests i m ∙ t) (nodes i m (tests i m ∙ t) ∙ e);
        small = λ i m t. subst (λ (x : ℕ). x < size) (nodes i m (tests i m ∙ t)) (a.small i m (tests i m ∙ t));
        low = a.low;
      }

module _ (node : ℕ → ℕ) (end size : ℕ) (slots : ℕ) where
  -- ------------------------------------------------------------ a slot is put on

  module _ (on on⁺ : ℕ → Bool) (prev prev' : ℕ → ℕ) (t : ℕ) (t< : t < slots)
      (apart : Apart node end size on⁺ slots)
      (top : (i : ℕ) → i < slots → on i ≡ true → i < t) (there : on⁺ t ≡ true) (same : (i : ℕ) → (i ≡ t → ⊥) → on⁺ i ≡ on i)
      (cell : prev' (node t) ≡ prev end)
      (other : (x : ℕ) → x < size → (x ≡ node t → ⊥) → (x ≡ end → ⊥) → prev' x ≡ prev x) where
    off : (l : ℕ) → t ≤ l → l < slots → on l ≡ false
    off l m k = go (on l) refl
      where
        go : (b : Bool) → on l ≡ b → b ≡ false
        go true e = absurd (below (top l k e))
          where
            below : l < t → ⊥
            below b = omega arith
        go false e = refl

    -- Nothing from the new slot on was there before.
    so_far : latest on slots ≡ latest on t
    so_far = latest-one on slots (latest on t) (go (latest on t) (latest-is on t))
      where
        go : (r : Option ℕ) → IsLatest on t r → IsLatest on slots r
        go none h = λ l m. parted l t (λ a. h l a) (λ a. off l a m)
        go (some j) h = (omega (arith, h.0), h.1, λ l m k. parted l t (λ a. h.2 l m a) (λ a. off l a k))

    lower : (i : ℕ) → i ≤ t → latest on i ≡ latest on⁺ i
    lower i m = latest-same on on⁺ i (λ l k. sym (same l (λ e. omega (arith, e))))

    pub back-put : prev end ≡ node_at node end (latest on slots) → LinkedBack prev node end on slots →
        LinkedBack prev' node end on⁺ slots
    back-put last back i m u = go (eqb i t) refl
      where
        go : (b : Bool) → eqb i t ≡ b → prev' (node i) ≡ node_at node end (latest on⁺ i)
        go true e =
            ap (λ (x : ℕ). prev' (node x)) (eqb-true i t e) ∙ cell ∙ last
            ∙ ap (node_at node end) (so_far ∙ lower t (omega arith) ∙ ap (latest on⁺) (sym (eqb-true i t e)))
        go false d =
            let was = sym (same i (eqb-false i t d)) ∙ u in
            other (node i) (apart.small i m u) (λ e. eqb-false i t d (apart.nodes i t m t< u there e)) (apart.ends i m u)
            ∙ back i m was ∙ ap (node_at node end) (lower i (omega (arith, top i m was)))

    pub last-put : latest on⁺ slots ≡ some t
    last-put =
        latest-one on⁺ slots (some t) (t<, there, λ l m k. same l (λ e. omega (arith, e)) ∙ off l (omega arith) k)

  -- ------------------------------------------------------------ the latest is taken off

  module _ (on : ℕ → Bool) (prev prev' : ℕ → ℕ) (s : ℕ) (apart : Apart node end size on slots)
      (last : latest on slots ≡ some s) (other : (x : ℕ) → x < size → (x ≡ end → ⊥) → prev' x ≡ prev x) where
    pub back-off : LinkedBack prev node end on slots → LinkedBack prev' node end (without on s) slots
    back-off back i m t =
        let here = (without-there on s i t).0 in
        other (node i) (apart.small i m here) (apart.ends i m here) ∙ back i m here
        ∙ ap (node_at node end) (sym (latest-without-other on s i (λ e. not-below here e)))
      where
        is : IsLatest on slots (some s)
        is = subst (λ (r : Option ℕ). IsLatest on slots r) last (latest-is on slots)

        -- A slot above the latest does not meet the test.
        not-below : on i ≡ true → latest on i ≡ some s → ⊥
        not-below here e =
            let h = subst (λ (r : Option ℕ). IsLatest on i r) e (latest-is on i) in
            false≢true (sym (is.2 i h.0 m) ∙ here)

    pub last_off : prev' end ≡ node_at node end (latest on s) → prev' end ≡ node_at node end (latest (without on s) slots)
    last_off h = h ∙ ap (node_at node end) (sym (latest-without on s slots last))

  -- ------------------------------------------------------------ links forward, from the last slot down

  -- Filled in from a slot on.
  abbrev pub FilledFrom : (ℕ → Bool) → (ℕ → ℕ) → ℕ → Type 0
  FilledFrom on next from =
      (i : ℕ) → from ≤ i → i < slots → on i ≡ true → next (node i) ≡ node_at node end (earliest on (suc i) (slots - suc i))

  abbrev pub FirstFrom : (ℕ → Bool) → (ℕ → ℕ) → ℕ → Type 0
  FirstFrom on next from = next end ≡ node_at node end (earliest on from (slots - from))

  module _ (on : ℕ → Bool) (next next' : ℕ → ℕ) (u : ℕ) (u< : u < slots) where
    from-here : (b : Bool) → on u ≡ b → earliest on u (slots - u) ≡ cond b (some u) (earliest on (suc u) (slots - suc u))
    from-here true e =
        earliest-one on u (slots - u) slots (some u) (omega arith) (omega arith, u<, e, λ l m k. absurd (omega arith))
    from-here false e =
        earliest-one on u (slots - u) slots (earliest on (suc u) (slots - suc u)) (omega arith)
        (go (earliest on (suc u) (slots - suc u)) (earliest-is on (suc u) (slots - suc u) slots (omega arith)))
      where
        miss : (l : ℕ) → u ≤ l → l < suc u → on l ≡ false
        miss l m k = subst (λ (x : ℕ). on x ≡ false) (omega arith) e

        go : (r : Option ℕ) → IsEarliest on (suc u) slots r → IsEarliest on u slots r
        go none h = λ l m k. parted l (suc u) (λ a. miss l m a) (λ a. h l a k)
        go (some j) h = (omega (arith, h.0), h.1, h.2, λ l m k. parted l (suc u) (λ a. miss l m a) (λ a. h.3 l a k))

    -- A slot that does not meet the test is left out.
    pub fill-past : on u ≡ false → FilledFrom on next (suc u) → FilledFrom on next u
    fill-past e h i m k t = go (eqb i u) refl
      where
        go : (b : Bool) → eqb i u ≡ b → next (node i) ≡ node_at node end (earliest on (suc i) (slots - suc i))
        go true q = absurd (false≢true (sym e ∙ ap on (sym (eqb-true i u q)) ∙ t))
        go false d = h i (omega (arith, eqb-false i u d)) k t

    pub first_past : on u ≡ false → FirstFrom on next (suc u) → FirstFrom on next u
    first_past e h = h ∙ ap (node_at node end) (sym (from-here false e))

    -- One that does is put in front.
    pub fill-put : Apart node end size on slots → on u ≡ true → next' (node u) ≡ next end →
        ((x : ℕ) → x < size → (x ≡ node u → ⊥) → (x ≡ end → ⊥) → next' x ≡ next x) →
        FirstFrom on next (suc u) → FilledFrom on next (suc u) → FilledFrom on next' u
    fill-put apart e cell other first h i m k t = go (eqb i u) refl
      where
        go : (b : Bool) → eqb i u ≡ b → next' (node i) ≡ node_at node end (earliest on (suc i) (slots - suc i))
        go true q =
            ap (λ (x : ℕ). next' (node x)) (eqb-true i u q) ∙ cell ∙ first
            ∙ ap (λ (x : ℕ). node_at node end (earliest on (suc x) (slots - suc x))) (sym (eqb-true i u q))
        go false d =
            other (node i) (apart.small i k t) (λ q. eqb-false i u d (apart.nodes i u k u< t e q)) (apart.ends i k t)
            ∙ h i (omega (arith, eqb-false i u d)) k t

    pub first-put : on u ≡ true → next' end ≡ node u → FirstFrom on next' u
    first-put e h = h ∙ ap (node_at node end) (sym (from-here true e))
