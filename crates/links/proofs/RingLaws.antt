-- Rings: a node that is passed by, and a node put in at an end.
use mathlib.Core.Path.{◌≡◌, refl, sym, ap, subst, ◌∙◌}
use mathlib.Core.Bool.{Bool, true, false, false≢true}
use mathlib.Core.Option.{Option, some, none}
use Prim.Native.Nat.{ℕ, suc, ◌+◌, ◌-◌, ◌≤◌, ◌<◌}
use native.Mathlib.Omega.{arith}
use lib.Dec.{eqb}
use borrow.Author.Tests.{eqb-true, eqb-false}
use Rattle.links.specs.Seek.{latest, earliest, node_at, LinkedBack, LinkedOn}
use Rattle.links.proofs.SeekLaws.{IsLatest, IsEarliest, latest-is, earliest-is, without, without-there, latest-without, latest-without-other, earliest-without, earliest-without-other, beside_back, beside-on, last-has-none, none-is-last, first-has-none, none-is-first}

-- Slots that meet a test have different nodes, none of them the end, all below a size.
pub record Apart (node : ℕ → ℕ) (end size : ℕ) (on : ℕ → Bool) (slots : ℕ) : Type 0 where
  pub nodes : (i j : ℕ) → i < slots → j < slots → on i ≡ true → on j ≡ true → node i ≡ node j → i ≡ j
  pub ends : (i : ℕ) → i < slots → on i ≡ true → node i ≡ end → ⊥
  pub small : (i : ℕ) → i < slots → on i ≡ true → node i < size
  pub low : end < size

-- Two nodes are joined, past what stood between them.
pub record Passed (size p q : ℕ) (next prev next' prev' : ℕ → ℕ) : Type 0 where
  pub ahead : next' p ≡ q
  pub back : prev' q ≡ p
  pub next-other : (x : ℕ) → x < size → (x ≡ p → ⊥) → next' x ≡ next x
  pub prev-other : (x : ℕ) → x < size → (x ≡ q → ⊥) → prev' x ≡ prev x

-- By cases on whether an answer is a given slot.
pub is-or-not : {P : Type 0} (r : Option ℕ) (s : ℕ) → (r ≡ some s → P) → ((r ≡ some s → ⊥) → P) → P
is-or-not none s f g = g (λ e. false≢true (told e))
  where
    told : none ≡ some s → false ≡ true
    told e = cc
is-or-not {P} (some j) s f g = go (eqb j s) refl
  where
    go : (b : Bool) → eqb j s ≡ b → P
    go true e = f (ap some (eqb-true j s e))
    go false d = g (λ e. eqb-false j s d (some_one e))
      where
        some_one : some j ≡ some s → j ≡ s
        some_one e = cc

module _ (node : ℕ → ℕ) (end size : ℕ) (on : ℕ → Bool) (slots : ℕ) (apart : Apart node end size on slots) where
  -- Where the node of an answer is another slot's node, or the end.
  same-node : (i : ℕ) (r : Option ℕ) → i < slots → on i ≡ true → ((j : ℕ) → r ≡ some j → (j < slots) × (on j ≡ true)) →
      node i ≡ node_at node end r → r ≡ some i
  same-node i none m t k e = absurd (apart.ends i m t e)
  same-node i (some j) m t k e = ap some (sym (apart.nodes i j m (k j refl).0 t (k j refl).1 e))

  same_end : (r : Option ℕ) → ((j : ℕ) → r ≡ some j → (j < slots) × (on j ≡ true)) → end ≡ node_at node end r → r ≡ none
  same_end none k e = refl
  same_end (some j) k e = absurd (apart.ends j (k j refl).0 (k j refl).1 (sym e))

  from-latest : (i : ℕ) → i ≤ slots → (j : ℕ) → latest on i ≡ some j → (j < slots) × (on j ≡ true)
  from-latest i m j e = let h = subst (λ (r : Option ℕ). IsLatest on i r) e (latest-is on i) in (omega (arith, h.0), h.1)

  from-earliest : (i count : ℕ) → i + count ≡ slots → (j : ℕ) → earliest on i count ≡ some j → (j < slots) × (on j ≡ true)
  from-earliest i count q j e =
      let h = subst (λ (r : Option ℕ). IsEarliest on i slots r) e (earliest-is on i count slots q) in (h.1, h.2)

  pub node-small : (r : Option ℕ) → ((j : ℕ) → r ≡ some j → (j < slots) × (on j ≡ true)) → node_at node end r < size
  node-small none k = apart.low
  node-small (some j) k = apart.small j (k j refl).0 (k j refl).1

  pub latest-small : (i : ℕ) → i ≤ slots → node_at node end (latest on i) < size
  latest-small i m = node-small (latest on i) (from-latest i m)

  pub earliest-small : (i count : ℕ) → i + count ≡ slots → node_at node end (earliest on i count) < size
  earliest-small i count q = node-small (earliest on i count) (from-earliest i count q)

  -- ------------------------------------------------------------ a slot's node is passed by

  module _ (next prev next' prev' : ℕ → ℕ) (s : ℕ) (s< : s < slots) (there : on s ≡ true)
      (back : LinkedBack prev node end on slots) (ahead : LinkedOn next node end on slots)
      (passed : Passed size (prev (node s)) (next (node s)) next prev next' prev') where
    abbrev after : Option ℕ
    after = earliest on (suc s) (slots - suc s)

    is-after : next (node s) ≡ node_at node end after
    is-after = ahead s s< there

    is-before : prev (node s) ≡ node_at node end (latest on s)
    is-before = back s s< there

    pub back-passed : LinkedBack prev' node end (without on s) slots
    back-passed i m t = is-or-not (latest on i) s was-it (λ d. was-other d)
      where
        here : on i ≡ true
        here = (without-there on s i t).0

        was-it : latest on i ≡ some s → prev' (node i) ≡ node_at node end (latest (without on s) i)
        was-it e =
            ap prev' (sym (is-after ∙ ap (node_at node end) (beside_back on s i slots m here e))) ∙ passed.back ∙ is-before
            ∙ ap (node_at node end) (sym (latest-without on s i e))

        was-other : (latest on i ≡ some s → ⊥) → prev' (node i) ≡ node_at node end (latest (without on s) i)
        was-other d =
            passed.prev-other (node i) (apart.small i m here) (λ e. d (beside-on on s i slots s< there (same-node i after m here (from-earliest (suc s) (slots - suc s) (omega arith)) (e ∙ is-after))))
            ∙ back i m here ∙ ap (node_at node end) (sym (latest-without-other on s i d))

    pub on-passed : LinkedOn next' node end (without on s) slots
    on-passed i m t = is-or-not (earliest on (suc i) (slots - suc i)) s was-it (λ d. was-other d)
      where
        here : on i ≡ true
        here = (without-there on s i t).0

        was-it : earliest on (suc i) (slots - suc i) ≡ some s →
            next' (node i) ≡ node_at node end (earliest (without on s) (suc i) (slots - suc i))
        was-it e =
            ap next' (sym (is-before ∙ ap (node_at node end) (beside-on on i s slots m here e))) ∙ passed.ahead ∙ is-after
            ∙ ap (node_at node end) (sym (earliest-without on s (suc i) (slots - suc i) slots (omega arith) s< e))

        was-other : (earliest on (suc i) (slots - suc i) ≡ some s → ⊥) →
            next' (node i) ≡ node_at node end (earliest (without on s) (suc i) (slots - suc i))
        was-other d =
            passed.next-other (node i) (apart.small i m here) (λ e. d (beside_back on i s slots s< there (same-node i (latest on s) m here (from-latest s (omega arith)) (e ∙ is-before))))
            ∙ ahead i m here ∙ ap (node_at node end) (sym (earliest-without-other on s (suc i) (slots - suc i) d))

    -- The ends of the ring: its latest and its earliest.
    pub last-passed : prev end ≡ node_at node end (latest on slots) → prev' end ≡ node_at node end (latest (without on s) slots)
    last-passed h = is-or-not (latest on slots) s was-it (λ d. was-other d)
      where
        was-it : latest on slots ≡ some s → prev' end ≡ node_at node end (latest (without on s) slots)
        was-it e =
            ap prev' (sym (is-after ∙ ap (node_at node end) (last-has-none on s slots e))) ∙ passed.back ∙ is-before
            ∙ ap (node_at node end) (sym (latest-without on s slots e))

        was-other : (latest on slots ≡ some s → ⊥) → prev' end ≡ node_at node end (latest (without on s) slots)
        was-other d =
            passed.prev-other end apart.low (λ e. d (none-is-last on s slots s< there (same_end after (from-earliest (suc s) (slots - suc s) (omega arith)) (e ∙ is-after))))
            ∙ h ∙ ap (node_at node end) (sym (latest-without-other on s slots d))

    pub first-passed : next end ≡ node_at node end (earliest on 0 slots) → next' end ≡ node_at node end (earliest (without on s) 0 slots)
    first-passed h = is-or-not (earliest on 0 slots) s was-it (λ d. was-other d)
      where
        was-it : earliest on 0 slots ≡ some s → next' end ≡ node_at node end (earliest (without on s) 0 slots)
        was-it e =
            ap next' (sym (is-before ∙ ap (node_at node end) (first-has-none on s slots e))) ∙ passed.ahead ∙ is-after
            ∙ ap (node_at node end) (sym (earliest-without on s 0 slots slots (omega arith) s< e))

        was-other : (earliest on 0 slots ≡ some s → ⊥) → next' end ≡ node_at node end (earliest (without on s) 0 slots)
        was-other d =
            passed.next-other end apart.low (λ e. d (none-is-first on s slots s< there (same_end (latest on s) (from-latest s (omega arith)) (e ∙ is-before))))
            ∙ h ∙ ap (node_at node end) (sym (earliest-without-other on s 0 slots d))
