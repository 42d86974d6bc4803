-- Keys: what the code makes of a record's words, how small keys are, and that pairs are equal exactly where their keys are.
use mathlib.Core.Path.{◌≡◌, refl, sym, ap, subst, ◌∙◌}
use mathlib.Core.Bool.{Bool, true, false, cond, ◌&&◌, false≢true}
use mathlib.Core.List.{List, [], ◌∷◌, ◌++◌}
use Prim.Native.Nat.{ℕ, ◌+◌, ◌*◌, ◌-◌, ◌%◌, ◌≤◌, ◌<◌}
use native.Mathlib.Nat.{add-zero, zero-mul, one-mul, mul-le-mul_right}
use native.Mathlib.Omega.{arith}
use lib.Dec.{eqb, ltb, leb}
use borrow.Author.Tests.{eqb-true, eqb-false, eq-eqb, ne_eqb, leb-true, leb-false, lt-ltb, le-ltb}
use Rattle.gates.specs.declared.Gate.{Gate}
use Rattle.gates.specs.declared.Gate.TheVariants.{X, H, S, Sdg, Z, T, Tdg, Cnot, Cz, Ccx, Ccz, Measure, Reset, Y, Sx, Swap, Cy, Ch, Cswap}
use Rattle.gates.specs.declared.records.Record.{Record}
use Rattle.gates.specs.Kinds.{shapes, shape_of, wires_in}
use Rattle.gates.specs.Gates.{wires_of, has, twice, All}
use Rattle.gates.specs.Records.{record_of, kind_of, operand_words}
use Rattle.gates.proofs.Joined.{and_left, and_right, neither}
use Rattle.rules.specs.Equal.{inserted, sorted, ordered, canonical, equal, is_pair}
use Rattle.rules.proofs.EqualLaws.{sorted-up, sorted-down, inserted-first, inserted-second, inserted-third, sorted-has, equal-parts, is-equal, together}
use Rattle.partners.specs.declared.Keys.{Keys}
use Rattle.partners.specs.Pairs.{raised, keys, keys_from, keys_of}

-- ------------------------------------------------------------ words in order

-- What holds of all words holds of them in order.
all_inserted : (P : ℕ → Type 0) (a : ℕ) (l : List ℕ) → P a → All P l → All P (inserted a l)
unfolding inserted
all_inserted P a [] p all = (p, tt)
all_inserted P a (b ∷ l) p all = go (leb a b) (all_inserted P a l p all.1)
  where
    go : (up : Bool) → All P (inserted a l) → All P (cond up (a ∷ b ∷ l) (b ∷ inserted a l))
    go true rest = (p, all)
    go false rest = (all.0, rest)

all-sorted : (P : ℕ → Type 0) (l : List ℕ) → All P l → All P (sorted l)
unfolding sorted
all-sorted P [] all = tt
all-sorted P (a ∷ l) all = all_inserted P a (sorted l) all.0 (all-sorted P l all.1)

-- Two or three words below n, the first below the second.
record Two (n : ℕ) (ws : List ℕ) : Type 0 where
  low : ℕ
  high : ℕ
  are : ws ≡ low ∷ high ∷ []
  up : low < high
  small : high < n

record Three (n : ℕ) (ws : List ℕ) : Type 0 where
  low : ℕ
  middle : ℕ
  high : ℕ
  are : ws ≡ low ∷ middle ∷ high ∷ []
  up : low < middle
  small : middle < n
  small_too : high < n

-- Words that differ are so once they are sorted.
two-sorted : (n a b : ℕ) → a < n → b < n → (a ≡ b → ⊥) → Two n (sorted (a ∷ b ∷ []))
two-sorted n a b p q d = go (leb a b) refl
  where
    go : (t : Bool) → leb a b ≡ t → Two n (sorted (a ∷ b ∷ []))
    go true e = record { low = a; high = b; are = sym (sorted-up a b (leb-true a b e)); up = omega (arith, leb-true a b e); small = q }
    go false e = record { low = b; high = a; are = sym (sorted-down a b (leb-false a b e)); up = leb-false a b e; small = p }

three-sorted : (n a : ℕ) (l : List ℕ) → a < n → has a l ≡ false → Two n (sorted l) → Three n (sorted (a ∷ l))
unfolding has
three-sorted n a l p d t = go (leb a t.low) refl (leb a t.high) refl
  where
    other : a ≡ t.low → ⊥
    other =
        let off : has a (t.low ∷ t.high ∷ []) ≡ false = rw t.are at (sorted-has a l ∙ d) in
        eqb-false a t.low (neither (eqb a t.low) (has a (t.high ∷ [])) off).0

    go : (s : Bool) → leb a t.low ≡ s → (u : Bool) → leb a t.high ≡ u → Three n (sorted (a ∷ l))
    go true e u f =
        record {
          low = a;
          middle = t.low;
          high = t.high;
          are = sym (inserted-first a t.low t.high l (sym t.are) (leb-true a t.low e));
          up = omega (arith, leb-true a t.low e, other);
          small = omega (arith, t.up, t.small);
          small_too = t.small;
        }
    go false e true f =
        record {
          low = t.low;
          middle = a;
          high = t.high;
          are = sym (inserted-second a t.low t.high l (sym t.are) (leb-false a t.low e) (leb-true a t.high f));
          up = leb-false a t.low e;
          small = p;
          small_too = t.small;
        }
    go false e false f =
        record {
          low = t.low;
          middle = t.high;
          high = a;
          are = sym (inserted-third a t.low t.high l (sym t.are) (leb-false a t.low e) (leb-false a t.high f));
          up = t.up;
          small = t.small;
          small_too = p;
        }

-- ------------------------------------------------------------ keys in the code

-- What an odd kind adds to the last key is at most n.
pub raise-small : (kind n : ℕ) → kind % 2 * n ≤ n
raise-small kind n = subst (λ (m : ℕ). kind % 2 * n ≤ m) (one-mul n) (mul-le-mul_right n (omega arith))

-- One of two numbers is at most their sum.
pub either-small : (one : Bool) (a b x : ℕ) → x ≡ cond one a b → x ≤ a + b
either-small true a b x e = omega (arith, e)
either-small false a b x e = omega (arith, e)

two-wires : (kind : ℕ) → 8 ≤ kind → kind < 10 → wires_in (shape_of kind) ≡ 2
unfolding shape_of shapes
two-wires kind least most = go (eqb kind 8) refl
  where
    go : (t : Bool) → eqb kind 8 ≡ t → wires_in (shape_of kind) ≡ 2
    go true e = rw (eqb-true kind 8 e)
    go false e =
        let cz : kind ≡ 9 = omega (arith, least, most, eqb-false kind 8 e) in
        rw cz

module _ (r : Record) (n : ℕ) where
  -- The keys of each kind; two or three of the words come sorted.
  keys-cnot : r.kind ≡ 8 → keys r.first 0 (r.second + r.kind % 2 * n) ≡ keys_from (raised n r.kind) (ordered r.kind (operand_words r))
  unfolding shape_of shapes ordered has
  keys-cnot e = rw (e, zero-mul n)

  keys-cz : (a b : ℕ) → r.kind ≡ 9 → a ∷ b ∷ [] ≡ sorted (r.first ∷ r.second ∷ []) →
      keys a 0 (b + r.kind % 2 * n) ≡ keys_from (raised n r.kind) (ordered r.kind (operand_words r))
  unfolding shape_of shapes ordered has
  keys-cz a b e s = rw (e, ← s, one-mul n)

  pub keys-ccx : (a b : ℕ) → r.kind ≡ 10 → a ∷ b ∷ [] ≡ sorted (r.first ∷ r.second ∷ []) →
      keys a b r.third ≡ keys_from (raised n r.kind) (ordered r.kind (operand_words r))
  unfolding shape_of shapes ordered has
  keys-ccx a b e s = rw (e, ← s, add-zero r.third)

  pub keys-ccz : (a b c : ℕ) → r.kind ≡ 11 → a ∷ b ∷ c ∷ [] ≡ sorted (r.first ∷ r.second ∷ r.third ∷ []) →
      keys a b (c + n) ≡ keys_from (raised n r.kind) (ordered r.kind (operand_words r))
  unfolding shape_of shapes ordered has
  keys-ccz a b c e s = rw (e, ← s)

  -- Two wires as the code chooses them: a cnot's as they stand, a cz's sorted.
  pub keys-two : (a b x y : ℕ) → 8 ≤ r.kind → r.kind < 10 → a ∷ b ∷ [] ≡ sorted (r.first ∷ r.second ∷ []) →
      x ≡ cond (eqb r.kind 8) r.first a → y ≡ cond (eqb r.kind 8) r.second b →
      keys x 0 (y + r.kind % 2 * n) ≡ keys_from (raised n r.kind) (ordered r.kind (operand_words r))
  keys-two a b x y least most s ex ey = rw (ex, ey) (go (eqb r.kind 8) refl)
    where
      go : (t : Bool) → eqb r.kind 8 ≡ t →
          keys (cond t r.first a) 0 (cond t r.second b + r.kind % 2 * n) ≡ keys_from (raised n r.kind) (ordered r.kind (operand_words r))
      go true e = keys-cnot (eqb-true r.kind 8 e)
      go false e = keys-cz a b (omega (arith, least, most, eqb-false r.kind 8 e)) s

  -- The words are below n, and so are they in order.
  pub two-small : (a b : ℕ) → 8 ≤ r.kind → r.kind < 10 → All (λ w. w < n) (operand_words r) → a ∷ b ∷ [] ≡ sorted (r.first ∷ r.second ∷ []) →
      All (λ w. w < n) (r.first ∷ r.second ∷ []) × All (λ w. w < n) (a ∷ b ∷ [])
  two-small a b least most all s =
      let words : All (λ (w : ℕ). w < n) (r.first ∷ r.second ∷ []) = rw (two-wires r.kind least most) at all in
      (words, subst (All (λ (w : ℕ). w < n)) (sym s) (all-sorted (λ w. w < n) _ words))

  pub ccz-small : (a b c : ℕ) → r.kind ≡ 11 → All (λ w. w < n) (operand_words r) →
      a ∷ b ∷ c ∷ [] ≡ sorted (r.first ∷ r.second ∷ r.third ∷ []) → c < n
  unfolding shape_of shapes
  ccz-small a b c e all s =
      (subst (All (λ (w : ℕ). w < n)) (sym s) (all-sorted (λ w. w < n) (r.first ∷ r.second ∷ r.third ∷ []) (rw e at all))).1.1.0

-- ------------------------------------------------------------ what the wires of a pair are

-- A kind and wires in canonical order, as a cnot, cz, ccx or ccz on n wires has them: of three wires the middle one is not 0,
-- since it is above the first.
pub data PairOn (n kind : ℕ) (ws : List ℕ) : Type 0 where
  cnot : (a b : ℕ) → kind ≡ 8 → ws ≡ a ∷ b ∷ [] → a < n → b < n → PairOn n kind ws
  cz : (a b : ℕ) → kind ≡ 9 → ws ≡ a ∷ b ∷ [] → a < n → b < n → PairOn n kind ws
  ccx : (a b c : ℕ) → kind ≡ 10 → ws ≡ a ∷ b ∷ c ∷ [] → a < b → b < n → c < n → PairOn n kind ws
  ccz : (a b c : ℕ) → kind ≡ 11 → ws ≡ a ∷ b ∷ c ∷ [] → a < b → b < n → c < n → PairOn n kind ws

-- Wires of which none stands twice differ.
apart-two : (a b : ℕ) → twice (a ∷ b ∷ []) ≡ false → a ≡ b → ⊥
unfolding twice has
apart-two a b once = eqb-false a b (neither (eqb a b) false (neither (has a (b ∷ [])) (twice (b ∷ [])) once).0).0

apart-three : (a b c : ℕ) → twice (a ∷ b ∷ c ∷ []) ≡ false → (has a (b ∷ c ∷ []) ≡ false) × (a ≡ b → ⊥) × (b ≡ c → ⊥)
unfolding twice has
apart-three a b c once =
    let parts = neither (has a (b ∷ c ∷ [])) (twice (b ∷ c ∷ [])) once in
    (parts.0, eqb-false a b (neither (eqb a b) (has a (c ∷ [])) parts.0).0, apart-two b c parts.1)

cz-on : (n : ℕ) (ws : List ℕ) → Two n ws → PairOn n 9 (ws ++ [])
cz-on n ws t = cz t.low t.high refl (ap (λ (l : List ℕ). l ++ []) t.are) (omega (arith, t.up, t.small)) t.small

ccx-on : (n c : ℕ) (ws : List ℕ) → c < n → Two n ws → PairOn n 10 (ws ++ (c ∷ []))
ccx-on n c ws p t = ccx t.low t.high c refl (ap (λ (l : List ℕ). l ++ (c ∷ [])) t.are) t.up t.small p

ccz-on : (n : ℕ) (ws : List ℕ) → Three n ws → PairOn n 11 ws
ccz-on n ws t = ccz t.low t.middle t.high refl t.are t.up t.small t.small_too

-- Every such gate has them, if its wires are below n and none stands twice.
pub pair-on : (n : ℕ) (g : Gate) → is_pair g ≡ true → All (λ w. w < n) (wires_of g) → twice (wires_of g) ≡ false → PairOn n (kind_of g) (canonical g)
unfolding record_of wires_of has canonical ordered
pair-on n (X w) p all once = absurd (false≢true p)
pair-on n (H w) p all once = absurd (false≢true p)
pair-on n (S w) p all once = absurd (false≢true p)
pair-on n (Sdg w) p all once = absurd (false≢true p)
pair-on n (Z w) p all once = absurd (false≢true p)
pair-on n (T w) p all once = absurd (false≢true p)
pair-on n (Tdg w) p all once = absurd (false≢true p)
pair-on n (Cnot c t) p all once = cnot c.0 t.0 refl refl all.0 all.1.0
pair-on n (Cz c t) p all once = cz-on n _ (two-sorted n c.0 t.0 all.0 all.1.0 (apart-two c.0 t.0 once))
pair-on n (Ccx c d t) p all once =
    ccx-on n t.0 _ all.1.1.0 (two-sorted n c.0 d.0 all.0 all.1.0 (apart-three c.0 d.0 t.0 once).1)
pair-on n (Ccz c d t) p all once =
    let apart = apart-three c.0 d.0 t.0 once in
    ccz-on n _ (three-sorted n c.0 (d.0 ∷ t.0 ∷ []) all.0 apart.0 (two-sorted n d.0 t.0 all.1.0 all.1.1.0 apart.2))
pair-on n (Measure w b) p all once = absurd (false≢true p)
pair-on n (Reset w) p all once = absurd (false≢true p)
pair-on n (Y w) p all once = absurd (false≢true p)
pair-on n (Sx w) p all once = absurd (false≢true p)
pair-on n (Swap a b) p all once = absurd (false≢true p)
pair-on n (Cy c t) p all once = absurd (false≢true p)
pair-on n (Ch c t) p all once = absurd (false≢true p)
pair-on n (Cswap c a b) p all once = absurd (false≢true p)

-- ------------------------------------------------------------ from keys back to kind and wires

-- The middle key tells three wires from two, and the last one tells cz and ccz from cnot and ccx.
abbrev kind_back : ℕ → Keys → ℕ
kind_back n k = cond (ltb k.last n) (cond (eqb k.middle 0) 8 10) (cond (eqb k.middle 0) 9 11)

abbrev last_back : ℕ → ℕ → ℕ
last_back n last = cond (ltb last n) last (last - n)

abbrev wires_back : ℕ → Keys → List ℕ
wires_back n k =
    cond (eqb k.middle 0) (k.first ∷ last_back n k.last ∷ []) (k.first ∷ k.middle ∷ last_back n k.last ∷ [])

plain : (n c : ℕ) → c < n → ltb (c + 0) n ≡ true
plain n c p = lt-ltb (c + 0) n (omega arith)

above : (n c : ℕ) → ltb (c + n) n ≡ false
above n c = le-ltb (c + n) n (omega arith)

taken_back : (n c : ℕ) → c + n - n ≡ c
taken_back n c = omega arith

some-middle : (a b : ℕ) → a < b → eqb b 0 ≡ false
some-middle a b p = ne_eqb b 0 (λ e. omega (arith, e))

kind-back : (n kind : ℕ) (ws : List ℕ) → PairOn n kind ws → kind_back n (keys_from (raised n kind) ws) ≡ kind
unfolding has
kind-back n kind ws (cnot a b e q p s) = rw (e, q, plain n b s)
kind-back n kind ws (cz a b e q p s) = rw (e, q, above n b)
kind-back n kind ws (ccx a b c e q p s t) = rw (e, q, plain n c t, some-middle a b p)
kind-back n kind ws (ccz a b c e q p s t) = rw (e, q, above n c, some-middle a b p)

wires-back : (n kind : ℕ) (ws : List ℕ) → PairOn n kind ws → wires_back n (keys_from (raised n kind) ws) ≡ ws
unfolding has
wires-back n kind ws (cnot a b e q p s) = rw (e, q, plain n b s, add-zero b)
wires-back n kind ws (cz a b e q p s) = rw (e, q, above n b, taken_back n b)
wires-back n kind ws (ccx a b c e q p s t) = rw (e, q, plain n c t, some-middle a b p, add-zero c)
wires-back n kind ws (ccz a b c e q p s t) = rw (e, q, above n c, some-middle a b p, taken_back n c)

-- ------------------------------------------------------------ how small keys are

-- As a listing asks: below n, n and 2n.
pub keys-small : (n kind : ℕ) (ws : List ℕ) → PairOn n kind ws →
    let k = keys_from (raised n kind) ws in (k.first < n) × (k.middle < n) × (k.last < 2 * n)
unfolding has
keys-small n kind ws (cnot a b e q p s) = rw (e, q) (p, omega arith, omega arith)
keys-small n kind ws (cz a b e q p s) = rw (e, q) (p, omega arith, omega arith)
keys-small n kind ws (ccx a b c e q p s t) = rw (e, q) (omega arith, s, omega arith)
keys-small n kind ws (ccz a b c e q p s t) = rw (e, q) (omega arith, s, omega arith)

-- ------------------------------------------------------------ keys tell equal pairs

-- The test that the sort makes of keys.
abbrev pub agree : Keys → Keys → Bool
agree j k = eqb j.first k.first && (eqb j.middle k.middle && eqb j.last k.last)

agree-is : (j k : Keys) → agree j k ≡ true → j ≡ k
agree-is j k t = λ i. record { first = first i; middle = middle i; last = last i }
  where
    rest : eqb j.middle k.middle && eqb j.last k.last ≡ true
    rest = and_right (eqb j.first k.first) (eqb j.middle k.middle && eqb j.last k.last) t

    first : j.first ≡ k.first
    first = eqb-true j.first k.first (and_left (eqb j.first k.first) (eqb j.middle k.middle && eqb j.last k.last) t)

    middle : j.middle ≡ k.middle
    middle = eqb-true j.middle k.middle (and_left (eqb j.middle k.middle) (eqb j.last k.last) rest)

    last : j.last ≡ k.last
    last = eqb-true j.last k.last (and_right (eqb j.middle k.middle) (eqb j.last k.last) rest)

agree-self : (k : Keys) → agree k k ≡ true
agree-self k = rw (eq-eqb k.first k.first refl, eq-eqb k.middle k.middle refl, eq-eqb k.last k.last refl)

-- Kind and wires can be read from the keys, so pairs of the same keys are equal; equal ones have the same keys.
pub keys-tell : (n : ℕ) (g h : Gate) → PairOn n (kind_of g) (canonical g) → PairOn n (kind_of h) (canonical h) → agree (keys_of n g) (keys_of n h) ≡ equal g h
keys-tell n g h p q = together (agree (keys_of n g) (keys_of n h)) (equal g h) to from
  where
    to : agree (keys_of n g) (keys_of n h) ≡ true → equal g h ≡ true
    to t =
        let same = agree-is (keys_of n g) (keys_of n h) t in
        is-equal g h
        (sym (kind-back n (kind_of g) (canonical g) p) ∙ ap (kind_back n) same ∙ kind-back n (kind_of h) (canonical h) q)
        (sym (wires-back n (kind_of g) (canonical g) p) ∙ ap (wires_back n) same ∙ wires-back n (kind_of h) (canonical h) q)

    from : equal g h ≡ true → agree (keys_of n g) (keys_of n h) ≡ true
    from t =
        let parts = equal-parts g h t in
        subst (λ (k : Keys). agree (keys_of n g) k ≡ true) (keys-of (kind_of g) (kind_of h) (canonical g) (canonical h) parts.0 parts.1)
        (agree-self (keys_of n g))
      where
        keys-of : (a b : ℕ) (l m : List ℕ) → a ≡ b → l ≡ m → keys_from (raised n a) l ≡ keys_from (raised n b) m
        keys-of a b l m e f = cc
