-- A record that is written into a list of bytes: it is there afterwards, and the records at other places are as they were.
use mathlib.Core.Path.{◌≡◌, refl, sym, ap, ◌∙◌}
use mathlib.Core.Bool.{Bool, true, false}
use mathlib.Core.List.{List, [], ◌∷◌}
use Prim.Native.Nat.{ℕ, zero, suc, ◌+◌, ◌*◌, ◌≤◌, ◌<◌}
use native.Mathlib.Omega.{arith}
use lib.Dec.{ltb}
use borrow.Author.Tests.{ltb-true, ltb-false}
use lib.ListN.{length, get_or, set, length-set}
use lib.Seq.{sets, get_or-set_same, get_or-set_other}
use Rattle.gates.specs.declared.records.Record.{Record}
use Rattle.gates.specs.Records.{record_from, record_at, of_kind, record_bytes}
use Rattle.gates.specs.Words.{byte_at, word_at, bytes_of}
use Rattle.gates.proofs.RoundTrip.{Fitting, record-of-bytes}

-- ------------------------------------------------------------ several stores in a row

-- Before them nothing has changed, and nothing past them.
pub sets-before : (l vs : List ℕ) (i x : ℕ) → x < i → get_or (sets l i vs) x 0 ≡ get_or l x 0
sets-before l [] i x m = refl
sets-before l (v ∷ vs) i x m = sets-before (set l i v) vs (suc i) x (omega arith) ∙ get_or-set_other l i x v 0 (λ e. omega (arith, e))

pub sets-after : (l vs : List ℕ) (i x : ℕ) → i + length vs ≤ x → get_or (sets l i vs) x 0 ≡ get_or l x 0
sets-after l [] i x m = refl
sets-after l (v ∷ vs) i x m = sets-after (set l i v) vs (suc i) x (omega arith) ∙ get_or-set_other l i x v 0 (λ e. omega (arith, e))

pub sets-in : (l vs : List ℕ) (i j x : ℕ) → x ≡ i + j → i + length vs ≤ length l → j < length vs → get_or (sets l i vs) x 0 ≡ get_or vs j 0
sets-in l [] i j x e m k = absurd (omega arith)
sets-in l (v ∷ vs) i zero x e m k =
    let here : x ≡ i = omega (arith, e) in
    ap (λ (y : ℕ). get_or (sets (set l i v) (suc i) vs) y 0) here ∙ sets-before (set l i v) vs (suc i) i (omega arith)
    ∙ get_or-set_same l i v 0 (omega arith)
sets-in l (v ∷ vs) i (suc j) x e m k =
    sets-in (set l i v) vs (suc i) j x (omega (arith, e)) (rw (length-set l i v) (omega arith)) (omega arith)

-- ------------------------------------------------------------ records

-- All but the kind of a record is its bytes from the second on.
pub rest-by-bytes : (a b : List ℕ) (p q kind : ℕ) → ((i : ℕ) → 1 ≤ i → i < 16 → byte_at a (p + i) ≡ byte_at b (q + i)) →
    of_kind kind (record_from a p) ≡ of_kind kind (record_from b q)
unfolding record_from word_at
rest-by-bytes a b p q kind h =
    λ t.
    record {
      kind = kind;
      padding = three (h 1 (omega arith) (omega arith)) (h 2 (omega arith) (omega arith)) (h 3 (omega arith) (omega arith)) t;
      first = four 4 (omega arith) (omega arith) t;
      second = four 8 (omega arith) (omega arith) t;
      third = four 12 (omega arith) (omega arith) t;
    }
  where
    moved : (x x' y y' : ℕ) → x ≡ x' → y ≡ y' → byte_at a x' ≡ byte_at b y' → byte_at a x ≡ byte_at b y
    moved x x' y y' e f k = ap (byte_at a) e ∙ k ∙ sym (ap (byte_at b) f)

    three : byte_at a (p + 1) ≡ byte_at b (q + 1) → byte_at a (p + 2) ≡ byte_at b (q + 2) → byte_at a (p + 3) ≡ byte_at b (q + 3) →
        byte_at a (p + 1) + 256 * byte_at a (p + 2) + 65536 * byte_at a (p + 3)
        ≡ byte_at b (q + 1) + 256 * byte_at b (q + 2) + 65536 * byte_at b (q + 3)
    three e f g = omega (arith, e, f, g)

    four : (n : ℕ) → 1 ≤ n → n + 3 < 16 →
        byte_at a (p + n) + 256 * byte_at a (p + n + 1) + 65536 * byte_at a (p + n + 2) + 16777216 * byte_at a (p + n + 3)
        ≡ byte_at b (q + n) + 256 * byte_at b (q + n + 1) + 65536 * byte_at b (q + n + 2) + 16777216 * byte_at b (q + n + 3)
    four n l m =
        sum (h n l (omega arith)) (moved (p + n + 1) (p + (n + 1)) (q + n + 1) (q + (n + 1)) (omega arith) (omega arith) (h (n + 1) (omega arith) (omega arith)))
        (moved (p + n + 2) (p + (n + 2)) (q + n + 2) (q + (n + 2)) (omega arith) (omega arith) (h (n + 2) (omega arith) (omega arith)))
        (moved (p + n + 3) (p + (n + 3)) (q + n + 3) (q + (n + 3)) (omega arith) (omega arith) (h (n + 3) (omega arith) m))
      where
        sum : byte_at a (p + n) ≡ byte_at b (q + n) → byte_at a (p + n + 1) ≡ byte_at b (q + n + 1) →
            byte_at a (p + n + 2) ≡ byte_at b (q + n + 2) → byte_at a (p + n + 3) ≡ byte_at b (q + n + 3) →
            byte_at a (p + n) + 256 * byte_at a (p + n + 1) + 65536 * byte_at a (p + n + 2) + 16777216 * byte_at a (p + n + 3)
            ≡ byte_at b (q + n) + 256 * byte_at b (q + n + 1) + 65536 * byte_at b (q + n + 2) + 16777216 * byte_at b (q + n + 3)
        sum e f g k = omega (arith, e, f, g, k)

kind-is : (a : List ℕ) (p : ℕ) → record_from a p ≡ of_kind (byte_at a p) (record_from a p)
unfolding record_from
kind-is a p = refl

-- A record is its 16 bytes.
pub record-by-bytes : (a b : List ℕ) (p q : ℕ) → ((i : ℕ) → i < 16 → byte_at a (p + i) ≡ byte_at b (q + i)) → record_from a p ≡ record_from b q
record-by-bytes a b p q h =
    kind-is a p ∙ ap (λ (x : ℕ). of_kind x (record_from a p)) first_byte ∙ rest-by-bytes a b p q (byte_at b q) (λ i l m. h i m) ∙ sym (kind-is b q)
  where
    first_byte : byte_at a p ≡ byte_at b q
    first_byte =
        let e : p ≡ p + 0 = omega arith in
        let f : q + 0 ≡ q = omega arith in
        ap (byte_at a) e ∙ h 0 (omega arith) ∙ ap (byte_at b) f

pub bytes-long : (r : Record) → length (record_bytes r) ≡ 16
unfolding record_bytes bytes_of
bytes-long r = refl

-- What is read from bytes fits its bytes.
pub fitting : (bytes : List ℕ) (at : ℕ) → ((i : ℕ) → byte_at bytes i < 256) → Fitting (record_from bytes at)
unfolding record_from word_at
fitting bytes at small =
    record {
      kind = small at;
      padding = omega (arith, small (at + 1), small (at + 2), small (at + 3));
      first = four (at + 4);
      second = four (at + 8);
      third = four (at + 12);
    }
  where
    four : (p : ℕ) →
        byte_at bytes p + 256 * byte_at bytes (p + 1) + 65536 * byte_at bytes (p + 2) + 16777216 * byte_at bytes (p + 3) < 4294967296
    four p = omega (arith, small p, small (p + 1), small (p + 2), small (p + 3))

-- A record that fits its bytes is read back where it was written; other places read as before.
pub stored_here : (bytes : List ℕ) (place : ℕ) (r : Record) → 16 * place + 16 ≤ length bytes → Fitting r →
    record_at (sets bytes (16 * place) (record_bytes r)) place ≡ r
stored_here bytes place r room fits =
    record-by-bytes (sets bytes (16 * place) (record_bytes r)) (record_bytes r) (16 * place) 0
    (λ i m. sets-in bytes (record_bytes r) (16 * place) i (16 * place + i) refl (rw (bytes-long r) room) (rw (bytes-long r) m) ∙ at_zero i)
    ∙ record-of-bytes r fits
  where
    at_zero : (i : ℕ) → get_or (record_bytes r) i 0 ≡ byte_at (record_bytes r) (0 + i)
    at_zero i = let e : i ≡ 0 + i = omega arith in ap (byte_at (record_bytes r)) e

pub stored_other : (bytes : List ℕ) (place other : ℕ) (r : Record) → (other ≡ place → ⊥) →
    record_at (sets bytes (16 * place) (record_bytes r)) other ≡ record_at bytes other
stored_other bytes place other r d =
    record-by-bytes (sets bytes (16 * place) (record_bytes r)) bytes (16 * other) (16 * other) (λ i m. outside i m)
  where
    outside : (i : ℕ) → i < 16 → byte_at (sets bytes (16 * place) (record_bytes r)) (16 * other + i) ≡ byte_at bytes (16 * other + i)
    outside i m = go (ltb other place) refl
      where
        go : (b : Bool) → ltb other place ≡ b → byte_at (sets bytes (16 * place) (record_bytes r)) (16 * other + i) ≡ byte_at bytes (16 * other + i)
        go true e = sets-before bytes (record_bytes r) (16 * place) (16 * other + i) (below (ltb-true other place e))
          where
            below : other < place → 16 * other + i < 16 * place
            below l = omega arith
        go false e = sets-after bytes (record_bytes r) (16 * place) (16 * other + i) (rw (bytes-long r) (above (ltb-false other place e)))
          where
            above : place ≤ other → 16 * place + 16 ≤ 16 * other + i
            above l = omega (arith, d)

-- Another kind byte: the record there is of that kind, and the records at other places are as they were.
pub kind-here : (bytes : List ℕ) (place kind : ℕ) → 16 * place < length bytes →
    record_at (set bytes (16 * place) kind) place ≡ of_kind kind (record_at bytes place)
kind-here bytes place kind room =
    kind-is (set bytes (16 * place) kind) (16 * place)
    ∙ ap (λ (x : ℕ). of_kind x (record_from (set bytes (16 * place) kind) (16 * place))) (get_or-set_same bytes (16 * place) kind 0 room)
    ∙ rest-by-bytes (set bytes (16 * place) kind) bytes (16 * place) (16 * place) kind
    (λ i l m. get_or-set_other bytes (16 * place) (16 * place + i) kind 0 (λ e. omega (arith, e, l)))

pub kind-other : (bytes : List ℕ) (place other kind : ℕ) → (other ≡ place → ⊥) → record_at (set bytes (16 * place) kind) other ≡ record_at bytes other
kind-other bytes place other kind d =
    record-by-bytes (set bytes (16 * place) kind) bytes (16 * other) (16 * other)
    (λ i m. get_or-set_other bytes (16 * place) (16 * other + i) kind 0 (λ e. d (omega (arith, e, m))))
