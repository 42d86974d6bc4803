-- Decoding and encoding undo each other, on gates, on records and on bytes.
use Rattle.std.specs.Prelude.{Result, Ok, Err}
use mathlib.Core.Path.{◌≡◌, refl, ap, subst, sym, ◌∙◌}
use mathlib.Core.Bool.{Bool, true, false}
use mathlib.Core.List.{List, [], ◌∷◌}
use Prim.Native.Nat.{ℕ, zero, suc, ◌+◌, ◌^◌, ◌≤◌, ◌<◌}
use native.Mathlib.Nat.{add-zero, zero-add, add-suc, suc-add}
use native.Mathlib.Omega.{arith}
use lib.Dec.{eqb}
use lib.ListN.{length, get_or, take, drop}
use borrow.Author.Tests.{eqb-true}
use Rattle.gates.proofs.Joined.{and_left, and_right}
use Rattle.gates.proofs.KindLaws.{named}
use Rattle.gates.proofs.WordLaws.{word-of-bytes, first_byte, padding-of-head, head-word, word-taken, word-before}
use Rattle.gates.specs.declared.Wire.{Wire}
use Rattle.gates.specs.declared.Bit.{Bit}
use Rattle.gates.specs.declared.Gate.{Gate}
use Rattle.gates.specs.declared.Gate.TheVariants.{X, H, S, Sdg, Z, T, Tdg, Cnot, Cz, Ccx, Ccz, Measure, Reset, Y, Sx, Swap, Cy, Ch, Cswap}
use Rattle.gates.specs.declared.records.Record.{Record}
use Rattle.gates.specs.declared.records.NoGate.{NoGate}
use Rattle.gates.specs.Kinds.{Shape, on1, on2, on3, on_bit, angled, unknown, shapes, shape_of, wires_in}
use Rattle.gates.specs.Gates.{wire, bit, wires_of}
use Rattle.gates.specs.Words.{byte_at, word_at, bytes_of}
use Rattle.gates.specs.Records.{record_from, used_of, unused_of, all_zero, decoded_as, when_clean, named_by, gate_of, with_words, record_of, kind_of, record_bytes}

-- ------------------------------------------------------------ what the table says of each kind

-- a gate's record and its wires
abbrev Has : Gate → Record → List ℕ → Type 0
Has g r wires = (record_of g ≡ r) × (wires_of g ≡ wires)

-- the words that kind k uses, and the record and the wires of its gates
abbrev Fit : ℕ → Shape → Type 0
Fit k (on1 f) = (used_of k ≡ 1) × ((a : Wire) → Has (f a) (with_words k a.0 0 0) (a.0 ∷ []))
Fit k (on2 f) = (used_of k ≡ 2) × ((a b : Wire) → Has (f a b) (with_words k a.0 b.0 0) (a.0 ∷ b.0 ∷ []))
Fit k (on3 f) =
    (used_of k ≡ 3) × ((a b c : Wire) → Has (f a b c) (with_words k a.0 b.0 c.0) (a.0 ∷ b.0 ∷ c.0 ∷ []))
Fit k (on_bit f) = (used_of k ≡ 2) × ((a : Wire) (b : Bit) → Has (f a b) (with_words k a.0 b.0 0) (a.0 ∷ []))
Fit k (angled n) = Unit {0}
Fit k unknown = Unit {0}

-- the same of each entry and its place, counted from i
abbrev Each : ℕ → List Shape → Type 0
Each i [] = Unit {0}
Each i (s ∷ ss) = Fit i s × Each (suc i) ss

-- a pair, written in a row
abbrev ◌then◌ : {A B : Type 0} → A → B → A × B
◌then◌ a b = (a, b)

infixr 20 ◌then◌
table : Each 0 shapes
unfolding shapes used_of shape_of record_of wires_of
table =
    (refl, λ a. (refl, refl)) then
    (refl, λ a. (refl, refl)) then
    (refl, λ a. (refl, refl)) then
    (refl, λ a. (refl, refl)) then
    (refl, λ a. (refl, refl)) then
    (refl, λ a. (refl, refl)) then
    (refl, λ a. (refl, refl)) then
    tt then
    (refl, λ a b. (refl, refl)) then
    (refl, λ a b. (refl, refl)) then
    (refl, λ a b c. (refl, refl)) then
    (refl, λ a b c. (refl, refl)) then
    (refl, λ a b. (refl, refl)) then
    (refl, λ a. (refl, refl)) then
    tt then
    (refl, λ a. (refl, refl)) then
    (refl, λ a. (refl, refl)) then
    tt then
    tt then
    (refl, λ a b. (refl, refl)) then
    (refl, λ a b. (refl, refl)) then
    tt then
    tt then
    tt then
    tt then
    (refl, λ a b. (refl, refl)) then
    (refl, λ a b c. (refl, refl)) then
    tt

-- past the end stands `unknown`, of which nothing is said
fit_at : (ss : List Shape) (i : ℕ) → Each i ss → (k : ℕ) → Fit (i + k) (get_or ss k unknown)
fit_at [] i each k = tt
fit_at (s ∷ ss) i each zero = subst (λ (m : ℕ). Fit m s) (sym (add-zero i)) each.0
fit_at (s ∷ ss) i each (suc k) =
    subst (λ (m : ℕ). Fit m (get_or ss k unknown)) (suc-add i k ∙ sym (add-suc i k)) (fit_at ss (suc i) each.1 k)

fit : (k : ℕ) → Fit k (shape_of k)
unfolding shape_of
fit k = subst (λ (m : ℕ). Fit m (get_or shapes k unknown)) (zero-add k) (fit_at shapes 0 table k)

-- ------------------------------------------------------------ a record that decodes to a gate

abbrev words : Record → List ℕ
words r = r.first ∷ r.second ∷ r.third ∷ []

zero-first : (x : ℕ) (xs : List ℕ) → all_zero (x ∷ xs) ≡ true → (x ≡ 0) × (all_zero xs ≡ true)
unfolding all_zero
zero-first x xs e = (eqb-true x 0 (and_left (eqb x 0) (all_zero xs) e), and_right (eqb x 0) (all_zero xs) e)

unused-zero : (r : Record) (used : ℕ) → used_of r.kind ≡ used → all_zero (unused_of r) ≡ true
    → (r.padding ≡ 0) × (all_zero (drop used (words r)) ≡ true)
unfolding unused_of
unused-zero r used e z = zero-first r.padding (drop used (words r)) (rw e at z)

-- a gate comes only of a gate, and only where the test passed
clean-gate : (clean : Bool) (d : Result Gate NoGate) (g : Gate) → when_clean clean d ≡ Ok g
    → (clean ≡ true) × (d ≡ Ok g)
clean-gate true (Ok h) g e = (refl, e)
clean-gate false (Ok h) g e = ((cc), (cc))
clean-gate clean (Err why) g e = ((cc), (cc))

-- a clean record has the words that it uses and zeros
zeroed : (r : Record) (second third : ℕ) → r.padding ≡ 0 → r.second ≡ second → r.third ≡ third
    → with_words r.kind r.first second third ≡ r
zeroed r second third p q t =
    λ i. record { kind = r.kind; padding = sym p i; first = r.first; second = sym q i; third = sym t i }

used-one : (r : Record) → all_zero (unused_of r) ≡ true → used_of r.kind ≡ 1
    → with_words r.kind r.first 0 0 ≡ r
used-one r z e =
    let zeros = unused-zero r 1 e z in
    let behind = zero-first r.second (r.third ∷ []) zeros.1 in
    zeroed r 0 0 zeros.0 behind.0 (zero-first r.third [] behind.1).0

used-two : (r : Record) → all_zero (unused_of r) ≡ true → used_of r.kind ≡ 2
    → with_words r.kind r.first r.second 0 ≡ r
used-two r z e =
    let zeros = unused-zero r 2 e z in
    zeroed r r.second 0 zeros.0 refl (zero-first r.third [] zeros.1).0

used-three : (r : Record) → all_zero (unused_of r) ≡ true → used_of r.kind ≡ 3
    → with_words r.kind r.first r.second r.third ≡ r
used-three r z e = zeroed r r.second r.third (unused-zero r 3 e z).0 refl refl

named-has : (s : Shape) (r : Record) (g : Gate) → Fit r.kind s → all_zero (unused_of r) ≡ true → decoded_as s r.first r.second r.third ≡ Ok g
    → Has g r (take (wires_in s) (words r))
named-has (on1 f) r g fits z e = let same = used-one r z fits.0 in let has = fits.1 (wire r.first) in ((cc), (cc))
named-has (on2 f) r g fits z e =
    let same = used-two r z fits.0 in let has = fits.1 (wire r.first) (wire r.second) in ((cc), (cc))
named-has (on3 f) r g fits z e =
    let same = used-three r z fits.0 in let has = fits.1 (wire r.first) (wire r.second) (wire r.third) in ((cc), (cc))
named-has (on_bit f) r g fits z e =
    let same = used-two r z fits.0 in let has = fits.1 (wire r.first) (bit r.second) in ((cc), (cc))
named-has (angled n) r g fits z e = ((cc), (cc))
named-has unknown r g fits z e = ((cc), (cc))

decoded-has : (r : Record) (g : Gate) → gate_of r ≡ Ok g → Has g r (take (wires_in (shape_of r.kind)) (words r))
unfolding gate_of named_by
decoded-has r g e =
    let clean = clean-gate (all_zero (unused_of r)) (named r) g e in
    named-has (shape_of r.kind) r g (fit r.kind) clean.0 clean.1

-- ------------------------------------------------------------ gates and records

pub decode-encode : (g : Gate) → gate_of (record_of g) ≡ Ok g
unfolding gate_of record_of named_by unused_of used_of all_zero shape_of shapes
decode-encode (X w) = refl
decode-encode (H w) = refl
decode-encode (S w) = refl
decode-encode (Sdg w) = refl
decode-encode (Z w) = refl
decode-encode (T w) = refl
decode-encode (Tdg w) = refl
decode-encode (Cnot c t) = refl
decode-encode (Cz c t) = refl
decode-encode (Ccx c d t) = refl
decode-encode (Ccz c d t) = refl
decode-encode (Measure w b) = refl
decode-encode (Reset w) = refl
decode-encode (Y w) = refl
decode-encode (Sx w) = refl
decode-encode (Swap a b) = refl
decode-encode (Cy c t) = refl
decode-encode (Ch c t) = refl
decode-encode (Cswap c a b) = refl

-- a gate is the one that its kind and the words of its record name
pub named-by-record : (g : Gate) →
    named_by (kind_of g) (record_of g).first (record_of g).second (record_of g).third ≡ Ok g
unfolding gate_of
named-by-record g = (clean-gate (all_zero (unused_of (record_of g))) (named (record_of g)) g (decode-encode g)).1

pub encode-decode : (r : Record) (g : Gate) → gate_of r ≡ Ok g → record_of g ≡ r
encode-decode r g e = (decoded-has r g e).0

-- the wires of a gate are the first words of its record, as many as the table of kinds says
pub wires-words : (r : Record) (g : Gate) → gate_of r ≡ Ok g
    → wires_of g ≡ take (wires_in (shape_of r.kind)) (r.first ∷ r.second ∷ r.third ∷ [])
wires-words r g e = (decoded-has r g e).1

-- ------------------------------------------------------------ records and bytes

-- a record whose fields fit their bytes
pub record Fitting (r : Record) : Type 0 where
  pub kind : r.kind < 2 ^ 8
  pub padding : r.padding < 2 ^ 24
  pub first : r.first < 2 ^ 32
  pub second : r.second < 2 ^ 32
  pub third : r.third < 2 ^ 32

pub record-of-bytes : (r : Record) → Fitting r → record_from (record_bytes r) 0 ≡ r
unfolding record_from record_bytes bytes_of word_at
record-of-bytes r fits =
    λ i.
    record {
      kind = first_byte r.kind r.padding fits.kind i;
      padding = padding-of-head r.kind r.padding fits.kind fits.padding i;
      first = word-of-bytes r.first fits.first i;
      second = word-of-bytes r.second fits.second i;
      third = word-of-bytes r.third fits.third i;
    }

pub bytes-of-record : (bytes : List ℕ) (at : ℕ) → at + 16 ≤ length bytes → ((i : ℕ) → byte_at bytes i < 256)
    → record_bytes (record_from bytes at) ≡ take 16 (drop at bytes)
unfolding record_from record_bytes
bytes-of-record bytes at room small =
    let p : at + 8 ≡ at + 4 + 4 = omega arith in
    let q : at + 12 ≡ at + 4 + 4 + 4 = omega arith in
    let h₀ : at + 4 ≤ length bytes = omega arith in
    let h₁ : at + 4 + 4 ≤ length bytes = omega arith in
    let h₂ : at + 4 + 4 + 4 ≤ length bytes = omega arith in
    let h₃ : at + 4 + 4 + 4 + 4 ≤ length bytes = omega arith in
    rw (head-word bytes at, p, q, word-taken bytes (at + 4 + 4 + 4), word-before bytes (at + 4 + 4) 4)
    (rw (word-before bytes (at + 4) 8, word-before bytes at 12))

-- ------------------------------------------------------------ gates and bytes

pub gate-of-bytes : (g : Gate) → Fitting (record_of g) → gate_of (record_from (record_bytes (record_of g)) 0) ≡ Ok g
gate-of-bytes g fits = ap gate_of (record-of-bytes (record_of g) fits) ∙ decode-encode g

pub bytes-of-gate : (bytes : List ℕ) (at : ℕ) (g : Gate) → at + 16 ≤ length bytes → ((i : ℕ) → byte_at bytes i < 256)
    → gate_of (record_from bytes at) ≡ Ok g → record_bytes (record_of g) ≡ take 16 (drop at bytes)
bytes-of-gate bytes at g room small e =
    ap record_bytes (encode-decode (record_from bytes at) g e) ∙ bytes-of-record bytes at room small
