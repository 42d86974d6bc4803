-- Records: the bytes of a gate, and the gate of some bytes or why they are none. Document 01, "Records".
use Rattle.std.specs.Prelude.{Result, Ok, Err, Bool, true, cond, ◌&&◌, List, [], ◌∷◌, ◌++◌, ℕ, ◌+◌, ◌*◌, eqb, take, drop}
use Rattle.gates.specs.declared.Gate.{Gate}
use Rattle.gates.specs.declared.Gate.TheVariants.{X, H, S, Sdg, Z, T, Tdg, Cnot, Cz, Ccx, Ccz, Measure, Reset, Y, Sx, Swap, Cy, Ch, Cswap}
use Rattle.gates.specs.declared.records.Record.{Record}
use Rattle.gates.specs.declared.records.NoGate.{NoGate}
use Rattle.gates.specs.Kinds.{Shape, on1, on2, on3, on_bit, angled, unknown, shape_of, wires_in}
use Rattle.gates.specs.Gates.{wire, bit}
use Rattle.gates.specs.Words.{byte_at, word_at, bytes_of}

-- ------------------------------------------------------------ from bytes to a gate

-- "Byte 0 is the kind, bytes 1 to 3 are zero, then three little-endian 32-bit words."
unfoldable pub record_from : List ℕ → ℕ → Record
record_from bytes at =
    record {
      kind = byte_at bytes at;
      padding = byte_at bytes (at + 1) + 256 * byte_at bytes (at + 2) + 65536 * byte_at bytes (at + 3);
      first = word_at bytes (at + 4);
      second = word_at bytes (at + 8);
      third = word_at bytes (at + 12);
    }

-- "A list is 16-byte records with no header."
abbrev pub record_at : List ℕ → ℕ → Record
record_at bytes place = record_from bytes (16 * place)

-- The record with another kind.
abbrev pub of_kind : ℕ → Record → Record
of_kind kind r = record { kind = kind; padding = r.padding; first = r.first; second = r.second; third = r.third }

-- "Measure has the wire in word 1 and its classical bit in word 2": of the other kinds only the wires are used.
unfoldable pub used_of : ℕ → ℕ
used_of kind = cond (eqb kind 12) 2 (wires_in (shape_of kind))

-- The words that are wires: as many as the table of kinds says.
abbrev pub operand_words : Record → List ℕ
operand_words r = take (wires_in (shape_of r.kind)) (r.first ∷ r.second ∷ r.third ∷ [])

-- What must be zero: bytes 1 to 3 and the unused words.
unfoldable pub unused_of : Record → List ℕ
unused_of r = r.padding ∷ drop (used_of r.kind) (r.first ∷ r.second ∷ r.third ∷ [])

unfoldable pub all_zero : List ℕ → Bool
all_zero [] = true
all_zero (x ∷ xs) = eqb x 0 && all_zero xs

abbrev pub decoded_as : Shape → ℕ → ℕ → ℕ → Result Gate NoGate
decoded_as (on1 f) a b c = Ok (f (wire a))
decoded_as (on2 f) a b c = Ok (f (wire a) (wire b))
decoded_as (on3 f) a b c = Ok (f (wire a) (wire b) (wire c))
decoded_as (on_bit f) a b c = Ok (f (wire a) (bit b))
decoded_as (angled n) a b c = Err NoGate.Angle
decoded_as unknown a b c = Err NoGate.Unknown

-- The gate that a kind number and three words name; or that the kind carries an angle, or is none.
unfoldable pub named_by : ℕ → ℕ → ℕ → ℕ → Result Gate NoGate
named_by kind first second third = decoded_as (shape_of kind) first second third

-- A gate only where what must be zero is.
abbrev pub when_clean : Bool → Result Gate NoGate → Result Gate NoGate
when_clean clean (Ok g) = cond clean (Ok g) (Err NoGate.NotZero)
when_clean clean (Err why) = Err why

-- The gate of a record, or why it is none: an angle, an unknown kind, or an unused byte or word that is not zero.
unfoldable pub gate_of : Record → Result Gate NoGate
gate_of r = when_clean (all_zero (unused_of r)) (named_by r.kind r.first r.second r.third)

-- ------------------------------------------------------------ from a gate to bytes

abbrev pub with_words : ℕ → ℕ → ℕ → ℕ → Record
with_words kind first second third = record { kind = kind; padding = 0; first = first; second = second; third = third }

-- The record of a gate: "Unused words are zero."
unfoldable pub record_of : Gate → Record
record_of (X w) = with_words 0 w.0 0 0
record_of (H w) = with_words 1 w.0 0 0
record_of (S w) = with_words 2 w.0 0 0
record_of (Sdg w) = with_words 3 w.0 0 0
record_of (Z w) = with_words 4 w.0 0 0
record_of (T w) = with_words 5 w.0 0 0
record_of (Tdg w) = with_words 6 w.0 0 0
record_of (Cnot c t) = with_words 8 c.0 t.0 0
record_of (Cz c t) = with_words 9 c.0 t.0 0
record_of (Ccx c d t) = with_words 10 c.0 d.0 t.0
record_of (Ccz c d t) = with_words 11 c.0 d.0 t.0
record_of (Measure w b) = with_words 12 w.0 b.0 0
record_of (Reset w) = with_words 13 w.0 0 0
record_of (Y w) = with_words 15 w.0 0 0
record_of (Sx w) = with_words 16 w.0 0 0
record_of (Swap a b) = with_words 19 a.0 b.0 0
record_of (Cy c t) = with_words 20 c.0 t.0 0
record_of (Ch c t) = with_words 25 c.0 t.0 0
record_of (Cswap c a b) = with_words 26 c.0 a.0 b.0

-- The kind number of a gate.
abbrev pub kind_of : Gate → ℕ
kind_of g = (record_of g).kind

-- "Counting ch among the h gates" is a slip: an h gate is of kind 1.
abbrev pub is_h : Gate → Bool
is_h g = eqb (kind_of g) 1

-- The 16 bytes of a record.
unfoldable pub record_bytes : Record → List ℕ
record_bytes r = bytes_of (r.kind + 256 * r.padding) ++ (bytes_of r.first ++ (bytes_of r.second ++ bytes_of r.third))
