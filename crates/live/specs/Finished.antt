-- What is left at the end: the gates of the list as records, zeros behind them, zeroed words.
use Rattle.std.specs.Prelude.{List, [], ◌∷◌, ◌++◌, ℕ, ◌+◌, ◌*◌, ◌-◌, length, drop, take, replicate}
use Rattle.gates.specs.declared.Gate.{Gate}
use Rattle.gates.specs.Records.{record_of, record_bytes}
use Rattle.rules.specs.Steps.{gates_of}
use Rattle.slots.specs.declared.Extent.{Extent}
use Rattle.slots.specs.Live.{held, words_for}

-- "A list is 16-byte records with no header."
unfoldable pub list_bytes : List Gate → List ℕ
list_bytes [] = []
list_bytes (g ∷ l) = record_bytes (record_of g) ++ list_bytes l

-- So many zeros from a place on.
abbrev pub zeroed : ℕ → ℕ → List ℕ → List ℕ
zeroed at count l = take at l ++ (replicate count 0 ++ drop (at + count) l)

-- "Output holds m records, zeros up to byte 16g, and is untouched beyond."
abbrev pub records_left : List ℕ → List ℕ → Extent → List ℕ
records_left bytes words k =
    let l = held bytes words k in
    list_bytes (gates_of l) ++ (replicate (16 * (k.gates - length l)) 0 ++ drop (16 * k.gates) bytes)

-- "The first 16g + 4n work words are zero, the rest untouched."
abbrev pub words_left : List ℕ → Extent → List ℕ
words_left words k = zeroed 0 (words_for k) words
