-- "little-endian 32-bit words" in bytes.
use Rattle.std.specs.Prelude.{List, [], ◌∷◌, ℕ, ◌+◌, ◌*◌, ◌/◌, ◌%◌, get_or}

abbrev pub byte_at : List ℕ → ℕ → ℕ
byte_at bytes at = get_or bytes at 0

unfoldable pub word_at : List ℕ → ℕ → ℕ
word_at bytes at =
    byte_at bytes at + 256 * byte_at bytes (at + 1) + 65536 * byte_at bytes (at + 2) + 16777216 * byte_at bytes (at + 3)

unfoldable pub bytes_of : ℕ → List ℕ
bytes_of word = word % 256 ∷ word / 256 % 256 ∷ word / 65536 % 256 ∷ word / 16777216 % 256 ∷ []
