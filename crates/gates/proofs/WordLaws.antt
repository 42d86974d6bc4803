-- Words and their bytes.
use Rattle.std.proofs.lemmas.Slice.{put_mid-paste}
use Rattle.std.proofs.lemmas.List.Edits.{paste_all, sets-eq}
use mathlib.Core.Path.{◌≡◌, refl, ap, sym, ◌∙◌}
use borrow.Rule.Slice.PartMut.{put_mid}
use mathlib.Core.List.{List, [], ◌∷◌, ◌++◌, append_assoc}
use Prim.Native.Nat.{ℕ, suc, ◌+◌, ◌*◌, ◌/◌, ◌%◌, ◌^◌, ◌≤◌, ◌<◌}
use native.Mathlib.Nat.{add-zero, add-suc, suc-add, mod-eq_of_lt}
use native.Mathlib.Numerals.{towards_suc}
use native.Mathlib.Omega.{arith}
use lib.ListN.{length, take, drop, set}
use lib.Seq.{drop-cons, take-add, drop-drop, sets}
use Rattle.gates.specs.declared.records.Record.{Record}
use Rattle.gates.specs.Words.{byte_at, word_at, bytes_of}
use Rattle.gates.specs.Records.{record_from, record_bytes}

-- the first byte of a word, and the three behind it
word_first : (bytes : List ℕ) (at : ℕ) → byte_at bytes at < 256 → word_at bytes at % 256 ≡ byte_at bytes at
unfolding word_at
word_first bytes at h = omega arith

word-rest : (bytes : List ℕ) (at : ℕ) → byte_at bytes at < 256
    → word_at bytes at / 256 ≡ byte_at bytes (at + 1) + 256 * byte_at bytes (at + 2) + 65536 * byte_at bytes (at + 3)
unfolding word_at
word-rest bytes at h = omega arith

-- a record's kind and the bytes behind it from their word
pub record_read : (bytes : List ℕ) (at head first second third : ℕ) → byte_at bytes at < 256 → head ≡ word_at bytes at
    → first ≡ word_at bytes (at + 4) → second ≡ word_at bytes (at + 8) → third ≡ word_at bytes (at + 12)
    → ◌≡◌ {A = Record} (record { kind = head % 256; padding = head / 256; first = first; second = second; third = third }) (record_from bytes at)
unfolding record_from
record_read bytes at head first second third small e e₁ e₂ e₃ = rw (e, e₁, e₂, e₃, word_first bytes at small, word-rest bytes at small)

-- ------------------------------------------------------------ a word from its bytes, and its bytes back

-- `omega` has to be told that the last byte is the whole of what is left
pub word-of-bytes : (w : ℕ) → w < 2 ^ 32 → word_at (bytes_of w) 0 ≡ w
unfolding word_at bytes_of
word-of-bytes w h = let last : w / 16777216 % 256 ≡ w / 16777216 = omega arith in omega arith

pub first_byte : (a n : ℕ) → a < 256 → (a + 256 * n) % 256 ≡ a
first_byte a n h = omega arith

-- a record's first word is its kind, then its padding
pub padding-of-head : (kind padding : ℕ) → kind < 2 ^ 8 → padding < 2 ^ 24
    → let w = kind + 256 * padding in w / 256 % 256 + 256 * (w / 65536 % 256) + 65536 * (w / 16777216 % 256) ≡ padding
unfolding word_at bytes_of
padding-of-head kind padding h l = omega (arith, word-of-bytes (kind + 256 * padding) (omega arith))

pub head-word : (bytes : List ℕ) (at : ℕ)
    → byte_at bytes at + 256 * (byte_at bytes (at + 1) + 256 * byte_at bytes (at + 2) + 65536 * byte_at bytes (at + 3)) ≡ word_at bytes at
unfolding word_at
head-word bytes at = omega arith

bytes-of-word : (a b c d : ℕ) → a < 256 → b < 256 → c < 256 → d < 256
    → bytes_of (a + 256 * b + 65536 * c + 16777216 * d) ≡ a ∷ b ∷ c ∷ d ∷ []
unfolding bytes_of
bytes-of-word a b c d ha hb hc hd =
    let w : ℕ = a + 256 * b + 65536 * c + 16777216 * d in
    let w₀ : w ≡ a + 256 * (b + 256 * (c + 256 * d)) = omega arith in
    let w₁ : w / 256 ≡ b + 256 * (c + 256 * d) = omega arith in
    let w₂ : w / 65536 ≡ c + 256 * d = omega arith in
    let w₃ : w / 16777216 ≡ d = omega arith in
    rw (w₁, w₂, w₃, w₀, first_byte a (b + 256 * (c + 256 * d)), first_byte b (c + 256 * d), first_byte c d, mod-eq_of_lt hd)

take-four : (bytes : List ℕ) (at : ℕ) → at + 4 ≤ length bytes
    → take 4 (drop at bytes) ≡ byte_at bytes at ∷ byte_at bytes (at + 1) ∷ byte_at bytes (at + 2) ∷ byte_at bytes (at + 3) ∷ []
take-four bytes at room =
    let h₀ : at < length bytes = omega arith in
    let h₁ : suc at < length bytes = omega arith in
    let h₂ : suc (suc at) < length bytes = omega arith in
    let h₃ : suc (suc (suc at)) < length bytes = omega arith in
    simp towards_suc
    (rw (drop-cons bytes at 0, drop-cons bytes (suc at) 0, drop-cons bytes (suc (suc at)) 0, drop-cons bytes (suc (suc (suc at))) 0))

pub word-taken : (bytes : List ℕ) (at : ℕ) → at + 4 ≤ length bytes → ((i : ℕ) → byte_at bytes i < 256)
    → bytes_of (word_at bytes at) ≡ take 4 (drop at bytes)
unfolding word_at
word-taken bytes at room small =
    bytes-of-word (byte_at bytes at) (byte_at bytes (at + 1)) (byte_at bytes (at + 2)) (byte_at bytes (at + 3))
    (small at) (small (at + 1)) (small (at + 2)) (small (at + 3)) ∙ sym (take-four bytes at room)

-- a word and the n bytes behind it
pub word-before : (bytes : List ℕ) (at n : ℕ) → at + 4 ≤ length bytes → ((i : ℕ) → byte_at bytes i < 256)
    → bytes_of (word_at bytes at) ++ take n (drop (at + 4) bytes) ≡ take (4 + n) (drop at bytes)
word-before bytes at n room small = rw (word-taken bytes at room small, take-add, drop-drop)

-- ------------------------------------------------------------ stores one behind the other

-- a word's four bytes in the place of a part of a list are its bytes stored there
pub word_stored : (l ws : List ℕ) (at k word : ℕ) → ws ≡ word % 256 ∷ word / 256 % 256 ∷ word / 65536 % 256 ∷ word / 16777216 % 256 ∷ []
    → k ≡ 4 → at + 4 ≤ length l → put_mid at k l ws ≡ sets l at (bytes_of word)
unfolding bytes_of
word_stored l ws at k word same long room =
    let bytes = bytes_of word in
    rw (put_mid-paste at k l ws bytes 4 same (sym long) refl, paste_all l at bytes 4 refl, sets-eq bytes l at room, append_assoc)

pub sets-append : (l xs ys : List ℕ) (at : ℕ) → sets l at (xs ++ ys) ≡ sets (sets l at xs) (at + length xs) ys
sets-append l [] ys at = rw add-zero
sets-append l (x ∷ xs) ys at = rw (add-suc, ← suc-add) (sets-append (set l at x) xs ys (suc at))

word-then : (l : List ℕ) (at word : ℕ) (ys : List ℕ) {l₁ l₂ : List ℕ}
    → l₁ ≡ sets l at (bytes_of word) → l₂ ≡ sets l₁ (at + 4) ys → l₂ ≡ sets l at (bytes_of word ++ ys)
unfolding bytes_of
word-then l at word ys e₁ e₂ = e₂ ∙ ap (λ (x : List ℕ). sets x (at + 4) ys) e₁ ∙ sym (sets-append l (bytes_of word) ys at)

-- four words, each stored behind the one before
pub four-words : (l : List ℕ) (at a b c d : ℕ) {l₁ l₂ l₃ l₄ : List ℕ}
    → l₁ ≡ sets l at (bytes_of a) → l₂ ≡ sets l₁ (at + 4) (bytes_of b) → l₃ ≡ sets l₂ (at + 8) (bytes_of c) → l₄ ≡ sets l₃ (at + 12) (bytes_of d)
    → l₄ ≡ sets l at (bytes_of a ++ (bytes_of b ++ (bytes_of c ++ bytes_of d)))
four-words l at a b c d {l₁} {l₂} {l₃} e₁ e₂ e₃ e₄ =
    let p : at + 8 ≡ at + 4 + 4 = omega arith in
    let q : at + 12 ≡ at + 4 + 4 + 4 = omega arith in
    word-then l at a (bytes_of b ++ (bytes_of c ++ bytes_of d)) e₁
    (word-then l₁ (at + 4) b (bytes_of c ++ bytes_of d) e₂
    (word-then l₂ (at + 4 + 4) c (bytes_of d) (rw p at e₃) (rw q at e₄)))

-- a record's four words, stored one behind the other
pub record_stored : (l : List ℕ) (at : ℕ) (r : Record) {l₁ l₂ l₃ l₄ : List ℕ}
    → l₁ ≡ sets l at (bytes_of (r.kind + 256 * r.padding)) → l₂ ≡ sets l₁ (at + 4) (bytes_of r.first)
    → l₃ ≡ sets l₂ (at + 8) (bytes_of r.second) → l₄ ≡ sets l₃ (at + 12) (bytes_of r.third) → l₄ ≡ sets l at (record_bytes r)
unfolding record_bytes
record_stored l at r e₁ e₂ e₃ e₄ = four-words l at (r.kind + 256 * r.padding) r.first r.second r.third e₁ e₂ e₃ e₄
