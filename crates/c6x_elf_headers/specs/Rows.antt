use Rattle.std.specs.Prelude.{◌≡◌, ℕ, ◌+◌, ◌^◌, ◌<◌, Bool, true, false, List, [], ◌∷◌, ◌++◌}
use Rattle.byteorder.specs.Endian.{big_bytes, little_bytes}
use Rattle.c6x_spec.specs.Numbers.{half_at, word_at}

-- The bytes of a number in a byte order (gABI chapter 4, "Data Encoding").
unfoldable pub half_bytes : Bool → ℕ → List ℕ
half_bytes false half = little_bytes 2 half
half_bytes true half = big_bytes 2 half

unfoldable pub word_bytes : Bool → ℕ → List ℕ
word_bytes false word = little_bytes 4 word
word_bytes true word = big_bytes 4 word

-- The bytes of numbers one behind the other.
abbrev pub half_row : Bool → List ℕ → List ℕ
half_row big [] = []
half_row big (half ∷ halves) = half_bytes big half ++ half_row big halves

abbrev pub word_row : Bool → List ℕ → List ℕ
word_row big [] = []
word_row big (word ∷ words) = word_bytes big word ++ word_row big words

-- Each number has its size.
abbrev pub AreHalves : List ℕ → Type 0
AreHalves [] = Unit {0}
AreHalves (half ∷ halves) = (half < 2 ^ 16) × AreHalves halves

abbrev pub AreWords : List ℕ → Type 0
AreWords [] = Unit {0}
AreWords (word ∷ words) = (word < 2 ^ 32) × AreWords words

-- The numbers that a file has one behind the other, from `offset` bytes behind a place on.
abbrev pub SpellsHalves : Bool → List ℕ → ℕ → ℕ → List ℕ → Type 0
SpellsHalves big bytes at offset [] = Unit {0}
SpellsHalves big bytes at offset (half ∷ halves) =
    (half_at big bytes (at + offset) ≡ half) × SpellsHalves big bytes at (offset + 2) halves

abbrev pub SpellsWords : Bool → List ℕ → ℕ → ℕ → List ℕ → Type 0
SpellsWords big bytes at offset [] = Unit {0}
SpellsWords big bytes at offset (word ∷ words) =
    (word_at big bytes (at + offset) ≡ word) × SpellsWords big bytes at (offset + 4) words
