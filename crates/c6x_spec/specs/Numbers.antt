use Rattle.std.specs.Prelude.{ℕ, zero, suc, ◌+◌, ◌*◌, ◌/◌, ◌%◌, Bool, true, false, List, slice_index}
use Rattle.std.specs.Int.{bit_at}

-- The number of four bytes, the first being worth 1, the next 256, and so on.
abbrev pub joined_4 : ℕ → ℕ → ℕ → ℕ → ℕ
joined_4 a b c d = a + 256 * (b + 256 * (c + 256 * d))

-- The number of the two bytes at a place: the first byte is worth least or, where the order is big, most
-- (gABI chapter 4, "Data Encoding").
unfoldable pub half_at : Bool → List ℕ → ℕ → ℕ
half_at false bytes at = slice_index bytes at + 256 * slice_index bytes (at + 1)
half_at true bytes at = slice_index bytes (at + 1) + 256 * slice_index bytes at

-- The number of the four bytes at a place, in the same two orders.
unfoldable pub word_at : Bool → List ℕ → ℕ → ℕ
word_at false bytes at =
    joined_4 (slice_index bytes at) (slice_index bytes (at + 1)) (slice_index bytes (at + 2)) (slice_index bytes (at + 3))
word_at true bytes at =
    joined_4 (slice_index bytes (at + 3)) (slice_index bytes (at + 2)) (slice_index bytes (at + 1)) (slice_index bytes at)

-- The number of the `count` bytes at a place, of which the first is worth least.
abbrev pub number_in : ℕ → List ℕ → ℕ → ℕ
number_in zero bytes at = 0
number_in (suc count) bytes at = slice_index bytes at + 256 * number_in count bytes (at + 1)

-- Bit `i` of bytes, where bit 8 is the lowest bit of byte 1.
abbrev pub bit_in : List ℕ → ℕ → ℕ
bit_in bytes i = bit_at (slice_index bytes (i / 8)) (i % 8)
