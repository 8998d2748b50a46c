use Rattle.std.specs.Prelude.{◌≡◌, ℕ, ◌+◌, ◌-◌, ◌/◌, ◌%◌, ◌^◌, ◌<◌, ◌≤◌, ◌⊎◌, nat_lt, ℤ, pos, ◌-ℤ◌, if◌then◌else◌}
use Rattle.std.specs.Int.{bit_at}

-- The `count` bits of a word from bit `low` on, as a number (SPRU732 and SPRAB89 draw words so).
abbrev pub bits_of : ℕ → ℕ → ℕ → ℕ
bits_of word low count = word / 2 ^ low % 2 ^ count

-- The bit at this place is none of the `count` bits from bit `low` on.
abbrev pub IsOutside : ℕ → ℕ → ℕ → Type 0
IsOutside low count place = (place < low) ⊎ (low + count ≤ place)

-- The patched word has this value in the field, and every other bit as it was, bit by bit.
pub record IsPatched (word low count value patched : ℕ) : Type 0 where
  pub field : bits_of patched low count ≡ value
  pub others : (place : ℕ) → IsOutside low count place → bit_at patched place ≡ bit_at word place

-- The signed number that `count` bits spell in two's complement.
abbrev pub signed_of : ℕ → ℕ → ℤ
signed_of count value =
    if nat_lt value (2 ^ (count - 1)) then pos value else pos value -ℤ pos (2 ^ count)

-- The same number modulo 2^32, as a register holds it.
abbrev pub extended_of : ℕ → ℕ → ℕ
extended_of count value =
    if nat_lt value (2 ^ (count - 1)) then value else (value + (2 ^ 32 - 2 ^ count))
