-- The names of a string table (gABI, chapter 4, "String Table") and their hash (chapter 5, "Hash
-- Table").
use Rattle.std.specs.Prelude.{◌≢◌, ℕ, List, [], ◌∷◌, ◌++◌, All, Option, None, ◌+◌, ◌-◌, ◌*◌, ◌%◌, ◌^◌, ◌/◌, ◌==◌, length, nat_le, take, drop, option_map, position, bit_and, bit_xor, if◌then◌else◌}
use Rattle.std.specs.List.{flat_map}

-- the bytes from a place up to the first zero byte, if one follows
unfoldable pub name_of : List ℕ → ℕ → Option (List ℕ)
name_of table at =
    if nat_le at (length table)
    then option_map (λ len. take len (drop at table)) (position (λ b. b == 0) (drop at table))
    else None

-- a name in its table
abbrev pub name_row : List ℕ → List ℕ
name_row name = name ++ 0 ∷ []

-- a zero byte, and then names, each ended by one
unfoldable pub name_table : List (List ℕ) → List ℕ
name_table names = 0 ∷ flat_map name_row names

-- where the name with this number begins: behind the table of the names in front of it
abbrev pub name_place : List (List ℕ) → ℕ → ℕ
name_place names number = length (name_table (take number names))

-- a name that a table can have: no byte of it is zero
pub record IsName (name : List ℕ) : Type 0 where
  pub bytes : All (λ b. b ≢ 0) name

-- the hash h after one more byte: h moves four bits to the left, the four bits at the top are mixed in
-- 24 places lower, and then cleared
abbrev pub hash_step : ℕ → ℕ → ℕ
hash_step h c =
    let shifted = (h * 16 % 2 ^ 32 + c) % 2 ^ 32 in
    let high = bit_and shifted 0xF000_0000 in
    bit_and (bit_xor shifted (high / 2 ^ 24)) (2 ^ 32 - 1 - high)

-- the hash of a name, from h on
abbrev pub hash_of : ℕ → List ℕ → ℕ
hash_of h [] = h
hash_of h (c ∷ cs) = hash_of (hash_step h c) cs
