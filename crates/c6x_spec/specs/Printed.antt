use Rattle.std.specs.Prelude.{ℕ, ◌+◌, ◌/◌, ◌%◌, nat_lt, List, [], ◌∷◌, if◌then◌else◌}

-- The glyph of a digit below 16: `0` to `9`, then `a` to `f`.
abbrev pub hex_glyph : ℕ → ℕ
hex_glyph digit = if nat_lt digit 10 then 48 + digit else 87 + digit

-- A word as eight lower-case hexadecimal digits.
unfoldable pub hex_8 : ℕ → List ℕ
hex_8 word =
    hex_glyph (word / 268435456 % 16) ∷ hex_glyph (word / 16777216 % 16) ∷ hex_glyph (word / 1048576 % 16)
    ∷ hex_glyph (word / 65536 % 16) ∷ hex_glyph (word / 4096 % 16) ∷ hex_glyph (word / 256 % 16)
    ∷ hex_glyph (word / 16 % 16) ∷ hex_glyph (word % 16) ∷ []

-- An address or a value in a report: `0x` and the eight digits.
abbrev pub hex_word : ℕ → List ℕ
hex_word word = 48 ∷ 120 ∷ hex_8 word
