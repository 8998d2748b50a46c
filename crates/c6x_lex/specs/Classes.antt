use Rattle.std.specs.Prelude.{ℕ, Bool, false, ◌==◌, if◌then◌else◌, List, [], ◌∷◌}
use Rattle.std.specs.List.{prefix_len}
use Rattle.c6x_lex.specs.declared.bytes.Class.{Class}
use Rattle.c6x_lex.specs.declared.bytes.Class.TheVariants.{Word, Digit, HexDigit, Text, Line}
use Rattle.c6x_lex.specs.Forms.{continues_word, is_digit, is_hex_digit, is_in_text, is_in_line}

-- whether a byte is of this class
abbrev pub is_of : Class → ℕ → Bool
is_of Word = continues_word
is_of Digit = is_digit
is_of HexDigit = is_hex_digit
is_of Text = is_in_text
is_of Line = is_in_line

abbrev pub begins_with : ℕ → List ℕ → Bool
begins_with b [] = false
begins_with b (c ∷ cs) = c == b

-- how many hexadecimal digits stand behind an `x` at the front
abbrev pub hex_len : List ℕ → ℕ
hex_len [] = 0
hex_len (b ∷ bs) = if b == 120 then prefix_len is_hex_digit bs else 0
