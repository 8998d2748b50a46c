-- The lines of a report, this project's own. Addresses and values are eight hexadecimal digits behind `0x`, other numbers
-- decimal.
use Rattle.std.specs.Prelude.{ℕ, List, [], ◌++◌, codes, decimal, zero, suc}
use Rattle.c6x_spec.specs.Printed.{hex_word}

unfoldable pub text_line : List ℕ → ℕ → ℕ → List ℕ
text_line image base size =
    codes "text " ++ image ++ codes " " ++ hex_word base ++ codes " " ++ decimal size ++ codes "\n"

unfoldable pub data_line : List ℕ → List ℕ → ℕ → ℕ → List ℕ
data_line process image base size =
    codes "data " ++ process ++ codes " " ++ image ++ codes " " ++ hex_word base ++ codes " " ++ decimal size ++ codes "\n"

unfoldable pub stack_line : List ℕ → ℕ → ℕ → List ℕ
stack_line process base size =
    codes "stack " ++ process ++ codes " " ++ hex_word base ++ codes " " ++ decimal size ++ codes "\n"

unfoldable pub slot_line : List ℕ → List ℕ → ℕ → ℕ → List ℕ
slot_line process image index value =
    codes "slot " ++ process ++ codes " " ++ image ++ codes " " ++ decimal index ++ codes " " ++ hex_word value ++ codes "\n"

unfoldable pub field_line : List ℕ → List ℕ → ℕ → ℕ → List ℕ
field_line process image address value =
    codes "field " ++ process ++ codes " " ++ image ++ codes " " ++ hex_word address ++ codes " " ++ hex_word value ++ codes "\n"

-- One line for each number below a count, in order.
abbrev pub lines_below : (ℕ → List ℕ) → ℕ → List ℕ
lines_below line zero = []
lines_below line (suc count) = lines_below line count ++ line count
