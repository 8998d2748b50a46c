-- The list of code, a line a word: this project's own (docs/COMMANDS.md). The byte order comes first.
use Rattle.std.specs.Prelude.{ℕ, ◌+◌, ◌-◌, ◌*◌, ◌/◌, ◌%◌, ◌^◌, nat_lt, Bool, ◌&&◌, List, [], ◌++◌, codes, length, Option, None, Some, if◌then◌else◌}
use Rattle.std.specs.List.{flat_map, range_with_len}
use Rattle.c6x_spec.specs.Numbers.{word_at}
use Rattle.c6x_spec.specs.Printed.{hex_8, hex_word}
use Rattle.c6x_encoding.specs.Decoded.{decoded, is_set}
use Rattle.c6x_encoding.specs.declared.instr.Instr.{Instr}
use Rattle.c6x_dis.specs.Shown.{shown}

abbrev pub bars : Bool → List ℕ
bars chained = if chained then codes "|| " else []

-- What is told of a word: the instruction that it spells, behind bars where the word in front of it is chained to it, or its
-- number where it spells none.
unfoldable pub spelled_text : Bool → Instr → List ℕ
spelled_text chained i = bars chained ++ shown i ++ codes "\n"

unfoldable pub number_text : ℕ → List ℕ
number_text word = codes ".word " ++ hex_word word ++ codes "\n"

abbrev pub told_word : Bool → ℕ → Option Instr → List ℕ
told_word chained word (Some i) = spelled_text chained i
told_word chained word None = number_text word

-- The line of a word at an address.
unfoldable pub word_line : ℕ → Bool → ℕ → List ℕ
word_line at chained word =
    hex_word at ++ codes " " ++ hex_8 word ++ codes " " ++ told_word chained word (decoded word)

-- The p bit of the word in front of this one is set (SPRU732, "Parallel Operations"). No word is in front of the first.
abbrev pub is_chained : Bool → List ℕ → ℕ → Bool
is_chained big bytes number = nat_lt 0 number && is_set (word_at big bytes (4 * (number - 1))) 0

-- The line of the word with this number, counted from 0, where the first stands at `at`.
unfoldable pub numbered_line : Bool → List ℕ → ℕ → ℕ → List ℕ
numbered_line big bytes at number =
    word_line ((at + 4 * number) % 2 ^ 32) (is_chained big bytes number) (word_at big bytes (4 * number))

-- The lines of all whole words, in order; up to three bytes behind the last are passed over.
unfoldable pub listed : Bool → List ℕ → ℕ → List ℕ
listed big bytes at = flat_map (numbered_line big bytes at) (range_with_len 0 (length bytes / 4))
