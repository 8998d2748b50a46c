-- The lines of a plan's text and their words: this project's own form.
use Rattle.std.specs.Prelude.{ℕ, ◌+◌, Bool, not, ◌||◌, ◌==◌, if◌then◌else◌, List, [], ◌∷◌, length, slice_index}
use Rattle.std.specs.List.{filter, list_all, slice_split}
use Rattle.std.specs.Str.Lines.{lines}
use Rattle.c6x_plan.specs.declared.text_line.TextLine.{TextLine}

-- a space or a tab
abbrev pub is_blank : ℕ → Bool
is_blank byte = byte == 32 || byte == 9

-- What stands between blanks.
unfoldable pub words_of : List ℕ → List (List ℕ)
words_of line = filter (λ word. not (length word == 0)) (slice_split is_blank line)

-- A line that says nothing: blank, or a comment, which begins with `#`.
abbrev pub is_passed_over : List ℕ → Bool
is_passed_over line = slice_index line 0 == 35 || list_all is_blank line

-- A line that says something: its number and its words.
pub record Said : Type 0 where
  pub line : ℕ
  pub words : List (List ℕ)

abbrev pub said : ℕ → List ℕ → Said
said number line = record { line = number; words = words_of line }

-- Those of some lines that say something, where so many lines stand before the first of them.
abbrev pub said_behind : ℕ → List (List ℕ) → List Said
said_behind gone [] = []
said_behind gone (line ∷ more) =
    if is_passed_over line then said_behind (gone + 1) more else said (gone + 1) line ∷ said_behind (gone + 1) more

-- The lines of a text that say something. Lines end with a newline, before which one carriage return is no part of the
-- line; the last may lack it.
unfoldable pub said_lines : ℕ → List ℕ → List Said
said_lines gone text = said_behind gone (lines text)

-- A line as it stands in the text, and what it says.
abbrev pub said_of : TextLine → Said
said_of line = said line.number line.bytes.now
