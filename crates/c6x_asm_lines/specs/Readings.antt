-- What reading lexemes comes to, by the grammar alone.
use Rattle.std.specs.Prelude.{List, Option, Some, None}
use Rattle.c6x_asm_lines.specs.declared.lexeme.Lexeme.{Lexeme}
use Rattle.c6x_asm_lines.specs.declared.line.Line.{Line}
use Rattle.c6x_asm_lines.specs.Spelling.{SpellsLine}

-- the line that the lexemes spell, or none where they spell no line
abbrev pub IsReading : List Lexeme → Option Line → Type 0
IsReading lexemes (Some line) = SpellsLine line lexemes
IsReading lexemes None = (line : Line) → SpellsLine line lexemes → ⊥
