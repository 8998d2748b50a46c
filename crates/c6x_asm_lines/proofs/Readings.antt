-- What is read is what is spelled, in both directions.
use Rattle.std.proofs.Common.{◌≡◌, List, Option, Some, None, refl, sym}
use Rattle.c6x_asm_lines.specs.declared.lexeme.Lexeme.{Lexeme}
use Rattle.c6x_asm_lines.specs.declared.line.Line.{Line}
use Rattle.c6x_asm_lines.specs.Grammar.{line_of}
use Rattle.c6x_asm_lines.specs.Readings.{IsReading}
use Rattle.c6x_asm_lines.proofs.SpelledLines.{spelled_line, unspelled}
use Rattle.c6x_asm_lines.proofs.Spelled.{line_spelled}

-- the reader's answer is what the lexemes spell
pub reading_of : (lexemes : List Lexeme) (o : Option Line) → o ≡ line_of lexemes → IsReading lexemes o
reading_of lexemes (Some line) is = line_spelled lexemes line (sym is)
reading_of lexemes None is = unspelled lexemes (sym is)

-- what the lexemes spell is the reader's answer, so that who knows the one knows the other
pub read_as_spelled : (lexemes : List Lexeme) (o : Option Line) → IsReading lexemes o → o ≡ line_of lexemes
read_as_spelled lexemes (Some line) spells = sym (spelled_line lexemes line spells)
read_as_spelled lexemes None none = either (line_of lexemes) refl
  where
    either : (o : Option Line) → line_of lexemes ≡ o → None ≡ line_of lexemes
    either None is = sym is
    either (Some line) is = absurd (none line (line_spelled lexemes line is))
