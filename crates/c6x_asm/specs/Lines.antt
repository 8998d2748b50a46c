-- The lines of a text one after the other, up to the first that breaks a rule.
use Rattle.std.specs.Prelude.{ℕ, ◌+◌, ◌-◌, ◌==◌, nat_lt, length, slice_index, Bool, if◌then◌else◌, List, [], ◌∷◌, Option, Some, None, Result, Ok, Err}
use Rattle.c6x_lex.specs.declared.token.Token.{Token}
use Rattle.c6x_asm_lines.specs.declared.lexeme.Lexeme.{Lexeme}
use Rattle.c6x_asm_lines.specs.declared.line.Line.{Line}
use Rattle.c6x_asm_lines.specs.Grammar.{line_of}
use Rattle.c6x_asm_lines.specs.Lexemes.{lexemes_by_line}
use Rattle.c6x_asm_lines.specs.declared.rule.AsmRule.{AsmRule}
use Rattle.c6x_asm_lines.specs.declared.rule.AsmRule.TheVariants.{Syntax, Large}
use Rattle.c6x_asm_object.specs.Limits.{is_large}
use Rattle.c6x_asm.specs.States.{State}
use Rattle.c6x_asm.specs.StepLines.{stepped}
use Rattle.c6x_asm.specs.declared.broken.Broken.{Broken}

-- a line's number may not pass 65,536
abbrev pub counted : ℕ → Result State AsmRule → Result State AsmRule
counted number (Ok s) = if nat_lt 65536 number then Err Large else Ok s
counted number (Err rule) = Err rule

-- the object of the lines so far passes no limit
abbrev pub sized : List ℕ → Result State AsmRule → Result State AsmRule
sized text (Ok s) = if is_large text s.sections s.symbols then Err Large else Ok s
sized text (Err rule) = Err rule

abbrev pub read_line : List ℕ → ℕ → Option Line → State → Result State AsmRule
read_line text number None s = Err Syntax
read_line text number (Some line) s = stepped text number line s

-- the sections and symbols behind a line with these lexemes, or the lowest rule that it breaks
unfoldable pub lined : List ℕ → ℕ → List Lexeme → State → Result State AsmRule
lined text number lexemes s = counted number (sized text (read_line text number (line_of lexemes) s))

abbrev pub or_broken : ℕ → Result State AsmRule → (State → Result State Broken) → Result State Broken
or_broken number (Ok s) next = next s
or_broken number (Err rule) next = Err (record { rule = rule; line = number })

-- the sections and symbols behind lines, of which the first has this number; or the first line that breaks a rule
abbrev pub after_lines : List ℕ → ℕ → State → List (List Lexeme) → Result State Broken
after_lines text number s [] = Ok s
after_lines text number s (line ∷ lines) = or_broken number (lined text number line s) (λ t. after_lines text (number + 1) t lines)

-- the last byte is a newline, so that no line follows it
abbrev pub ends_in_newline : List ℕ → Bool
ends_in_newline text = slice_index text (length text - 1) == 10

-- all but the last
abbrev pub front : List (List Lexeme) → List (List Lexeme)
front [] = []
front (line ∷ []) = []
front (line ∷ next ∷ lines) = line ∷ front (next ∷ lines)

-- the lines of a text with these tokens: nothing behind the last newline is no line
unfoldable pub lines_of : List ℕ → List Token → List (List Lexeme)
lines_of text tokens = if ends_in_newline text then front (lexemes_by_line text tokens) else lexemes_by_line text tokens
