-- The sections and symbols of a text, or the first rule that it breaks.
use Rattle.std.specs.Prelude.{◌≡◌, ℕ, ◌-◌, min, List, [], ◌∷◌, take, Option, Some, None, Result, Ok, Err}
use Rattle.c6x_lex.specs.declared.token.Token.{Token}
use Rattle.c6x_lex.specs.Tokens.{Position, tokens_of}
use Rattle.c6x_asm_lines.specs.declared.lexeme.Lexeme.{Lexeme}
use Rattle.c6x_asm_lines.specs.declared.rule.AsmRule.TheVariants.{BadByte, Packet}
use Rattle.c6x_asm_object.specs.declared.object.Object.{Object}
use Rattle.c6x_asm_object.specs.declared.asm_section.AsmSection.{AsmSection}
use Rattle.c6x_asm.specs.Packets.{first_bad}
use Rattle.c6x_asm.specs.States.{State, state_of}
use Rattle.c6x_asm.specs.declared.asm_error.AsmError.{AsmError}
use Rattle.c6x_asm.specs.declared.asm_error.AsmError.TheVariants.{Rule, NoMemory}
use Rattle.c6x_asm.specs.declared.broken.Broken.{Broken}
use Rattle.c6x_asm.specs.Lines.{after_lines, lines_of}

-- the lower of two lines, where there are two
abbrev pub lower_line : Option ℕ → Option ℕ → Option ℕ
lower_line None other = other
lower_line (Some a) None = Some a
lower_line (Some a) (Some b) = Some (min a b)

-- the lowest first line of a packet of these sections that is none, or the one so far
abbrev pub bad_line : Option ℕ → List AsmSection → Option ℕ
bad_line line [] = line
bad_line line (p ∷ sections) = bad_line (lower_line line (first_bad p.instructions)) sections

abbrev pub or_packet : Option ℕ → Result State Broken → Result State Broken
or_packet None r = r
or_packet (Some line) r = Err (record { rule = Packet; line = line })

abbrev pub nothing : State
nothing = record { sections = []; now = None; symbols = [] }

-- all lines but those from this number on
abbrev pub before : ℕ → List (List Lexeme) → List (List Lexeme)
before number lines = take (number - 1) lines

-- a line breaks a rule: the packets of the lines before it are lower
abbrev pub stopped : Broken → Result State Broken → Result State Broken
stopped broken (Ok s) = or_packet (bad_line None s.sections) (Err broken)
stopped broken (Err other) = Err broken

-- how the lines end, by what they come to
abbrev pub ended : List ℕ → List (List Lexeme) → Result State Broken → Result State Broken
ended text lines (Ok s) = or_packet (bad_line None s.sections) (Ok s)
ended text lines (Err broken) = stopped broken (after_lines text 1 nothing (before broken.line lines))

unfoldable pub read_lines : List ℕ → List (List Lexeme) → Result State Broken
read_lines text lines = ended text lines (after_lines text 1 nothing lines)

abbrev pub read_tokens : List ℕ → Result (List Token) Position → Result State Broken
read_tokens text (Ok tokens) = read_lines text (lines_of text tokens)
read_tokens text (Err definition) = Err (record { rule = BadByte; line = definition.line })

-- the sections and symbols of a text, or the first rule that it breaks: a byte that starts no token before all others,
-- then the rule of the lowest line, and on one line the lowest rule
unfoldable pub read_of : List ℕ → Result State Broken
read_of text = read_tokens text (tokens_of text)

abbrev pub Reads : Result Object AsmError → Result State Broken → Type 0
Reads (Ok o) told = told ≡ Ok (state_of o)
Reads (Err (Rule rule line)) told = told ≡ Err (record { rule = rule; line = line })
Reads (Err NoMemory) told = Unit {0}
