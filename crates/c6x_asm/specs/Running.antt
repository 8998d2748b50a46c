-- The tokens of a text one after the other, as the code goes through them.
use Rattle.std.specs.Prelude.{◌≡◌, ℕ, ◌+◌, ◌==◌, Bool, false, if◌then◌else◌, List, [], ◌∷◌, ◌++◌, Option, Some, None, Result, Ok, Err}
use Rattle.c6x_lex.specs.declared.token.Token.{Token}
use Rattle.c6x_asm_lines.specs.declared.lexeme.Lexeme.{Lexeme}
use Rattle.c6x_asm_lines.specs.Lexemes.{lexeme_of}
use Rattle.c6x_asm_lines.specs.declared.rule.AsmRule.{AsmRule}
use Rattle.c6x_asm_object.specs.declared.object.Object.{Object}
use Rattle.c6x_asm.specs.States.{State, state_of}
use Rattle.c6x_asm.specs.declared.broken.Broken.{Broken}
use Rattle.c6x_asm.specs.Lines.{ends_in_newline, lined, or_broken}

-- the number of the line that has begun, its lexemes, and the sections and symbols of the lines before it
pub record Left : Type 0 where
  pub line : ℕ
  pub lexemes : List Lexeme
  pub state : State

abbrev pub left : ℕ → List Lexeme → State → Left
left line lexemes s = record { line = line; lexemes = lexemes; state = s }

-- a pass may end where this line begins
abbrev pub is_end : Option ℕ → ℕ → Bool
is_end None line = false
is_end (Some end) line = line == end

abbrev pub or_stop : ℕ → Result State AsmRule → (State → Result Left Broken) → Result Left Broken
or_stop line (Ok s) next = next s
or_stop line (Err rule) next = Err (record { rule = rule; line = line })

-- one token further
abbrev pub on_lexeme : List ℕ → ℕ → List Lexeme → State → Option Lexeme → (ℕ → List Lexeme → State → Result Left Broken) → Result Left Broken
on_lexeme text line lexemes s (Some lexeme) next = next line (lexemes ++ lexeme ∷ []) s
on_lexeme text line lexemes s None next = or_stop line (lined text line lexemes s) (λ t. next (line + 1) [] t)

abbrev pub run_from : List ℕ → Option ℕ → ℕ → List Lexeme → State → List Token → Result Left Broken
run_from text end line lexemes s [] = Ok (left line lexemes s)
run_from text end line lexemes s (token ∷ tokens) =
    if is_end end line then Ok (left line lexemes s)
    else on_lexeme text line lexemes s (lexeme_of text token) (λ next rest t. run_from text end next rest t tokens)

abbrev pub state_left : Result Left Broken → Result State Broken
state_left (Ok l) = Ok l.state
state_left (Err broken) = Err broken

-- the line that has begun is the last one, or none behind a last newline
abbrev pub last_lined : List ℕ → Left → Result State Broken
last_lined text l = if ends_in_newline text then Ok l.state else or_broken l.line (lined text l.line l.lexemes l.state) (λ s. Ok s)

abbrev pub and_last : List ℕ → Result Left Broken → Result State Broken
and_last text (Ok l) = last_lined text l
and_last text (Err broken) = Err broken

abbrev pub Completes : Result (Unit {0}) Broken → Object → Result State Broken → Type 0
Completes (Ok done) o told = told ≡ Ok (state_of o)
Completes (Err broken) o told = told ≡ Err broken

abbrev pub Runs : Result ℕ Broken → List Lexeme → Object → Result Left Broken → Type 0
Runs (Ok line) lexemes o told = told ≡ Ok (left line lexemes (state_of o))
Runs (Err broken) lexemes o told = told ≡ Err broken

-- one token further: what is left of the tokens is gone through from there, or a line breaks a rule
abbrev pub Goes : Result ℕ AsmRule → ℕ → Result Left Broken → (ℕ → Result Left Broken) → Type 0
Goes (Ok line) from whole next = whole ≡ next line
Goes (Err rule) from whole next = whole ≡ Err (record { rule = rule; line = from })
