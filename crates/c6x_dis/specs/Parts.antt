-- A text of lines that are written of parts, and what it is cut into (docs/ASSEMBLY.md, "Tokens"): this project's own syntax.
use Rattle.std.specs.Prelude.{◌≡◌, ℕ, ◌+◌, Bool, true, false, List, [], ◌∷◌, ◌++◌, length, Option, Some, None, Ok}
use Rattle.std.specs.List.{list_all}
use Rattle.c6x_lex.specs.Forms.{is_in_text, is_punctuator}
use Rattle.c6x_lex.specs.Tokens.{tokens_of}
use Rattle.c6x_lex.specs.declared.kind.TokenKind.{TokenKind}
use Rattle.c6x_lex.specs.declared.kind.TokenKind.TheVariants.{Word as WordToken, Number as NumberToken, Text as TextToken, Punctuator as PunctuatorToken, NewLine}
use Rattle.c6x_lex.specs.declared.token.Token.{Token}
use Rattle.c6x_asm_lines.specs.Bytes.{bytes_at}
use Rattle.c6x_asm_lines.specs.Lexemes.{lexemes_by_line, number_of, punctuator_of}
use Rattle.c6x_asm_lines.specs.declared.lexeme.Lexeme.{Lexeme}
use Rattle.c6x_asm_lines.specs.declared.lexeme.Lexeme.TheVariants.{Word as Worded, Number as Numbered, Text, Punctuator as Punctuated}
use Rattle.c6x_dis.specs.Pieces.{is_decimal, is_word, word_at}

-- the bytes of one token, or a blank between two
pub data Part : Type 0 where
  word number quoted : List ℕ → Part
  punctuator : ℕ → Part
  space : Part

abbrev pub part_bytes : Part → List ℕ
part_bytes (word bs) = bs
part_bytes (number bs) = bs
part_bytes (quoted bs) = 34 ∷ bs ++ 34 ∷ []
part_bytes (punctuator b) = b ∷ []
part_bytes space = 32 ∷ []

-- the bytes of a line and its newline, and then these
abbrev pub line_before : List Part → List ℕ → List ℕ
line_before [] rest = 10 ∷ rest
line_before (p ∷ parts) rest = part_bytes p ++ line_before parts rest

abbrev pub line_length : List Part → ℕ
line_length [] = 1
line_length (p ∷ parts) = length (part_bytes p) + line_length parts

-- the bytes of lines, and then these
abbrev pub lines_before : List (List Part) → List ℕ → List ℕ
lines_before [] rest = rest
lines_before (line ∷ lines) rest = line_before line (lines_before lines rest)

-- the text of lines, each with its newline
abbrev pub text_of : List (List Part) → List ℕ
text_of lines = lines_before lines []

-- the bytes of a part are one token of its kind
abbrev pub is_token : Part → Bool
is_token (word bs) = is_word bs
is_token (number bs) = is_decimal bs
is_token (quoted bs) = list_all is_in_text bs
is_token (punctuator b) = is_punctuator b
is_token space = true

-- neither a word nor a number begins
abbrev pub is_end : List Part → Bool
is_end [] = true
is_end (word bs ∷ parts) = false
is_end (number bs ∷ parts) = false
is_end (quoted bs ∷ parts) = true
is_end (punctuator b ∷ parts) = true
is_end (space ∷ parts) = true

abbrev pub is_parted : Part → List Part → Bool
is_parted (word bs) parts = is_end parts
is_parted (number bs) parts = is_end parts
is_parted _ parts = true

-- each part is a token, and no word or number follows another without something between them
abbrev pub AreApart : List Part → Type 0
AreApart [] = Unit {0}
AreApart (p ∷ parts) = (is_token p ≡ true) × (is_parted p parts ≡ true) × AreApart parts

-- and so on each line
abbrev pub AreLines : List (List Part) → Type 0
AreLines [] = Unit {0}
AreLines (line ∷ lines) = AreApart line × AreLines lines

abbrev pub kind_of : Part → Option TokenKind
kind_of (word bs) = Some WordToken
kind_of (number bs) = Some NumberToken
kind_of (quoted bs) = Some TextToken
kind_of (punctuator b) = Some PunctuatorToken
kind_of space = None

abbrev pub with_token : Option TokenKind → ℕ → ℕ → ℕ → List Token → List Token
with_token None line at len tokens = tokens
with_token (Some kind) line at len tokens = record { kind = kind; at = at; len = len; line = line } ∷ tokens

-- the tokens of a line that has this number and starts at this offset, and then these
abbrev pub tokens_before : ℕ → ℕ → List Part → List Token → List Token
tokens_before line at [] tokens = record { kind = NewLine; at = at; len = 1; line = line } ∷ tokens
tokens_before line at (p ∷ parts) tokens = with_token (kind_of p) line at (length (part_bytes p)) (tokens_before line (at + length (part_bytes p)) parts tokens)

-- the tokens of lines, of which the first has this number and starts at this offset
abbrev pub tokens_at : ℕ → ℕ → List (List Part) → List Token
tokens_at count at [] = []
tokens_at count at (line ∷ lines) = tokens_before count at line (tokens_at (count + 1) (at + line_length line) lines)

-- what the parts of a line stand for
abbrev pub lexemes_at : ℕ → List Part → List Lexeme
lexemes_at at [] = []
lexemes_at at (word bs ∷ parts) = Worded (word_at at bs) ∷ lexemes_at (at + length bs) parts
lexemes_at at (number bs ∷ parts) = Numbered (number_of bs) ∷ lexemes_at (at + length bs) parts
lexemes_at at (quoted bs ∷ parts) = Text (at + 1) (length bs) ∷ lexemes_at (at + length (part_bytes (quoted bs))) parts
lexemes_at at (punctuator b ∷ parts) = Punctuated (punctuator_of b) ∷ lexemes_at (at + 1) parts
lexemes_at at (space ∷ parts) = lexemes_at (at + 1) parts

abbrev pub lines_at : ℕ → List (List Part) → List (List Lexeme)
lines_at at [] = []
lines_at at (line ∷ lines) = lexemes_at at line ∷ lines_at (at + line_length line) lines

-- the words and the texts between quotes of a line that starts at this offset are found there
abbrev pub AreAt : List ℕ → ℕ → List Part → Type 0
AreAt text at [] = Unit {0}
AreAt text at (word bs ∷ parts) = (bytes_at text at (length bs) ≡ bs) × AreAt text (at + length bs) parts
AreAt text at (number bs ∷ parts) = AreAt text (at + length bs) parts
AreAt text at (quoted bs ∷ parts) = (bytes_at text (at + 1) (length bs) ≡ bs) × AreAt text (at + length (part_bytes (quoted bs))) parts
AreAt text at (punctuator b ∷ parts) = AreAt text (at + 1) parts
AreAt text at (space ∷ parts) = AreAt text (at + 1) parts

abbrev pub LinesAreAt : List ℕ → ℕ → List (List Part) → Type 0
LinesAreAt text at [] = Unit {0}
LinesAreAt text at (line ∷ lines) = AreAt text at line × LinesAreAt text (at + line_length line) lines

-- A text whose parts stand apart on each line is cut into them; its lines, with nothing behind the last newline, are what
-- they stand for; and each word is found where it stands.
pub record IsRead (lines : List (List Part)) : Type 0 where
  pub cut : tokens_of (text_of lines) ≡ Ok (tokens_at 1 0 lines)
  pub lexed : lexemes_by_line (text_of lines) (tokens_at 1 0 lines) ≡ lines_at 0 lines ++ ([] ∷ [])
  pub found : LinesAreAt (text_of lines) 0 lines

abbrev pub TextsAreRead : Type 0
TextsAreRead = (lines : List (List Part)) → AreLines lines → IsRead lines
