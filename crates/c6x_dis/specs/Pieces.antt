-- What a line that is written of atoms is cut into (docs/ASSEMBLY.md, "Tokens"): this project's own syntax.
use Rattle.std.specs.Prelude.{◌≡◌, ℕ, ◌+◌, Bool, true, false, ◌&&◌, List, [], ◌∷◌, ◌++◌, length, Ok}
use Rattle.std.specs.List.{list_all}
use Rattle.c6x_lex.specs.Forms.{starts_word, continues_word, is_digit, is_punctuator}
use Rattle.c6x_lex.specs.Tokens.{tokens_from}
use Rattle.c6x_lex.specs.declared.kind.TokenKind.TheVariants.{Word as WordToken, Number as NumberToken, Punctuator as PunctuatorToken}
use Rattle.c6x_lex.specs.declared.place.Place.{Place}
use Rattle.c6x_lex.specs.declared.token.Token.{Token}
use Rattle.c6x_asm_lines.specs.Lexemes.{class_of, lexemes_by_line, number_of, punctuator_of}
use Rattle.c6x_asm_lines.specs.declared.lexeme.Lexeme.{Lexeme}
use Rattle.c6x_asm_lines.specs.declared.lexeme.Lexeme.TheVariants.{Word as Worded, Number as Numbered, Punctuator as Punctuated}
use Rattle.c6x_asm_lines.specs.declared.word.Word.{Word}
use Rattle.c6x_dis.specs.Atoms.{Atom, word, number, punctuator, space, bytes_of}

abbrev pub is_word : List ℕ → Bool
is_word [] = false
is_word (b ∷ bs) = starts_word b && list_all continues_word bs

abbrev pub is_decimal : List ℕ → Bool
is_decimal [] = false
is_decimal (b ∷ bs) = is_digit b && list_all is_digit bs

-- the bytes of an atom are one token of its kind
abbrev pub is_token : Atom → Bool
is_token (word bs) = is_word bs
is_token (number bs) = is_decimal bs
is_token (punctuator b) = is_punctuator b
is_token space = true

-- neither a word nor a number begins
abbrev pub is_end : List Atom → Bool
is_end [] = true
is_end (word bs ∷ atoms) = false
is_end (number bs ∷ atoms) = false
is_end (punctuator b ∷ atoms) = true
is_end (space ∷ atoms) = true

abbrev pub is_parted : Atom → List Atom → Bool
is_parted (word bs) atoms = is_end atoms
is_parted (number bs) atoms = is_end atoms
is_parted (punctuator b) atoms = true
is_parted space atoms = true

-- each atom is a token, and no word or number follows another without something between them
abbrev pub AreApart : List Atom → Type 0
AreApart [] = Unit {0}
AreApart (a ∷ atoms) = (is_token a ≡ true) × (is_parted a atoms ≡ true) × AreApart atoms

-- the tokens of atoms, of which the first starts at this offset of this line
abbrev pub tokens_at : ℕ → ℕ → List Atom → List Token
tokens_at line at [] = []
tokens_at line at (word bs ∷ atoms) = record { kind = WordToken; at = at; len = length bs; line = line } ∷ tokens_at line (at + length bs) atoms
tokens_at line at (number bs ∷ atoms) = record { kind = NumberToken; at = at; len = length bs; line = line } ∷ tokens_at line (at + length bs) atoms
tokens_at line at (punctuator b ∷ atoms) = record { kind = PunctuatorToken; at = at; len = 1; line = line } ∷ tokens_at line (at + 1) atoms
tokens_at line at (space ∷ atoms) = tokens_at line (at + 1) atoms

abbrev pub word_at : ℕ → List ℕ → Word
word_at at bytes = record { at = at; len = length bytes; class = class_of bytes }

-- what they stand for
abbrev pub lexemes_at : ℕ → List Atom → List Lexeme
lexemes_at at [] = []
lexemes_at at (word bs ∷ atoms) = Worded (word_at at bs) ∷ lexemes_at (at + length bs) atoms
lexemes_at at (number bs ∷ atoms) = Numbered (number_of bs) ∷ lexemes_at (at + length bs) atoms
lexemes_at at (punctuator b ∷ atoms) = Punctuated (punctuator_of b) ∷ lexemes_at (at + 1) atoms
lexemes_at at (space ∷ atoms) = lexemes_at (at + 1) atoms

-- The last line of a text is cut into its atoms, where these stand apart.
abbrev pub PiecesAreRead : Type 0
PiecesAreRead =
    (front : List ℕ) (atoms : List Atom) (p : Place) → AreApart atoms → p.at ≡ length front →
    (tokens_from 0 p (bytes_of atoms) ≡ Ok (tokens_at p.line p.at atoms))
    × (lexemes_by_line (front ++ bytes_of atoms) (tokens_at p.line p.at atoms) ≡ lexemes_at p.at atoms ∷ [])
