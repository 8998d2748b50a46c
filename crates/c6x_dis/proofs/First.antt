-- The tokens and the lines of a text of two lines.
use Rattle.std.proofs.Common.{◌≡◌, ℕ, ◌+◌, ◌-◌, ◌≤◌, Bool, true, false, not, eqb, List, [], ◌∷◌, ◌++◌, length, get_or, Some, None, Ok, codes, refl, sym, ◌∙◌, ap, arith}
use Rattle.std.proofs.lemmas.Bool.{and_parts, ne_eqb, true≢false}
use Rattle.std.proofs.lemmas.List.{get_or-append-add, length-append}
use Rattle.std.proofs.lemmas.List.Folds.{list_all-append, list_all_at}
use Rattle.std.specs.List.{list_all}
use Rattle.c6x_lex.specs.Forms.{continues_word, is_digit, is_in_line, starts_word}
use Rattle.c6x_lex.specs.Tokens.{piece_after, prepend, token_of, tokens_from, tokens_of}
use Rattle.c6x_lex.specs.declared.kind.TokenKind.TheVariants.{Word as WordToken, NewLine, Text as TextToken}
use Rattle.c6x_lex.specs.declared.place.Place.{Place}
use Rattle.c6x_lex.specs.declared.token.Token.{Token}
use Rattle.c6x_lex.proofs.Longest.{longest_newline, longest_text}
use Rattle.c6x_asm_lines.specs.Lexemes.{class_of, lexeme_of, register_of}
use Rattle.c6x_asm_lines.specs.declared.lexeme.Lexeme.{Lexeme}
use Rattle.c6x_asm_lines.specs.declared.lexeme.Lexeme.TheVariants.{Word as Worded, Text}
use Rattle.c6x_asm_lines.specs.declared.word.WordClass.TheVariants.{Dotted}
use Rattle.c6x_asm.specs.Lines.{ends_in_newline, lines_of}
use Rattle.c6x_dis.specs.Pieces.{AreApart, lexemes_at, tokens_at}
use Rattle.c6x_dis.proofs.Cuts.{piece, space_piece, step, tokens_are, word_piece}
use Rattle.c6x_dis.proofs.Lexed.{lexemes_are}
use Rattle.c6x_dis.proofs.Signs.{sign_is}
use Rattle.c6x_dis.specs.Words.{first_line}
use Rattle.c6x_dis.specs.Atoms.{Atom, word, number, punctuator, space, bytes_of}

abbrev place : ℕ → Place
place at = record { at = at; line = 1; start = 0 }

text_piece : (rest : List ℕ) → piece_after 34 (codes ".text\"" ++ rest) ≡ Some (piece (Some TextToken) 7)
unfolding piece_after
text_piece rest = longest_text 34 (codes ".text\"" ++ rest) refl (omega arith) refl

newline_piece : (rest : List ℕ) → piece_after 10 rest ≡ Some (piece (Some NewLine) 1)
unfolding piece_after
newline_piece rest = longest_newline 10 rest refl

-- the tokens of the first line
abbrev pub first_tokens : List Token
first_tokens =
    record { kind = WordToken; at = 0; len = 5; line = 1 } ∷ record { kind = TextToken; at = 6; len = 7; line = 1 }
    ∷ record { kind = NewLine; at = 13; len = 1; line = 1 } ∷ []

first_cut : (rest : List ℕ) (ts : List Token) → tokens_from 0 (record { at = 14; line = 2; start = 14 }) rest ≡ Ok ts → tokens_from 0 (place 0) (first_line ++ rest) ≡ Ok (first_tokens ++ ts)
first_cut rest ts is =
    step (Some WordToken) 46 (codes "sect") (32 ∷ 34 ∷ codes ".text\"" ++ 10 ∷ rest) (place 0) (word_piece 46 (codes "sect") (32 ∷ 34 ∷ codes ".text\"" ++ 10 ∷ rest) refl refl)
    ∙ ap (λ r. prepend (token_of (piece (Some WordToken) 5) (place 0)) r)
    (step None 32 [] (34 ∷ codes ".text\"" ++ 10 ∷ rest) (place 5) (space_piece (34 ∷ codes ".text\"" ++ 10 ∷ rest))
    ∙ ap (λ r. prepend (token_of (piece None 1) (place 5)) r)
    (step (Some TextToken) 34 (codes ".text\"") (10 ∷ rest) (place 6) (text_piece (10 ∷ rest))
    ∙ ap (λ r. prepend (token_of (piece (Some TextToken) 7) (place 6)) r)
    (step (Some NewLine) 10 [] rest (place 13) (newline_piece rest)
    ∙ ap (λ r. prepend (token_of (piece (Some NewLine) 1) (place 13)) r) is)))

pub text_cut : (atoms : List Atom) → AreApart atoms → tokens_of (first_line ++ bytes_of atoms) ≡ Ok (first_tokens ++ tokens_at 2 14 atoms)
unfolding tokens_of
text_cut atoms apart = first_cut (bytes_of atoms) (tokens_at 2 14 atoms) (tokens_are atoms (record { at = 14; line = 2; start = 14 }) apart)

-- no newline stands in a shown line
passes : (p q : ℕ → Bool) (bs : List ℕ) → ((b : ℕ) → p b ≡ true → q b ≡ true) → list_all p bs ≡ true → list_all q bs ≡ true
passes p q [] so all = refl
passes p q (b ∷ bs) so all =
    let both = and_parts (p b) (list_all p bs) all in
    rw (so b both.0, passes p q bs so both.1) refl

not_newline : (p : ℕ → Bool) → p 10 ≡ false → (b : ℕ) → p b ≡ true → is_in_line b ≡ true
not_newline p never b is = rw (ne_eqb b 10 (λ same. true≢false (sym is ∙ ap p same ∙ never))) refl

pub in_one_line : (atoms : List Atom) → AreApart atoms → list_all is_in_line (bytes_of atoms) ≡ true
in_one_line [] apart = refl
in_one_line (word [] ∷ atoms) apart = absurd (true≢false (sym apart.0))
in_one_line (word (b ∷ bs) ∷ atoms) apart =
    let both = and_parts (starts_word b) (list_all continues_word bs) apart.0 in
    rw (not_newline starts_word refl b both.0, list_all-append is_in_line bs (bytes_of atoms), passes continues_word is_in_line bs (not_newline continues_word refl) both.1) (in_one_line atoms apart.2)
in_one_line (number [] ∷ atoms) apart = absurd (true≢false (sym apart.0))
in_one_line (number (b ∷ bs) ∷ atoms) apart =
    let both = and_parts (is_digit b) (list_all is_digit bs) apart.0 in
    rw (not_newline is_digit refl b both.0, list_all-append is_in_line bs (bytes_of atoms), passes is_digit is_in_line bs (not_newline is_digit refl) both.1) (in_one_line atoms apart.2)
in_one_line (punctuator b ∷ atoms) apart = rw (ne_eqb b 10 (sign_is b apart.0).line) (in_one_line atoms apart.2)
in_one_line (space ∷ atoms) apart = in_one_line atoms apart.2

-- the last byte is no newline
open_end : (bs : List ℕ) → 1 ≤ length bs → list_all is_in_line bs ≡ true → ends_in_newline (first_line ++ bs) ≡ false
open_end bs some all = either (eqb (get_or bs (length bs - 1) 0) 10) refl
  where
    last : get_or (first_line ++ bs) (length (first_line ++ bs) - 1) 0 ≡ get_or bs (length bs - 1) 0
    last =
        let at : length (first_line ++ bs) - 1 ≡ 14 + (length bs - 1) = omega (arith, length-append first_line bs) in
        rw at (get_or-append-add first_line bs (length bs - 1) 0)

    either : (b : Bool) → eqb (get_or bs (length bs - 1) 0) 10 ≡ b → ends_in_newline (first_line ++ bs) ≡ false
    either true is = absurd (true≢false (sym all ∙ list_all_at is_in_line bs (length bs - 1) 0 (omega arith) (ap not is)))
    either false is = ap (λ n. eqb n 10) last ∙ is

abbrev pub first_lexemes : List Lexeme
first_lexemes = Worded (record { at = 0; len = 5; class = Dotted }) ∷ Text 7 5 ∷ []

pub two_lines : (atoms : List Atom) → AreApart atoms → 1 ≤ length (bytes_of atoms) → lines_of (first_line ++ bytes_of atoms) (first_tokens ++ tokens_at 2 14 atoms) ≡ first_lexemes ∷ lexemes_at 14 atoms ∷ []
unfolding lines_of lexeme_of class_of register_of
two_lines atoms apart some =
    rw (open_end (bytes_of atoms) some (in_one_line atoms apart), lexemes_are first_line atoms 2 14 refl) refl
