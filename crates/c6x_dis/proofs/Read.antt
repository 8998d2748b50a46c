-- A text whose parts stand apart is read as those parts.
use Rattle.std.proofs.Common.{◌≡◌, ℕ, ◌+◌, ◌-◌, List, [], ◌∷◌, ◌++◌, length, refl, arith}
use Rattle.std.proofs.lemmas.List.{length-append}
use Rattle.c6x_lex.specs.declared.token.Token.{Token}
use Rattle.c6x_asm_lines.specs.Lexemes.{lexeme_of, lexemes_by_line}
use Rattle.c6x_asm_lines.specs.declared.lexeme.Lexeme.{Lexeme}
use Rattle.c6x_dis.specs.Parts.{AreLines, IsRead, lexemes_at, line_before, line_length, lines_at, lines_before, number, Part, part_bytes, punctuator, quoted, space, text_of, tokens_at, tokens_before, word}
use Rattle.c6x_dis.proofs.TextCuts.{text_cut}
use Rattle.c6x_dis.proofs.Found.{behind_line, Goes, goes_on, lines_found, range_is}

line_lexed : (text : List ℕ) (number at : ℕ) (parts : List Part) (rest : List ℕ) (tokens : List Token) (lines : List (List Lexeme)) → Goes text at (line_before parts rest) → lexemes_by_line text tokens ≡ lines → lexemes_by_line text (tokens_before number at parts tokens) ≡ lexemes_at at parts ∷ lines
unfolding lexeme_of
line_lexed text n at [] rest tokens lines goes is = rw is refl
line_lexed text n at (word bs ∷ parts) rest tokens lines goes is =
    rw (range_is text at bs (line_before parts rest) goes, line_lexed text n (at + length bs) parts rest tokens lines (goes_on text at bs (line_before parts rest) goes) is) refl
line_lexed text n at (number bs ∷ parts) rest tokens lines goes is =
    rw (range_is text at bs (line_before parts rest) goes, line_lexed text n (at + length bs) parts rest tokens lines (goes_on text at bs (line_before parts rest) goes) is) refl
line_lexed text n at (quoted bs ∷ parts) rest tokens lines goes is =
    let len : length (34 ∷ bs ++ 34 ∷ []) - 2 ≡ length bs = omega (arith, length-append bs (34 ∷ [])) in
    rw (line_lexed text n (at + length (part_bytes (quoted bs))) parts rest tokens lines (goes_on text at (part_bytes (quoted bs)) (line_before parts rest) goes) is, len) refl
line_lexed text n at (punctuator b ∷ parts) rest tokens lines goes is =
    rw (range_is text at (b ∷ []) (line_before parts rest) goes, line_lexed text n (at + 1) parts rest tokens lines (goes_on text at (b ∷ []) (line_before parts rest) goes) is) refl
line_lexed text n at (space ∷ parts) rest tokens lines goes is =
    line_lexed text n (at + 1) parts rest tokens lines (goes_on text at (32 ∷ []) (line_before parts rest) goes) is

lines_lexed : (text : List ℕ) (number at : ℕ) (lines : List (List Part)) (rest : List ℕ) → Goes text at (lines_before lines rest) → lexemes_by_line text (tokens_at number at lines) ≡ lines_at at lines ++ ([] ∷ [])
lines_lexed text n at [] rest goes = refl
lines_lexed text n at (line ∷ lines) rest goes =
    line_lexed text n at line (lines_before lines rest) (tokens_at (n + 1) (at + line_length line) lines) (lines_at (at + line_length line) lines ++ ([] ∷ [])) goes
    (lines_lexed text (n + 1) (at + line_length line) lines rest (behind_line text at line (lines_before lines rest) goes))

whole : (lines : List (List Part)) → Goes (text_of lines) 0 (lines_before lines [])
whole lines = record { front = []; is = refl; place = refl }

pub text_read : (lines : List (List Part)) → AreLines lines → IsRead lines
text_read lines are = record {
  cut = text_cut lines are;
  lexed = lines_lexed (text_of lines) 1 0 lines [] (whole lines);
  found = lines_found (text_of lines) 0 lines [] (whole lines);
}
