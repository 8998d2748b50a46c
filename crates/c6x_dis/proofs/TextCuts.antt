-- Bytes of lines whose parts stand apart are cut into those parts.
use Rattle.std.proofs.Common.{◌≡◌, ℕ, suc, ◌+◌, ◌<◌, true, List, [], ◌∷◌, ◌++◌, length, get_or, Some, None, Ok, refl, sym, ◌∙◌, ap, arith}
use Rattle.std.proofs.Math.Seq.{get_or-append_seam}
use Rattle.std.proofs.lemmas.Bool.{and_parts, true≢false}
use Rattle.std.proofs.lemmas.List.{append_assoc, length-append}
use Rattle.std.specs.List.{list_all, prefix_len}
use Rattle.c6x_lex.specs.Forms.{is_in_text}
use Rattle.c6x_lex.specs.Tokens.{behind, piece_after, prepend, token_of, tokens_from, tokens_of}
use Rattle.c6x_lex.specs.declared.kind.TokenKind.TheVariants.{Word as WordToken, Number as NumberToken, Text as TextToken, Punctuator as PunctuatorToken, NewLine}
use Rattle.c6x_lex.specs.declared.place.Place.{Place}
use Rattle.c6x_lex.specs.declared.token.Token.{Token}
use Rattle.c6x_lex.proofs.Longest.{longest_newline, longest_text}
use Rattle.c6x_dis.proofs.Cuts.{number_piece, piece, sign_piece, space_piece, step, word_piece}
use Rattle.c6x_dis.proofs.Signs.{sign_is, Stops}
use Rattle.c6x_dis.specs.Parts.{AreApart, AreLines, is_end, line_before, line_length, lines_before, number, Part, punctuator, quoted, space, text_of, tokens_at, tokens_before, word}

-- the bytes go on with no word, no digit and no hexadecimal digits
stops : (parts : List Part) (rest : List ℕ) → AreApart parts → is_end parts ≡ true → Stops (line_before parts rest)
stops [] rest apart ends = record { word = refl; digit = refl; hex = refl }
stops (word bs ∷ parts) rest apart ends = absurd (true≢false (sym ends))
stops (number bs ∷ parts) rest apart ends = absurd (true≢false (sym ends))
stops (quoted bs ∷ parts) rest apart ends = record { word = refl; digit = refl; hex = refl }
stops (punctuator b ∷ parts) rest apart ends =
    let s = sign_is b apart.0 in
    record { word = rw (s.starts, s.digit) refl; digit = rw s.digit refl; hex = rw s.hex refl }
stops (space ∷ parts) rest apart ends = record { word = refl; digit = refl; hex = refl }

-- a text between quotes ends at the next one
text_len : (bs rest : List ℕ) → list_all is_in_text bs ≡ true → prefix_len is_in_text (bs ++ 34 ∷ rest) ≡ length bs
text_len [] rest all = refl
text_len (b ∷ bs) rest all =
    let both = and_parts (is_in_text b) (list_all is_in_text bs) all in
    rw (both.0, text_len bs rest both.1) (omega arith)

text_piece : (bs rest : List ℕ) → list_all is_in_text bs ≡ true → piece_after 34 ((bs ++ 34 ∷ []) ++ rest) ≡ Some (piece (Some TextToken) (suc (length (bs ++ 34 ∷ []))))
unfolding piece_after
text_piece bs rest all =
    let len = text_len bs rest all in
    let inside : prefix_len is_in_text (bs ++ 34 ∷ rest) < length (bs ++ 34 ∷ rest) = omega (arith, len, length-append bs (34 ∷ rest)) in
    let ends : get_or (bs ++ 34 ∷ rest) (prefix_len is_in_text (bs ++ 34 ∷ rest)) 0 ≡ 34 = rw len (get_or-append_seam bs 34 rest 0) in
    rw (append_assoc bs (34 ∷ []) rest)
    (longest_text 34 (bs ++ 34 ∷ rest) refl inside ends ∙ ap (λ n. Some (piece (Some TextToken) n)) (omega (arith, len, length-append bs (34 ∷ []))))

newline_piece : (rest : List ℕ) → piece_after 10 rest ≡ Some (piece (Some NewLine) 1)
unfolding piece_after
newline_piece rest = longest_newline 10 rest refl

-- the tokens of what stands behind a line
abbrev Behind : Place → List Part → List ℕ → List Token → Type 0
Behind p parts rest tokens = (q : Place) → q.at ≡ p.at + line_length parts → q.line ≡ p.line + 1 → tokens_from 0 q rest ≡ Ok tokens

cut_line : (parts : List Part) (p : Place) (rest : List ℕ) (tokens : List Token) → AreApart parts → Behind p parts rest tokens → tokens_from 0 p (line_before parts rest) ≡ Ok (tokens_before p.line p.at parts tokens)
cut_line [] p rest tokens apart next =
    step (Some NewLine) 10 [] rest p (newline_piece rest)
    ∙ ap (λ r. prepend (token_of (piece (Some NewLine) 1) p) r) (next (behind (piece (Some NewLine) 1) p) refl refl)
cut_line (word [] ∷ parts) p rest tokens apart next = absurd (true≢false (sym apart.0))
cut_line (word (b ∷ bs) ∷ parts) p rest tokens apart next =
    step (Some WordToken) b bs (line_before parts rest) p (word_piece b bs (line_before parts rest) apart.0 (stops parts rest apart.2 apart.1).word)
    ∙ ap (λ r. prepend (token_of (piece (Some WordToken) (suc (length bs))) p) r)
    (cut_line parts (behind (piece (Some WordToken) (suc (length bs))) p) rest tokens apart.2 (λ q at line. next q (omega (arith, at)) line))
cut_line (number [] ∷ parts) p rest tokens apart next = absurd (true≢false (sym apart.0))
cut_line (number (b ∷ bs) ∷ parts) p rest tokens apart next =
    step (Some NumberToken) b bs (line_before parts rest) p (number_piece b bs (line_before parts rest) apart.0 (stops parts rest apart.2 apart.1))
    ∙ ap (λ r. prepend (token_of (piece (Some NumberToken) (suc (length bs))) p) r)
    (cut_line parts (behind (piece (Some NumberToken) (suc (length bs))) p) rest tokens apart.2 (λ q at line. next q (omega (arith, at)) line))
cut_line (quoted bs ∷ parts) p rest tokens apart next =
    step (Some TextToken) 34 (bs ++ 34 ∷ []) (line_before parts rest) p (text_piece bs (line_before parts rest) apart.0)
    ∙ ap (λ r. prepend (token_of (piece (Some TextToken) (suc (length (bs ++ 34 ∷ [])))) p) r)
    (cut_line parts (behind (piece (Some TextToken) (suc (length (bs ++ 34 ∷ [])))) p) rest tokens apart.2 (λ q at line. next q (omega (arith, at)) line))
cut_line (punctuator b ∷ parts) p rest tokens apart next =
    step (Some PunctuatorToken) b [] (line_before parts rest) p (sign_piece b (line_before parts rest) apart.0)
    ∙ ap (λ r. prepend (token_of (piece (Some PunctuatorToken) 1) p) r)
    (cut_line parts (behind (piece (Some PunctuatorToken) 1) p) rest tokens apart.2 (λ q at line. next q (omega (arith, at)) line))
cut_line (space ∷ parts) p rest tokens apart next =
    step None 32 [] (line_before parts rest) p (space_piece (line_before parts rest))
    ∙ ap (λ r. prepend (token_of (piece None 1) p) r)
    (cut_line parts (behind (piece None 1) p) rest tokens apart.2 (λ q at line. next q (omega (arith, at)) line))

cut_lines : (lines : List (List Part)) (p : Place) → AreLines lines → tokens_from 0 p (lines_before lines []) ≡ Ok (tokens_at p.line p.at lines)
cut_lines [] p are = refl
cut_lines (line ∷ lines) p are =
    cut_line line p (lines_before lines []) (tokens_at (p.line + 1) (p.at + line_length line) lines) are.0
    (λ q at number. rw (sym at, sym number) (cut_lines lines q are.1))

pub text_cut : (lines : List (List Part)) → AreLines lines → tokens_of (text_of lines) ≡ Ok (tokens_at 1 0 lines)
unfolding tokens_of
text_cut lines are = cut_lines lines (record { at = 0; line = 1; start = 0 }) are
