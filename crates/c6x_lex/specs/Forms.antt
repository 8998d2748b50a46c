-- The forms of tokens, blanks and comments: this project's own syntax.
use Rattle.std.specs.Prelude.{ℕ, ◌+◌, ◌-◌, Bool, true, false, ◌&&◌, ◌||◌, not, nat_le, nat_lt, ◌==◌, if◌then◌else◌, List, [], ◌∷◌, length, slice_index, Option, Some, None}
use Rattle.std.specs.List.{list_all, prefix_len}
use Rattle.c6x_lex.specs.declared.kind.TokenKind.{TokenKind}
use Rattle.c6x_lex.specs.declared.kind.TokenKind.TheVariants.{Word, Number, Text, Punctuator, NewLine}

abbrev pub is_between : ℕ → ℕ → ℕ → Bool
is_between low high b = nat_le low b && nat_le b high

-- 0 to 9
abbrev pub is_digit : ℕ → Bool
is_digit b = is_between 48 57 b

-- 0 to 9, A to F, a to f
abbrev pub is_hex_digit : ℕ → Bool
is_hex_digit b = is_digit b || (is_between 65 70 b || is_between 97 102 b)

-- A to Z, a to z, `_`, `.`, `$`
abbrev pub starts_word : ℕ → Bool
starts_word b = is_between 65 90 b || (is_between 97 122 b || (b == 95 || (b == 46 || b == 36)))

abbrev pub continues_word : ℕ → Bool
continues_word b = starts_word b || is_digit b

-- neither a quote nor a newline
abbrev pub is_in_text : ℕ → Bool
is_in_text b = not (b == 34) && not (b == 10)

abbrev pub is_in_line : ℕ → Bool
is_in_line b = not (b == 10)

-- `:`, `,`, `[`, `]`, `(`, `)`, `*`, `+`, `-`, `!`, `%`
abbrev pub is_punctuator : ℕ → Bool
is_punctuator b = b == 58 || (b == 44 || (b == 91 || (b == 93 || (b == 40 || (b == 41 || (b == 42 || (b == 43 || (b == 45 || (b == 33 || b == 37)))))))))

-- a space or a tab
abbrev pub is_blank : ℕ → Bool
is_blank b = b == 32 || b == 9

abbrev pub is_empty : List ℕ → Bool
is_empty [] = true
is_empty (b ∷ bs) = false

-- these bytes are one byte, b
abbrev pub is_only : ℕ → List ℕ → Bool
is_only b [] = false
is_only b (c ∷ cs) = c == b && is_empty cs

-- at least one hexadecimal digit, and nothing else
abbrev pub has_hex_digits : List ℕ → Bool
has_hex_digits bs = nat_lt 0 (length bs) && list_all is_hex_digit bs

-- `x` and hexadecimal digits
abbrev pub ends_hex : List ℕ → Bool
ends_hex [] = false
ends_hex (b ∷ bs) = b == 120 && has_hex_digits bs

-- bytes of a text, and then the closing quote
abbrev pub ends_text : List ℕ → Bool
ends_text bs = prefix_len is_in_text bs + 1 == length bs && slice_index bs (prefix_len is_in_text bs) == 34

abbrev pub kind_if : TokenKind → Bool → Option TokenKind
kind_if kind holds = if holds then Some kind else None

-- what these bytes are where b is the first of them and the others follow
unfoldable pub form_after : ℕ → List ℕ → Option TokenKind
form_after b bs =
    if starts_word b then kind_if Word (list_all continues_word bs)
    else if is_digit b then kind_if Number (list_all is_digit bs || (b == 48 && ends_hex bs))
    else if b == 34 then kind_if Text (ends_text bs)
    else if b == 10 then kind_if NewLine (is_empty bs)
    else if b == 13 then kind_if NewLine (is_only 10 bs)
    else if b == 124 then kind_if Punctuator (is_only 124 bs)
    else kind_if Punctuator (is_punctuator b && is_empty bs)

-- the token that these bytes are as a whole
abbrev pub token_form : List ℕ → Option TokenKind
token_form [] = None
token_form (b ∷ bs) = form_after b bs

-- how many of the bytes behind a `;` belong to its comment: those of the line, of which a carriage
-- return just before the newline is no part
unfoldable pub comment_len : List ℕ → ℕ
comment_len bs =
    let n = prefix_len is_in_line bs in
    if nat_lt n (length bs) && (nat_lt 0 n && slice_index bs (n - 1) == 13) then n - 1 else n
