-- The lexemes of a text: its tokens by line, with what each stands for.
use Rattle.std.specs.Prelude.{ℕ, ◌+◌, ◌-◌, ◌*◌, ◌^◌, nat_le, nat_lt, ◌==◌, Bool, false, ◌&&◌, ◌||◌, if◌then◌else◌, List, [], ◌∷◌, Option, Some, None, slice_range}
use Rattle.std.specs.List.{onto_first}
use Rattle.c6x_base.specs.declared.side.Side.{Side}
use Rattle.c6x_base.specs.declared.side.Side.TheVariants.{A, B}
use Rattle.c6x_lex.specs.Forms.{is_digit}
use Rattle.c6x_lex.specs.declared.token.Token.{Token}
use Rattle.c6x_lex.specs.declared.kind.TokenKind.{TokenKind}
use Rattle.c6x_lex.specs.declared.kind.TokenKind.TheVariants.{Word as WordToken, Number as NumberToken, Text as TextToken, Punctuator as PunctuatorToken, NewLine}
use Rattle.c6x_asm_lines.specs.declared.register.Register.{Register}
use Rattle.c6x_asm_lines.specs.declared.punctuator.Punctuator.{Punctuator}
use Rattle.c6x_asm_lines.specs.declared.punctuator.Punctuator.TheVariants.{Colon, Comma, LeftBracket, RightBracket, LeftParenthesis, RightParenthesis, Star, Plus, Minus, Bang, Percent, ParallelBars}
use Rattle.c6x_asm_lines.specs.declared.lexeme.Lexeme.{Lexeme}
use Rattle.c6x_asm_lines.specs.declared.lexeme.Lexeme.TheVariants.{Word as Worded, Number as Numbered, Text, Punctuator as Punctuated}
use Rattle.c6x_asm_lines.specs.declared.word.WordClass.{WordClass}
use Rattle.c6x_asm_lines.specs.declared.word.WordClass.TheVariants.{Register as RegisterClass, Dotted, Nop, Other}
use Rattle.c6x_spec.specs.Options.{◌>>=◌}

-- `A` and `B`, in either case
abbrev pub side_of : ℕ → Option Side
side_of b = if b == 65 || b == 97 then Some A else if b == 66 || b == 98 then Some B else None

-- 0 to 9
abbrev pub one_digit : ℕ → Option ℕ
one_digit d = if is_digit d then Some (d - 48) else None

-- 10 to 31
abbrev pub two_digits : ℕ → ℕ → Option ℕ
two_digits t d =
    if (t == 49 || t == 50) && is_digit d then Some (10 * (t - 48) + (d - 48))
    else if t == 51 && (d == 48 || d == 49) then Some (30 + (d - 48))
    else None

-- A0 to A31 and B0 to B31
unfoldable pub register_of : List ℕ → Option Register
register_of (s ∷ d ∷ []) = side_of s >>= λ side. one_digit d >>= λ n. Some (record { side = side; number = n })
register_of (s ∷ t ∷ d ∷ []) = side_of s >>= λ side. two_digits t d >>= λ n. Some (record { side = side; number = n })
register_of _ = None

abbrev pub is_nop : List ℕ → Bool
is_nop (n ∷ o ∷ p ∷ []) = (n == 78 || n == 110) && ((o == 79 || o == 111) && (p == 80 || p == 112))
is_nop _ = false

abbrev pub begins_with_dot : List ℕ → Bool
begins_with_dot [] = false
begins_with_dot (b ∷ bs) = b == 46

abbrev pub class_or : Option Register → List ℕ → WordClass
class_or (Some register) bytes = RegisterClass register
class_or None bytes = if begins_with_dot bytes then Dotted else if is_nop bytes then Nop else Other

unfoldable pub class_of : List ℕ → WordClass
class_of bytes = class_or (register_of bytes) bytes

-- the value of a hexadecimal digit
abbrev pub digit_of : ℕ → ℕ
digit_of b = if is_digit b then b - 48 else if nat_le 97 b then b - 87 else b - 55

-- the number that these digits continue
abbrev pub digits_from : ℕ → ℕ → List ℕ → ℕ
digits_from base n [] = n
digits_from base n (b ∷ bs) = digits_from base (n * base + digit_of b) bs

abbrev pub below_limit : ℕ → Option ℕ
below_limit n = if nat_lt n (2 ^ 32) then Some n else None

unfoldable pub digits_value : ℕ → List ℕ → Option ℕ
digits_value base bs = below_limit (digits_from base 0 bs)

-- a decimal number, or a hexadecimal one behind `0x`; None where it is above 4,294,967,295
unfoldable pub number_of : List ℕ → Option ℕ
number_of (a ∷ x ∷ ds) = if x == 120 then digits_value 16 ds else digits_value 10 (a ∷ x ∷ ds)
number_of bs = digits_value 10 bs

-- the sign that begins with this byte
unfoldable pub punctuator_of : ℕ → Punctuator
punctuator_of b =
    if b == 58 then Colon else if b == 44 then Comma else if b == 91 then LeftBracket else if b == 93 then RightBracket
    else if b == 40 then LeftParenthesis else if b == 41 then RightParenthesis else if b == 42 then Star else if b == 43 then Plus
    else if b == 45 then Minus else if b == 33 then Bang else if b == 37 then Percent else ParallelBars

abbrev pub first_of : List ℕ → ℕ
first_of [] = 0
first_of (b ∷ bs) = b

abbrev pub lexeme_with : TokenKind → ℕ → ℕ → List ℕ → Option Lexeme
lexeme_with WordToken at len bytes = Some (Worded (record { at = at; len = len; class = class_of bytes }))
lexeme_with NumberToken at len bytes = Some (Numbered (number_of bytes))
lexeme_with TextToken at len bytes = Some (Text (at + 1) (len - 2))
lexeme_with PunctuatorToken at len bytes = Some (Punctuated (punctuator_of (first_of bytes)))
lexeme_with NewLine at len bytes = None

-- what a token stands for; None at the end of a line
unfoldable pub lexeme_of : List ℕ → Token → Option Lexeme
lexeme_of text t = lexeme_with t.kind t.at t.len (slice_range text t.at (t.at + t.len))

abbrev pub with_lexeme : Option Lexeme → List (List Lexeme) → List (List Lexeme)
with_lexeme None lines = [] ∷ lines
with_lexeme (Some lexeme) lines = onto_first lexeme lines

-- the lexemes of each line
abbrev pub lexemes_by_line : List ℕ → List Token → List (List Lexeme)
lexemes_by_line text [] = [] ∷ []
lexemes_by_line text (t ∷ ts) = with_lexeme (lexeme_of text t) (lexemes_by_line text ts)
