-- The tokens of a text: the longest slices from left to right.
use Rattle.std.specs.Prelude.{◌≡◌, ℕ, suc, zero, ◌+◌, ◌-◌, ◌≤◌, Bool, true, false, ◌==◌, if◌then◌else◌, List, [], ◌∷◌, ◌++◌, length, take, Option, Some, None, Result, Ok, Err, slice_range, Vec}
use Rattle.std.specs.declared.alloc.Global.{Global}
use Rattle.c6x_lex.specs.declared.kind.TokenKind.{TokenKind}
use Rattle.c6x_lex.specs.declared.kind.TokenKind.TheVariants.{NewLine}
use Rattle.c6x_lex.specs.declared.token.Token.{Token}
use Rattle.c6x_lex.specs.declared.cut.Piece.{Piece}
use Rattle.c6x_lex.specs.declared.place.Place.{Place}
use Rattle.c6x_lex.specs.declared.error.LexError.{LexError}
use Rattle.c6x_lex.specs.declared.error.LexError.TheVariants.{BadByte, NoMemory}
use Rattle.c6x_lex.specs.Forms.{token_form, is_blank, comment_len}

abbrev pub or_shorter : Option TokenKind → ℕ → Option Piece → Option Piece
or_shorter None n shorter = shorter
or_shorter (Some kind) n shorter = Some (record { kind = Some kind; len = n })

-- the longest token among the fronts of at most n bytes
abbrev pub longest_within : ℕ → List ℕ → Option Piece
longest_within zero bytes = None
longest_within (suc n) bytes = or_shorter (token_form (take (suc n) bytes)) (suc n) (longest_within n bytes)

-- the longest token that starts these bytes
unfoldable pub longest_token : List ℕ → Option Piece
longest_token bytes = longest_within (length bytes) bytes

abbrev pub no_token : ℕ → Piece
no_token n = record { kind = None; len = n }

-- what starts these bytes, of which b is the first: a comment, a blank, or the longest token
unfoldable pub piece_after : ℕ → List ℕ → Option Piece
piece_after b bs =
    if b == 59 then Some (no_token (1 + comment_len bs))
    else if is_blank b then Some (no_token 1)
    else longest_token (b ∷ bs)

abbrev pub is_new_line : Option TokenKind → Bool
is_new_line (Some NewLine) = true
is_new_line _ = false

-- where the next piece starts
abbrev pub behind : Piece → Place → Place
behind piece p =
    if is_new_line piece.kind
    then (record { at = p.at + piece.len; line = p.line + 1; start = p.at + piece.len })
    else (record { at = p.at + piece.len; line = p.line; start = p.start })

-- a byte that starts no piece; the column counts from 1
pub record Position : Type 0 where
  pub line : ℕ
  pub column : ℕ

abbrev pub spot_of : Place → Position
spot_of p = record { line = p.line; column = p.at - p.start + 1 }

abbrev pub prepend : List Token → Result (List Token) Position → Result (List Token) Position
prepend ts (Ok us) = Ok (ts ++ us)
prepend ts (Err spot) = Err spot

abbrev pub token_of : Piece → Place → List Token
token_of piece p = elim piece.kind [ None ↦ [] | Some k ↦ record { kind = k; at = p.at; len = piece.len; line = p.line } ∷ [] ]

abbrev pub cut : Option Piece → Place → (ℕ → Place → Result (List Token) Position) → Result (List Token) Position
cut None p rest = Err (spot_of p)
cut (Some piece) p rest = prepend (token_of piece p) (rest (piece.len - 1) (behind piece p))

-- the tokens from a place on, of which the next `skip` bytes still belong to the piece before
abbrev pub tokens_from : ℕ → Place → List ℕ → Result (List Token) Position
tokens_from skip p [] = Ok []
tokens_from (suc skip) p (b ∷ bs) = tokens_from skip p bs
tokens_from zero p (b ∷ bs) = cut (piece_after b bs) p (λ skip next. tokens_from skip next bs)

unfoldable pub tokens_of : List ℕ → Result (List Token) Position
tokens_of text = tokens_from 0 (record { at = 0; line = 1; start = 0 }) text

-- the answer of `lex`: the tokens, or the first byte that starts none
abbrev pub Lexes : Result (Vec Token Global) LexError → Result (List Token) Position → Type 0
Lexes (Ok tokens) told = told ≡ Ok tokens.items
Lexes (Err (BadByte line column)) told = told ≡ Err (record { line = line; column = column })
Lexes (Err NoMemory) told = Unit {0}

-- the tokens from `from` on: their spans are in order, apart and inside the text, and the bytes of
-- each span are a token of that kind
abbrev pub AreSpans : List ℕ → ℕ → List Token → Type 0
AreSpans text from [] = from ≤ length text
AreSpans text from (t ∷ ts) = (from ≤ t.at) × (token_form (slice_range text t.at (t.at + t.len)) ≡ Some t.kind) × AreSpans text (t.at + t.len) ts
