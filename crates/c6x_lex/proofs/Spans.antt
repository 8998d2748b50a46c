-- The tokens of a text stand at spans in order, whose bytes are tokens of their kinds.
use Rattle.std.proofs.Common.{◌≡◌, ℕ, suc, zero, ◌+◌, ◌-◌, ◌≤◌, Bool, true, false, cond, eqb, ltb, ◌&&◌, List, [], ◌∷◌, ◌++◌, length, take, drop, get_or, Option, Some, None, Result, Ok, Err, refl, ◌∙◌, ap, arith}
use Rattle.std.proofs.lemmas.List.{drop-drop}
use Rattle.std.proofs.lemmas.List.Sums.{prefix_len-le-length}
use Rattle.std.specs.List.{prefix_len}
use Rattle.c6x_lex.specs.declared.kind.TokenKind.{TokenKind}
use Rattle.c6x_lex.specs.declared.token.Token.{Token}
use Rattle.c6x_lex.specs.declared.cut.Piece.{Piece}
use Rattle.c6x_lex.specs.declared.place.Place.{Place}
use Rattle.c6x_lex.specs.Forms.{token_form, is_in_line, is_blank, comment_len}
use Rattle.c6x_lex.specs.Tokens.{longest_within, longest_token, or_shorter, no_token, piece_after, behind, token_of, prepend, cut, tokens_from, tokens_of, Position, AreSpans}
use Rattle.c6x_lex.proofs.Steps.{behind_at}

-- what a piece of these bytes is
pub record IsPiece (bytes : List ℕ) (piece : Piece) : Type 0 where
  pub some : 1 ≤ piece.len
  pub within : piece.len ≤ length bytes
  pub form : (k : TokenKind) → piece.kind ≡ Some k → token_form (take piece.len bytes) ≡ Some k

longest_is : (n : ℕ) (bytes : List ℕ) (piece : Piece) → n ≤ length bytes → longest_within n bytes ≡ Some piece → IsPiece bytes piece
longest_is zero bytes piece few is = absurd (cc)
longest_is (suc n) bytes piece few is = either (longest_is n bytes piece (omega arith)) (token_form (take (suc n) bytes)) refl is
  where
    either : (longest_within n bytes ≡ Some piece → IsPiece bytes piece) → (o : Option TokenKind) → token_form (take (suc n) bytes) ≡ o → or_shorter o (suc n) (longest_within n bytes) ≡ Some piece → IsPiece bytes piece
    either before None form shorter = before shorter
    either before (Some kind) form here =
        let same : piece ≡ record { kind = Some kind; len = suc n } = cc in
        rw same (record { some = omega arith; within = few; form = λ k e. form ∙ e })

comment_len_within : (bs : List ℕ) → comment_len bs ≤ length bs
unfolding comment_len
comment_len_within bs = either (ltb (prefix_len is_in_line bs) (length bs) && (ltb 0 (prefix_len is_in_line bs) && eqb (get_or bs (prefix_len is_in_line bs - 1) 0) 13))
  where
    either : (b : Bool) → cond b (prefix_len is_in_line bs - 1) (prefix_len is_in_line bs) ≤ length bs
    either true = omega (arith, prefix_len-le-length is_in_line bs)
    either false = prefix_len-le-length is_in_line bs

no_token_is : (bytes : List ℕ) (n : ℕ) (piece : Piece) → 1 ≤ n → n ≤ length bytes → Some (no_token n) ≡ Some piece → IsPiece bytes piece
no_token_is bytes n piece some within is =
    let same : piece ≡ no_token n = cc in
    rw same (record { some = some; within = within; form = λ k e. absurd (cc) })

piece_is : (b : ℕ) (bs : List ℕ) (piece : Piece) → piece_after b bs ≡ Some piece → IsPiece (b ∷ bs) piece
unfolding piece_after longest_token
piece_is b bs piece is = commented (eqb b 59) is
  where
    blank : (t : Bool) → cond t (Some (no_token 1)) (longest_token (b ∷ bs)) ≡ Some piece → IsPiece (b ∷ bs) piece
    blank true is = no_token_is (b ∷ bs) 1 piece (omega arith) (omega arith) is
    blank false is = longest_is (length (b ∷ bs)) (b ∷ bs) piece (omega arith) is

    commented : (t : Bool) → cond t (Some (no_token (1 + comment_len bs))) (cond (is_blank b) (Some (no_token 1)) (longest_token (b ∷ bs))) ≡ Some piece → IsPiece (b ∷ bs) piece
    commented true is = no_token_is (b ∷ bs) (1 + comment_len bs) piece (omega arith) (omega (arith, comment_len_within bs)) is
    commented false is = blank (is_blank b) is

later : (text : List ℕ) (from at : ℕ) (ts : List Token) → from ≤ at → AreSpans text at ts → AreSpans text from ts
later text from at [] first spans = omega arith
later text from at (t ∷ ts) first spans = (omega (arith, spans.0), spans.1, spans.2)

-- a piece's token, and the tokens behind it
joined : (text : List ℕ) (bs : List ℕ) (p : Place) (piece : Piece) (us : List Token) → bs ≡ drop p.at text → IsPiece bs piece → AreSpans text (p.at + piece.len) us → AreSpans text p.at (token_of piece p ++ us)
joined text bs p piece us here is spans = either piece.kind refl
  where
    either : (o : Option TokenKind) → piece.kind ≡ o → AreSpans text p.at ((elim o as (λ _. List Token) [ None ↦ [] | Some k ↦ record { kind = k; at = p.at; len = piece.len; line = p.line } ∷ [] ]) ++ us)
    either None e = later text p.at (p.at + piece.len) us (omega arith) spans
    either (Some k) e =
        let span : p.at + piece.len - p.at ≡ piece.len = omega arith in
        let form : token_form (take (p.at + piece.len - p.at) (drop p.at text)) ≡ Some k = rw (span, ← here) (is.form k e) in
        (omega arith, form, spans)

spans_from : (text bs : List ℕ) (skip at : ℕ) (p : Place) (ts : List Token) → bs ≡ drop at text → at + length bs ≡ length text → p.at ≡ at + skip → skip ≤ length bs → tokens_from skip p bs ≡ Ok ts → AreSpans text p.at ts
spans_from text [] skip at p ts here ends place few is =
    let none : ts ≡ [] = cc in
    rw none (omega arith)
spans_from text (b ∷ bs) (suc skip) at p ts here ends place few is =
    let next : bs ≡ drop (at + 1) text = ap (λ xs. drop 1 xs) here ∙ drop-drop 1 at text in
    spans_from text bs skip (at + 1) p ts next (omega arith) (omega arith) (omega arith) is
spans_from text (b ∷ bs) zero at p ts here ends place few is =
    let next : bs ≡ drop (at + 1) text = ap (λ xs. drop 1 xs) here ∙ drop-drop 1 at text in
    either
    (λ skip q us start within rest. spans_from text bs skip (at + 1) q us next (omega arith) start within rest)
    (piece_after b bs) refl is
  where
    rest_is : ((skip : ℕ) (q : Place) (us : List Token) → q.at ≡ at + 1 + skip → skip ≤ length bs → tokens_from skip q bs ≡ Ok us → AreSpans text q.at us) → (piece : Piece) (r : Result (List Token) Position) → IsPiece (b ∷ bs) piece → tokens_from (piece.len - 1) (behind piece p) bs ≡ r → prepend (token_of piece p) r ≡ Ok ts → AreSpans text p.at ts
    rest_is before piece (Err spot) piece_is rest is = absurd (cc)
    rest_is before piece (Ok us) piece_is rest is =
        let all : ts ≡ token_of piece p ++ us = cc in
        let start : (behind piece p).at ≡ p.at + piece.len = behind_at piece p in
        let spans : AreSpans text (behind piece p).at us = before (piece.len - 1) (behind piece p) us (omega (arith, piece_is.some)) (omega (arith, piece_is.within, piece_is.some)) rest in
        let same_place : at ≡ p.at = omega arith in
        let whole : b ∷ bs ≡ drop p.at text = here ∙ ap (λ n. drop n text) same_place in
        rw all (joined text (b ∷ bs) p piece us whole piece_is (rw start at spans))

    either : ((skip : ℕ) (q : Place) (us : List Token) → q.at ≡ at + 1 + skip → skip ≤ length bs → tokens_from skip q bs ≡ Ok us → AreSpans text q.at us) → (o : Option Piece) → piece_after b bs ≡ o → cut o p (λ skip next. tokens_from skip next bs) ≡ Ok ts → AreSpans text p.at ts
    either before None none is = absurd (cc)
    either before (Some piece) some is = rest_is before piece (tokens_from (piece.len - 1) (behind piece p) bs) (piece_is b bs piece some) refl is

pub spans_of : (text : List ℕ) (ts : List Token) → tokens_of text ≡ Ok ts → AreSpans text 0 ts
unfolding tokens_of
spans_of text ts is = spans_from text text 0 0 (record { at = 0; line = 1; start = 0 }) ts refl (omega arith) refl (omega arith) is
