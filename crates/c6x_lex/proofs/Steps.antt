-- The steps from one piece to the next.
use Rattle.std.proofs.Common.{◌≡◌, ℕ, suc, zero, ◌+◌, ◌-◌, ◌<◌, ◌≤◌, Bool, true, false, if◌then◌else◌, List, [], ◌∷◌, ◌++◌, length, drop, get_or, Some, None, Result, Ok, Err, refl, sym, ◌∙◌, ap, arith}
use Rattle.std.proofs.lemmas.List.{append_assoc, append-nil, drop_more, drop_all, drop-drop}
use Rattle.c6x_lex.specs.declared.token.Token.{Token}
use Rattle.c6x_lex.specs.declared.cut.Piece.{Piece}
use Rattle.c6x_lex.specs.declared.place.Place.{Place}
use Rattle.c6x_lex.specs.Tokens.{piece_after, behind, is_new_line, token_of, prepend, tokens_from, tokens_of, Position, spot_of}

skipped : (n : ℕ) (p : Place) (bs : List ℕ) → tokens_from n p bs ≡ tokens_from 0 p (drop n bs)
skipped zero p bs = refl
skipped (suc n) p [] = refl
skipped (suc n) p (b ∷ bs) = skipped n p bs

prepended : (ts us : List Token) (r : Result (List Token) Position) → prepend ts (prepend us r) ≡ prepend (ts ++ us) r
prepended ts us (Ok vs) = ap (λ ws. Ok ws) (sym (append_assoc ts us vs))
prepended ts us (Err spot) = refl

place_at : (b : Bool) (x y : Place) (n : ℕ) → x.at ≡ n → y.at ≡ n → (if◌then◌else◌ {A = Place} b x y).at ≡ n
place_at true x y n one other = one
place_at false x y n one other = other

pub behind_at : (piece : Piece) (p : Place) → (behind piece p).at ≡ p.at + piece.len
behind_at piece p = place_at (is_new_line piece.kind) _ _ (p.at + piece.len) refl refl

pub tokens_step : (text : List ℕ) (p : Place) (piece : Piece) (ts : List Token) → p.at < length text → piece_after (get_or text p.at 0) (drop (p.at + 1) text) ≡ Some piece → 1 ≤ piece.len → prepend ts (tokens_from 0 p (drop p.at text)) ≡ prepend (ts ++ token_of piece p) (tokens_from 0 (behind piece p) (drop (behind piece p).at text))
tokens_step text p piece ts inside is some =
    let next : (behind piece p).at ≡ (p.at + 1) + (piece.len - 1) = behind_at piece p ∙ omega arith in
    rw (drop_more text p.at 0 inside, is) (prepended ts (token_of piece p) (tokens_from (piece.len - 1) (behind piece p) (drop (p.at + 1) text)) ∙ ap (λ r. prepend (ts ++ token_of piece p) r) (skipped (piece.len - 1) (behind piece p) (drop (p.at + 1) text) ∙ ap (λ bs. tokens_from 0 (behind piece p) bs) (drop-drop (piece.len - 1) (p.at + 1) text ∙ ap (λ n. drop n text) (sym next))))

pub tokens_stop : (text : List ℕ) (p : Place) (ts : List Token) → p.at < length text → piece_after (get_or text p.at 0) (drop (p.at + 1) text) ≡ None → prepend ts (tokens_from 0 p (drop p.at text)) ≡ Err (spot_of p)
tokens_stop text p ts inside is = rw (drop_more text p.at 0 inside, is) refl

pub tokens_end : (text : List ℕ) (p : Place) (ts : List Token) → length text ≤ p.at → prepend ts (tokens_from 0 p (drop p.at text)) ≡ Ok ts
tokens_end text p ts past = rw (drop_all p.at text past, append-nil ts) refl

pub tokens_begin : (text : List ℕ) → prepend [] (tokens_from 0 (record { at = 0; line = 1; start = 0 }) (drop 0 text)) ≡ tokens_of text
unfolding tokens_of
tokens_begin text = no_tokens (tokens_from 0 (record { at = 0; line = 1; start = 0 }) text)
  where
    no_tokens : (r : Result (List Token) Position) → prepend [] r ≡ r
    no_tokens (Ok ts) = refl
    no_tokens (Err spot) = refl
