-- Bytes of atoms that stand apart are cut into those atoms.
use Rattle.std.proofs.Common.{◌≡◌, ℕ, suc, zero, ◌+◌, ◌-◌, ◌≤◌, inr, Bool, true, false, cond, ◌&&◌, eqb, leb, List, [], ◌∷◌, ◌++◌, length, Option, Some, None, Ok, refl, sym, ◌∙◌, ap, arith}
use Rattle.std.proofs.lemmas.Bool.{and_parts, ne_eqb, leb-true, lt-leb, true≢false}
use Rattle.std.specs.List.{list_all, prefix_len}
use Rattle.c6x_lex.specs.Classes.{hex_len}
use Rattle.c6x_lex.specs.Forms.{starts_word, continues_word, is_digit, is_punctuator, is_blank}
use Rattle.c6x_lex.specs.Tokens.{piece_after, behind, token_of, tokens_from, prepend}
use Rattle.c6x_lex.specs.declared.cut.Piece.{Piece}
use Rattle.c6x_lex.specs.declared.kind.TokenKind.{TokenKind}
use Rattle.c6x_lex.specs.declared.kind.TokenKind.TheVariants.{Word as WordToken, Number as NumberToken, Punctuator as PunctuatorToken}
use Rattle.c6x_lex.specs.declared.place.Place.{Place}
use Rattle.c6x_lex.proofs.Longest.{longest_word, longest_decimal, longest_sign}
use Rattle.c6x_dis.specs.Atoms.{Atom, word, number, punctuator, space, bytes_of}
use Rattle.c6x_dis.specs.Pieces.{AreApart, tokens_at}
use Rattle.c6x_dis.proofs.Signs.{sign_is, stops, Stops}

-- a piece of this kind and length
abbrev pub piece : Option TokenKind → ℕ → Piece
piece kind len = record { kind = kind; len = len }

skipped : (n : ℕ) (p : Place) (bs rest : List ℕ) → n ≡ length bs → tokens_from n p (bs ++ rest) ≡ tokens_from 0 p rest
skipped zero p [] rest is = refl
skipped zero p (b ∷ bs) rest is = absurd (omega arith)
skipped (suc n) p [] rest is = absurd (omega arith)
skipped (suc n) p (b ∷ bs) rest is = skipped n p bs rest (omega arith)

-- one piece, and the tokens of the bytes behind it
pub step : (kind : Option TokenKind) (b : ℕ) (bs rest : List ℕ) (p : Place) → piece_after b (bs ++ rest) ≡ Some (piece kind (suc (length bs))) → tokens_from 0 p (b ∷ bs ++ rest) ≡ prepend (token_of (piece kind (suc (length bs))) p) (tokens_from 0 (behind (piece kind (suc (length bs))) p) rest)
step kind b bs rest p is =
    rw is (ap (λ r. prepend (token_of (piece kind (suc (length bs))) p) r) (skipped (suc (length bs) - 1) (behind (piece kind (suc (length bs))) p) bs rest (omega arith)))

-- bytes that all pass, and then none that does
front_len : (p : ℕ → Bool) (xs ys : List ℕ) → list_all p xs ≡ true → prefix_len p ys ≡ 0 → 1 + prefix_len p (xs ++ ys) ≡ suc (length xs)
front_len p [] ys all stop = omega (arith, stop)
front_len p (x ∷ xs) ys all stop = either (λ others. front_len p xs ys others stop) (p x) refl all
  where
    either : (list_all p xs ≡ true → 1 + prefix_len p (xs ++ ys) ≡ suc (length xs)) → (b : Bool) → p x ≡ b → (b && list_all p xs) ≡ true → 1 + cond b (1 + prefix_len p (xs ++ ys)) 0 ≡ suc (suc (length xs))
    either before true is others = omega (arith, before others)
    either before false is others = absurd (true≢false (sym others))

not_before : (b n : ℕ) (p : ℕ → Bool) → p b ≡ true → p n ≡ false → eqb b n ≡ false
not_before b n p is other = ne_eqb b n (λ same. true≢false (sym is ∙ ap p same ∙ other))

no_blank : (b : ℕ) (p : ℕ → Bool) → p b ≡ true → p 32 ≡ false → p 9 ≡ false → is_blank b ≡ false
no_blank b p is blank tab = rw (not_before b 32 p is blank, not_before b 9 p is tab) refl

pub word_piece : (b : ℕ) (bs rest : List ℕ) → (starts_word b && list_all continues_word bs) ≡ true → prefix_len continues_word rest ≡ 0 → piece_after b (bs ++ rest) ≡ Some (piece (Some WordToken) (suc (length bs)))
unfolding piece_after
word_piece b bs rest is stop =
    let parts = and_parts (starts_word b) (list_all continues_word bs) is in
    let len : 1 + prefix_len continues_word (bs ++ rest) ≡ suc (length bs) = front_len continues_word bs rest parts.1 stop in
    rw (not_before b 59 starts_word parts.0 refl, no_blank b starts_word parts.0 refl refl) (longest_word b (bs ++ rest) parts.0 ∙ ap (λ n. Some (piece (Some WordToken) n)) len)

digit_no_word : (b : ℕ) → is_digit b ≡ true → starts_word b ≡ false
digit_no_word b is =
    let low : 48 ≤ b = leb-true 48 b (and_parts (leb 48 b) (leb b 57) is).0 in
    let high : b ≤ 57 = leb-true b 57 (and_parts (leb 48 b) (leb b 57) is).1 in
    rw (lt-leb 65 b (omega arith), lt-leb 97 b (omega arith), ne_eqb b 95 (λ e. omega arith), ne_eqb b 46 (λ e. omega arith), ne_eqb b 36 (λ e. omega arith)) refl

-- no `x` stands behind the first digit
hex_zero : (ds rest : List ℕ) → list_all is_digit ds ≡ true → hex_len rest ≡ 0 → hex_len (ds ++ rest) ≡ 0
hex_zero [] rest all stop = stop
hex_zero (d ∷ ds) rest all stop = rw (not_before d 120 is_digit (and_parts (is_digit d) (list_all is_digit ds) all).0 refl) refl

pub number_piece : (b : ℕ) (bs rest : List ℕ) → (is_digit b && list_all is_digit bs) ≡ true → Stops rest → piece_after b (bs ++ rest) ≡ Some (piece (Some NumberToken) (suc (length bs)))
unfolding piece_after
number_piece b bs rest is stop =
    let parts = and_parts (is_digit b) (list_all is_digit bs) is in
    let len : 1 + prefix_len is_digit (bs ++ rest) ≡ suc (length bs) = front_len is_digit bs rest parts.1 stop.digit in
    rw (not_before b 59 is_digit parts.0 refl, no_blank b is_digit parts.0 refl refl)
    (longest_decimal b (bs ++ rest) (digit_no_word b parts.0) parts.0 (inr (hex_zero bs rest parts.1 stop.hex)) ∙ ap (λ n. Some (piece (Some NumberToken) n)) len)

pub sign_piece : (b : ℕ) (rest : List ℕ) → is_punctuator b ≡ true → piece_after b rest ≡ Some (piece (Some PunctuatorToken) 1)
unfolding piece_after
sign_piece b rest is =
    let s = sign_is b is in
    rw (s.comment, s.blank) (longest_sign b rest s.starts s.digit s.quote s.line s.return s.bar is)

pub space_piece : (rest : List ℕ) → piece_after 32 rest ≡ Some (piece None 1)
unfolding piece_after
space_piece rest = refl

pub tokens_are : (atoms : List Atom) (p : Place) → AreApart atoms → tokens_from 0 p (bytes_of atoms) ≡ Ok (tokens_at p.line p.at atoms)
tokens_are [] p apart = refl
tokens_are (word [] ∷ atoms) p apart = absurd (true≢false (sym apart.0))
tokens_are (word (b ∷ bs) ∷ atoms) p apart =
    step (Some WordToken) b bs (bytes_of atoms) p (word_piece b bs (bytes_of atoms) apart.0 (stops atoms apart.2 apart.1).word)
    ∙ ap (λ r. prepend (token_of (piece (Some WordToken) (suc (length bs))) p) r) (tokens_are atoms (behind (piece (Some WordToken) (suc (length bs))) p) apart.2)
tokens_are (number [] ∷ atoms) p apart = absurd (true≢false (sym apart.0))
tokens_are (number (b ∷ bs) ∷ atoms) p apart =
    step (Some NumberToken) b bs (bytes_of atoms) p (number_piece b bs (bytes_of atoms) apart.0 (stops atoms apart.2 apart.1))
    ∙ ap (λ r. prepend (token_of (piece (Some NumberToken) (suc (length bs))) p) r) (tokens_are atoms (behind (piece (Some NumberToken) (suc (length bs))) p) apart.2)
tokens_are (punctuator b ∷ atoms) p apart =
    step (Some PunctuatorToken) b [] (bytes_of atoms) p (sign_piece b (bytes_of atoms) apart.0)
    ∙ ap (λ r. prepend (token_of (piece (Some PunctuatorToken) 1) p) r) (tokens_are atoms (behind (piece (Some PunctuatorToken) 1) p) apart.2)
tokens_are (space ∷ atoms) p apart =
    step None 32 [] (bytes_of atoms) p (space_piece (bytes_of atoms))
    ∙ ap (λ r. prepend (token_of (piece None 1) p) r) (tokens_are atoms (behind (piece None 1) p) apart.2)
