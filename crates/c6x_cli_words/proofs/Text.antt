-- Which words are text.
use Rattle.std.proofs.Common.{◌≡◌, ◌<◌, ℕ, Bool, true, false, ◌&&◌, List, [], ◌∷◌, refl, sym, ◌∙◌, ap, subst, inl, inr, arith}
use Rattle.std.specs.Prelude.{None, Some, codes, nat_eq, nat_le, nat_lt, not, slice_index, length}
use Rattle.std.specs.List.{list_all}
use Rattle.std.specs.Str.{bytes_eq, is_utf8, IsUtf8}
use Rattle.std.proofs.lemmas.Bool.Decides.{Decides-ltb}
use Rattle.std.proofs.lemmas.Slice.Eq.{bytes_eq-Decides}
use Rattle.std.proofs.lemmas.Str.{IsUtf8-append, IsUtf8-encode, IsUtf8-from_is_utf8, IsUtf8-nil, encode_ascii, is_utf8-from_IsUtf8}
use lib.Utf8.{low_scalar}
use Rattle.c6x_ports.specs.declared.kind.Kind.{Kind}
use Rattle.c6x_plan.specs.Words.{is_digit}
use Rattle.c6x_cli_words.specs.Arguments.{is_positional, kind_named, number_of}
use Rattle.c6x_cli_words.proofs.Complete.{digits_of}
use Rattle.c6x_cli_words.proofs.Rows.{split}
use Rattle.c6x_cli_words.proofs.Sound.{both}

-- what is no text fails the test
pub not_utf8 : (bytes : List ℕ) → ¬ (IsUtf8 bytes) → false ≡ is_utf8 bytes
not_utf8 bytes is_not = by_test (is_utf8 bytes) (λ test. is_not (IsUtf8-from_is_utf8 bytes test))
  where
    by_test : (test : Bool) → ¬ (test ≡ true) → false ≡ test
    by_test true is_not = absurd (is_not refl)
    by_test false is_not = refl

-- what is ASCII is text
ascii_then : (x : ℕ) (xs : List ℕ) → x < 128 → IsUtf8 xs → IsUtf8 (x ∷ xs)
ascii_then x xs small text = IsUtf8-append (x ∷ []) xs (subst IsUtf8 (encode_ascii x small) (IsUtf8-encode x (low_scalar x (omega arith)))) text

ascii_text : (xs : List ℕ) → list_all (λ x. nat_lt x 128) xs ≡ true → IsUtf8 xs
ascii_text [] all = IsUtf8-nil
ascii_text (x ∷ xs) all =
    let parts = both (nat_lt x 128) (list_all (λ y. nat_lt y 128) xs) all in
    ascii_then x xs ((Decides-ltb x 128).0 parts.0) (ascii_text xs parts.1)

pub ascii_is_text : (xs : List ℕ) → list_all (λ x. nat_lt x 128) xs ≡ true → is_utf8 xs ≡ true
ascii_is_text xs all = is_utf8-from_IsUtf8 xs (ascii_text xs all)

digit_below : (x : ℕ) → is_digit x ≡ true → x < 128
digit_below x is =
    let most = (both (nat_le 48 x) (nat_le x 57) is).1 in
    grind arith

digits_text : (xs : List ℕ) → list_all is_digit xs ≡ true → IsUtf8 xs
digits_text [] all = IsUtf8-nil
digits_text (x ∷ xs) all =
    let parts = both (is_digit x) (list_all is_digit xs) all in
    ascii_then x xs (digit_below x parts.0) (digits_text xs parts.1)

pub number_text : (word : List ℕ) (number : ℕ) → number_of word ≡ Some number → is_utf8 word ≡ true
number_text word number is = is_utf8-from_IsUtf8 word (digits_text word (digits_of word number is))

pub kind_text : (word : List ℕ) (kind : Kind) → kind_named word ≡ Some kind → is_utf8 word ≡ true
unfolding kind_named
kind_text word kind is = elim (split (bytes_eq word (codes "round"))) [
  | inl one ↦ named word (codes "round") one (ascii_is_text (codes "round") refl)
  | inr other ↦ elim (split (bytes_eq word (codes "last"))) [
    | inl one ↦ named word (codes "last") one (ascii_is_text (codes "last") refl)
    | inr second ↦ elim (split (bytes_eq word (codes "drawn"))) [
      | inl one ↦ named word (codes "drawn") one (ascii_is_text (codes "drawn") refl)
      | inr third ↦ elim (split (bytes_eq word (codes "other"))) [
        | inl one ↦ named word (codes "other") one (ascii_is_text (codes "other") refl)
        | inr fourth ↦ (let never : None ≡ Some kind = sym (none_named word other second third fourth) ∙ is in absurd (cc))
      ]
    ]
  ]
]
  where
    named : (word name : List ℕ) → bytes_eq word name ≡ true → is_utf8 name ≡ true → is_utf8 word ≡ true
    named word name same text = ap is_utf8 ((bytes_eq-Decides word name).0 same) ∙ text

    none_named : (word : List ℕ) → bytes_eq word (codes "round") ≡ false → bytes_eq word (codes "last") ≡ false → bytes_eq word (codes "drawn") ≡ false → bytes_eq word (codes "other") ≡ false → kind_named word ≡ None
    none_named word a b c d = rw (a, b, c, d) refl

pub file_text : (word : List ℕ) → is_positional word ≡ true → is_utf8 word ≡ true
unfolding is_positional
file_text word is = (both _ _ is).1

-- a verb may stand for a file
abbrev pub is_verb : List ℕ → Bool
is_verb word = not (nat_eq (length word) 0) && not (nat_eq (slice_index word 0) 45) && list_all (λ x. nat_lt x 128) word

pub verb_file : (word : List ℕ) → is_verb word ≡ true → is_positional word ≡ true
unfolding is_positional
verb_file word is =
    let parts = both (not (nat_eq (length word) 0) && not (nat_eq (slice_index word 0) 45)) (list_all (λ x. nat_lt x 128) word) is in
    rw (parts.0, ascii_is_text word parts.1) refl
