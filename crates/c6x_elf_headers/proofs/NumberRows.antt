use Rattle.std.proofs.Common.{◌≡◌, ℕ, suc, ◌+◌, ◌*◌, ◌^◌, ◌<◌, Bool, true, false, List, [], ◌∷◌, ◌++◌, length, take, get_or, refl, sym, ap, ◌∙◌, append_assoc, length-append, add-zero, lit<, arith}
use Rattle.byteorder.specs.Endian.{big_bytes, little_bytes}
use Rattle.std.proofs.lemmas.List.{append-nil, take_more}
use Rattle.std.proofs.lemmas.Nat.{from_le_bytes-to_le_bytes_2, from_le_bytes-to_le_bytes_4, from_be_bytes-to_be_bytes_2, from_be_bytes-to_be_bytes_4}
use Rattle.c6x_spec.specs.Numbers.{half_at, word_at}
use Rattle.c6x_elf_headers.specs.Held.{Holds}
use Rattle.c6x_elf_headers.specs.Rows.{AreHalves, AreWords, SpellsHalves, SpellsWords, half_bytes, half_row, word_bytes, word_row}
use Rattle.c6x_elf_headers.proofs.Holdings.{holds_byte, holds_left, holds_right}

-- a row with one number more
word_row_push : (big : Bool) (xs : List ℕ) (n : ℕ) → word_row big (xs ++ n ∷ []) ≡ word_row big xs ++ word_bytes big n
word_row_push big [] n = append-nil (word_bytes big n)
word_row_push big (x ∷ xs) n =
    ap (λ row. word_bytes big x ++ row) (word_row_push big xs n) ∙ sym (append_assoc (word_bytes big x) (word_row big xs) (word_bytes big n))

pub word_row_more : (big : Bool) (xs : List ℕ) (i d : ℕ) → i < length xs → word_row big (take (i + 1) xs) ≡ word_row big (take i xs) ++ word_bytes big (get_or xs i d)
word_row_more big xs i d below = ap (word_row big) (take_more xs i d below) ∙ word_row_push big (take i xs) (get_or xs i d)

half_row_push : (big : Bool) (xs : List ℕ) (n : ℕ) → half_row big (xs ++ n ∷ []) ≡ half_row big xs ++ half_bytes big n
half_row_push big [] n = append-nil (half_bytes big n)
half_row_push big (x ∷ xs) n =
    ap (λ row. half_bytes big x ++ row) (half_row_push big xs n) ∙ sym (append_assoc (half_bytes big x) (half_row big xs) (half_bytes big n))

pub half_row_more : (big : Bool) (xs : List ℕ) (i d : ℕ) → i < length xs → half_row big (take (i + 1) xs) ≡ half_row big (take i xs) ++ half_bytes big (get_or xs i d)
half_row_more big xs i d below = ap (half_row big) (take_more xs i d below) ∙ half_row_push big (take i xs) (get_or xs i d)

-- numbers that fit one by one
pub are_words : (xs : List ℕ) → ((k : ℕ) → get_or xs k 0 < 2 ^ 32) → AreWords xs
are_words [] fits = tt
are_words (x ∷ xs) fits = (fits 0, are_words xs (λ k. fits (suc k)))

pub are_halves : (xs : List ℕ) → ((k : ℕ) → get_or xs k 0 < 2 ^ 16) → AreHalves xs
are_halves [] fits = tt
are_halves (x ∷ xs) fits = (fits 0, are_halves xs (λ k. fits (suc k)))

-- a row written so far, with one number more
pub words_step : (big : Bool) (old xs out new : List ℕ) (i : ℕ) → i < length xs → out ≡ old ++ word_row big (take i xs) → new ≡ out ++ word_bytes big (get_or xs i 0) → new ≡ old ++ word_row big (take (i + 1) xs)
words_step big old xs out new i below was is =
    is ∙ ap (λ ys. ys ++ word_bytes big (get_or xs i 0)) was
    ∙ append_assoc old (word_row big (take i xs)) (word_bytes big (get_or xs i 0))
    ∙ ap (λ ys. old ++ ys) (sym (word_row_more big xs i 0 below))

pub halves_step : (big : Bool) (old xs out new : List ℕ) (i : ℕ) → i < length xs → out ≡ old ++ half_row big (take i xs) → new ≡ out ++ half_bytes big (get_or xs i 0) → new ≡ old ++ half_row big (take (i + 1) xs)
halves_step big old xs out new i below was is =
    is ∙ ap (λ ys. ys ++ half_bytes big (get_or xs i 0)) was
    ∙ append_assoc old (half_row big (take i xs)) (half_bytes big (get_or xs i 0))
    ∙ ap (λ ys. old ++ ys) (sym (half_row_more big xs i 0 below))

length-word_bytes : (big : Bool) (n : ℕ) → length (word_bytes big n) ≡ 4
unfolding word_bytes
length-word_bytes false n = refl
length-word_bytes true n = refl

length-half_bytes : (big : Bool) (n : ℕ) → length (half_bytes big n) ≡ 2
unfolding half_bytes
length-half_bytes false n = refl
length-half_bytes true n = refl

-- a held number is read
word_held : (big : Bool) (bytes : List ℕ) (at n : ℕ) → n < 2 ^ 32 → Holds bytes at (word_bytes big n) → word_at big bytes at ≡ n
unfolding word_at word_bytes
word_held false bytes at n fits h =
    let b0 = holds_byte bytes at (little_bytes 4 n) 0 at h (lit< tt) (add-zero at) in
    let b1 = holds_byte bytes at (little_bytes 4 n) 1 (at + 1) h (lit< tt) refl in
    let b2 = holds_byte bytes at (little_bytes 4 n) 2 (at + 2) h (lit< tt) refl in
    let b3 = holds_byte bytes at (little_bytes 4 n) 3 (at + 3) h (lit< tt) refl in
    let back = from_le_bytes-to_le_bytes_4 n fits in
    omega arith
word_held true bytes at n fits h =
    let b0 = holds_byte bytes at (big_bytes 4 n) 0 at h (lit< tt) (add-zero at) in
    let b1 = holds_byte bytes at (big_bytes 4 n) 1 (at + 1) h (lit< tt) refl in
    let b2 = holds_byte bytes at (big_bytes 4 n) 2 (at + 2) h (lit< tt) refl in
    let b3 = holds_byte bytes at (big_bytes 4 n) 3 (at + 3) h (lit< tt) refl in
    let back = from_be_bytes-to_be_bytes_4 n fits in
    omega arith

half_held : (big : Bool) (bytes : List ℕ) (at n : ℕ) → n < 2 ^ 16 → Holds bytes at (half_bytes big n) → half_at big bytes at ≡ n
unfolding half_at half_bytes
half_held false bytes at n fits h =
    let b0 = holds_byte bytes at (little_bytes 2 n) 0 at h (lit< tt) (add-zero at) in
    let b1 = holds_byte bytes at (little_bytes 2 n) 1 (at + 1) h (lit< tt) refl in
    let back = from_le_bytes-to_le_bytes_2 n fits in
    omega arith
half_held true bytes at n fits h =
    let b0 = holds_byte bytes at (big_bytes 2 n) 0 at h (lit< tt) (add-zero at) in
    let b1 = holds_byte bytes at (big_bytes 2 n) 1 (at + 1) h (lit< tt) refl in
    let back = from_be_bytes-to_be_bytes_2 n fits in
    omega arith

-- a held row is read
pub words_held : (big : Bool) (bytes : List ℕ) (at offset : ℕ) (ns : List ℕ) → AreWords ns → Holds bytes (at + offset) (word_row big ns) → SpellsWords big bytes at offset ns
words_held big bytes at offset [] fit h = tt
words_held big bytes at offset (n ∷ ns) fit h = (
  word_held big bytes (at + offset) n fit.0 (holds_left bytes (at + offset) (word_bytes big n) (word_row big ns) h),
  words_held big bytes at (offset + 4) ns fit.1
      (holds_right bytes (at + offset) (word_bytes big n) (word_row big ns) (at + (offset + 4)) h
      (omega (arith, length-word_bytes big n))),
)

pub halves_held : (big : Bool) (bytes : List ℕ) (at offset : ℕ) (ns : List ℕ) → AreHalves ns → Holds bytes (at + offset) (half_row big ns) → SpellsHalves big bytes at offset ns
halves_held big bytes at offset [] fit h = tt
halves_held big bytes at offset (n ∷ ns) fit h = (
  half_held big bytes (at + offset) n fit.0 (holds_left bytes (at + offset) (half_bytes big n) (half_row big ns) h),
  halves_held big bytes at (offset + 2) ns fit.1
      (holds_right bytes (at + offset) (half_bytes big n) (half_row big ns) (at + (offset + 2)) h
      (omega (arith, length-half_bytes big n))),
)

-- how long a row is
pub length-word_row : (big : Bool) (ns : List ℕ) → length (word_row big ns) ≡ 4 * length ns
length-word_row big [] = refl
length-word_row big (n ∷ ns) =
    length-append (word_bytes big n) (word_row big ns) ∙ omega (arith, length-word_bytes big n, length-word_row big ns)

pub length-half_row : (big : Bool) (ns : List ℕ) → length (half_row big ns) ≡ 2 * length ns
length-half_row big [] = refl
length-half_row big (n ∷ ns) =
    length-append (half_bytes big n) (half_row big ns) ∙ omega (arith, length-half_bytes big n, length-half_row big ns)
