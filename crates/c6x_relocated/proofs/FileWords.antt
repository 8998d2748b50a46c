-- The value words of a link in the bytes of its data.
use Rattle.std.proofs.Common.{◌≡◌, ℕ, zero, suc, ◌+◌, ◌-◌, ◌*◌, ◌/◌, ◌%◌, ◌^◌, ◌<◌, false, List, [], ◌∷◌, ◌++◌, length, map, get_or, Some, refl, sym, ap, ◌∙◌, subst, arith}
use Rattle.std.specs.Int.{bit_at, to_le_bytes, w32}
use Rattle.std.specs.Prelude.{slice_get}
use Rattle.std.proofs.lemmas.List.{length-map}
use Rattle.c6x_spec.specs.Numbers.{bit_in}
use Rattle.c6x_spec.proofs.NumberBits.{bit_in_byte, written_bits}
use Rattle.c6x_dsbt.specs.declared.wanted.Wanted.{Wanted}
use Rattle.c6x_elf.proofs.Holdings.{holds_all, holds_byte, holds_left, holds_right}
use Rattle.c6x_elf.proofs.Layouts.{laid_held}
use Rattle.c6x_elf.proofs.NumberRows.{length-word_row}
use Rattle.c6x_elf.specs.Held.{Holds}
use Rattle.c6x_elf.specs.Laid.{AllHeld, InOrder, Part, laid}
use Rattle.c6x_elf.specs.Rows.{word_bytes, word_row}
use Rattle.c6x_link.proofs.ImageParts.{data_order, file_parts_of, last_part, word_part}
use Rattle.c6x_link.specs.Images.{data_image, value_word, value_words}
use Rattle.c6x_link.specs.Worked.{IsWorkedOut}
use Rattle.c6x_link.specs.Working.{Working}
use Rattle.c6x_relocated.proofs.WordSet.{same_bytes}
use Rattle.c6x_relocated.proofs.Basics.{get_map}

-- a word of a row
four_bytes : (n : ℕ) → length (word_bytes false n) ≡ 4
unfolding word_bytes
four_bytes n = refl

little : (n : ℕ) → word_bytes false n ≡ to_le_bytes w32 n
unfolding word_bytes
little n = refl

row_word : (bytes : List ℕ) (at : ℕ) (ns : List ℕ) (i n : ℕ) → Holds bytes at (word_row false ns)
    → slice_get ns i ≡ Some n → Holds bytes (at + 4 * i) (word_bytes false n)
row_word bytes at [] i n h has = absurd (cc has)
row_word bytes at (x ∷ xs) zero n h has =
    let same : x ≡ n = cc has in
    let place : at ≡ at + 4 * 0 = omega arith in
    let P : ℕ → Type 0 = λ k. Holds bytes k (word_bytes false n) in
    let Q : ℕ → Type 0 = λ v. Holds bytes at (word_bytes false v) in
    subst P place (subst Q same (holds_left bytes at (word_bytes false x) (word_row false xs) h))
row_word bytes at (x ∷ xs) (suc i) n h has =
    let place : at + 4 + 4 * i ≡ at + 4 * suc i = omega arith in
    let P : ℕ → Type 0 = λ k. Holds bytes k (word_bytes false n) in
    subst P place (row_word bytes (at + 4) xs i n (holds_right bytes at (word_bytes false x) (word_row false xs)
    (at + 4) h (ap (λ k. at + k) (four_bytes x))) has)

-- its bits are those of the number
pub word_bit : (bytes : List ℕ) (at n i : ℕ) → Holds bytes at (word_bytes false n) → i < 32
    → bit_in bytes (8 * at + i) ≡ bit_at (n % 2 ^ 32) i
word_bit bytes at n i h below =
    let m : ℕ = i / 8 in
    let k : ℕ = i % 8 in
    let few : k < 8 = omega arith in
    let byte : m < 4 = omega (arith, below) in
    let is : 8 * at + i ≡ 8 * (at + m) + k = omega arith in
    let back : 8 * m + k ≡ i = omega arith in
    let all : ℕ = n % 2 ^ 32 in
    let bits = written_bits all 4 (omega arith) (omega arith) in
    let P : List ℕ → Type 0 = λ xs. Holds bytes at xs in
    let held : get_or bytes (at + m) 0 ≡ get_or (to_le_bytes w32 n) m 0 = holds_byte bytes at (to_le_bytes w32 n) m
    (at + m) (subst P (little n) h) byte refl in
    let zero_more : 0 + m ≡ m = omega arith in
    bit_in_byte bytes (8 * at + i) (at + m) k is few
    ∙ ap (λ b. bit_at b k) held
    ∙ ap (λ xs. bit_at (get_or xs m 0) k) (sym (same_bytes n))
    ∙ ap (λ j. bit_at (get_or (to_le_bytes w32 all) j 0) k) (sym zero_more)
    ∙ bits.bits m k byte few
    ∙ ap (bit_at all) back

-- the value words of the data
rows_of_words : (w : Working) → length (word_row false (value_words w)) ≡ 4 * length w.words
unfolding value_words
rows_of_words w = length-word_row false (map (value_word w) w.words) ∙ ap (λ n. 4 * n)
    (length-map w.words (value_word w))

image_is : (w : Working) → data_image w ≡ laid 0 (word_part w ∷ (file_parts_of w ++ last_part w ∷ []))
unfolding data_image
image_is w = refl

words_in_image : (w : Working) → IsWorkedOut w
    → Holds (data_image w) (w.layout.words - w.layout.table) (word_row false (value_words w))
words_in_image w worked =
    let parts : List Part = word_part w ∷ (file_parts_of w ++ last_part w ∷ []) in
    let rows = rows_of_words w in
    let order : InOrder 0 parts = (
      omega arith,
      data_order w
          (w.layout.words - w.layout.table + length (word_row false (value_words w))) (file_parts_of w) worked
          (ap (λ n. w.layout.words - w.layout.table + n) rows) refl,
    ) in
    let P : List ℕ → Type 0 = λ xs. Holds (data_image w) 0 xs in
    let all : AllHeld (data_image w) parts = laid_held (data_image w) 0 parts
    (subst P (image_is w) (holds_all (data_image w))) order in
    all.0

value_at : (w : Working) (place : ℕ) (wanted : Wanted) → slice_get w.words place ≡ Some wanted
    → slice_get (value_words w) place ≡ Some (value_word w wanted)
unfolding value_words
value_at w place wanted has = get_map (value_word w) w.words place wanted has

pub word_in_image : (w : Working) (place : ℕ) (wanted : Wanted) → IsWorkedOut w
    → slice_get w.words place ≡ Some wanted
    → Holds (data_image w) ((w.layout.words - w.layout.table) + 4 * place) (word_bytes false (value_word w wanted))
word_in_image w place wanted worked has =
    row_word (data_image w) (w.layout.words - w.layout.table) (value_words w) place (value_word w wanted)
    (words_in_image w worked) (value_at w place wanted has)
