-- Lists of bytes, made of others.
use Rattle.std.proofs.Common.{◌≡◌, ℕ, zero, suc, ◌+◌, ◌-◌, ◌^◌, ◌<◌, Bool, true, false, nat_le, nat_lt, List, [], ◌∷◌, ◌++◌, length, take, drop, if◌then◌else◌, arith}
use Rattle.std.proofs.lemmas.Bool.{and_parts, ltb-true}
use Rattle.std.proofs.lemmas.Fmt.{decimal_is_IsNumeral}
use Rattle.std.proofs.lemmas.Str.Parse.{digit_from_value}
use Rattle.std.specs.Char.{digit_value}
use Rattle.std.specs.Int.{to_le_bytes, w32}
use Rattle.std.specs.List.{flat_map, list_all}
use Rattle.std.specs.Prelude.{decimal, slice_range}
use Rattle.std.specs.Str.Parse.{AllDigits}
use Rattle.c6x_asm_lines.specs.Bytes.{bytes_at}
use Rattle.c6x_reloc.specs.FieldBits.{AreBytes}

pub no_bytes : AreBytes []
no_bytes i = omega arith

pub byte_before : (b : ℕ) (bs : List ℕ) → b < 256 → AreBytes bs → AreBytes (b ∷ bs)
byte_before b bs small are zero = small
byte_before b bs small are (suc i) = are i

pub both_bytes : (a b : List ℕ) → AreBytes a → AreBytes b → AreBytes (a ++ b)
both_bytes [] b first second = second
both_bytes (x ∷ a) b first second = byte_before x (a ++ b) (first zero) (both_bytes a b (λ i. first (suc i)) second)

-- bytes that are written out
pub tested_bytes : (bytes : List ℕ) → list_all (λ b. nat_lt b 256) bytes ≡ true → AreBytes bytes
tested_bytes [] all = no_bytes
tested_bytes (b ∷ bs) all =
    let both = and_parts (nat_lt b 256) (list_all (λ b. nat_lt b 256) bs) all in
    byte_before b bs (ltb-true b 256 both.0) (tested_bytes bs both.1)

pub each_bytes : {X : Type 0} (f : X → List ℕ) (xs : List X) → ((x : X) → AreBytes (f x)) → AreBytes (flat_map f xs)
each_bytes f [] each = no_bytes
each_bytes f (x ∷ xs) each = both_bytes (f x) (flat_map f xs) (each x) (each_bytes f xs each)

pub word_are : (word : ℕ) → AreBytes (to_le_bytes w32 word)
word_are word zero = omega arith
word_are word (suc zero) = omega arith
word_are word (suc (suc zero)) = omega arith
word_are word (suc (suc (suc zero))) = omega arith
word_are word (suc (suc (suc (suc i)))) = no_bytes i

-- parts of bytes
taken_bytes : (n : ℕ) (bytes : List ℕ) → AreBytes bytes → AreBytes (take n bytes)
taken_bytes zero bytes are = no_bytes
taken_bytes (suc n) [] are = no_bytes
taken_bytes (suc n) (b ∷ bs) are = byte_before b (take n bs) (are zero) (taken_bytes n bs (λ i. are (suc i)))

dropped_bytes : (n : ℕ) (bytes : List ℕ) → AreBytes bytes → AreBytes (drop n bytes)
dropped_bytes zero bytes are = are
dropped_bytes (suc n) [] are = no_bytes
dropped_bytes (suc n) (b ∷ bs) are = dropped_bytes n bs (λ i. are (suc i))

found_case : (found : Bool) (bytes : List ℕ) → AreBytes bytes → AreBytes (if found then bytes else [])
found_case true bytes are = are
found_case false bytes are = no_bytes

pub found_bytes : (text : List ℕ) (at len : ℕ) → AreBytes text → AreBytes (bytes_at text at len)
unfolding bytes_at
found_bytes text at len are =
    found_case (nat_le (at + len) (length text)) (slice_range text at (at + len)) (taken_bytes (at + len - at) (drop at text) (dropped_bytes at text are))

-- digits
digit_small : (b : ℕ) → digit_value b < 10 → b < 256
digit_small b digit = omega (arith, digit_from_value b digit)

digits_bytes : (bs : List ℕ) → AllDigits 10 bs → AreBytes bs
digits_bytes [] are = no_bytes
digits_bytes (b ∷ bs) are = byte_before b bs (digit_small b are.0) (digits_bytes bs are.1)

pub decimal_bytes : (n : ℕ) → n < 2 ^ 64 → AreBytes (decimal n)
decimal_bytes n small = digits_bytes (decimal n) (decimal_is_IsNumeral n small).0.1
