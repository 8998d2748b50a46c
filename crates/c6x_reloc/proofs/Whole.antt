-- The patched bytes as a list.
use Rattle.std.proofs.Common.{◌≡◌, ℕ, ◌+◌, ◌*◌, ◌<◌, List, length, get_or, map, sym, ◌∙◌, ap, arith, refl, lit<}
use Rattle.std.specs.Int.{bit_at}
use Rattle.std.specs.List.{range_with_len}
use Rattle.std.proofs.lemmas.Grind.{same_number_lists}
use Rattle.std.proofs.lemmas.List.FromFn.{get_or-map-range_with_len, length-map-range_with_len}
use Rattle.c6x_spec.specs.Numbers.{bit_in}
use Rattle.c6x_spec.proofs.NumberBits.{bit_in_byte}
use Rattle.c6x_reloc.specs.declared.field.Field.{Field}
use Rattle.c6x_reloc.specs.FieldBits.{AreBytes, IsPatchedBy, byte_of_bits, patched, patched_bit, patched_byte}

-- a byte is made of its bits
byte_is : (b : ℕ) → b < 256 → b ≡ byte_of_bits (bit_at b) 0
byte_is b small = omega arith

along : (f g : ℕ → ℕ) (from at : ℕ) → ((i : ℕ) → i < 8 → f (from + i) ≡ g (at + i)) → byte_of_bits f from ≡ byte_of_bits g at
along f g from at same =
    let z : from + 0 ≡ from = omega arith in
    let y : at + 0 ≡ at = omega arith in
    let s0 : f from ≡ g at = ap f (sym z) ∙ same 0 (lit< tt) ∙ ap g y in
    rw (s0, same 1 (lit< tt), same 2 (lit< tt), same 3 (lit< tt), same 4 (lit< tt), same 5 (lit< tt), same 6 (lit< tt), same 7 (lit< tt)) refl

-- and each byte of the new ones is
byte_at_is : (new : List ℕ) (k : ℕ) → AreBytes new → get_or new k 0 ≡ byte_of_bits (bit_in new) (8 * k)
byte_at_is new k small =
    byte_is (get_or new k 0) (small k)
    ∙ along (bit_at (get_or new k 0)) (bit_in new) 0 (8 * k) (λ i few. let z : 0 + i ≡ i = omega arith in ap (bit_at (get_or new k 0)) z ∙ sym (bit_in_byte new (8 * k + i) k i refl few))

pub whole : (old new : List ℕ) (fields : List Field) → AreBytes new → IsPatchedBy old fields new → new ≡ patched old fields
unfolding patched
whole old new fields small p =
    same_number_lists new (map (patched_byte old fields) (range_with_len 0 (length old)))
    (p.size ∙ sym (length-map-range_with_len (patched_byte old fields) 0 (length old)))
    (λ k below.
    let inside : k < length old = omega (arith, p.size) in
    byte_at_is new k small
    ∙ along (bit_in new) (patched_bit old fields) (8 * k) (8 * k) (λ i few. p.bits (8 * k + i))
    ∙ sym (get_or-map-range_with_len (patched_byte old fields) 0 (length old) k k 0 inside (omega arith)))
