-- Every word fits a word.
use Rattle.std.proofs.Common.{◌≡◌, ℕ, ◌+◌, ◌-◌, ◌/◌, ◌%◌, ◌^◌, ◌<◌, ◌≤◌, Bool, true, false, ◌&&◌, not, if◌then◌else◌, ◌==◌, List, ◌++◌, length, nat_lt, Ok, Err, refl, sym, ap, ◌∙◌, length-append, arith}
use Rattle.std.proofs.lemmas.Bool.Decides.{nat_tests}
use Rattle.std.specs.Prelude.{ℤ, pos, negsuc, neg_ℤ, int_le}
use Rattle.std.specs.Int.{cast_signed, cast_unsigned, int_shr, w32}
use Rattle.std.proofs.lemmas.Int.{of_z-to_z, ints}
use Rattle.c6x_spec.specs.Memory.{IsOnMemory, Memory}
use Rattle.c6x_reloc.specs.Table.{row_of}
use Rattle.c6x_reloc.specs.Value.{value_of, row_value, sum_of, divides, quotient_of, fits, field_of, has_addend}
use Rattle.c6x_reloc.specs.declared.inputs.Inputs.{Inputs}
use Rattle.c6x_reloc.specs.declared.reloc_error.RelocError.TheVariants.{Range, Align}
use Rattle.c6x_reloc.specs.declared.reloc_kind.RelocKind.TheVariants.{ABS32}
use Rattle.c6x_reloc.specs.declared.field.Field.{Field}
use Rattle.c6x_reloc.specs.FieldBits.{AreBytes, IsLast, IsPatchedBy}
use Rattle.c6x_reloc.proofs.Held.{field_held}
use Rattle.c6x_spec.specs.Parts.{HoldsPart}
use Rattle.c6x_relocated.specs.Holds.{HoldsAt, word_field}
use Rattle.c6x_relocated.proofs.Held.{on_board, same_held}

pub fits_word : (n : ℕ) → n < 2 ^ 32 → (int_le (neg_ℤ (pos (2 ^ 31))) (cast_signed w32 n) && int_le (cast_signed w32 n) (pos (2 ^ 31 - 1))) ≡ true
fits_word n small = either (nat_lt n (2 ^ 31)) refl
  where
    either : (t : Bool) → nat_lt n (2 ^ 31) ≡ t → (int_le (neg_ℤ (pos (2 ^ 31))) (cast_signed w32 n) && int_le (cast_signed w32 n) (pos (2 ^ 31 - 1))) ≡ true
    either true is = let low : n < 2 ^ 31 = grind (arith, nat_tests) in grind (arith, ints, nat_tests)
    either false is = let high : 2 ^ 31 ≤ n = grind (arith, nat_tests) in grind (arith, ints, nat_tests)

pub shr_none : (z : ℤ) → int_shr z 0 ≡ z
shr_none (pos a) = let e : a / 1 ≡ a = omega arith in ap pos e
shr_none (negsuc a) = let e : a / 1 ≡ a = omega arith in ap negsuc e

steps : (n : ℕ) → n < 2 ^ 32 → (if not (n % 2 ^ 0 == 0) then Err Align else if not (int_le (neg_ℤ (pos (2 ^ 31))) (int_shr (cast_signed w32 n) 0) && int_le (int_shr (cast_signed w32 n) 0) (pos (2 ^ 31 - 1))) then Err Range else Ok (cast_unsigned w32 (int_shr (int_shr (cast_signed w32 n) 0) 0) % 2 ^ 32)) ≡ Ok n
steps n small =
    let z : n % 2 ^ 0 ≡ 0 = omega arith in
    let whole : n % 2 ^ 32 ≡ n = omega arith in
    rw (z, shr_none (cast_signed w32 n), fits_word n small, shr_none (cast_signed w32 n), of_z-to_z w32 n small) (ap Ok whole)

pub abs32_is : (i : Inputs) → value_of ABS32 i ≡ Ok ((i.s + cast_unsigned w32 i.a) % 2 ^ 32)
unfolding row_of row_value sum_of divides quotient_of fits field_of has_addend
abs32_is i = steps ((i.s + cast_unsigned w32 i.a) % 2 ^ 32) (omega arith)

-- a word that the loader writes, on the memory
pub word_holds : (board : Memory) (at : ℕ) (old bytes behind : List ℕ) (fields : List Field) → IsOnMemory board at (length (bytes ++ behind)) → AreBytes bytes → IsPatchedBy old fields bytes → HoldsPart board (record { at = at; bytes = bytes ++ behind }) → (place word : ℕ) (i : Inputs) → IsLast (length bytes) fields (word_field place word) → word ≡ (i.s + cast_unsigned w32 i.a) % 2 ^ 32 → HoldsAt board (at + place) ABS32 i
unfolding row_of
word_holds board at old bytes behind fields on small patched part place word i last is =
    let above = on.above in
    let room = on.within in
    let within : place + 4 ≤ length bytes = last.within in
    record {
      value = word;
      worth = abs32_is i ∙ ap Ok (sym is);
      held = same_held ABS32 board.bytes bytes (at + place - board.base) place word (omega (arith, length-append bytes behind)) (λ k below. on_board board at bytes behind place k above part (omega arith)) (field_held old bytes fields (word_field place word) small patched last);
    }
