-- A call of a near place breaks no rule of relocation entries.
use Rattle.std.proofs.Common.{◌≡◌, ℕ, ◌+◌, ◌-◌, ◌/◌, ◌%◌, ◌^◌, ◌<◌, ◌≤◌, ◌&&◌, Bool, true, false, Some, None, nat_le, nat_lt, refl, ap, arith}
use Rattle.std.specs.Prelude.{pos, neg_ℤ, int_le}
use Rattle.std.specs.Int.{cast_signed, cast_unsigned, int_shr, w32}
use Rattle.std.proofs.lemmas.Bool.Decides.{nat_tests}
use Rattle.std.proofs.lemmas.Bool.{le-leb}
use Rattle.std.proofs.lemmas.Int.{ints}
use Rattle.c6x_reloc.specs.Table.{row_of}
use Rattle.c6x_reloc.specs.Value.{divides, field_of, fits, has_addend, quotient_of, row_value, sum_of, value_of}
use Rattle.c6x_reloc.specs.declared.inputs.Inputs.{Inputs}
use Rattle.c6x_reloc.specs.declared.reloc_kind.RelocKind.TheVariants.{PCR_S21}
use Rattle.c6x_symbols.specs.EntryRules.{entry_rule, has_no_addend, is_inside, kind_rule, must, value_rule}
use Rattle.c6x_symbols.specs.declared.reference.Reference.{Reference}
use Rattle.c6x_symbols.specs.declared.region.Region.TheVariants.{Import}

-- the distance in words, where it is below 2^22 bytes
fits_call : (n : ℕ) → n < 2 ^ 32 → n % 4 ≡ 0 → (2 ^ 31 ≤ n → 2 ^ 32 - 2 ^ 22 ≤ n) → (n < 2 ^ 31 → n < 2 ^ 22) → (int_le (neg_ℤ (pos (2 ^ 20))) (int_shr (cast_signed w32 n) 2) && int_le (int_shr (cast_signed w32 n) 2) (pos (2 ^ 20 - 1))) ≡ true
fits_call n small even before behind = either (nat_lt n (2 ^ 31)) refl
  where
    either : (t : Bool) → nat_lt n (2 ^ 31) ≡ t → (int_le (neg_ℤ (pos (2 ^ 20))) (int_shr (cast_signed w32 n) 2) && int_le (int_shr (cast_signed w32 n) 2) (pos (2 ^ 20 - 1))) ≡ true
    either true is =
        let low : n < 2 ^ 31 = grind (arith, nat_tests) in
        let near : n < 2 ^ 22 = behind low in
        let quarter : n / 4 < 2 ^ 20 = omega (arith, near) in
        grind (arith, ints, nat_tests)
    either false is =
        let high : 2 ^ 31 ≤ n = grind (arith, nat_tests) in
        let near : 2 ^ 32 - 2 ^ 22 ≤ n = before high in
        let quarter : (2 ^ 32 - (n + 1)) / 4 < 2 ^ 20 = omega (arith, near, small) in
        grind (arith, ints, nat_tests)

-- a call and what it calls lie below this address
pub record IsNear (i : Inputs) : Type 0 where
  pub addend : i.a ≡ pos 0
  pub word : i.s % 4 ≡ 0
  pub called : i.s < 2 ^ 22
  pub place : i.p < 2 ^ 22

abbrev sum : Inputs → ℕ
sum i = ((i.s + cast_unsigned w32 i.a) % 2 ^ 32 + (2 ^ 32 - (i.p - i.p % 32))) % 2 ^ 32

sum_small : (i : Inputs) → IsNear i → sum i < 2 ^ 32
sum_small i near = omega arith

value_passes : (i : Inputs) → IsNear i → value_rule (value_of PCR_S21 i) ≡ None
unfolding row_of row_value sum_of divides quotient_of fits field_of has_addend
value_passes i near =
    let word = near.word in
    let called = near.called in
    let place = near.place in
    let none : cast_unsigned w32 i.a ≡ 0 = ap (cast_unsigned w32) near.addend in
    let small : sum i < 2 ^ 32 = sum_small i near in
    let whole : sum i % 4 ≡ 0 = omega (arith, word, none) in
    let high : 2 ^ 31 ≤ sum i → 2 ^ 32 - 2 ^ 22 ≤ sum i = omega (arith, none, called, place) in
    let low : sum i < 2 ^ 31 → sum i < 2 ^ 22 = omega (arith, none, called, place) in
    rw (whole, fits_call (sum i) small whole high low) refl

-- A call by a stub.
pub record IsCallBy (r : Reference) : Type 0 where
  pub kind : r.kind ≡ Some PCR_S21
  pub text : r.in_text ≡ true
  pub target : r.target ≡ Import
  pub word : r.offset % 4 ≡ 0
  pub inside : r.offset + 4 ≤ r.room
  pub near : IsNear r.inputs

pub call_passes : (r : Reference) → IsCallBy r → entry_rule r ≡ None
unfolding entry_rule kind_rule is_inside has_no_addend must row_of
call_passes r by =
    let inside : nat_le (r.offset + 4) r.room ≡ true = le-leb (r.offset + 4) r.room by.inside in
    rw (by.kind, by.text, by.target, by.word, inside, value_passes r.inputs by.near, by.near.addend) refl
