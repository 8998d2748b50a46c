-- A field that was set last holds its value.
use Rattle.std.proofs.Common.{◌≡◌, ℕ, ◌+◌, ◌-◌, ◌*◌, ◌/◌, ◌%◌, ◌^◌, ◌<◌, ◌≤◌, List, length, None, refl, sym, ◌∙◌, ap, arith}
use Rattle.std.specs.Int.{bit_at}
use Rattle.std.proofs.lemmas.Nat.Bits.{same_from_bits_below}
use Rattle.c6x_spec.specs.Numbers.{bit_in, number_in}
use Rattle.c6x_spec.proofs.NumberBits.{bit_at_below, bit_at_from, bit_in_byte, number_bits, rest_below}
use Rattle.c6x_reloc.specs.Fields.{HoldsValue, first_bit}
use Rattle.c6x_reloc.specs.Table.{row_of}
use Rattle.c6x_reloc.specs.declared.field.Field.{Field}
use Rattle.c6x_reloc.specs.FieldBits.{AreBytes, IsLast, IsPatchedBy, last_bit, lowest, or_bit, or_else, patched, width}
use Rattle.c6x_reloc.proofs.Steps.{field_bit_inside, last_split}
use Rattle.c6x_reloc.proofs.Bytes.{inside_is, patched_bytes, patched_length}
use Rattle.c6x_reloc.proofs.RowFacts.{row_within}

-- of all fields it has its bits last
pub last_is : (was : ℕ) (fields : List Field) (f : Field) (i : ℕ) {len : ℕ} → IsLast len fields f → i < width f → or_bit (last_bit fields (lowest f + i)) was ≡ bit_at f.value i
last_is was fields f i last below =
    let none : last_bit last.after (lowest f + i) ≡ None = last.alone i below in
    ap (λ fs. or_bit (last_bit fs (lowest f + i)) was) last.split
    ∙ ap (λ o. or_bit o was) (last_split last.before last.after f (lowest f + i) none)
    ∙ ap (λ o. or_bit (or_else o (last_bit last.before (lowest f + i))) was) (field_bit_inside f (lowest f + i) i refl below)

-- its bits are its value's
pub bit_held : (old new : List ℕ) (fields : List Field) (f : Field) (i : ℕ) → IsPatchedBy old fields new → IsLast (length new) fields f → i < width f → bit_in new (lowest f + i) ≡ bit_at f.value i
bit_held old new fields f i p last below =
    p.bits (lowest f + i) ∙ last_is (bit_in old (lowest f + i)) fields f i last below

-- so the number at its place has the value in the field
held_bits : (new : List ℕ) (place size low count value : ℕ) → AreBytes new → low + count ≤ 8 * size → ((i : ℕ) → i < count → bit_in new (8 * place + low + i) ≡ bit_at value i) → number_in size new place / 2 ^ low % 2 ^ count ≡ value % 2 ^ count
held_bits new place size low count value small room set =
    let n : ℕ = number_in size new place in
    same_from_bits_below count (n / 2 ^ low % 2 ^ count) (value % 2 ^ count) (rest_below (n / 2 ^ low) count) (rest_below value count)
    (λ i below.
    let m : ℕ = (low + i) / 8 in
    let k : ℕ = (low + i) % 8 in
    let back : low + i - low ≡ i = omega arith in
    let there : 8 * m + k ≡ low + i = omega arith in
    let few : k < 8 = omega arith in
    let byte : m < size = omega (arith, room, below) in
    let is : 8 * place + low + i ≡ 8 * (place + m) + k = omega arith in
    sym (bit_at_below (n / 2 ^ low) count i below)
    ∙ ap (bit_at (n / 2 ^ low)) (sym back)
    ∙ sym (bit_at_from n low (low + i) (omega arith))
    ∙ ap (bit_at n) (sym there)
    ∙ sym ((number_bits size new place small).bits m k byte few)
    ∙ sym (bit_in_byte new (8 * place + low + i) (place + m) k is few)
    ∙ set i below
    ∙ bit_at_below value count i below)

pub field_held : (old new : List ℕ) (fields : List Field) (f : Field) → AreBytes new → IsPatchedBy old fields new → IsLast (length new) fields f → HoldsValue new f.place f.kind f.value
unfolding first_bit
field_held old new fields f small p last = record {
  inside = λ some. last.within;
  field = held_bits new f.place (row_of f.kind).size (row_of f.kind).low (row_of f.kind).width f.value small (row_within f.kind) (λ i below. bit_held old new fields f i p last below);
}

-- the same of the list of patched bytes
pub held_in_list : (old : List ℕ) (fields : List Field) (f : Field) → IsLast (length old) fields f → HoldsValue (patched old fields) f.place f.kind f.value
unfolding first_bit
held_in_list old fields f last = record {
  inside = λ some. omega (arith, patched_length old fields, last.within);
  field =
      held_bits (patched old fields) f.place (row_of f.kind).size (row_of f.kind).low (row_of f.kind).width f.value
      (patched_bytes old fields)
      (row_within f.kind)
      (λ i below.
      let room = row_within f.kind in
      let within = last.within in
      let inside : (8 * f.place + (row_of f.kind).low + i) / 8 < length old = omega (arith, room, within, below) in
      inside_is old fields (8 * f.place + (row_of f.kind).low + i) inside
      ∙ last_is (bit_in old (8 * f.place + (row_of f.kind).low + i)) fields f i last below);
}
