-- Which bits of a data range the loader sets.
use Rattle.std.proofs.Common.{◌≡◌, ℕ, ◌+◌, ◌-◌, ◌*◌, ◌%◌, ◌^◌, ◌<◌, ◌≤◌, ◌⊎◌, inl, inr, ◌==◌, Bool, true, false, if◌then◌else◌, List, [], ◌∷◌, length, map, Option, None, Some, refl, sym, ap, ◌∙◌, arith}
use Rattle.std.specs.Int.{bit_at}
use Rattle.std.specs.List.{range_with_len}
use Rattle.std.specs.Prelude.{All}
use Rattle.std.proofs.lemmas.Bool.Decides.{leb_tells}
use Rattle.std.proofs.lemmas.List.Elements.{All-cons, All-head, All-nil, All-tail}
use Rattle.std.proofs.lemmas.List.FromFn.{length-map-range_with_len}
use Rattle.c6x_elf.specs.Attributes.{rela_kind}
use Rattle.c6x_elf.specs.Types.{Rela}
use Rattle.c6x_reloc.specs.Fields.{first_bit}
use Rattle.c6x_reloc.specs.Table.{row_of}
use Rattle.c6x_reloc.proofs.Steps.{field_bit_inside, field_bit_outside, last_both}
use Rattle.c6x_reloc.specs.FieldBits.{field_bit, last_bit, lowest, or_else, width}
use Rattle.c6x_module.specs.declared.field.Field.{Field as Dynamic}
use Rattle.c6x_module.specs.declared.module.Module.{Module}
use Rattle.c6x_module.specs.Fields.{field_of, fields_of}
use Rattle.c6x_module.specs.declared.fields.TheConstants.{R_C6000_NONE}
use Rattle.c6x_place.specs.declared.target.Target.{Target}
use Rattle.c6x_load.specs.Values.{field_value as word_of}
use Rattle.c6x_relocated.specs.Holds.{word_field}
use Rattle.c6x_relocated.specs.Patches.{filled_fields, loaded_fields, slot_fields}

pub both_none : (a b : Option ℕ) → a ≡ None → b ≡ None → or_else a b ≡ None
both_none a b first second = ap (λ o. or_else o b) first ∙ second

pub none_left : (a b : Option ℕ) → or_else a b ≡ None → a ≡ None
none_left None b none = refl
none_left (Some bit) b none = absurd (cc none)

pub none_right : (a b : Option ℕ) → or_else a b ≡ None → b ≡ None
none_right None b none = none
none_right (Some bit) b none = absurd (cc none)

-- a word has the 32 bits from its first byte on
pub lowest_is : (place word : ℕ) → lowest (word_field place word) ≡ 8 * place
unfolding row_of first_bit
lowest_is place word = omega arith

width_is : (place word : ℕ) → width (word_field place word) ≡ 32
unfolding row_of
width_is place word = refl

pub word_outside : (place word at : ℕ) → (at < 8 * place) ⊎ (8 * place + 32 ≤ at)
    → field_bit (word_field place word) at ≡ None
word_outside place word at (inl below) = field_bit_outside (word_field place word) at
    (inl (omega (arith, below, lowest_is place word)))
word_outside place word at (inr above) = field_bit_outside (word_field place word) at
    (inr (omega (arith, above, lowest_is place word, width_is place word)))

pub word_off : (place word at : ℕ) → field_bit (word_field place word) at ≡ None
    → (at < 8 * place) ⊎ (8 * place + 32 ≤ at)
word_off place word at none = elim (leb_tells (8 * place) at) [
  | inr (_, below) ↦ inl (omega (arith, below))
  | inl (_, above) ↦ elim (leb_tells (8 * place + 32) at) [
    | inl (_, behind) ↦ inr (omega (arith, behind))
    | inr (_, within) ↦
        let inside : field_bit (word_field place word) at ≡ Some (bit_at word (at - 8 * place)) = field_bit_inside
        (word_field place word) at (at - 8 * place) (omega (arith, above, lowest_is place word))
        (omega (arith, above, within, width_is place word)) in
        absurd (cc (sym inside ∙ none))
  ]
]

-- a bit lies off a field of a range that has the address `vaddr` in its file
abbrev pub IsOff : ℕ → ℕ → Dynamic → Type 0
IsOff vaddr at f = (at < 8 * (f.place - vaddr)) ⊎ (8 * (f.place - vaddr) + 32 ≤ at)

slots_none : (place : ℕ) (words : List ℕ) (at : ℕ) → 8 * (place + 4 * length words) ≤ at
    → last_bit (slot_fields place words) at ≡ None
slots_none place [] at above = refl
slots_none place (w ∷ ws) at above =
    both_none (last_bit (slot_fields (place + 4) ws) at) (field_bit (word_field place (w % 2 ^ 32)) at)
    (slots_none (place + 4) ws at (omega (arith, above)))
    (word_outside place (w % 2 ^ 32) at (inr (omega (arith, above))))

filled_none : (address : Target → ℕ) (vaddr : ℕ) (fs : List Dynamic) (ts : List Target) (at : ℕ)
    → All (IsOff vaddr at) fs → last_bit (filled_fields address vaddr fs ts) at ≡ None
filled_none address vaddr [] ts at off = refl
filled_none address vaddr (f ∷ fs) [] at off = refl
filled_none address vaddr (f ∷ fs) (t ∷ ts) at off =
    both_none (last_bit (filled_fields address vaddr fs ts) at)
    (field_bit (word_field (f.place - vaddr) (word_of f (address t) % 2 ^ 32)) at)
    (filled_none address vaddr fs ts at (All-tail (IsOff vaddr at) f fs off))
    (word_outside (f.place - vaddr) (word_of f (address t) % 2 ^ 32) at (All-head (IsOff vaddr at) f fs off))

-- behind the table and off the fields the loader sets no bit
pub loaded_none : (m : Module) (word : ℕ → ℕ) (address : Target → ℕ) (targets : List Target) (at : ℕ)
    → 8 * ((m.table - m.memory.vaddr) + 4 * m.slots) ≤ at → All (IsOff m.memory.vaddr at) m.fields
    → last_bit (loaded_fields m word address targets) at ≡ None
unfolding loaded_fields
loaded_none m word address targets at above off =
    let words : List ℕ = map word (range_with_len 0 m.slots) in
    let count : length words ≡ m.slots = length-map-range_with_len word 0 m.slots in
    last_both (slot_fields (m.table - m.memory.vaddr) words) (filled_fields address m.memory.vaddr m.fields targets)
    at
    ∙ both_none (last_bit (filled_fields address m.memory.vaddr m.fields targets) at)
    (last_bit (slot_fields (m.table - m.memory.vaddr) words) at)
    (filled_none address m.memory.vaddr m.fields targets at off)
    (slots_none (m.table - m.memory.vaddr) words at (omega (arith, above, count)))

-- what holds of the fields of all entries holds of those that are read
pub fields_all : (P : Dynamic → Type 0) (rs : List Rela) → All (λ (r : Rela). P (field_of r)) rs
    → All P (fields_of rs)
fields_all P [] all = All-nil P
fields_all P (r ∷ rs) all = either (rela_kind r == R_C6000_NONE)
    (fields_all P rs (All-tail (λ (x : Rela). P (field_of x)) r rs all))
  where
    either : (t : Bool) → All P (fields_of rs) → All P (if t then fields_of rs else field_of r ∷ fields_of rs)
    either true rest = rest
    either false rest = All-cons P (field_of r) (fields_of rs) (All-head (λ (x : Rela). P (field_of x)) r rs all) rest
