-- The entries for the loader of words on symbols that move.
use Rattle.std.proofs.Common.{◌≡◌, ℕ, ◌+◌, ◌%◌, ◌^◌, ◌<◌, ◌==◌, Bool, false, if◌then◌else◌, length, refl, ap, ◌∙◌, subst, arith}
use Rattle.std.specs.Int.{cast_signed, cast_unsigned, w32}
use Rattle.std.proofs.lemmas.Int.{of_z-to_z}
use Rattle.c6x_spec.specs.Memory.{IsOnMemory, Memory}
use Rattle.c6x_elf.specs.Attributes.{rela_info, rela_kind, rela_symbol}
use Rattle.c6x_elf.specs.Types.{Rela}
use Rattle.c6x_reloc.specs.Table.{row_of}
use Rattle.c6x_reloc.specs.Value.{less}
use Rattle.c6x_reloc.specs.declared.inputs.Inputs.{Inputs}
use Rattle.c6x_reloc.specs.declared.reloc_kind.RelocKind.TheVariants.{ABS32}
use Rattle.c6x_module.specs.declared.module.Module.{Module}
use Rattle.c6x_module.specs.Fields.{field_of}
use Rattle.c6x_module.specs.declared.fields.TheConstants.{R_C6000_JUMP_SLOT, R_C6000_NONE}
use Rattle.c6x_load.specs.Values.{field_value as word_of, shift_of}
use Rattle.c6x_reloc.specs.Shift.{moved_by}
use Rattle.c6x_relocated.specs.Holds.{HoldsAt}
use Rattle.c6x_relocated.specs.Filled.{Finding, definition_address}
use Rattle.c6x_relocated.proofs.Basics.{double_mod}
use Rattle.c6x_relocated.proofs.Words.{IsRead, word_holds}

-- an ABS32 at a place, on a symbol that has the address `start` in the file, for the address s
abbrev pub abs_rela : ℕ → ℕ → ℕ → ℕ → Rela
abs_rela place symbol s start = record {
  offset = place;
  info = rela_info symbol (row_of ABS32).number;
  addend = cast_signed w32 (less s start);
}

pub kind_is : (place symbol s start : ℕ) → rela_kind (abs_rela place symbol s start) ≡ 1
unfolding row_of
kind_is place symbol s start = omega arith

pub symbol_is : (place symbol s start : ℕ) → rela_symbol (abs_rela place symbol s start) ≡ symbol
unfolding row_of
symbol_is place symbol s start = omega arith

addend_is : (place symbol s start : ℕ) → cast_unsigned w32 (abs_rela place symbol s start).addend ≡ less s start
addend_is place symbol s start = of_z-to_z w32 (less s start) (omega arith)

pub no_none : (place symbol s start : ℕ) → (rela_kind (abs_rela place symbol s start) == R_C6000_NONE) ≡ false
no_none place symbol s start = ap (λ n. n == R_C6000_NONE) (kind_is place symbol s start)

-- the field that any entry makes
pub place_is : (r : Rela) → (field_of r).place ≡ r.offset
unfolding field_of
place_is r = refl

pub field_symbol : (r : Rela) → (field_of r).symbol ≡ rela_symbol r
unfolding field_of
field_symbol r = refl

-- its word is the sum
word_is : (place symbol s start d : ℕ)
    → word_of (field_of (abs_rela place symbol s start)) d ≡ (d + less s start) % 2 ^ 32
unfolding word_of field_of
word_is place symbol s start d =
    ap (λ (b : Bool). if b then d else (d + cast_unsigned w32 (abs_rela place symbol s start).addend) % 2 ^ 32)
    (ap (λ n. n == R_C6000_JUMP_SLOT) (kind_is place symbol s start))
    ∙ ap (λ a. (d + a) % 2 ^ 32) (addend_is place symbol s start)

pub abs_holds : (board : Memory) (m : Module) (base : ℕ) (f : Finding) (position place symbol s start : ℕ)
    (i : Inputs)
    → board.base + length board.bytes < 2 ^ 32 → IsOnMemory board base m.memory.memsz → m.memory.vaddr < 2 ^ 32
    → IsRead board m base f position (field_of (abs_rela place symbol s start))
    → (definition_address f position m symbol + less s start) % 2 ^ 32 ≡ (i.s + cast_unsigned w32 i.a) % 2 ^ 32
    → HoldsAt board (moved_by (shift_of base m.memory.vaddr) place) ABS32 i
abs_holds board m base f position place symbol s start i ends on low read sum =
    let r : Rela = abs_rela place symbol s start in
    let word : word_of (field_of r) (definition_address f position m (field_of r).symbol) % 2 ^ 32 ≡
    (i.s + cast_unsigned w32 i.a) % 2 ^ 32 =
    ap (λ n. word_of (field_of r) (definition_address f position m n) % 2 ^ 32)
    (field_symbol r ∙ symbol_is place symbol s start)
    ∙ ap (λ n. n % 2 ^ 32) (word_is place symbol s start (definition_address f position m symbol))
    ∙ double_mod (definition_address f position m symbol + less s start)
    ∙ sum in
    let P : ℕ → Type 0 = λ at. HoldsAt board (moved_by (shift_of base m.memory.vaddr) at) ABS32 i in
    subst P (place_is r) (word_holds board m base f position (field_of r) i ends on low read word)
