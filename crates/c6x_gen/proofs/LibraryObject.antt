-- The object of a library, by what stands in it.
use Rattle.std.proofs.Common.{◌≡◌, ℕ, ◌+◌, ◌*◌, List, [], ◌∷◌, length, None, refl, arith}
use Rattle.c6x_reloc.specs.declared.reloc_kind.RelocKind.TheVariants.{DSBT_INDEX}
use Rattle.c6x_asm_object.specs.Sections.{empty_section, with_bytes, with_instruction, with_number, with_parallel}
use Rattle.c6x_asm_object.specs.Symbols.{interned, symbol_at}
use Rattle.c6x_asm_object.specs.declared.asm_section.AsmSection.{AsmSection}
use Rattle.c6x_asm.specs.States.{relocated}
use Rattle.c6x_gen.specs.Objects.{code_of, count_entry, counter_section, instruction, library_entries, library_instructions, library_sections, library_symbols}
use Rattle.c6x_gen.specs.Words.{ADD_COUNT, LOAD_COUNT, LOAD_TABLE, PUSH_B14, STORE_COUNT, WAIT}
use Rattle.c6x_gen.proofs.Library.{AreFound, after_add, after_back, after_first_wait, after_load, after_pop, after_push, after_second_wait, after_store, after_table, place}
use Rattle.c6x_gen.proofs.LibraryEnd.{counter_place, data_of, IsApart, names_after_add, names_after_first_wait, symbols_of}

-- the code up to the first wait, up to the sum, and up to the counter's new value
abbrev code_to_wait : AsmSection
code_to_wait =
    code_of (instruction 3 PUSH_B14 ∷ instruction 4 LOAD_TABLE ∷ instruction 5 WAIT ∷ [])
    (record { offset = 4; kind = DSBT_INDEX; symbol = None; addend = 0 } ∷ [])

abbrev code_to_load : AsmSection
code_to_load =
    code_of (instruction 3 PUSH_B14 ∷ instruction 4 LOAD_TABLE ∷ instruction 5 WAIT ∷ instruction 6 LOAD_COUNT ∷ [])
    (record { offset = 4; kind = DSBT_INDEX; symbol = None; addend = 0 } ∷ count_entry 12 ∷ [])

abbrev code_to_store : AsmSection
code_to_store =
    code_of (instruction 3 PUSH_B14 ∷ instruction 4 LOAD_TABLE ∷ instruction 5 WAIT ∷ instruction 6 LOAD_COUNT ∷ instruction 7 WAIT ∷ instruction 8 ADD_COUNT ∷ instruction 9 STORE_COUNT ∷ [])
    library_entries

wait_code : (name digits : List ℕ) → (after_first_wait name digits).section ≡ code_to_wait
unfolding after_first_wait after_table after_push relocated empty_section with_instruction with_number with_bytes with_parallel
wait_code name digits = refl

load_code : (name digits : List ℕ) → AreFound name digits → IsApart name → (after_load name digits).section ≡ code_to_load
unfolding after_load relocated interned symbol_at with_instruction with_number with_bytes with_parallel
load_code name digits found other =
    rw (wait_code name digits, names_after_first_wait name digits, found.1.0.1.0, found.1.1.1.1.1.0.1.1.1.0, other) refl

store_code : (name digits : List ℕ) → AreFound name digits → IsApart name → (after_store name digits).section ≡ code_to_store
unfolding after_store after_add after_second_wait relocated interned symbol_at with_instruction with_number with_bytes with_parallel
store_code name digits found other =
    rw (names_after_add name digits found other, load_code name digits found other, found.1.0.1.0, found.1.1.1.1.1.0.1.1.1.0, found.1.1.1.1.1.1.1.1.0.1.1.1.1.0, other) refl

library_code : (name digits : List ℕ) → AreFound name digits → IsApart name → (after_back name digits).section ≡ code_of library_instructions library_entries
unfolding after_back after_pop relocated with_instruction with_number with_bytes with_parallel
library_code name digits found other = rw (store_code name digits found other) refl

-- the counter stands behind twice the function's name
data_place : (name digits : List ℕ) → place name digits 11 + 1 + 1 + 1 + 1 + 1 + 1 + 1 + 1 + 5 + 1 + 1 ≡ 297 + 2 * length name
data_place name digits = omega arith

library_data : (name digits : List ℕ) (count : ℕ) → data_of name digits count ≡ counter_section name count
unfolding data_of with_number with_bytes empty_section
library_data name digits count = rw (data_place name digits) refl

count_place : (name digits : List ℕ) → counter_place name digits ≡ 145 + 2 * length name
count_place name digits = omega arith

pub library_names : (name digits : List ℕ) → symbols_of name digits ≡ library_symbols name
unfolding empty_section
library_names name digits = rw (count_place name digits) refl

pub library_holds : (name digits : List ℕ) (count : ℕ) → AreFound name digits → IsApart name → ((after_back name digits).section ∷ data_of name digits count ∷ []) ≡ library_sections name count
library_holds name digits count found other = rw (library_code name digits found other, library_data name digits count) refl
