-- Room for the names of sections, and the sizes of tables.
use Rattle.std.proofs.Common.{◌≡◌, ℕ, ◌+◌, ◌*◌, ◌^◌, ◌<◌, List, [], ◌∷◌, ◌++◌, length, map, ap, length-append, refl, arith}
use Rattle.c6x_elf.specs.Names.{name_table}
use Rattle.c6x_asm_object.specs.declared.asm_section.AsmSection.{AsmSection}
use Rattle.c6x_asm_object.specs.declared.reloc_entry.RelocEntry.{RelocEntry}
use Rattle.c6x_asm_object.specs.declared.symbol.Symbol.{Symbol}
use Rattle.c6x_asm_object.specs.Symbols.{names_total}
use Rattle.c6x_asm_object.specs.Filing.{Named, named_relas, named_section, named_sections, named_strtab, named_symtab, names_of, symtab_of}
use Rattle.c6x_asm_object.specs.Relocations.{relocation_rows}
use Rattle.c6x_asm_object.specs.FormSymbols.{names_table, symbol_numbers, symbol_table}
use Rattle.c6x_asm_object.proofs.Lengths.{length-relocation_rows, length-symbol_table}
use Rattle.c6x_asm_object.proofs.NameLengths.{length-names_table}
use Rattle.c6x_asm_object.specs.Built.{Built}
use Rattle.c6x_asm_object.specs.Adding.{added, first_built}
use Rattle.c6x_asm_object.proofs.Adds.{names_append}

-- the table of no names
pub no_names : name_table [] ≡ 0 ∷ []
unfolding name_table
no_names = refl

pub first_room : length first_built.names ≡ 1
unfolding first_built
first_room = refl

-- the names behind more sections
pub names_added : (more : List Named) (x : Built) → length (added more x).names ≡ length x.names + length (names_of more)
unfolding added
names_added more x = length-append x.names (names_of more)

-- all names leave room for the last one
pub last_room : (more : List Named) → length (names_of more) < 2 ^ 31 → length (added more first_built).names + 10 < 2 ^ 32
last_room more few = omega (arith, names_added more first_built, first_room)

-- what is left to add leaves room for the next name
pub added_within : (more all : List Named) (x first : Built) → added more x ≡ added all first → length first.names + length (names_of all) < 2 ^ 32 → length x.names < 2 ^ 32
added_within more all x first is few =
    omega (arith, ap (λ (b : Built). length b.names) is, names_added more x, names_added all first)

-- the names of all sections, one group behind the other
pub names_sum : (text : List ℕ) (sections : List AsmSection) (symbols : List Symbol) → length (names_of (named_sections text sections symbols)) ≡ length (names_of (map (named_section text) sections)) + (length (names_of (named_relas text (symbol_numbers (length sections) symbols) (symtab_of sections) 1 sections)) + (length (names_of (named_symtab text sections symbols ∷ [])) + length (names_of (named_strtab text symbols ∷ []))))
unfolding named_sections
names_sum text sections symbols =
    let a = map (named_section text) sections in
    let b = named_relas text (symbol_numbers (length sections) symbols) (symtab_of sections) 1 sections in
    let c = named_symtab text sections symbols ∷ [] in
    let d = named_strtab text symbols ∷ [] in
    omega (
      arith,
      ap length (names_append a (b ++ (c ++ d))),
      length-append (names_of a) (names_of (b ++ (c ++ d))),
      ap length (names_append b (c ++ d)),
      length-append (names_of b) (names_of (c ++ d)),
      ap length (names_append c d),
      length-append (names_of c) (names_of d),
    )

pub rela_size : (numbers : List ℕ) (entries : List RelocEntry) → length (relocation_rows numbers entries) ≡ 12 * length entries
rela_size = length-relocation_rows

pub symbols_size : (text : List ℕ) (sections : ℕ) (symbols : List Symbol) → length (symbol_table text sections symbols) ≡ 16 * (1 + sections + length symbols)
symbols_size = length-symbol_table

pub strings_size : (text : List ℕ) (symbols : List Symbol) → length (names_table text symbols) ≡ 1 + names_total text symbols
strings_size = length-names_table
