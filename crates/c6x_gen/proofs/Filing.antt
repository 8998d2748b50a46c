-- An object that is made of bytes holds bytes.
use Rattle.std.proofs.Common.{◌≡◌, ℕ, zero, suc, ◌+◌, ◌<◌, Bool, true, false, List, [], ◌∷◌, ◌++◌, length, map, if◌then◌else◌, codes, refl, arith}
use Rattle.std.proofs.lemmas.List.Elements.{All-append, All-cons, All-head, All-nil, All-tail}
use Rattle.std.specs.Int.{cast_unsigned, w32}
use Rattle.std.specs.List.{flat_map}
use Rattle.std.specs.Prelude.{All}
use Rattle.c6x_elf.specs.Abi.{STT_NOTYPE}
use Rattle.c6x_elf.specs.Attributes.{symbol_info}
use Rattle.c6x_elf.specs.Bindings.{Global, Local, Weak}
use Rattle.c6x_elf.specs.EntryRows.{rela_row, rela_rows, symbol_row, symbol_rows}
use Rattle.c6x_elf.specs.Names.{name_row, name_table}
use Rattle.c6x_elf.specs.Rows.{half_bytes, half_row, word_bytes, word_row}
use Rattle.c6x_elf.specs.Types.{Rela, Symbol as Entry, SymbolBinding}
use Rattle.c6x_asm_object.specs.Bindings.{binding, visibility}
use Rattle.c6x_asm_object.specs.Filing.{Named, file_of, has_entries, named_rela, named_relas, named_section, named_sections, named_shstrtab, named_strtab, named_symtab, names_of, sections_from, sections_of, symtab_of}
use Rattle.c6x_asm_object.specs.Headers.{null_section, section_header, table_section}
use Rattle.c6x_asm_object.specs.Relocations.{relocation}
use Rattle.c6x_asm_object.specs.FormSymbols.{entries, name_entries, name_entry, names_table, null_entry, ordered, section_entries, section_entry, symbol_numbers, symbol_table}
use Rattle.c6x_asm_object.specs.Named.{section_name}
use Rattle.c6x_asm_object.specs.Symbols.{symbol_name}
use Rattle.c6x_asm_object.specs.declared.asm_section.AsmSection.{AsmSection}
use Rattle.c6x_asm_object.specs.declared.symbol.Symbol.{Symbol}
use Rattle.c6x_reloc.specs.FieldBits.{AreBytes}
use Rattle.c6x_link_loads.specs.Linkable.{HasBytes, IsOfBytes}
use Rattle.c6x_gen.proofs.Bytes.{both_bytes, byte_before, each_bytes, found_bytes, no_bytes, tested_bytes, word_are}

-- tables of numbers
half_are : (half : ℕ) → AreBytes (half_bytes false half)
unfolding half_bytes
half_are half zero = omega arith
half_are half (suc zero) = omega arith
half_are half (suc (suc i)) = no_bytes i

words_are : (words : List ℕ) → AreBytes (word_row false words)
unfolding word_bytes
words_are [] = no_bytes
words_are (word ∷ words) = both_bytes (word_bytes false word) (word_row false words) (word_are word) (words_are words)

relas_are : (relas : List Rela) → AreBytes (rela_rows false relas)
unfolding rela_row
relas_are relas = each_bytes (rela_row false) relas (λ rela. words_are (rela.offset ∷ rela.info ∷ cast_unsigned w32 rela.addend ∷ []))

-- the two numbers of a symbol that stand as bytes
record IsSmall (entry : Entry) : Type 0 where
  info : entry.info < 256
  other : entry.other < 256

entry_are : (entry : Entry) → IsSmall entry → AreBytes (symbol_row false entry)
unfolding symbol_row
entry_are entry small =
    let section = both_bytes (half_bytes false entry.section) [] (half_are entry.section) no_bytes in
    both_bytes (word_row false (entry.name ∷ entry.value ∷ entry.size ∷ [])) (entry.info ∷ entry.other ∷ half_row false (entry.section ∷ []))
    (words_are (entry.name ∷ entry.value ∷ entry.size ∷ []))
    (byte_before entry.info (entry.other ∷ half_row false (entry.section ∷ [])) small.info (byte_before entry.other (half_row false (entry.section ∷ [])) small.other section))

entries_are : (all : List Entry) → All IsSmall all → AreBytes (symbol_rows false all)
entries_are [] small = no_bytes
entries_are (entry ∷ all) small =
    both_bytes (symbol_row false entry) (symbol_rows false all) (entry_are entry (All-head IsSmall entry all small)) (entries_are all (All-tail IsSmall entry all small))

info_small : (b : SymbolBinding) → symbol_info b STT_NOTYPE < 256
info_small Local = omega arith
info_small Global = omega arith
info_small Weak = omega arith

visible_small : (hidden : Bool) (s : Symbol) → s.hidden ≡ hidden → visibility s < 256
visible_small true s is = rw is (omega arith)
visible_small false s is = rw is (omega arith)

section_entries_small : (number count : ℕ) → All IsSmall (section_entries number count)
section_entries_small number zero = All-nil IsSmall
section_entries_small number (suc count) =
    All-cons IsSmall (section_entry number) (section_entries (number + 1) count) (record { info = omega arith; other = omega arith }) (section_entries_small (number + 1) count)

name_entries_small : (text : List ℕ) (at : ℕ) (symbols : List Symbol) → All IsSmall (name_entries text at symbols)
name_entries_small text at [] = All-nil IsSmall
name_entries_small text at (s ∷ symbols) =
    All-cons IsSmall (name_entry at s) (name_entries text (at + (length (symbol_name text s) + 1)) symbols)
    (record { info = info_small (binding s); other = visible_small s.hidden s refl })
    (name_entries_small text (at + (length (symbol_name text s) + 1)) symbols)

table_are : (text : List ℕ) (sections : ℕ) (symbols : List Symbol) → AreBytes (symbol_table text sections symbols)
unfolding symbol_table entries
table_are text sections symbols =
    let named = name_entries text 1 (ordered symbols) in
    entries_are (null_entry ∷ (section_entries 1 sections ++ named))
    (All-cons IsSmall null_entry (section_entries 1 sections ++ named) (record { info = omega arith; other = omega arith })
    (All-append IsSmall (section_entries 1 sections) named (section_entries_small 1 sections) (name_entries_small text 1 (ordered symbols))))

-- names
row_are : (name : List ℕ) → AreBytes name → AreBytes (name_row name)
row_are name are = both_bytes name (0 ∷ []) are (byte_before 0 [] (omega arith) no_bytes)

symbol_names_are : (text : List ℕ) (symbols : List Symbol) → AreBytes text → AreBytes (flat_map name_row (map (symbol_name text) symbols))
symbol_names_are text [] are = no_bytes
symbol_names_are text (s ∷ symbols) are =
    both_bytes (name_row (symbol_name text s)) (flat_map name_row (map (symbol_name text) symbols))
    (row_are (symbol_name text s) (found_bytes text s.at s.len are)) (symbol_names_are text symbols are)

strings_are : (text : List ℕ) (symbols : List Symbol) → AreBytes text → AreBytes (names_table text symbols)
unfolding names_table name_table
strings_are text symbols are = byte_before 0 _ (omega arith) (symbol_names_are text (ordered symbols) are)

-- sections
abbrev NamedHasBytes : Named → Type 0
NamedHasBytes n = AreBytes n.section.bytes

abbrev pub IsMadeOfBytes : AsmSection → Type 0
IsMadeOfBytes p = AreBytes p.bytes

-- the names of sections are bytes too
abbrev IsNamedByBytes : Named → Type 0
IsNamedByBytes n = AreBytes n.name × NamedHasBytes n

held : (at : ℕ) (named : List Named) → All IsNamedByBytes named → All HasBytes (sections_from at named)
held at [] are = All-nil HasBytes
held at (n ∷ named) are =
    All-cons HasBytes (record n.section { name = at }) (sections_from (at + (length n.name + 1)) named)
    (All-head IsNamedByBytes n named are).1 (held (at + (length n.name + 1)) named (All-tail IsNamedByBytes n named are))

section_names_are : (named : List Named) → All IsNamedByBytes named → AreBytes (names_of named)
section_names_are [] are = no_bytes
section_names_are (n ∷ named) are =
    both_bytes n.name (0 ∷ names_of named) (All-head IsNamedByBytes n named are).0
    (byte_before 0 (names_of named) (omega arith) (section_names_are named (All-tail IsNamedByBytes n named are)))

shstrtab_name : AreBytes (codes ".shstrtab")
shstrtab_name = tested_bytes (codes ".shstrtab") refl

shstrtab_are : (named : List Named) → All IsNamedByBytes named → IsNamedByBytes (named_shstrtab named)
unfolding named_shstrtab table_section
shstrtab_are named are = (
  shstrtab_name,
  byte_before 0 (names_of named ++ (codes ".shstrtab" ++ (0 ∷ []))) (omega arith)
      (both_bytes (names_of named) (codes ".shstrtab" ++ (0 ∷ [])) (section_names_are named are)
      (both_bytes (codes ".shstrtab") (0 ∷ []) shstrtab_name (byte_before 0 [] (omega arith) no_bytes))),
)

all_held : (named : List Named) → All IsNamedByBytes named → All HasBytes (sections_of named)
unfolding sections_of null_section table_section
all_held named are =
    let behind = named ++ (named_shstrtab named ∷ []) in
    All-cons HasBytes null_section (sections_from 1 behind) no_bytes
    (held 1 behind (All-append IsNamedByBytes named (named_shstrtab named ∷ []) are
    (All-cons IsNamedByBytes (named_shstrtab named) [] (shstrtab_are named are) (All-nil IsNamedByBytes))))

section_is : (text : List ℕ) (p : AsmSection) → AreBytes text → IsMadeOfBytes p → IsNamedByBytes (named_section text p)
unfolding section_header
section_is text p are made = (found_bytes text p.at p.len are, made)

sections_are : (text : List ℕ) (sections : List AsmSection) → AreBytes text → All IsMadeOfBytes sections → All IsNamedByBytes (map (named_section text) sections)
sections_are text [] are made = All-nil IsNamedByBytes
sections_are text (p ∷ sections) are made =
    All-cons IsNamedByBytes (named_section text p) (map (named_section text) sections) (section_is text p are (All-head IsMadeOfBytes p sections made))
    (sections_are text sections are (All-tail IsMadeOfBytes p sections made))

rela_is : (text numbers : List ℕ) (symtab number : ℕ) (p : AsmSection) → AreBytes text → IsNamedByBytes (named_rela text numbers symtab number p)
unfolding table_section
rela_is text numbers symtab number p are =
    (both_bytes (codes ".rela") (section_name text p) (tested_bytes (codes ".rela") refl) (found_bytes text p.at p.len are), relas_are (map (relocation numbers) p.entries))

kept_or_not : (kept : Bool) (n : Named) (named : List Named) → IsNamedByBytes n → All IsNamedByBytes named → All IsNamedByBytes (if kept then n ∷ named else named)
kept_or_not true n named first rest = All-cons IsNamedByBytes n named first rest
kept_or_not false n named first rest = rest

tables_are : (text numbers : List ℕ) (symtab number : ℕ) (sections : List AsmSection) → AreBytes text → All IsNamedByBytes (named_relas text numbers symtab number sections)
tables_are text numbers symtab number [] are = All-nil IsNamedByBytes
tables_are text numbers symtab number (p ∷ sections) are =
    kept_or_not (has_entries p) (named_rela text numbers symtab number p) (named_relas text numbers symtab (number + 1) sections)
    (rela_is text numbers symtab number p are) (tables_are text numbers symtab (number + 1) sections are)

symtab_is : (text : List ℕ) (sections : List AsmSection) (symbols : List Symbol) → IsNamedByBytes (named_symtab text sections symbols)
unfolding named_symtab table_section
symtab_is text sections symbols = (tested_bytes (codes ".symtab") refl, table_are text (length sections) symbols)

strtab_is : (text : List ℕ) (symbols : List Symbol) → AreBytes text → IsNamedByBytes (named_strtab text symbols)
unfolding named_strtab table_section
strtab_is text symbols are = (tested_bytes (codes ".strtab") refl, strings_are text symbols are)

pub file_of_bytes : (text : List ℕ) (sections : List AsmSection) (symbols : List Symbol) → AreBytes text → All IsMadeOfBytes sections → IsOfBytes (file_of text sections symbols)
unfolding file_of named_sections
file_of_bytes text sections symbols are made =
    let P = IsNamedByBytes in
    let first = map (named_section text) sections in
    let relas = named_relas text (symbol_numbers (length sections) symbols) (symtab_of sections) 1 sections in
    let symtab = named_symtab text sections symbols in
    let strtab = named_strtab text symbols in
    all_held (first ++ (relas ++ (symtab ∷ strtab ∷ [])))
    (All-append P first (relas ++ (symtab ∷ strtab ∷ [])) (sections_are text sections are made)
    (All-append P relas (symtab ∷ strtab ∷ []) (tables_are text (symbol_numbers (length sections) symbols) (symtab_of sections) 1 sections are)
    (All-cons P symtab (strtab ∷ []) (symtab_is text sections symbols)
    (All-cons P strtab [] (strtab_is text symbols are) (All-nil P)))))
