-- The sections behind each of the two lines, and the object of them.
use Rattle.std.proofs.Common.{◌≡◌, ℕ, ◌+◌, false, List, [], ◌∷◌, Some, None, codes, refl}
use Rattle.std.specs.Prelude.{slice_get}
use Rattle.std.specs.Int.{to_le_bytes, w32}
use Rattle.c6x_elf.specs.Abi.{SHF_ALLOC, SHF_EXECINSTR, SHT_PROGBITS}
use Rattle.c6x_elf.specs.Entries.{text_of}
use Rattle.c6x_elf.specs.EntryRows.{symbol_row}
use Rattle.c6x_elf.specs.Lists.{section_name}
use Rattle.c6x_elf.specs.Names.{name_of, name_table}
use Rattle.c6x_elf.specs.Parts.{has_bytes}
use Rattle.c6x_elf.specs.Rows.{half_bytes, word_bytes}
use Rattle.c6x_elf.specs.Writing.{offset_end, written_size}
use Rattle.c6x_elf.specs.declared.section.Section.{Section}
use Rattle.c6x_asm_lines.specs.Bytes.{bytes_at}
use Rattle.c6x_asm_object.specs.Sections.{empty_section, with_bytes, with_instruction, with_number, with_parallel}
use Rattle.c6x_asm_object.specs.declared.asm_section.AsmSection.{AsmSection}
use Rattle.c6x_asm_object.specs.declared.section_kind.SectionKind.TheVariants.{Text as Code}
use Rattle.c6x_asm_object.specs.Filing.{file_of, named_sections, named_shstrtab, named_strtab, named_symtab, sections_of}
use Rattle.c6x_asm_object.specs.Headers.{null_section, section_header, table_section}
use Rattle.c6x_asm_object.specs.Limits.{is_large, is_long, passes_limit}
use Rattle.c6x_asm_object.specs.FormSymbols.{entries, names_table, ordered, symbol_numbers, symbol_table}
use Rattle.c6x_asm.specs.Instructions.{instr_word_of}
use Rattle.c6x_dis.specs.Words.{IsOneWord}

-- the section behind the first line
abbrev pub begun_section : AsmSection
begun_section = empty_section 7 5 Code

-- the section behind the second line
abbrev pub word_section : ℕ → AsmSection
word_section word = with_instruction (instr_word_of 2 false word) None begun_section

pub begun_small : (text : List ℕ) → bytes_at text 7 5 ≡ codes ".text" → is_large text (begun_section ∷ []) [] ≡ false
unfolding is_large passes_limit is_long file_of sections_of named_sections named_symtab named_strtab named_shstrtab section_header table_section null_section symbol_table names_table symbol_numbers ordered entries name_table symbol_row half_bytes word_bytes empty_section has_bytes offset_end written_size
begun_small text name = rw name refl

pub word_small : (text : List ℕ) (word : ℕ) → bytes_at text 7 5 ≡ codes ".text" → is_large text (word_section word ∷ []) [] ≡ false
unfolding is_large passes_limit is_long file_of sections_of named_sections named_symtab named_strtab named_shstrtab section_header table_section null_section symbol_table names_table symbol_numbers ordered entries name_table symbol_row half_bytes word_bytes empty_section with_instruction with_number with_bytes with_parallel has_bytes offset_end written_size
word_small text word name = rw name refl

-- the section of code in the file
abbrev code_section : ℕ → Section
code_section word = record {
  name = 1;
  kind = SHT_PROGBITS;
  flags = SHF_ALLOC + SHF_EXECINSTR;
  addr = 0;
  size = 4;
  link = 0;
  info = 0;
  align = 32;
  entsize = 0;
  bytes = to_le_bytes w32 word;
}

first_is : (text : List ℕ) (word : ℕ) → slice_get (file_of text (word_section word ∷ []) []).sections 1 ≡ Some (code_section word)
unfolding file_of sections_of named_sections section_header empty_section with_instruction with_number with_bytes with_parallel
first_is text word = refl

name_is : (text : List ℕ) (word : ℕ) → bytes_at text 7 5 ≡ codes ".text" → section_name (file_of text (word_section word ∷ []) []).names (file_of text (word_section word ∷ []) []).sections (code_section word) ≡ codes ".text"
unfolding section_name text_of name_of file_of sections_of named_sections named_symtab named_strtab named_shstrtab section_header table_section null_section empty_section with_instruction with_number with_bytes with_parallel
name_is text word name = rw name refl

pub one_word : (text : List ℕ) (word : ℕ) → bytes_at text 7 5 ≡ codes ".text" → IsOneWord (file_of text (word_section word ∷ []) []) word
one_word text word name = record {
  section = code_section word;
  first = first_is text word;
  name = name_is text word name;
  kind = refl;
  flags = refl;
  size = refl;
  bytes = refl;
}
