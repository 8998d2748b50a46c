-- The section headers of an object (gABI chapter 4, "Sections").
use Rattle.std.specs.Prelude.{ℕ, ◌+◌, List, [], length}
use Rattle.c6x_elf.specs.Abi.{SHF_ALLOC, SHF_EXECINSTR, SHF_WRITE, SHT_NOBITS, SHT_NULL, SHT_PROGBITS}
use Rattle.c6x_elf.specs.declared.section.Section.{Section}
use Rattle.c6x_asm_object.specs.declared.asm_section.AsmSection.{AsmSection}
use Rattle.c6x_asm_object.specs.declared.section_kind.SectionKind.{SectionKind}
use Rattle.c6x_asm_object.specs.declared.section_kind.SectionKind.TheVariants.{Text, Constant, Zero, Data}

-- only a section of zeros has no bytes in the file
abbrev pub section_type : SectionKind → ℕ
section_type Zero = SHT_NOBITS
section_type _ = SHT_PROGBITS

-- all have memory; code runs, and constants are not written
abbrev pub section_flags : SectionKind → ℕ
section_flags Text = SHF_ALLOC + SHF_EXECINSTR
section_flags Constant = SHF_ALLOC
section_flags Zero = SHF_WRITE + SHF_ALLOC
section_flags Data = SHF_WRITE + SHF_ALLOC

-- a section of the text; its name's offset is not said yet
unfoldable pub section_header : AsmSection → Section
section_header p = record { name = 0; kind = section_type p.kind; flags = section_flags p.kind; addr = 0; size = p.size; link = 0; info = 0; align = p.align; entsize = 0; bytes = p.bytes }

-- a table, whose name's offset is not said yet
unfoldable pub table_section : ℕ → ℕ → ℕ → ℕ → ℕ → List ℕ → Section
table_section kind link info align entsize bytes =
    record { name = 0; kind = kind; flags = 0; addr = 0; size = length bytes; link = link; info = info; align = align; entsize = entsize; bytes = bytes }

unfoldable pub null_section : Section
null_section = table_section SHT_NULL 0 0 0 0 []
