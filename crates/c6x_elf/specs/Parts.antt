use Rattle.std.specs.Prelude.{ℕ, ◌+◌, ◌*◌, ◌%◌, ◌==◌, ◌&&◌, ◌||◌, not, Bool, List, Option, length, nat_le, nat_lt, take, drop, if◌then◌else◌}
use Rattle.c6x_base.specs.declared.limits.TheConstants.{MOST_HELD_BYTES}
use Rattle.c6x_elf_headers.specs.declared.abi.TheConstants.{SHT_DYNSYM, SHT_NOBITS, SHT_NULL, SHT_RELA, SHT_SYMTAB}
use Rattle.c6x_elf_headers.specs.Rules.{Refusal, ◌<|>◌, must}
use Rattle.c6x_elf_headers.specs.declared.elf_rule.ElfRule.TheVariants.{Short, EntrySize, Index, Large}
use Rattle.c6x_elf_headers.specs.declared.section_head.SectionHead.{SectionHead}
use Rattle.c6x_elf_headers.specs.declared.segment_head.SegmentHead.{SegmentHead}
use Rattle.c6x_elf.specs.declared.section.Section.{Section}
use Rattle.c6x_elf.specs.declared.segment.Segment.{Segment}

-- The size bytes from a place on lie in the file; no bytes always do.
unfoldable pub is_within : List ℕ → ℕ → ℕ → Bool
is_within bytes at size = size == 0 || nat_le (at + size) (length bytes)

-- The count headers of this size from a place on lie in the file.
unfoldable pub are_within : List ℕ → ℕ → ℕ → ℕ → Bool
are_within bytes at size count = count == 0 || nat_le (at + size * count) (length bytes)

-- The bytes of a part lie in the file, and with those of the parts in front of it are at most the most that a file may hold.
unfoldable pub part_refusal : List ℕ → ℕ → ℕ → ℕ → ℕ → Option Refusal
part_refusal bytes before at size place =
    must (is_within bytes at size) Short place <|> must (nat_le (before + size) MOST_HELD_BYTES) Large place

-- The segment of a program header: the header's values, and its bytes in the file (gABI chapter 5, "Program
-- Header").
unfoldable pub segment_of : List ℕ → SegmentHead → Segment
segment_of bytes head = record {
  kind = head.kind;
  vaddr = head.vaddr;
  memsz = head.memsz;
  flags = head.flags;
  align = head.align;
  bytes = take head.filesz (drop head.offset bytes);
}

-- How many bytes of the file are a segment's.
abbrev pub segment_size : SegmentHead → ℕ
segment_size head = head.filesz

-- A segment's bytes; the place is the header's offset field.
unfoldable pub segment_refusal : List ℕ → ℕ → SegmentHead → Option Refusal
segment_refusal bytes before head = part_refusal bytes before head.offset head.filesz (head.at + 4)

-- A section has bytes in the file unless its type is NULL or NOBITS (gABI chapter 4, "Section Header").
unfoldable pub has_bytes : ℕ → Bool
has_bytes kind = not (kind == SHT_NULL) && not (kind == SHT_NOBITS)

-- A symbol table: SYMTAB or DYNSYM.
unfoldable pub is_symbol_table : ℕ → Bool
is_symbol_table kind = kind == SHT_SYMTAB || kind == SHT_DYNSYM

-- A relocation table with addends: RELA.
unfoldable pub is_relocation_table : ℕ → Bool
is_relocation_table kind = kind == SHT_RELA

-- How many bytes of the file are a section's.
unfoldable pub section_size : SectionHead → ℕ
section_size head = if has_bytes head.kind then head.size else 0

-- The section of a section header: the header's values, and its bytes in the file.
unfoldable pub section_of : List ℕ → SectionHead → Section
section_of bytes head = record {
  name = head.name;
  kind = head.kind;
  flags = head.flags;
  addr = head.addr;
  size = head.size;
  link = head.link;
  info = head.info;
  align = head.align;
  entsize = head.entsize;
  bytes = take (section_size head) (drop head.offset bytes);
}

-- A table is linked to a section, of which there are count.
unfoldable pub is_linked : ℕ → ℕ → ℕ → Bool
is_linked count kind link = not (is_symbol_table kind || is_relocation_table kind) || nat_lt link count

-- A relocation table changes a section.
unfoldable pub has_target : ℕ → ℕ → ℕ → Bool
has_target count kind info = not (is_relocation_table kind) || nat_lt info count

-- A symbol has 16 bytes and a relocation 12, and a table has whole entries.
unfoldable pub has_entries : ℕ → ℕ → ℕ → Bool
has_entries kind size entsize =
    if is_symbol_table kind then entsize == 16 && size % 16 == 0
    else not (is_relocation_table kind) || (entsize == 12 && size % 12 == 0)

-- The fields of a section header, of count.
unfoldable pub fields_refusal : ℕ → SectionHead → Option Refusal
fields_refusal count head =
    must (is_linked count head.kind head.link) Index (head.at + 24)
    <|> must (has_target count head.kind head.info) Index (head.at + 28)
    <|> must (has_entries head.kind head.size head.entsize) EntrySize (head.at + 36)

-- A section header's fields, and then its bytes; their place is its offset field.
unfoldable pub section_refusal : List ℕ → ℕ → ℕ → SectionHead → Option Refusal
section_refusal bytes count before head =
    fields_refusal count head <|> part_refusal bytes before head.offset (section_size head) (head.at + 16)
