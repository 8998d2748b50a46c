use Rattle.std.specs.Prelude.{◌≡◌, ℕ, ◌+◌, ◌≤◌, Bool, IsTrue, None, All, length, map, sum_by}
use Rattle.c6x_base.specs.declared.limits.TheConstants.{MOST_FILE_BYTES, MOST_HELD_BYTES, MOST_SECTIONS, MOST_SEGMENTS}
use Rattle.c6x_elf_headers.specs.declared.abi.TheConstants.{PT_LOAD}
use Rattle.c6x_elf_headers.specs.Header.{is_file_type, is_none_or_below}
use Rattle.c6x_elf_headers.specs.Rules.{along_both, first_along}
use Rattle.c6x_elf_headers.specs.declared.section_head.SectionHead.{SectionHead}
use Rattle.c6x_elf.specs.Entries.{named_refusal}
use Rattle.c6x_elf.specs.Parts.{fields_refusal, section_size}
use Rattle.c6x_elf.specs.Writing.{section_head_at, written_size}
use Rattle.c6x_elf.specs.declared.file.File.{File}
use Rattle.c6x_elf.specs.declared.section.Section.{Section}
use Rattle.c6x_elf.specs.declared.segment.Segment.{Segment}

-- A section's own header, with no place in a file.
abbrev pub own_head : Section → SectionHead
own_head section = section_head_at 0 section 0

-- A section has as many bytes as its size says; for the types NULL and NOBITS it has none.
pub record IsSized (section : Section) : Type 0 where
  pub size : length section.bytes ≡ section_size (own_head section)

abbrev pub segment_length : Segment → ℕ
segment_length segment = length segment.bytes

abbrev pub section_length : Section → ℕ
section_length section = length section.bytes

-- A file has read form: its counts and its bytes together are within the limits, each section has its size, and
-- no rule on the file type, on tables and their links, on names or on entries is broken by its own values. The byte
-- order is that of its entries.
pub record HasReadForm (big : Bool) (file : File) : Type 0 where
  pub segments : length file.segments ≤ MOST_SEGMENTS
  pub sections : length file.sections ≤ MOST_SECTIONS
  pub held : sum_by segment_length file.segments + sum_by section_length file.sections ≤ MOST_HELD_BYTES
  pub sized : All IsSized file.sections
  pub kind : IsTrue (is_file_type file.kind)
  pub names : IsTrue (is_none_or_below file.names (length file.sections))
  pub fields : first_along (fields_refusal (length file.sections)) (map own_head file.sections) ≡ None
  pub entries :
      along_both (named_refusal big file.names file.sections) (map own_head file.sections) file.sections ≡ None

-- A loaded segment has no more bytes than memory.
pub record IsHeld (segment : Segment) : Type 0 where
  pub held : segment.kind ≡ PT_LOAD → length segment.bytes ≤ segment.memsz

-- A file is tidy: it has read form, its loaded segments have memory for their bytes, and its written form is
-- no longer than a file may be.
pub record IsTidy (big : Bool) (file : File) : Type 0 where
  pub form : HasReadForm big file
  pub loaded : All IsHeld file.segments
  pub small : written_size file ≤ MOST_FILE_BYTES
