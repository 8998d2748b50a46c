use Rattle.std.specs.Prelude.{ℕ, Bool, List, Option, map, sum_by}
use Rattle.c6x_elf_headers.specs.Header.{header_refusal}
use Rattle.c6x_elf_headers.specs.Heads.{file_head, is_big, section_heads, segment_heads}
use Rattle.c6x_elf_headers.specs.Rules.{Refusal, ◌<|>◌, along_both, along_parts, must}
use Rattle.c6x_elf_headers.specs.declared.elf_rule.ElfRule.TheVariants.{Short}
use Rattle.c6x_elf_headers.specs.declared.file_head.FileHead.{FileHead}
use Rattle.c6x_elf_headers.specs.declared.section_head.SectionHead.{SectionHead}
use Rattle.c6x_elf_headers.specs.declared.segment_head.SegmentHead.{SegmentHead}
use Rattle.c6x_elf.specs.Entries.{named_refusal}
use Rattle.c6x_elf.specs.Parts.{are_within, section_of, section_refusal, section_size, segment_of, segment_refusal, segment_size}
use Rattle.c6x_elf.specs.declared.file.File.{File}
use Rattle.c6x_elf.specs.declared.section.Section.{Section}

-- The program and the section headers that a file header names.
unfoldable pub segment_heads_of : Bool → List ℕ → FileHead → List SegmentHead
segment_heads_of big bytes head = segment_heads big bytes head.segments_at head.segment_count

unfoldable pub section_heads_of : Bool → List ℕ → FileHead → List SectionHead
section_heads_of big bytes head = section_heads big bytes head.sections_at head.section_count

-- The sections of section headers.
unfoldable pub sections_of : Bool → List ℕ → FileHead → List Section
sections_of big bytes head = map (section_of bytes) (section_heads_of big bytes head)

-- The value that a file's bytes stand for: the values of the headers at their offsets, and the slices of
-- the bytes that they name (gABI chapters 4 and 5).
unfoldable pub file_with : Bool → List ℕ → FileHead → File
file_with big bytes head = record {
  kind = head.kind;
  entry = head.entry;
  flags = head.flags;
  names = head.names;
  segments = map (segment_of bytes) (segment_heads_of big bytes head);
  sections = sections_of big bytes head;
}

unfoldable pub file_of : List ℕ → File
file_of bytes = file_with (is_big bytes) bytes (file_head (is_big bytes) bytes)

-- All program headers lie in the file, and then each with its bytes.
unfoldable pub segments_refusal : Bool → List ℕ → FileHead → Option Refusal
segments_refusal big bytes head =
    must (are_within bytes head.segments_at 32 head.segment_count) Short 28
    <|> along_parts segment_size (segment_refusal bytes) 0 (segment_heads_of big bytes head)

-- The bytes of all segments together.
unfoldable pub segments_total : Bool → List ℕ → FileHead → ℕ
segments_total big bytes head = sum_by segment_size (segment_heads_of big bytes head)

-- All section headers lie in the file, and then each with its fields and its bytes.
unfoldable pub sections_refusal : Bool → List ℕ → FileHead → Option Refusal
sections_refusal big bytes head =
    must (are_within bytes head.sections_at 40 head.section_count) Short 32
    <|> along_parts section_size (section_refusal bytes head.section_count) (segments_total big bytes head)
    (section_heads_of big bytes head)

-- The name and the entries of each section.
unfoldable pub names_refusal : Bool → List ℕ → FileHead → Option Refusal
names_refusal big bytes head =
    along_both (named_refusal big head.names (sections_of big bytes head)) (section_heads_of big bytes head)
    (sections_of big bytes head)

unfoldable pub tables_refusal : Bool → List ℕ → FileHead → Option Refusal
tables_refusal big bytes head = sections_refusal big bytes head <|> names_refusal big bytes head

unfoldable pub parts_refusal : Bool → List ℕ → FileHead → Option Refusal
parts_refusal big bytes head = segments_refusal big bytes head <|> tables_refusal big bytes head

-- The first broken rule of a file's bytes in reading order, with its place.
unfoldable pub refusal_of : List ℕ → Option Refusal
refusal_of bytes = header_refusal bytes <|> parts_refusal (is_big bytes) bytes (file_head (is_big bytes) bytes)
