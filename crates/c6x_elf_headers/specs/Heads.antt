use Rattle.std.specs.Prelude.{ℕ, ◌+◌, ◌*◌, ◌<◌, ◌≤◌, ◌==◌, Bool, List, length, map, slice_index, slice_index_or}
use Rattle.std.specs.List.{range_with_len}
use Rattle.c6x_base.specs.declared.limits.TheConstants.{MOST_FILE_BYTES}
use Rattle.c6x_spec.specs.Numbers.{half_at, word_at}
use Rattle.c6x_elf_headers.specs.declared.abi.TheConstants.{ELFDATA2MSB}
use Rattle.c6x_elf_headers.specs.declared.file_head.FileHead.{FileHead}
use Rattle.c6x_elf_headers.specs.declared.section_head.SectionHead.{SectionHead}
use Rattle.c6x_elf_headers.specs.declared.segment_head.SegmentHead.{SegmentHead}

-- The encoding is big-endian (gABI chapter 4, "ELF Identification", `e_ident[EI_DATA]`).
unfoldable pub is_big : List ℕ → Bool
is_big bytes = slice_index bytes 5 == ELFDATA2MSB

-- The fields of the file header (gABI chapter 4, "ELF Header").
unfoldable pub file_head : Bool → List ℕ → FileHead
file_head big bytes = record {
  kind = half_at big bytes 16;
  entry = word_at big bytes 24;
  segments_at = word_at big bytes 28;
  sections_at = word_at big bytes 32;
  flags = word_at big bytes 36;
  segment_count = half_at big bytes 44;
  section_count = half_at big bytes 48;
  names = half_at big bytes 50;
}

-- The program header at a place (gABI chapter 5, "Program Header").
unfoldable pub segment_head : Bool → List ℕ → ℕ → SegmentHead
segment_head big bytes at = record {
  at = at;
  kind = word_at big bytes at;
  offset = word_at big bytes (at + 4);
  vaddr = word_at big bytes (at + 8);
  filesz = word_at big bytes (at + 16);
  memsz = word_at big bytes (at + 20);
  flags = word_at big bytes (at + 24);
  align = word_at big bytes (at + 28);
}

-- The section header at a place (gABI chapter 4, "Section Header").
unfoldable pub section_head : Bool → List ℕ → ℕ → SectionHead
section_head big bytes at = record {
  at = at;
  name = word_at big bytes at;
  kind = word_at big bytes (at + 4);
  flags = word_at big bytes (at + 8);
  addr = word_at big bytes (at + 12);
  offset = word_at big bytes (at + 16);
  size = word_at big bytes (at + 20);
  link = word_at big bytes (at + 24);
  info = word_at big bytes (at + 28);
  align = word_at big bytes (at + 32);
  entsize = word_at big bytes (at + 36);
}

-- The program headers, of 32 bytes each, from a place on.
unfoldable pub segment_heads : Bool → List ℕ → ℕ → ℕ → List SegmentHead
segment_heads big bytes at count = map (λ k. segment_head big bytes (at + 32 * k)) (range_with_len 0 count)

-- The section headers, of 40 bytes each, from a place on.
unfoldable pub section_heads : Bool → List ℕ → ℕ → ℕ → List SectionHead
section_heads big bytes at count = map (λ k. section_head big bytes (at + 40 * k)) (range_with_len 0 count)

-- Each header lies within the first 4,194,304 bytes, the most that a file has.
pub record AreSegmentHeadsNear (heads : List SegmentHead) : Type 0 where
  pub each : (k : ℕ) (d : SegmentHead) → k < length heads → (slice_index_or heads k d).at + 32 ≤ MOST_FILE_BYTES

pub record AreSectionHeadsNear (heads : List SectionHead) : Type 0 where
  pub each : (k : ℕ) (d : SectionHead) → k < length heads → (slice_index_or heads k d).at + 40 ≤ MOST_FILE_BYTES
