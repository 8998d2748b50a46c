use Rattle.std.specs.Prelude.{ℕ, ◌+◌, ◌-◌, ◌*◌, ◌≤◌, ◌==◌, ◌&&◌, max, Bool, true, false, List, [], ◌∷◌, ◌++◌, Option, None, Some, length, nat_le, nat_lt, take, drop, if◌then◌else◌}
use Rattle.std.specs.Int.{is_power_of_two}
use Rattle.std.specs.Str.{bytes_eq}
use Rattle.c6x_base.specs.declared.limits.TheConstants.{MOST_FILE_BYTES}
use Rattle.c6x_spec.specs.Places.{least_place}
use Rattle.c6x_spec.specs.Rounded.{rounded}
use Rattle.c6x_elf_headers.specs.declared.abi.TheConstants.{PT_LOAD}
use Rattle.c6x_elf_headers.specs.declared.file_head.FileHead.{FileHead}
use Rattle.c6x_elf_headers.specs.declared.section_head.SectionHead.{SectionHead}
use Rattle.c6x_elf_headers.specs.declared.segment_head.SegmentHead.{SegmentHead}
use Rattle.c6x_elf_headers.specs.HeadRows.{FileFits, SectionsFit, SegmentsFit, file_row, section_rows, segment_rows}
use Rattle.c6x_elf_headers.specs.Laid.{Part, laid}
use Rattle.c6x_elf.specs.Parts.{has_bytes}
use Rattle.c6x_elf.specs.declared.file.File.{File}
use Rattle.c6x_elf.specs.declared.section.Section.{Section}
use Rattle.c6x_elf.specs.declared.segment.Segment.{Segment}
use Rattle.c6x_elf.specs.declared.spot.Spot.{Spot}

-- What a segment's offset and address are congruent by (gABI chapter 5, "Program Header", `p_align`): at least
-- 4, and an alignment that is no power of two counts as 4.
unfoldable pub step_of : ℕ → ℕ
step_of align = if is_power_of_two align then max align 4 else 4

-- A segment has bytes, and they stand at their addresses among the bytes of another one that is loaded.
unfoldable pub is_inside : Segment → Segment → Bool
is_inside segment other =
    other.kind == PT_LOAD && nat_lt 0 (length segment.bytes) && nat_le other.vaddr segment.vaddr
    && nat_le (segment.vaddr + length segment.bytes) (other.vaddr + length other.bytes)
    && bytes_eq (take (length segment.bytes) (drop (segment.vaddr - other.vaddr) other.bytes)) segment.bytes

-- Where the first of the earlier segments has the segment's bytes already, if one does.
abbrev pub home_of : Segment → List Segment → List Spot → Option ℕ
home_of segment [] spots = None
home_of segment (other ∷ others) [] = None
home_of segment (other ∷ others) (spot ∷ spots) =
    if is_inside segment other then Some (spot.at + (segment.vaddr - other.vaddr)) else home_of segment others spots

abbrev pub spot_from : Option ℕ → ℕ → Segment → Spot
spot_from (Some at) from segment = record { at = at; fresh = false }
spot_from None from segment = record { at = least_place from segment.vaddr (step_of segment.align); fresh = true }

-- A segment's spot in the file: bytes that an earlier one has already are not written again.
unfoldable pub spot_of : List Segment → List Spot → ℕ → Segment → Spot
spot_of earlier had from segment = spot_from (home_of segment earlier had) from segment

-- The place behind what has been written, after the segment at its spot.
unfoldable pub end_of : Spot → ℕ → Segment → ℕ
end_of spot from segment = if spot.fresh then spot.at + length segment.bytes else from

-- The spots of segments in order, where those in front of them have these spots, and the place behind them.
abbrev pub spots : List Segment → List Spot → ℕ → List Segment → List Spot
spots earlier had from [] = []
spots earlier had from (segment ∷ segments) =
    let spot = spot_of earlier had from segment in
    spot ∷ spots (earlier ++ segment ∷ []) (had ++ spot ∷ []) (end_of spot from segment) segments

abbrev pub spots_end : List Segment → List Spot → ℕ → List Segment → ℕ
spots_end earlier had from [] = from
spots_end earlier had from (segment ∷ segments) =
    let spot = spot_of earlier had from segment in
    spots_end (earlier ++ segment ∷ []) (had ++ spot ∷ []) (end_of spot from segment) segments

-- A section's bytes begin at the next multiple of its alignment; a section without bytes has offset 0.
unfoldable pub offset_of : ℕ → Section → ℕ
offset_of from section = if has_bytes section.kind then rounded from (max section.align 1) else 0

unfoldable pub offset_end : ℕ → Section → ℕ
offset_end from section =
    if has_bytes section.kind then rounded from (max section.align 1) + length section.bytes else from

abbrev pub offsets : ℕ → List Section → List ℕ
offsets from [] = []
offsets from (section ∷ sections) = offset_of from section ∷ offsets (offset_end from section) sections

abbrev pub offsets_end : ℕ → List Section → ℕ
offsets_end from [] = from
offsets_end from (section ∷ sections) = offsets_end (offset_end from section) sections

-- The program header of a segment, and the section header of a section.
unfoldable pub segment_head_at : ℕ → Segment → Spot → SegmentHead
segment_head_at at segment spot = record {
  at = at;
  kind = segment.kind;
  offset = spot.at;
  vaddr = segment.vaddr;
  filesz = length segment.bytes;
  memsz = segment.memsz;
  flags = segment.flags;
  align = segment.align;
}

unfoldable pub section_head_at : ℕ → Section → ℕ → SectionHead
section_head_at at section offset = record {
  at = at;
  name = section.name;
  kind = section.kind;
  flags = section.flags;
  addr = section.addr;
  offset = offset;
  size = section.size;
  link = section.link;
  info = section.info;
  align = section.align;
  entsize = section.entsize;
}

-- Headers one behind the other from a place on, header k being the first.
abbrev pub segment_heads_at : ℕ → ℕ → List Segment → List Spot → List SegmentHead
segment_heads_at at k [] spots = []
segment_heads_at at k (segment ∷ segments) [] = []
segment_heads_at at k (segment ∷ segments) (spot ∷ spots) =
    segment_head_at (at + 32 * k) segment spot ∷ segment_heads_at at (k + 1) segments spots

abbrev pub section_heads_at : ℕ → ℕ → List Section → List ℕ → List SectionHead
section_heads_at at k [] offsets = []
section_heads_at at k (section ∷ sections) [] = []
section_heads_at at k (section ∷ sections) (offset ∷ offsets) =
    section_head_at (at + 40 * k) section offset ∷ section_heads_at at (k + 1) sections offsets

-- The parts that are written: segments with spots of their own, and sections that have bytes.
unfoldable pub with_segment : Segment → Spot → List Part → List Part
with_segment segment spot parts =
    if spot.fresh then record { at = spot.at; bytes = segment.bytes } ∷ parts else parts

abbrev pub segment_parts : List Segment → List Spot → List Part
segment_parts [] spots = []
segment_parts (segment ∷ segments) [] = []
segment_parts (segment ∷ segments) (spot ∷ spots) = with_segment segment spot (segment_parts segments spots)

unfoldable pub with_section : Section → ℕ → List Part → List Part
with_section section offset parts =
    if has_bytes section.kind then record { at = offset; bytes = section.bytes } ∷ parts else parts

abbrev pub section_parts : List Section → List ℕ → List Part
section_parts [] offsets = []
section_parts (section ∷ sections) [] = []
section_parts (section ∷ sections) (offset ∷ offsets) = with_section section offset (section_parts sections offsets)

-- The places of a written file: the program headers follow the file header, and behind them come the
-- segments' bytes, the sections' bytes and, at the next multiple of 4, the section headers.
abbrev pub start_of : File → ℕ
start_of file = 52 + 32 * length file.segments

abbrev pub spots_of : File → List Spot
spots_of file = spots [] [] (start_of file) file.segments

abbrev pub segments_end : File → ℕ
segments_end file = spots_end [] [] (start_of file) file.segments

abbrev pub offsets_of : File → List ℕ
offsets_of file = offsets (segments_end file) file.sections

abbrev pub sections_end : File → ℕ
sections_end file = offsets_end (segments_end file) file.sections

-- Where the section headers begin, and 0 where there are none.
unfoldable pub sections_at : File → ℕ
sections_at file = if length file.sections == 0 then 0 else rounded (sections_end file) 4

-- The number of bytes of the written form.
unfoldable pub written_size : File → ℕ
written_size file =
    if length file.sections == 0 then sections_end file
    else rounded (sections_end file) 4 + 40 * length file.sections

unfoldable pub head_of : File → FileHead
head_of file = record {
  kind = file.kind;
  entry = file.entry;
  segments_at = if length file.segments == 0 then 0 else 52;
  sections_at = sections_at file;
  flags = file.flags;
  segment_count = length file.segments;
  section_count = length file.sections;
  names = file.names;
}

-- The file header with the program headers.
unfoldable pub front_part : Bool → File → Part
front_part big file = record {
  at = 0;
  bytes = file_row big (head_of file) ++ segment_rows big (segment_heads_at 52 0 file.segments (spots_of file));
}

-- The section headers.
unfoldable pub table_parts : Bool → File → List Part
table_parts big file =
    if length file.sections == 0 then []
    else record {
      at = sections_at file;
      bytes = section_rows big (section_heads_at (sections_at file) 0 file.sections (offsets_of file));
    } ∷ []

-- The written form of a file in a byte order: its parts in order, with zeros in the gaps.
unfoldable pub written : Bool → File → List ℕ
written big file =
    laid 0 (front_part big file
    ∷ (segment_parts file.segments (spots_of file) ++ (section_parts file.sections (offsets_of file) ++ table_parts big file)))

-- Each segment's spot and bytes lie in the first 4,194,304 bytes, the most that a file has.
abbrev pub AreWithin : List Segment → List Spot → Type 0
AreWithin [] spots = Unit {0}
AreWithin (segment ∷ segments) [] = Unit {0}
AreWithin (segment ∷ segments) (spot ∷ spots) =
    (spot.at + length segment.bytes ≤ MOST_FILE_BYTES) × AreWithin segments spots

-- Each number of the written headers has its size.
pub record FileSizes (file : File) : Type 0 where
  pub head : FileFits (head_of file)
  pub segments : SegmentsFit (segment_heads_at 52 0 file.segments (spots_of file))
  pub sections : SectionsFit (section_heads_at (sections_at file) 0 file.sections (offsets_of file))
