-- A file of segments alone, of bounded length.
use Rattle.std.specs.Prelude.{◌≡◌, ℕ, ◌+◌, ◌≤◌, All, IsTrue, [], length, sum_by}
use Rattle.c6x_base.specs.declared.limits.TheConstants.{MOST_FILE_BYTES, MOST_SEGMENTS}
use Rattle.c6x_elf_headers.specs.Header.{is_file_type}
use Rattle.c6x_elf.specs.Form.{IsHeld}
use Rattle.c6x_elf.specs.Writing.{start_of, step_of}
use Rattle.c6x_elf.specs.declared.file.File.{File}
use Rattle.c6x_elf.specs.declared.segment.Segment.{Segment}

-- The most that a segment takes of a written file behind the headers: a gap below its alignment, and its bytes.
abbrev pub segment_room : Segment → ℕ
segment_room segment = step_of segment.align + length segment.bytes

pub record HasSegmentsAlone (file : File) : Type 0 where
  pub kind : IsTrue (is_file_type file.kind)
  pub none : file.sections ≡ []
  pub unnamed : file.names ≡ 0
  pub few : length file.segments ≤ MOST_SEGMENTS
  pub loaded : All IsHeld file.segments
  pub small : start_of file + sum_by segment_room file.segments ≤ MOST_FILE_BYTES
