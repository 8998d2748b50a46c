-- What `dis` lists of a file: of an object the sections that have instructions, each from its address on, of another
-- file the file bytes of the segments that are loaded and may run, each from its address on (gABI chapter 4,
-- "Sections"; chapter 5, "Program Header"). The byte order comes first.
use Rattle.std.specs.Prelude.{ℕ, ◌==◌, ◌&&◌, not, Bool, List, [], bit_and, if◌then◌else◌}
use Rattle.std.specs.List.{flat_map}
use Rattle.c6x_elf.specs.Abi.{ET_REL, PF_X, PT_LOAD, SHF_EXECINSTR}
use Rattle.c6x_elf.specs.declared.file.File.{File}
use Rattle.c6x_elf.specs.declared.section.Section.{Section}
use Rattle.c6x_elf.specs.declared.segment.Segment.{Segment}
use Rattle.c6x_dis.specs.Listed.{listed}

-- A flag is set.
unfoldable pub has_flag : ℕ → ℕ → Bool
has_flag flag flags = not (bit_and flags flag == 0)

unfoldable pub section_code : Bool → Section → List ℕ
section_code big s = if has_flag SHF_EXECINSTR s.flags then listed big s.bytes s.addr else []

unfoldable pub segment_code : Bool → Segment → List ℕ
segment_code big s = if s.kind == PT_LOAD && has_flag PF_X s.flags then listed big s.bytes s.vaddr else []

unfoldable pub code_text : Bool → File → List ℕ
code_text big file =
    if file.kind == ET_REL then flat_map (section_code big) file.sections else flat_map (segment_code big) file.segments
