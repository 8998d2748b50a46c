-- The second reading: the text and the data range among the load segments (gABI chapter 5, "Program Header"). That there
-- is just one of each, and the greatest size, are this project's own.
use Rattle.std.specs.Prelude.{◌+◌, ◌^◌, ◌<◌, ◌≤◌, ◌==◌, ◌&&◌, ◌||◌, not, nat_le, nat_lt, Bool, IsTrue, List, [], ◌∷◌, length, Option, None, Some, Result, if◌then◌else◌}
use Rattle.std.specs.List.{count_by, list_all}
use Rattle.c6x_spec.specs.Fields.{bits_of}
use Rattle.c6x_base.specs.declared.limits.TheConstants.{MOST_HELD_BYTES}
use Rattle.c6x_elf.specs.Abi.{PT_LOAD}
use Rattle.c6x_elf.specs.declared.segment.Segment.{Segment}
use Rattle.c6x_module.specs.declared.module_rule.ModuleRule.TheVariants.{Segments}
use Rattle.c6x_module.specs.Refusals.{Refusal, found}

abbrev pub is_load : Segment → Bool
is_load s = s.kind == PT_LOAD

-- A load segment may be run and not written (bits 0 and 1 of its flags), or written and not run.
abbrev pub is_text : Segment → Bool
is_text s = is_load s && bits_of s.flags 0 1 == 1 && bits_of s.flags 1 1 == 0

abbrev pub is_range : Segment → Bool
is_range s = is_load s && bits_of s.flags 0 1 == 0 && bits_of s.flags 1 1 == 1

-- A segment has room for its bytes, is not too large, and ends below 2^32.
unfoldable pub has_room : Segment → Bool
has_room s = nat_le (length s.bytes) s.memsz && nat_le s.memsz MOST_HELD_BYTES && nat_lt (s.vaddr + s.memsz) (2 ^ 32)

-- A load segment has room, and every other than the two has no memory.
unfoldable pub fits_memory : Segment → Bool
fits_memory s = not (is_load s) || ((is_text s || is_range s || s.memsz == 0) && has_room s)

-- Two segments share no address.
unfoldable pub share_none : Segment → Segment → Bool
share_none a b =
    a.memsz == 0 || b.memsz == 0 || nat_le (a.vaddr + a.memsz) b.vaddr || nat_le (b.vaddr + b.memsz) a.vaddr

abbrev pub first_where : (Segment → Bool) → List Segment → Option Segment
first_where test [] = None
first_where test (s ∷ ss) = if test s then Some s else first_where test ss

abbrev pub both_apart : Option Segment → Option Segment → Option (Segment × Segment)
both_apart None range = None
both_apart (Some text) None = None
both_apart (Some text) (Some range) = if share_none text range then Some (text, range) else None

-- The text and the data range.
unfoldable pub ranges_of : List Segment → Option (Segment × Segment)
ranges_of segments =
    if count_by is_text segments == 1 && count_by is_range segments == 1 && list_all fits_memory segments
    then both_apart (first_where is_text segments) (first_where is_range segments)
    else None

-- The same, or L2 with the number of load segments.
unfoldable pub ranges_in : List Segment → Result (Segment × Segment) Refusal
ranges_in segments = found (ranges_of segments) Segments (count_by is_load segments)

-- What a segment keeps that has room, as facts.
pub record HasRoom (s : Segment) : Type 0 where
  pub filled : length s.bytes ≤ s.memsz
  pub size : s.memsz ≤ MOST_HELD_BYTES
  pub range : s.vaddr + s.memsz < 2 ^ 32

-- What the two keep, as facts.
pub record AreRanges (text range : Segment) : Type 0 where
  pub runs : IsTrue (is_text text)
  pub writes : IsTrue (is_range range)
  pub text_room : HasRoom text
  pub memory_room : HasRoom range
  pub apart : IsTrue (share_none text range)
