-- What a section of an object holds (gABI chapter 4, "Section Header"; SPRAB89 on the near sections).
use Rattle.std.specs.Prelude.{ℕ, ◌==◌, ◌&&◌, ◌||◌, not, Bool, false, List, Option, None, Some, bit_and, codes, slice_get, if◌then◌else◌}
use Rattle.c6x_elf.specs.Abi.{SHF_ALLOC, SHF_EXECINSTR, SHF_WRITE}
use Rattle.c6x_elf.specs.Lists.{is_under, section_name}
use Rattle.c6x_elf.specs.declared.section.Section.{Section}
use Rattle.c6x_symbols.specs.declared.zone.Zone.{Zone}
use Rattle.c6x_symbols.specs.declared.zone.Zone.TheVariants.{Far, Near, Text}

-- A bit of `sh_flags` is set.
unfoldable pub has_flag : ℕ → Section → Bool
has_flag flag section = not (bit_and section.flags flag == 0)

-- The section has memory.
abbrev pub is_allocated : Section → Bool
is_allocated section = has_flag SHF_ALLOC section

abbrev pub is_allocated_one : Option Section → Bool
is_allocated_one None = false
is_allocated_one (Some section) = is_allocated section

-- There is a section with this number, and it has memory.
unfoldable pub is_allocated_at : List Section → ℕ → Bool
is_allocated_at sections number = is_allocated_one (slice_get sections number)

-- The names of sections that are in reach of the data page pointer.
unfoldable pub is_near : List ℕ → Bool
is_near name =
    is_under (codes ".neardata") name || is_under (codes ".rodata") name || is_under (codes ".bss") name

-- A section is text where it has instructions, or where it may not be written and is not near.
unfoldable pub is_text : Bool → Section → Bool
is_text near section = has_flag SHF_EXECINSTR section || (not (has_flag SHF_WRITE section) && not near)

unfoldable pub zone_in : Bool → Section → Zone
zone_in near section = if is_text near section then Text else if near then Near else Far

-- The zone of a section with memory, where `names` is the number of the section of the names.
unfoldable pub zone_of : ℕ → List Section → Section → Zone
zone_of names sections section = zone_in (is_near (section_name names sections section)) section
