-- The sections with memory of all objects, in object and section order.
use Rattle.std.specs.Prelude.{ℕ, List, [], ◌∷◌, if◌then◌else◌}
use Rattle.std.specs.List.{enumerate_from, flat_map}
use Rattle.c6x_elf.specs.Parts.{has_bytes}
use Rattle.c6x_elf.specs.declared.file.File.{File}
use Rattle.c6x_elf.specs.declared.section.Section.{Section}
use Rattle.c6x_symbols.specs.Sections.{is_allocated, zone_of}
use Rattle.c6x_symbols.specs.declared.part.Part.{Part}

-- The part that section number `number` of an object is.
unfoldable pub part_of : ℕ → File → ℕ → Section → Part
part_of object file number section = record {
  object = object;
  section = number;
  zone = zone_of file.names file.sections section;
  filled = has_bytes section.kind;
  size = section.size;
  align = section.align;
}

unfoldable pub part_at : ℕ → File → ℕ × Section → List Part
part_at object file x = if is_allocated x.1 then part_of object file x.0 x.1 ∷ [] else []

unfoldable pub file_parts : ℕ × File → List Part
file_parts x = flat_map (part_at x.0 x.1) (enumerate_from 0 x.1.sections)

unfoldable pub parts_of : List File → List Part
parts_of files = flat_map file_parts (enumerate_from 0 files)
