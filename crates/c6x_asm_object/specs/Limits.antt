-- The limits of an object.
use Rattle.std.specs.Prelude.{ℕ, nat_lt, Bool, ◌||◌, List, length}
use Rattle.std.specs.List.{list_any}
use Rattle.c6x_base.specs.declared.limits.TheConstants.{MOST_FILE_BYTES, MOST_SECTIONS}
use Rattle.c6x_elf.specs.declared.file.File.{File}
use Rattle.c6x_elf.specs.declared.section.Section.{Section}
use Rattle.c6x_elf.specs.Writing.{written_size}
use Rattle.c6x_asm_object.specs.declared.asm_section.AsmSection.{AsmSection}
use Rattle.c6x_asm_object.specs.declared.symbol.Symbol.{Symbol}
use Rattle.c6x_asm_object.specs.Filing.{file_of}

-- a section takes more than 1,048,576 bytes in memory or in the file
unfoldable pub is_long : Section → Bool
is_long s = nat_lt 1048576 s.size || nat_lt 1048576 (length s.bytes)

-- a section is too long, there are more than 4,096, or the written form has more than 4,194,304 bytes
unfoldable pub passes_limit : File → Bool
passes_limit file = nat_lt MOST_SECTIONS (length file.sections) || (list_any is_long file.sections || nat_lt MOST_FILE_BYTES (written_size file))

unfoldable pub is_large : List ℕ → List AsmSection → List Symbol → Bool
is_large text sections symbols = passes_limit (file_of text sections symbols)
