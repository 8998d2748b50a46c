-- The sections of a file and their names, as they grow.
use Rattle.std.specs.Prelude.{ℕ, List, [], ◌∷◌, ◌++◌, length, codes}
use Rattle.c6x_elf.specs.Abi.{SHT_STRTAB}
use Rattle.c6x_elf.specs.declared.section.Section.{Section}
use Rattle.c6x_asm_object.specs.Built.{Built, built}
use Rattle.c6x_asm_object.specs.Headers.{null_section, table_section}
use Rattle.c6x_asm_object.specs.Filing.{Named, names_of, sections_from}

-- the null section
unfoldable pub first_built : Built
first_built = built (null_section ∷ []) (0 ∷ [])

abbrev pub named : List ℕ → List ℕ → Section → Named
named front name section = record { name = front ++ name; section = section }

-- more sections, whose names go behind the others
unfoldable pub added : List Named → Built → Built
added more b = built (b.sections ++ sections_from (length b.names) more) (b.names ++ names_of more)

-- the names of the sections, which are the last section's bytes
unfoldable pub with_names : Built → List Section
with_names b =
    b.sections
    ++ (record (table_section SHT_STRTAB 0 0 1 0 (b.names ++ (codes ".shstrtab" ++ (0 ∷ [])))) { name = length b.names }) ∷ []
