-- What a linker is given: objects of bytes, and names that a string table can have.
use Rattle.std.specs.Prelude.{All, false}
use Rattle.c6x_elf.specs.Names.{IsName}
use Rattle.c6x_elf.specs.declared.file.File.{File}
use Rattle.c6x_elf.specs.declared.section.Section.{Section}
use Rattle.c6x_reloc.specs.FieldBits.{AreBytes}
use Rattle.c6x_symbols.specs.Objects.{IsObject}
use Rattle.c6x_plan.specs.declared.link_plan.LinkPlan.{LinkPlan}
use Rattle.std.specs.Prelude.{List}

-- The numbers that a section holds are bytes.
abbrev pub HasBytes : Section → Type 0
HasBytes section = AreBytes section.bytes

abbrev pub IsOfBytes : File → Type 0
IsOfBytes file = All HasBytes file.sections

pub record AreLinkable (objects : List File) (plan : LinkPlan) : Type 0 where
  pub form : All (IsObject false) objects
  pub bytes : All IsOfBytes objects
  pub needed : All IsName plan.needed
