-- What a linker takes for an object.
use Rattle.std.specs.Prelude.{◌≡◌, ◌≤◌, Bool, length}
use Rattle.c6x_base.specs.declared.limits.TheConstants.{MOST_SECTIONS}
use Rattle.c6x_elf.specs.Abi.{ET_REL}
use Rattle.c6x_elf.specs.Form.{HasReadForm}
use Rattle.c6x_elf.specs.declared.file.File.{File}

-- An object: a relocatable file in read form (gABI chapter 4, "ELF Header").
pub record IsObject (big : Bool) (file : File) : Type 0 where
  pub kind : file.kind ≡ ET_REL
  pub form : HasReadForm big file

-- A file with no more sections than a file may have.
pub record HasFewSections (file : File) : Type 0 where
  pub sections : length file.sections ≤ MOST_SECTIONS
