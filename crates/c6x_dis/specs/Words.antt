-- The text of one instruction, and the object that it is assembled to: this project's own law on its two directions.
use Rattle.std.specs.Prelude.{◌≡◌, ℕ, ◌+◌, ◌-◌, ◌%◌, List, [], ◌∷◌, ◌++◌, codes, slice_get, Some, Ok}
use Rattle.std.specs.Int.{to_le_bytes, w32}
use Rattle.c6x_encoding.specs.declared.instr.Instr.{Instr}
use Rattle.c6x_elf.specs.Abi.{SHF_ALLOC, SHF_EXECINSTR, SHT_PROGBITS}
use Rattle.c6x_elf.specs.Lists.{section_name}
use Rattle.c6x_elf.specs.declared.file.File.{File}
use Rattle.c6x_elf.specs.declared.section.Section.{Section}
use Rattle.c6x_asm.specs.Objects.{assembled}
use Rattle.c6x_dis.specs.Shown.{shown}

-- a line that goes to the section of code
abbrev pub first_line : List ℕ
first_line = codes ".sect \".text\"" ++ (10 ∷ [])

-- that line, and the shown line
abbrev pub text_of : Instr → List ℕ
text_of i = first_line ++ shown i

-- the first section of a file is `.text`, with code that is this word alone
pub record IsOneWord (file : File) (word : ℕ) : Type 0 where
  pub section : Section
  pub first : slice_get file.sections 1 ≡ Some section
  pub name : section_name file.names file.sections section ≡ codes ".text"
  pub kind : section.kind ≡ SHT_PROGBITS
  pub flags : section.flags ≡ SHF_ALLOC + SHF_EXECINSTR
  pub size : section.size ≡ 4
  pub bytes : section.bytes ≡ to_le_bytes w32 word

-- A line behind the first one is assembled to a file whose code is this word, with bit 0 clear: a shown line says nothing of
-- the p bit.
abbrev pub AssemblesTo : List ℕ → ℕ → Type 0
AssemblesTo line word = (file : File) × (assembled (first_line ++ line) ≡ Ok file) × IsOneWord file (word - word % 2)
