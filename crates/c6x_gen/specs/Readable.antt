-- What is assembled can be linked.
use Rattle.std.specs.Prelude.{◌≡◌, ℕ, false, List, Ok}
use Rattle.c6x_elf.specs.declared.file.File.{File}
use Rattle.c6x_asm.specs.Objects.{assembled}
use Rattle.c6x_symbols.specs.Objects.{IsObject}

-- What is assembled of a text is an object as a linker takes it: relocatable, and in the form of a file that was read.
abbrev pub ObjectsAreRead : Type 0
ObjectsAreRead = (text : List ℕ) (object : File) → assembled text ≡ Ok object → IsObject false object
