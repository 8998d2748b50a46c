-- The object of a text.
use Rattle.std.specs.Prelude.{◌≡◌, ℕ, List, Result, Ok, Err}
use Rattle.c6x_elf.specs.declared.file.File.{File}
use Rattle.c6x_asm_object.specs.Filing.{file_of}
use Rattle.c6x_asm.specs.States.{State}
use Rattle.c6x_asm.specs.declared.asm_error.AsmError.{AsmError}
use Rattle.c6x_asm.specs.declared.asm_error.AsmError.TheVariants.{Rule, NoMemory}
use Rattle.c6x_asm.specs.declared.broken.Broken.{Broken}
use Rattle.c6x_asm.specs.Reading.{read_of}

abbrev pub object_from : List ℕ → Result State Broken → Result File Broken
object_from text (Ok s) = Ok (file_of text s.sections s.symbols)
object_from text (Err broken) = Err broken

-- the object of a text's sections and symbols, or the first rule that the text breaks
unfoldable pub assembled : List ℕ → Result File Broken
assembled text = object_from text (read_of text)

abbrev pub Answers : Result File AsmError → Result File Broken → Type 0
Answers (Ok file) told = told ≡ Ok file
Answers (Err (Rule rule line)) told = told ≡ Err (record { rule = rule; line = line })
Answers (Err NoMemory) told = Unit {0}
