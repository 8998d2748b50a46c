-- What ELF files come to that commands read.
use Rattle.std.specs.Prelude.{ℕ, List, Option, None, Some, Result, Ok, Err}
use Rattle.c6x_spec.specs.Files.{Files}
use Rattle.c6x_elf.specs.Reading.{file_of, refusal_of}
use Rattle.c6x_elf.specs.Rules.{Refusal as ElfRefusal}
use Rattle.c6x_elf.specs.Types.{ElfRule}
use Rattle.c6x_elf.specs.declared.file.File.{File}
use Rattle.c6x_cli_steps.specs.declared.cause.Cause.{Cause}
use Rattle.c6x_cli_steps.specs.declared.cause.Cause.TheVariants.{Refused}
use Rattle.c6x_cli_steps.specs.declared.cause.Refusal.{Refusal}
use Rattle.c6x_cli_steps.specs.Lines.{elf_words, whole_file}
use Rattle.c6x_cli_steps.specs.Steps.{Steps, ◌>>=◌, own}

-- The refusal of a file: the rule that it breaks, and the place.
abbrev pub broken_file : List ℕ → ElfRule → ℕ → Refusal
broken_file name rule place = record { rule = elf_words rule; subject = name; number = place }

abbrev pub unless_broken : List ℕ → File → Option ElfRefusal → Result File Cause
unless_broken name file None = Ok file
unless_broken name file (Some broken) = Err (Refused (broken_file name broken.0 broken.1))

-- The file of this name.
unfoldable pub elf_steps : Files → List ℕ → Steps File
elf_steps files name = do
  bytes ← whole_file files name
  own (unless_broken name (file_of bytes) (refusal_of bytes))
