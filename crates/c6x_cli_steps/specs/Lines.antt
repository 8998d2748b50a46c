use Rattle.std.specs.Prelude.{◌≡◌, ◌⊎◌, ℕ, List, ◌++◌, codes, decimal, length, nat_le, Result, Ok, Err, if◌then◌else◌}
use Rattle.c6x_elf.specs.Types.{ElfRule}
use Rattle.c6x_elf.specs.ElfRules.{Short, Magic, Class, Data, Version, Machine, FileType, EntrySize, Index, NoNul, Large}
use Rattle.c6x_cli_steps.specs.declared.cause.Refusal.{Refusal}
use Rattle.c6x_cli_steps.specs.declared.cause.Cause.{Cause}
use Rattle.c6x_cli_steps.specs.declared.cause.Cause.TheVariants.{Usage, Missing, Refused}
use Rattle.c6x_cli_steps.specs.declared.prepare_error.PrepareError.{PrepareError}
use Rattle.c6x_cli_steps.specs.declared.prepare_error.PrepareError.TheVariants.{Because, ReadFault, Memory}
use Rattle.c6x_spec.specs.Files.{Files, Rose}
use Rattle.c6x_spec.specs.Sinks.{Takes, TakesFront}
use Rattle.c6x_ports.specs.Sink.{Taken}
use Rattle.c6x_cli_steps.specs.Steps.{Steps, ◌>>=◌, fetched, own, most_bytes}

-- A line was put on the error output: it was taken whole and the status is the one wanted, or a fault cut it and the
-- status is 6.
abbrev pub Reports : List ℕ → ℕ → ℕ → Taken → Taken → Type 0
Reports line wanted status before after =
    ((status ≡ wanted) × Takes line before.bytes after.bytes)
    ⊎ ((status ≡ 6) × TakesFront line before.bytes after.bytes × Rose before.faults after.faults)

-- The lines of the error output. Each ends with a newline.

-- The code and the word of a rule of ELF files.
unfoldable pub elf_words : ElfRule → List ℕ
elf_words Short = codes "E1 Short"
elf_words Magic = codes "E2 Magic"
elf_words Class = codes "E3 Class"
elf_words Data = codes "E4 Data"
elf_words Version = codes "E5 Version"
elf_words Machine = codes "E6 Machine"
elf_words FileType = codes "E7 FileType"
elf_words EntrySize = codes "E8 EntrySize"
elf_words Index = codes "E9 Index"
elf_words NoNul = codes "E10 NoNul"
elf_words Large = codes "E11 Large"

unfoldable pub usage_line : List ℕ
usage_line = codes "c6x: usage\n"

unfoldable pub missing_line : List ℕ → List ℕ
missing_line name = codes "c6x: missing " ++ name ++ codes "\n"

unfoldable pub refused_line : List ℕ → List ℕ → ℕ → List ℕ
refused_line rule subject number = codes "c6x: refused " ++ rule ++ codes " " ++ subject ++ codes " " ++ decimal number ++ codes "\n"

unfoldable pub read_fault_line : List ℕ → List ℕ
read_fault_line name = codes "c6x: read fault " ++ name ++ codes "\n"

unfoldable pub write_fault_line : List ℕ
write_fault_line = codes "c6x: write fault\n"

unfoldable pub memory_line : List ℕ
memory_line = codes "c6x: memory\n"

-- The line of what the words and files themselves stop at.
abbrev pub line_of : Cause → List ℕ
line_of Usage = usage_line
line_of (Missing name) = missing_line name
line_of (Refused refusal) = refused_line refusal.rule refusal.subject refusal.number

-- Its status.
abbrev pub status_of : Cause → ℕ
status_of Usage = 2
status_of (Missing _) = 3
status_of (Refused _) = 4

-- The line and the status of an error.
abbrev pub error_line : PrepareError → List ℕ
error_line (Because cause) = line_of cause
error_line (ReadFault name) = read_fault_line name
error_line Memory = memory_line

abbrev pub error_status : PrepareError → ℕ
error_status (Because cause) = status_of cause
error_status (ReadFault _) = 5
error_status Memory = 7

-- The refusal of a file that is longer than a file may be.
abbrev pub too_long : List ℕ → Refusal
too_long name = record { rule = elf_words Large; subject = name; number = 0 }

-- The bytes of a file that is no longer than a file may be.
unfoldable pub within_most : List ℕ → List ℕ → Result (List ℕ) Cause
within_most name bytes = if nat_le (length bytes) most_bytes then Ok bytes else Err (Refused (too_long name))

-- The steps of a file that is fetched whole.
unfoldable pub whole_file : Files → List ℕ → Steps (List ℕ)
whole_file files name = do
  bytes ← fetched files name
  own (within_most name bytes)
