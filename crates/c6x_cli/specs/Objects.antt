use Rattle.std.specs.Prelude.{ℕ, false, List, codes, Result, Ok, Err}
use Rattle.c6x_spec.specs.Files.{Files}
use Rattle.c6x_asm.specs.Objects.{assembled}
use Rattle.c6x_asm.specs.AsmRule.{AsmRule, BadByte, Syntax, UnknownWord, Operand, Range, Packet, DuplicateLabel, NoSection, Large}
use Rattle.c6x_asm.specs.declared.broken.Broken.{Broken}
use Rattle.c6x_elf.specs.Writing.{written}
use Rattle.c6x_cli_steps.specs.declared.cause.Cause.{Cause}
use Rattle.c6x_cli_steps.specs.declared.cause.Cause.TheVariants.{Refused}
use Rattle.c6x_cli_steps.specs.declared.cause.Refusal.{Refusal}
use Rattle.c6x_cli_steps.specs.Lines.{whole_file}
use Rattle.c6x_cli_steps.specs.Steps.{Steps, ◌>>=◌, own}

-- The code and the word of a rule of assembly texts.
unfoldable pub assembly_words : AsmRule → List ℕ
assembly_words BadByte = codes "A1 BadByte"
assembly_words Syntax = codes "A2 Syntax"
assembly_words UnknownWord = codes "A3 UnknownWord"
assembly_words Operand = codes "A4 Operand"
assembly_words Range = codes "A5 Range"
assembly_words Packet = codes "A6 Packet"
assembly_words DuplicateLabel = codes "A7 DuplicateLabel"
assembly_words NoSection = codes "A8 NoSection"
assembly_words Large = codes "A9 Large"

-- The refusal of a text: the rule that it breaks, and the line.
abbrev pub broken_text : List ℕ → Broken → Refusal
broken_text name broken = record { rule = assembly_words broken.rule; subject = name; number = broken.line }

abbrev pub or_broken : {A : Type 0} → List ℕ → Result A Broken → Result A Cause
or_broken name (Ok object) = Ok object
or_broken name (Err broken) = Err (Refused (broken_text name broken))

-- The bytes of the object file of a text: the first step that has a missing name or a broken rule decides how `as` ends.
unfoldable pub object_steps : Files → List ℕ → Steps (List ℕ)
object_steps files name = do
  text ← whole_file files name
  object ← own (or_broken name (assembled text))
  own (Ok (written false object))
