-- What a line adds.
use Rattle.std.specs.Prelude.{ℕ, Bool, true, false, if◌then◌else◌, List, Option, Some, None, Result, Ok, Err}
use Rattle.c6x_asm_lines.specs.declared.line.Line.{Line}
use Rattle.c6x_asm_lines.specs.declared.line.Statement.{Statement}
use Rattle.c6x_asm_lines.specs.declared.operand.Operand.{Operand}
use Rattle.c6x_asm_lines.specs.declared.word.Word.{Word}
use Rattle.c6x_asm_lines.specs.Grammar.{is_dotted}
use Rattle.c6x_asm_lines.specs.declared.rule.AsmRule.{AsmRule}
use Rattle.c6x_asm_lines.specs.declared.rule.AsmRule.TheVariants.{UnknownWord, Operand as BadOperand}
use Rattle.c6x_asm_lines.specs.Bytes.{bytes_at}
use Rattle.c6x_spec.specs.Results.{◌>>=◌}
use Rattle.c6x_asm_instr.specs.declared.keyword.Keyword.{Keyword}
use Rattle.c6x_asm_instr.specs.declared.keyword.Keyword.TheVariants.{Word as WordKey, Half, Byte}
use Rattle.c6x_asm_instr.specs.Directives.{directive_by}
use Rattle.c6x_asm_instr.specs.Keywords.{keyword_of}
use Rattle.c6x_asm_instr.specs.Kinds.{kinds_from}
use Rattle.c6x_asm_object.specs.declared.asm_section.AsmSection.{AsmSection}
use Rattle.c6x_asm_object.specs.Sections.{is_zero, section_at}
use Rattle.c6x_asm.specs.States.{State, label_fault, labelled}
use Rattle.c6x_asm.specs.Directives.{applied}
use Rattle.c6x_asm.specs.Instructions.{fails, instructed}

abbrev pub is_numbers : Keyword → Bool
is_numbers WordKey = true
is_numbers Half = true
is_numbers Byte = true
is_numbers _ = false

abbrev pub zero_fault : List AsmSection → Option ℕ → Option AsmRule
zero_fault sections None = None
zero_fault sections (Some i) = if is_zero (section_at sections i).kind then Some BadOperand else None

-- a section of zeros has no numbers
abbrev pub numbers_fault : Keyword → List AsmSection → Option ℕ → Option AsmRule
numbers_fault keyword sections now = if is_numbers keyword then zero_fault sections now else None

abbrev pub with_keyword : List ℕ → Option Keyword → List Operand → State → Result State AsmRule
with_keyword text None operands s = Err UnknownWord
with_keyword text (Some keyword) operands s =
    fails (numbers_fault keyword s.sections s.now) (directive_by text keyword operands) >>= λ directive. applied text s directive

abbrev pub with_statement : List ℕ → ℕ → Statement → State → Result State AsmRule
with_statement text line statement s =
    if is_dotted statement.head.word.class
    then with_keyword text (keyword_of (bytes_at text statement.head.word.at statement.head.word.len)) statement.operands s
    else instructed text line statement.head statement.operands s

unfoldable pub stated : List ℕ → ℕ → Option Statement → State → Result State AsmRule
stated text line None s = Ok s
stated text line (Some statement) s =
    fails (kinds_from text None statement.operands) (with_statement text line statement s)

abbrev pub after_label : List ℕ → State → Option Word → State
after_label text s None = s
after_label text s (Some word) = labelled text s word

abbrev pub fault_of_label : List ℕ → State → Option Word → Option AsmRule
fault_of_label text s None = None
fault_of_label text s (Some word) = label_fault text s word

-- the sections and symbols behind a line, or the lowest rule that it breaks
unfoldable pub stepped : List ℕ → ℕ → Line → State → Result State AsmRule
stepped text line l s = fails (fault_of_label text s l.label) (stated text line l.statement (after_label text s l.label))
