-- What an instruction adds.
use Rattle.std.specs.Prelude.{ℕ, ◌%◌, ◌==◌, Bool, false, not, ◌&&◌, ◌||◌, if◌then◌else◌, List, Option, Some, None, Result, Ok, Err}
use Rattle.c6x_encoding.specs.declared.cond.Cond.{Cond}
use Rattle.c6x_encoding.specs.declared.op.Op.{Op}
use Rattle.c6x_encoding.specs.Encoded.{encoded}
use Rattle.c6x_asm_lines.specs.declared.statement_head.StatementHead.{StatementHead}
use Rattle.c6x_asm_lines.specs.declared.operand.Operand.{Operand}
use Rattle.c6x_asm_lines.specs.declared.relocatable.RelocatableOp.{RelocatableOp}
use Rattle.c6x_asm_lines.specs.declared.rule.AsmRule.{AsmRule}
use Rattle.c6x_asm_lines.specs.declared.rule.AsmRule.TheVariants.{Syntax, Operand as BadOperand, NoSection, Large}
use Rattle.c6x_asm_lines.specs.Rules.{lower, lowest}
use Rattle.c6x_spec.specs.Results.{◌>>=◌}
use Rattle.c6x_asm_instr.specs.Instructions.{instruction_of}
use Rattle.c6x_asm_object.specs.declared.asm_section.AsmSection.{AsmSection}
use Rattle.c6x_asm_object.specs.declared.instr_word.InstrWord.{InstrWord}
use Rattle.c6x_asm_object.specs.Sections.{is_zero, section_at, changed, with_instruction}
use Rattle.c6x_asm.specs.States.{State, relocated}
use Rattle.c6x_asm.specs.Directives.{has_room, in_section}

-- an instruction ends where the section does
abbrev pub ends_at : Option ℕ → ℕ → Bool
ends_at None size = false
ends_at (Some last) size = last == size

-- an instruction stands just before in the section
abbrev pub is_behind : List AsmSection → Option ℕ → Bool
is_behind sections None = false
is_behind sections (Some i) = ends_at (section_at sections i).last (section_at sections i).size

abbrev pub chain_fault : Bool → Bool → Option AsmRule
chain_fault chained behind = if chained && not behind then Some Syntax else None

-- an instruction stands in a section that has bytes, at a multiple of four
abbrev pub place_fault : List AsmSection → Option ℕ → Option AsmRule
place_fault sections None = Some NoSection
place_fault sections (Some i) = if is_zero (section_at sections i).kind || not ((section_at sections i).size % 4 == 0) then Some BadOperand else None

-- a value, unless a rule is broken; of two rules the lower one counts
abbrev pub fails : {T : Type 0} → Option AsmRule → Result T AsmRule → Result T AsmRule
fails None r = r
fails (Some rule) (Ok x) = Err rule
fails (Some rule) (Err other) = Err (lower rule other)

unfoldable pub word_of : Cond → Op → Option ℕ
word_of condition op = encoded (record { condition = condition; op = op; chained = false })

abbrev pub instr_word_of : ℕ → Bool → ℕ → InstrWord
instr_word_of line chained word = record { line = line; chained = chained; word = word }

abbrev pub with_word : List ℕ → ℕ → Bool → RelocatableOp → Option ℕ → State → ℕ → Result State AsmRule
with_word text line chained made None s i = Err BadOperand
with_word text line chained made (Some word) s i =
    if has_room s i 4
    then Ok (record s {
      symbols = (relocated text s.symbols (section_at s.sections i).size made.relocation).0;
      sections = changed s.sections i (with_instruction (instr_word_of line chained word) (relocated text s.symbols (section_at s.sections i).size made.relocation).1);
    })
    else Err Large

abbrev pub with_made : List ℕ → ℕ → StatementHead → State → RelocatableOp → Result State AsmRule
with_made text line head s made = in_section s.now (λ i. with_word text line head.chained made (word_of head.condition made.op) s i)

abbrev pub instruction_fault : State → StatementHead → Option AsmRule
instruction_fault s head = lowest (chain_fault head.chained (is_behind s.sections s.now)) (place_fault s.sections s.now)

unfoldable pub instructed : List ℕ → ℕ → StatementHead → List Operand → State → Result State AsmRule
instructed text line head operands s =
    fails (instruction_fault s head) (instruction_of text head operands) >>= λ made. with_made text line head s made
