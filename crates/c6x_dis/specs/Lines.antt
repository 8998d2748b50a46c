-- What the assembler reads a shown line as: this project's own law on its two directions.
use Rattle.std.specs.Prelude.{◌≡◌, ℕ, ◌+◌, false, List, ◌++◌, length, Option, Some, None, Ok}
use Rattle.c6x_encoding.specs.Spelling.{IsValid}
use Rattle.c6x_encoding.specs.declared.cond.Cond.{Cond}
use Rattle.c6x_encoding.specs.declared.instr.Instr.{Instr}
use Rattle.c6x_asm_lines.specs.Grammar.{line_of}
use Rattle.c6x_asm_lines.specs.declared.line.Line.{Line}
use Rattle.c6x_asm_lines.specs.declared.operand.Operand.{Operand}
use Rattle.c6x_asm_lines.specs.declared.statement_head.StatementHead.{StatementHead}
use Rattle.c6x_asm_lines.specs.declared.word.Word.{Word}
use Rattle.c6x_asm_lines.specs.OperandNames.{mnemonic_name}
use Rattle.c6x_asm_lines.specs.declared.mnemonic.Mnemonic.{Mnemonic}
use Rattle.c6x_asm_lines.specs.declared.unit.Unit.{Unit as AsmUnit}
use Rattle.c6x_asm_instr.specs.Instructions.{instruction_of, plain_made}
use Rattle.c6x_dis.specs.Pieces.{AreApart, lexemes_at, word_at}
use Rattle.c6x_dis.specs.Atoms.{bytes_of}
use Rattle.c6x_dis.specs.Shown.{condition_atoms, mnemonic_for, operands_for, shown, shown_atoms, unit_for, unit_word}

abbrev pub unit_at : ℕ → Option AsmUnit → Option Word
unit_at at None = None
unit_at at (Some unit) = Some (word_at at (unit_word unit))

-- where the mnemonic stands, in a line from this offset on
abbrev pub name_place : ℕ → Cond → ℕ
name_place at condition = at + length (bytes_of (condition_atoms condition))

-- what stands before the operands; the unit stands behind the mnemonic and a space
abbrev pub head_at : ℕ → Cond → Mnemonic → Option AsmUnit → StatementHead
head_at at condition mnemonic unit = record {
  chained = false;
  condition = condition;
  word = word_at (name_place at condition) (mnemonic_name mnemonic);
  unit = unit_at (name_place at condition + length (mnemonic_name mnemonic) + 1) unit;
}

abbrev pub line_with : StatementHead → List Operand → Line
line_with head operands = record { label = None; statement = Some (record { head = head; operands = operands }) }

-- the head of a shown line
abbrev pub shown_head : ℕ → Instr → StatementHead
shown_head at i = head_at at i.condition (mnemonic_for i.op) (unit_for i.op)

-- A shown line stands apart, its lexemes are read as a statement with its operands, and this statement is the
-- instruction, without a relocation, wherever the line stands in a text.
pub record IsLineRead (i : Instr) : Type 0 where
  pub apart : AreApart (shown_atoms i)
  pub read : (at : ℕ) → line_of (lexemes_at at (shown_atoms i)) ≡ Some (line_with (shown_head at i) (operands_for i.op))
  pub means : (front : List ℕ) → instruction_of (front ++ shown i) (shown_head (length front) i) (operands_for i.op) ≡ Ok (plain_made i.op)

abbrev pub LinesAreRead : Type 0
LinesAreRead = (i : Instr) → IsValid i → IsLineRead i
