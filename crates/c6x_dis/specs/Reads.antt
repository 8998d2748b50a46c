-- What the assembler reads the parts of a shown line as: this project's own law on its two directions.
use Rattle.std.specs.Prelude.{◌≡◌, ℕ, List, Option, Some, None, Ok}
use Rattle.c6x_encoding.specs.declared.instr.Instr.{Instr}
use Rattle.c6x_asm_lines.specs.Bytes.{bytes_at}
use Rattle.c6x_asm_lines.specs.declared.statement_head.StatementHead.{StatementHead}
use Rattle.c6x_asm_lines.specs.OperandNames.{mnemonic_name, mnemonic_of, unit_of}
use Rattle.c6x_asm_lines.specs.declared.unit.Unit.{Unit}
use Rattle.c6x_asm_instr.specs.Instructions.{instruction_of, plain_made, unit_named}
use Rattle.c6x_dis.specs.Shown.{mnemonic_for, operands_for, unit_for, unit_word}

abbrev pub unit_read : Option Unit → Option Unit
unit_read None = None
unit_read (Some unit) = unit_of (unit_word unit)

-- the words of the line name its mnemonic and its unit, and a statement with them, with this condition and with its
-- operands is the instruction, without a relocation
pub record IsReadBack (i : Instr) : Type 0 where
  pub mnemonic : mnemonic_of (mnemonic_name (mnemonic_for i.op)) ≡ Some (mnemonic_for i.op)
  pub unit : unit_read (unit_for i.op) ≡ unit_for i.op
  pub operands : (text : List ℕ) (head : StatementHead) → head.condition ≡ i.condition → mnemonic_of (bytes_at text head.word.at head.word.len) ≡ Some (mnemonic_for i.op) → unit_named text head.unit ≡ unit_for i.op → instruction_of text head (operands_for i.op) ≡ Ok (plain_made i.op)
