-- The kinds that the operands of a line name: each is known, and stands alone only where it takes no symbol.
use Rattle.std.specs.Prelude.{ℕ, Bool, true, false, if◌then◌else◌, List, [], ◌∷◌, Option, Some, None, Result, Ok, Err}
use Rattle.c6x_reloc.specs.declared.reloc_kind.RelocKind.{RelocKind}
use Rattle.c6x_reloc.specs.declared.reloc_kind.RelocKind.TheVariants.{DSBT_INDEX}
use Rattle.c6x_asm_lines.specs.declared.offset.Offset.{Offset}
use Rattle.c6x_asm_lines.specs.declared.offset.Offset.TheVariants.{Missing, Bracket, Parenthesis}
use Rattle.c6x_asm_lines.specs.declared.operand.Operand.{Operand}
use Rattle.c6x_asm_lines.specs.declared.operand.Operand.TheVariants.{Text as TextOperand, Address as AddressOperand, Value as ValueOperand}
use Rattle.c6x_asm_lines.specs.declared.primary.Primary.{Primary}
use Rattle.c6x_asm_lines.specs.declared.value.Value.{Value}
use Rattle.c6x_asm_lines.specs.declared.value.Value.TheVariants.{Primary as PrimaryValue, Kind as KindValue}
use Rattle.c6x_asm_lines.specs.declared.rule.AsmRule.{AsmRule}
use Rattle.c6x_asm_lines.specs.declared.rule.AsmRule.TheVariants.{Syntax, UnknownWord}
use Rattle.c6x_asm_lines.specs.OperandNames.{kind_of}
use Rattle.c6x_asm_lines.specs.Bytes.{bytes_at}
use Rattle.c6x_asm_lines.specs.Rules.{lowest}

-- `%dsbt_index` stands alone, and every other kind has an operand in parentheses
abbrev pub stands_wrong : RelocKind → Option Primary → Bool
stands_wrong DSBT_INDEX None = false
stands_wrong DSBT_INDEX (Some inner) = true
stands_wrong kind None = true
stands_wrong kind (Some inner) = false

abbrev pub kind_fault : Option RelocKind → Option Primary → Option AsmRule
kind_fault None inner = Some UnknownWord
kind_fault (Some kind) inner = if stands_wrong kind inner then Some Syntax else None

abbrev pub value_fault : List ℕ → Value → Option AsmRule
value_fault text (PrimaryValue p) = None
value_fault text (KindValue kind inner) = kind_fault (kind_of (bytes_at text kind.at kind.len)) inner

abbrev pub offset_fault : List ℕ → Offset → Option AsmRule
offset_fault text Missing = None
offset_fault text (Bracket v) = value_fault text v
offset_fault text (Parenthesis v) = value_fault text v

unfoldable pub operand_fault : List ℕ → Operand → Option AsmRule
operand_fault text (TextOperand at len) = None
operand_fault text (AddressOperand address) = offset_fault text address.offset
operand_fault text (ValueOperand v) = value_fault text v

-- the lowest rule that these kinds break, or the one so far
abbrev pub kinds_from : List ℕ → Option AsmRule → List Operand → Option AsmRule
kinds_from text fault [] = fault
kinds_from text fault (o ∷ os) = kinds_from text (lowest fault (operand_fault text o)) os
