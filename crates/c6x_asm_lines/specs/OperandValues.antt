-- The operands of instructions.
use Rattle.std.specs.Prelude.{ℕ, ◌==◌, Bool, true, false, ◌&&◌, if◌then◌else◌, List, Option, Some, None, Result, Ok, Err}
use Rattle.c6x_base.specs.declared.side.Side.{Side}
use Rattle.c6x_base.specs.declared.side.Side.TheVariants.{A, B}
use Rattle.c6x_reloc.specs.Table.{row_of}
use Rattle.c6x_reloc.specs.declared.reloc_kind.RelocKind.{RelocKind}
use Rattle.c6x_reloc.specs.declared.reloc_kind.RelocKind.TheVariants.{DSBT_INDEX}
use Rattle.c6x_asm_lines.specs.declared.register.Register.{Register}
use Rattle.c6x_asm_lines.specs.declared.number.Number.{Number}
use Rattle.c6x_asm_lines.specs.declared.word.Word.{Word}
use Rattle.c6x_asm_lines.specs.declared.primary.Primary.{Primary}
use Rattle.c6x_asm_lines.specs.declared.primary.Primary.TheVariants.{Register as PrimaryRegister, Number as PrimaryNumber, Symbol as PrimarySymbol}
use Rattle.c6x_asm_lines.specs.declared.value.Value.{Value}
use Rattle.c6x_asm_lines.specs.declared.value.Value.TheVariants.{Primary as PrimaryValue, Kind as KindValue}
use Rattle.c6x_asm_lines.specs.declared.operand.Operand.{Operand}
use Rattle.c6x_asm_lines.specs.declared.operand.Operand.TheVariants.{Value as ValueOperand}
use Rattle.c6x_asm_lines.specs.Bytes.{bytes_at}
use Rattle.c6x_asm_lines.specs.declared.rule.AsmRule.{AsmRule}
use Rattle.c6x_asm_lines.specs.declared.rule.AsmRule.TheVariants.{Syntax, UnknownWord, Operand as BadOperand}
use Rattle.c6x_asm_lines.specs.declared.range.Range.{Range}
use Rattle.c6x_asm_lines.specs.declared.relocatable.Field.{Field}
use Rattle.c6x_spec.specs.Results.{◌>>=◌}
use Rattle.c6x_asm_lines.specs.OperandNames.{kind_of}
use Rattle.c6x_asm_lines.specs.Numbers.{number_in}

abbrev pub same_side : Side → Side → Bool
same_side A A = true
same_side B B = true
same_side _ _ = false

abbrev pub register_on : Side → Register → Result ℕ AsmRule
register_on side register = if same_side register.side side then Ok register.number else Err BadOperand

-- a register of this side
unfoldable pub register_operand : Side → Operand → Result ℕ AsmRule
register_operand side (ValueOperand (PrimaryValue (PrimaryRegister register))) = register_on side register
register_operand side _ = Err BadOperand

-- a number
unfoldable pub constant_operand : Range → Operand → Result ℕ AsmRule
constant_operand range (ValueOperand (PrimaryValue (PrimaryNumber n))) = number_in range n
constant_operand range _ = Err BadOperand

abbrev pub addend_range : Range
addend_range = record { below = 2147483648; least = 0; most = 2147483647; step = 1; modulus = 4294967296 }

abbrev pub addend_of : Option Number → Result ℕ AsmRule
addend_of None = Ok 0
addend_of (Some n) = number_in addend_range n

unfoldable pub symbol_field : RelocKind → Word → Option Number → Result Field AsmRule
symbol_field kind name addend = addend_of addend >>= λ a. Ok (record { bits = 0; relocation = Some (record { kind = kind; symbol = Some name; addend = a }) })

-- two kinds change the same field
abbrev pub same_field : RelocKind → RelocKind → Bool
same_field kind other = (row_of kind).low == (row_of other).low && (row_of kind).width == (row_of other).width

abbrev pub is_index : RelocKind → Bool
is_index DSBT_INDEX = true
is_index _ = false

abbrev pub index_field : RelocKind → Result Field AsmRule
index_field kind = if is_index kind then Ok (record { bits = 0; relocation = Some (record { kind = kind; symbol = None; addend = 0 }) }) else Err Syntax

-- what stands in the parentheses of a kind
abbrev pub inner_field : RelocKind → Option Primary → Result Field AsmRule
inner_field kind None = index_field kind
inner_field kind (Some (PrimarySymbol name addend)) = symbol_field kind name addend
inner_field kind (Some _) = Err BadOperand

abbrev pub named_field : RelocKind → Option RelocKind → Option Primary → Result Field AsmRule
named_field default None inner = Err UnknownWord
named_field default (Some kind) inner = if same_field kind default then inner_field kind inner else Err BadOperand

-- a number in this range, or an expression, whose relocation has this kind or a named one of the same field
unfoldable pub value_field : List ℕ → RelocKind → Range → Value → Result Field AsmRule
value_field text default range (PrimaryValue (PrimaryNumber n)) = number_in range n >>= λ bits. Ok (record { bits = bits; relocation = None })
value_field text default range (PrimaryValue (PrimarySymbol name addend)) = symbol_field default name addend
value_field text default range (PrimaryValue (PrimaryRegister register)) = Err BadOperand
value_field text default range (KindValue kind inner) = named_field default (kind_of (bytes_at text kind.at kind.len)) inner

unfoldable pub field_operand : List ℕ → RelocKind → Range → Operand → Result Field AsmRule
field_operand text default range (ValueOperand v) = value_field text default range v
field_operand text default range _ = Err BadOperand
