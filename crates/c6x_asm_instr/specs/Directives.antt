-- A directive with its operands: this project's own.
use Rattle.std.specs.Prelude.{ℕ, ◌+◌, ◌^◌, nat_le, nat_lt, ◌==◌, Bool, true, false, ◌&&◌, ◌||◌, if◌then◌else◌, List, [], ◌∷◌, ◌++◌, length, Option, Some, None, Result, Ok, Err, slice_range, bit_and, ◌-◌}
use Rattle.std.specs.List.{list_all}
use Rattle.c6x_base.specs.declared.limits.TheConstants.{MOST_NAME_BYTES}
use Rattle.c6x_reloc.specs.declared.reloc_kind.RelocKind.{RelocKind}
use Rattle.c6x_reloc.specs.declared.reloc_kind.RelocKind.TheVariants.{ABS32}
use Rattle.c6x_asm_lines.specs.declared.operand.Operand.{Operand}
use Rattle.c6x_asm_lines.specs.declared.operand.Operand.TheVariants.{Text as TextOperand, Value as ValueOperand}
use Rattle.c6x_asm_lines.specs.declared.primary.Primary.{Primary}
use Rattle.c6x_asm_lines.specs.declared.primary.Primary.TheVariants.{Symbol as PrimarySymbol}
use Rattle.c6x_asm_lines.specs.declared.value.Value.TheVariants.{Primary as PrimaryValue}
use Rattle.c6x_asm_lines.specs.declared.word.Word.{Word}
use Rattle.c6x_asm_lines.specs.declared.relocatable.Field.{Field}
use Rattle.c6x_asm_lines.specs.declared.range.Range.{Range}
use Rattle.c6x_asm_lines.specs.Bytes.{bytes_at}
use Rattle.c6x_asm_lines.specs.declared.rule.AsmRule.{AsmRule}
use Rattle.c6x_asm_lines.specs.declared.rule.AsmRule.TheVariants.{Syntax, UnknownWord, Operand as BadOperand, Range as OutOfRange}
use Rattle.c6x_asm_lines.specs.Numbers.{range_of}
use Rattle.c6x_asm_lines.specs.OperandValues.{constant_operand, field_operand}
use Rattle.c6x_asm_lines.specs.Rules.{lower, both}
use Rattle.c6x_spec.specs.Results.{◌>>=◌}
use Rattle.c6x_asm_instr.specs.declared.directive.Directive.{Directive}
use Rattle.c6x_asm_instr.specs.declared.directive.Directive.TheVariants.{Section, Numbers, Space, Align, Attribute as SetAttribute, Common, Set}
use Rattle.c6x_asm_instr.specs.declared.keyword.Keyword.{Keyword}
use Rattle.c6x_asm_instr.specs.declared.keyword.Keyword.TheVariants.{Sect, Word as WordKey, Half, Byte, Space as SpaceKey, Align as AlignKey, Global, Weak, Hidden, Common as CommonKey, NearCommon, Set as SetKey}
use Rattle.c6x_asm_instr.specs.declared.symbol_attribute.SymbolAttribute.{SymbolAttribute}
use Rattle.c6x_asm_instr.specs.declared.symbol_attribute.SymbolAttribute.TheVariants.{Global as AttributeGlobal, Weak as AttributeWeak, Hidden as AttributeHidden}

-- a name of 1 to 64 bytes from 0x21 to 0x7E
abbrev pub is_visible : ℕ → Bool
is_visible b = nat_le 33 b && nat_le b 126

abbrev pub is_section_name : List ℕ → Bool
is_section_name bytes = nat_le 1 (length bytes) && (nat_le (length bytes) MOST_NAME_BYTES && list_all is_visible bytes)

unfoldable pub section_named : List ℕ → Operand → Result Directive AsmRule
section_named text (TextOperand at len) = if is_section_name (bytes_at text at len) then Ok (Section at len) else Err Syntax
section_named text _ = Err BadOperand

abbrev pub sect_of : List ℕ → List Operand → Result Directive AsmRule
sect_of text (name ∷ []) = section_named text name
sect_of text _ = Err Syntax

-- a number of 32, 16 or 8 bits, signed or unsigned; a word may be an expression
abbrev pub word_field : List ℕ → Operand → Result Field AsmRule
word_field text operand = field_operand text ABS32 (range_of 2147483648 0 4294967295 4294967296) operand

abbrev pub number_field : Range → Operand → Result Field AsmRule
number_field range operand = constant_operand range operand >>= λ bits. Ok (record { bits = bits; relocation = None })

unfoldable pub sized_field : List ℕ → ℕ → Operand → Result Field AsmRule
sized_field text size operand =
    if size == 4 then word_field text operand
    else if size == 2 then number_field (range_of 32768 0 65535 65536) operand
    else number_field (range_of 128 0 255 256) operand

abbrev pub with_field : Result (List Field) AsmRule → Result Field AsmRule → Result (List Field) AsmRule
with_field (Ok fields) (Ok field) = Ok (fields ++ field ∷ [])
with_field (Ok fields) (Err r) = Err r
with_field (Err r) (Ok field) = Err r
with_field (Err r) (Err s) = Err (lower r s)

-- the numbers of these operands behind those so far, or the lowest rule broken
abbrev pub fields_from : List ℕ → ℕ → Result (List Field) AsmRule → List Operand → Result (List Field) AsmRule
fields_from text size sofar [] = sofar
fields_from text size sofar (o ∷ os) = fields_from text size (with_field sofar (sized_field text size o)) os

unfoldable pub fields_of : List ℕ → ℕ → List Operand → Result (List Field) AsmRule
fields_of text size operands = fields_from text size (Ok []) operands

abbrev pub numbers_of : List ℕ → ℕ → List Operand → Result Directive AsmRule
numbers_of text size [] = Err Syntax
numbers_of text size (o ∷ os) = fields_of text size (o ∷ os) >>= λ fields. Ok (Numbers size fields)

abbrev pub any_number : Range
any_number = range_of 0 0 4294967295 4294967296

abbrev pub space_of : List Operand → Result Directive AsmRule
space_of (n ∷ []) = constant_operand any_number n >>= λ bytes. Ok (Space bytes)
space_of _ = Err Syntax

-- 1, 2, 4, up to 4,096
abbrev pub is_power : ℕ → Bool
is_power n = n == 1 || (n == 2 || (n == 4 || (n == 8 || (n == 16 || (n == 32 || (n == 64 || (n == 128 || (n == 256 || (n == 512 || (n == 1024 || (n == 2048 || n == 4096)))))))))))

abbrev pub align_of : List Operand → Result Directive AsmRule
align_of (n ∷ []) = constant_operand (range_of 0 1 4096 4294967296) n >>= λ align. if is_power align then Ok (Align align) else Err OutOfRange
align_of _ = Err Syntax

-- a name alone
unfoldable pub name_operand : Operand → Result Word AsmRule
name_operand (ValueOperand (PrimaryValue (PrimarySymbol name None))) = Ok name
name_operand _ = Err BadOperand

abbrev pub attribute_of : SymbolAttribute → List Operand → Result Directive AsmRule
attribute_of attribute (name ∷ []) = name_operand name >>= λ word. Ok (SetAttribute attribute word)
attribute_of attribute _ = Err Syntax

abbrev pub common_of : Bool → List Operand → Result Directive AsmRule
common_of near (name ∷ size ∷ align ∷ []) =
    both (name_operand name) (both (constant_operand any_number size) (constant_operand any_number align))
    >>= λ p. Ok (Common p.0 p.1.0 p.1.1 near)
common_of near _ = Err Syntax

abbrev pub set_of : List Operand → Result Directive AsmRule
set_of (name ∷ value ∷ []) =
    both (name_operand name) (constant_operand (range_of 2147483648 0 4294967295 4294967296) value)
    >>= λ p. Ok (Set p.0 p.1)
set_of _ = Err Syntax

unfoldable pub directive_by : List ℕ → Keyword → List Operand → Result Directive AsmRule
directive_by text Sect operands = sect_of text operands
directive_by text WordKey operands = numbers_of text 4 operands
directive_by text Half operands = numbers_of text 2 operands
directive_by text Byte operands = numbers_of text 1 operands
directive_by text SpaceKey operands = space_of operands
directive_by text AlignKey operands = align_of operands
directive_by text Global operands = attribute_of AttributeGlobal operands
directive_by text Weak operands = attribute_of AttributeWeak operands
directive_by text Hidden operands = attribute_of AttributeHidden operands
directive_by text CommonKey operands = common_of false operands
directive_by text NearCommon operands = common_of true operands
directive_by text SetKey operands = set_of operands
