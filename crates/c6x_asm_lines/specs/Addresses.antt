-- The addresses of loads and stores.
use Rattle.std.specs.Prelude.{ℕ, ◌+◌, ◌*◌, ◌/◌, ◌==◌, ◌||◌, if◌then◌else◌, List, Option, Some, None, Result, Ok, Err}
use Rattle.c6x_base.specs.declared.side.Side.{Side}
use Rattle.c6x_base.specs.declared.side.Side.TheVariants.{A, B}
use Rattle.c6x_reloc.specs.declared.reloc_kind.RelocKind.{RelocKind}
use Rattle.c6x_reloc.specs.declared.reloc_kind.RelocKind.TheVariants.{SBR_U15_B, SBR_U15_H, SBR_U15_W}
use Rattle.c6x_asm_lines.specs.declared.mode.Mode.{Mode}
use Rattle.c6x_asm_lines.specs.declared.mode.Mode.TheVariants.{Negative, Positive, PreDecrement, PreIncrement, PostDecrement, PostIncrement}
use Rattle.c6x_asm_lines.specs.declared.offset.Offset.{Offset}
use Rattle.c6x_asm_lines.specs.declared.offset.Offset.TheVariants.{Missing, Bracket, Parenthesis}
use Rattle.c6x_asm_lines.specs.declared.operand.Operand.{Operand}
use Rattle.c6x_asm_lines.specs.declared.operand.Operand.TheVariants.{Address as AddressOperand}
use Rattle.c6x_asm_lines.specs.declared.primary.Primary.TheVariants.{Register as PrimaryRegister, Number as PrimaryNumber}
use Rattle.c6x_asm_lines.specs.declared.register.Register.{Register}
use Rattle.c6x_asm_lines.specs.declared.value.Value.{Value}
use Rattle.c6x_asm_lines.specs.declared.value.Value.TheVariants.{Primary as PrimaryValue}
use Rattle.c6x_asm_lines.specs.declared.place.Place.{Place}
use Rattle.c6x_asm_lines.specs.declared.place.Place.TheVariants.{Short, Long}
use Rattle.c6x_asm_lines.specs.declared.range.Range.{Range}
use Rattle.c6x_asm_lines.specs.declared.rule.AsmRule.{AsmRule}
use Rattle.c6x_asm_lines.specs.declared.rule.AsmRule.TheVariants.{Operand as BadOperand}
use Rattle.c6x_asm_lines.specs.Numbers.{number_in}
use Rattle.c6x_asm_lines.specs.OperandValues.{register_on, value_field}
use Rattle.c6x_asm_lines.specs.Rules.{both}
use Rattle.c6x_spec.specs.Results.{◌>>=◌}

-- a base register on the unit's side
abbrev pub base_on : Side → Option Register → Result ℕ AsmRule
base_on side None = Err BadOperand
base_on side (Some register) = register_on side register

-- five bits without a sign
abbrev pub five_bits : Range
five_bits = record { below = 0; least = 0; most = 31; step = 1; modulus = 32 }

-- the mode field for an offset that is a constant (SPRU732, "Addressing Modes"); for a register it is four more
abbrev pub mode_number : Mode → ℕ
mode_number Negative = 0
mode_number Positive = 1
mode_number PreDecrement = 8
mode_number PreIncrement = 9
mode_number PostDecrement = 10
mode_number PostIncrement = 11

-- the mode and the offset in brackets: a constant, or a register of the unit's side
abbrev pub bracketed : Side → Mode → Value → Result (ℕ × ℕ) AsmRule
bracketed side mode (PrimaryValue (PrimaryRegister register)) = register_on side register >>= λ r. Ok (mode_number mode + 4, r)
bracketed side mode (PrimaryValue (PrimaryNumber n)) = number_in five_bits n >>= λ c. Ok (mode_number mode, c)
bracketed side mode _ = Err BadOperand

-- no offset is 0, and 1 where the base is changed
abbrev pub missing_offset : Mode → ℕ
missing_offset Negative = 0
missing_offset Positive = 0
missing_offset _ = 1

-- B14 and B15 are the bases of the long form
abbrev pub long_base_on : Side → Option Register → Result ℕ AsmRule
long_base_on A base = Err BadOperand
long_base_on B base = base_on B base >>= λ n. if n == 14 || n == 15 then Ok n else Err BadOperand

-- the kind of the relocation of the long form, by the size of the access (SPRAB89, "Relocation")
abbrev pub long_kind : ℕ → RelocKind
long_kind size = if size == 1 then SBR_U15_B else if size == 2 then SBR_U15_H else SBR_U15_W

-- a multiple of the access size of fifteen bits
abbrev pub long_range : ℕ → Range
long_range size = record { below = 0; least = 0; most = 32767 * size; step = size; modulus = 4294967296 }

abbrev pub placed : List ℕ → ℕ → Side → Option Register → Mode → Offset → Result Place AsmRule
placed text size side base mode Missing = base_on side base >>= λ b. Ok (Short (mode_number mode) (missing_offset mode) b)
placed text size side base mode (Bracket v) = both (base_on side base) (bracketed side mode v) >>= λ p. Ok (Short p.1.0 p.1.1 p.0)
placed text size side base mode (Parenthesis v) =
    both (long_base_on side base) (value_field text (long_kind size) (long_range size) v)
    >>= λ p. Ok (Long (p.0 == 15) (p.1.bits / size) p.1.relocation)

-- the place that an operand is for an access of this size by a unit of this side
unfoldable pub place_of : List ℕ → ℕ → Side → Operand → Result Place AsmRule
place_of text size side (AddressOperand address) = placed text size side address.base address.mode address.offset
place_of text size side _ = Err BadOperand
