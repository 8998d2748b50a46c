-- Which numbers an operand may be (SPRU732's fields; the ranges of directives are this project's own).
use Rattle.std.specs.Prelude.{ℕ, ◌-◌, ◌%◌, nat_le, ◌==◌, Bool, ◌&&◌, if◌then◌else◌, Option, Some, None, Result, Ok, Err}
use Rattle.c6x_asm_lines.specs.declared.number.Number.{Number}
use Rattle.c6x_asm_lines.specs.declared.rule.AsmRule.{AsmRule}
use Rattle.c6x_asm_lines.specs.declared.rule.AsmRule.TheVariants.{Range as OutOfRange}
use Rattle.c6x_asm_lines.specs.declared.range.Range.{Range}

-- every number of a range, one by one
abbrev pub range_of : ℕ → ℕ → ℕ → ℕ → Range
range_of below least most modulus = record { below = below; least = least; most = most; step = 1; modulus = modulus }

abbrev pub is_within : Range → Bool → ℕ → Bool
is_within range negative size =
    if negative then nat_le size range.below && range.least == 0
    else nat_le range.least size && nat_le size range.most

-- the number in two's complement
abbrev pub number_bits : ℕ → Bool → ℕ → ℕ
number_bits modulus negative size = if negative then (modulus - size) % modulus else size

abbrev pub sized_in : Range → Bool → Option ℕ → Result ℕ AsmRule
sized_in range negative None = Err OutOfRange
sized_in range negative (Some size) =
    if is_within range negative size && size % range.step == 0
    then Ok (number_bits range.modulus negative size)
    else Err OutOfRange

unfoldable pub number_in : Range → Number → Result ℕ AsmRule
number_in range n = sized_in range n.negative n.size
