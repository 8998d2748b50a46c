-- Of several broken rules of a line the lowest one counts.
use Rattle.std.specs.Prelude.{ℕ, nat_le, if◌then◌else◌, Option, Some, None, Result, Ok, Err}
use Rattle.c6x_asm_lines.specs.declared.rule.AsmRule.{AsmRule}
use Rattle.c6x_asm_lines.specs.declared.rule.AsmRule.TheVariants.{BadByte, Syntax, UnknownWord, Operand, Range, Packet, DuplicateLabel, NoSection, Large}

abbrev pub number_of : AsmRule → ℕ
number_of BadByte = 1
number_of Syntax = 2
number_of UnknownWord = 3
number_of Operand = 4
number_of Range = 5
number_of Packet = 6
number_of DuplicateLabel = 7
number_of NoSection = 8
number_of Large = 9

unfoldable pub lower : AsmRule → AsmRule → AsmRule
lower a b = if nat_le (number_of a) (number_of b) then a else b

-- the lower of two rules, where there are two
abbrev pub lowest : Option AsmRule → Option AsmRule → Option AsmRule
lowest None other = other
lowest (Some a) None = Some a
lowest (Some a) (Some b) = Some (lower a b)

-- two parts of a line together: where both break a rule, the lower one counts
abbrev pub both : {T U : Type 0} → Result T AsmRule → Result U AsmRule → Result (T × U) AsmRule
both (Ok a) (Ok b) = Ok (a, b)
both (Ok a) (Err r) = Err r
both (Err r) (Ok b) = Err r
both (Err r) (Err s) = Err (lower r s)
