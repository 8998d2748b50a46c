use Rattle.std.specs.Prelude.{◌≤◌}
use Rattle.c6x_asm_instr.specs.declared.directive.Directive.{Directive}
use Rattle.c6x_asm_instr.specs.declared.directive.Directive.TheVariants.{Section, Numbers, Space, Align, Attribute as SetAttribute, Common, Set}

-- numbers have at most four bytes, and an alignment is not zero
abbrev pub FitsDirective : Directive → Type 0
FitsDirective (Numbers size fields) = size ≤ 4
FitsDirective (Align align) = 1 ≤ align
FitsDirective _ = Unit {0}
