use Rattle.std.specs.Prelude.{◌≡◌, List, Option, Some, None, Result, Ok, Err, Vec}
use Rattle.std.specs.declared.alloc.Global.{Global}
use Rattle.c6x_asm_lines.specs.declared.relocatable.Field.{Field}
use Rattle.c6x_asm_lines.specs.declared.rule.AsmRule.{AsmRule}
use Rattle.c6x_asm_instr.specs.declared.directive.Directive.{Directive}

-- fields, where no rule was broken
abbrev pub sofar : List Field → Option AsmRule → Result (List Field) AsmRule
sofar fields None = Ok fields
sofar fields (Some rule) = Err rule

abbrev pub IsFields : Result (Vec Field Global) AsmRule → Result (List Field) AsmRule → Type 0
IsFields (Ok v) told = told ≡ Ok v.items
IsFields (Err rule) told = told ≡ Err rule
