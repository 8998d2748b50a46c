use Rattle.std.specs.Prelude.{◌≡◌, List, Option, Some, None, Vec}
use Rattle.std.specs.declared.alloc.Global.{Global}
use Rattle.c6x_asm_lines.specs.declared.operand.Operand.{Operand}

-- the vector has these items, where there are any
abbrev pub IsList : Option (Vec Operand Global) → Option (List Operand) → Type 0
IsList None told = told ≡ None
IsList (Some v) told = told ≡ Some v.items
