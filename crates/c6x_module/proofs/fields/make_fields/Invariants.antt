use Rattle.std.proofs.Common.{◌≡◌, ◌++◌, drop}
use Rattle.c6x_module.specs.Fields.{fields_of}
use Rattle.c6x_module.proofs.fields.make_fields.Given as goal

abbrev pub invariant-loop-rela : goal.invariant-loop-rela
invariant-loop-rela l = l.fields.items ++ fields_of (drop l.rela-index l.relas) ≡ fields_of l.relas
