use Rattle.std.proofs.Common.{◌≡◌, drop}
use Rattle.c6x_spec.specs.Firsts.{first_along}
use Rattle.c6x_module.specs.Fields.{kind_refusal}
use Rattle.c6x_module.proofs.fields.check_kinds.Given as goal

abbrev pub invariant-loop-rela : goal.invariant-loop-rela
invariant-loop-rela l = first_along kind_refusal (drop l.rela-index l.relas) ≡ first_along kind_refusal l.relas
