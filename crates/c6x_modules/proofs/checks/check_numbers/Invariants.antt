use Rattle.std.proofs.Common.{◌≡◌, drop}
use Rattle.c6x_spec.specs.Firsts.{first_along}
use Rattle.c6x_module.specs.Tables.{number_refusal}
use Rattle.c6x_modules.proofs.checks.check_numbers.Given as goal

abbrev pub invariant-loop-rela : goal.invariant-loop-rela
invariant-loop-rela l = first_along (number_refusal l.tag l.count) (drop l.rela-index l.relas) ≡ first_along (number_refusal l.tag l.count) l.relas
