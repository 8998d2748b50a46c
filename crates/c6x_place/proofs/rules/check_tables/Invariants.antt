use Rattle.std.proofs.Common.{◌≡◌, drop}
use Rattle.c6x_spec.specs.Firsts.{first_along}
use Rattle.c6x_place.specs.Binding.{table_refusal}
use Rattle.c6x_place.proofs.rules.check_tables.Given as goal

abbrev pub invariant-loop-number : goal.invariant-loop-number
invariant-loop-number l = first_along (table_refusal l.modules l.process l.called) (drop l.number-index l.list) ≡ first_along (table_refusal l.modules l.process l.called) l.list
