use Rattle.std.proofs.Common.{◌≡◌, drop}
use Rattle.c6x_spec.specs.Firsts.{first_along}
use Rattle.c6x_module.specs.Tables.{needed_refusal}
use Rattle.c6x_modules.proofs.names.check_needed_names.Given as goal

abbrev pub invariant-loop-entry : goal.invariant-loop-entry
invariant-loop-entry l = first_along (needed_refusal l.strings) (drop l.entry-index l.entries) ≡ first_along (needed_refusal l.strings) l.entries
