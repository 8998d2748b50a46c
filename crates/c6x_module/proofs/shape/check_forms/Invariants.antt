use Rattle.std.proofs.Common.{◌≡◌, drop, false}
use Rattle.c6x_module.specs.Shape.{forms_along}
use Rattle.c6x_module.proofs.shape.check_forms.Given as goal

abbrev pub invariant-loop-entry : goal.invariant-loop-entry
invariant-loop-entry l = forms_along l.had (drop l.entry-index l.entries) ≡ forms_along false l.entries
