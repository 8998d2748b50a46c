use Rattle.std.proofs.Common.{◌≡◌, drop}
use Rattle.c6x_place.specs.Binding.{unresolved_from}
use Rattle.c6x_place.proofs.fields.check_resolved.Given as goal

abbrev pub invariant-loop-position : goal.invariant-loop-position
invariant-loop-position l = unresolved_from l.modules l.list l.process l.position (drop l.position l.list) ≡ unresolved_from l.modules l.list l.process 0 l.list
