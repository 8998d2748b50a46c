use Rattle.std.proofs.Common.{◌≡◌, drop}
use Rattle.c6x_place.specs.Definitions.{first_export}
use Rattle.c6x_place.proofs.fields.first_export.Given as goal

abbrev pub invariant-loop-position : goal.invariant-loop-position
invariant-loop-position l = first_export l.modules l.name l.position (drop l.position l.list) ≡ first_export l.modules l.name 0 l.list
