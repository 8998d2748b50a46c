use Rattle.std.proofs.Common.{◌≡◌, ◌++◌, drop}
use Rattle.c6x_place.specs.Definitions.{targets_from}
use Rattle.c6x_place.specs.Binding.{outside_from}
use Rattle.c6x_place.proofs.targets.bind_members.Given as goal

abbrev pub invariant-loop-position : goal.invariant-loop-position
invariant-loop-position l = record {
  rules : outside_from l.modules l.list l.process l.position (drop l.position l.list) ≡ outside_from l.modules l.list l.process 0 l.list;
  made : l.rows.items ++ targets_from l.modules l.list l.position (drop l.position l.list) ≡ targets_from l.modules l.list 0 l.list;
}
