use Rattle.std.proofs.Common.{◌≡◌, take, drop, length, []}
use Rattle.c6x_module.specs.Fields.{overlaps_from, AreMarked}
use Rattle.c6x_module.proofs.overlaps.check_along.Given as goal

abbrev pub invariant-loop-field : goal.invariant-loop-field
invariant-loop-field l = record {
  rules : overlaps_from l.table l.slots (take l.field-index l.fields) (drop l.field-index l.fields) ≡ overlaps_from l.table l.slots [] l.fields;
  size : length l.taken ≡ l.range.memsz;
  marked : AreMarked l.range.vaddr l.table l.slots (take l.field-index l.fields) l.taken;
}
