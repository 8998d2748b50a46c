use Rattle.std.proofs.Common.{◌≡◌, ◌++◌, drop}
use Rattle.c6x_load.specs.Areas.{AreBelow, text_areas}
use Rattle.c6x_load.proofs.areas.add_texts.Given as goal

abbrev pub invariant-loop-number : goal.invariant-loop-number
invariant-loop-number l = record {
  made : l.map ++ text_areas l.modules l.texts (drop l.number-index l.list) ≡ l.fn.map ++ text_areas l.modules l.texts l.list;
  below : AreBelow (text_areas l.modules l.texts (drop l.number-index l.list));
}
