use Rattle.std.proofs.Common.{◌≡◌, map, take}
use Rattle.c6x_layout.specs.RegionRows.{section_row, symbol_row}
use Rattle.c6x_layout.proofs.regions.regions_of.Given as goal

abbrev pub invariant-loop-object : goal.invariant-loop-object
invariant-loop-object l = record {
  sections : l.sections ≡ map section_row (take l.object-index l.objects);
  symbols : l.symbols ≡ map symbol_row (take l.object-index l.objects);
}
