use Rattle.std.proofs.Common.{◌≡◌, map, take}
use Rattle.c6x_layout.specs.RegionRows.{own_region}
use Rattle.c6x_layout.proofs.regions.section_row.Given as goal

abbrev pub invariant-loop-section : goal.invariant-loop-section
invariant-loop-section l = (l.row ≡ map (own_region l.object.names l.object.sections) (take l.section-index l.object.sections))
