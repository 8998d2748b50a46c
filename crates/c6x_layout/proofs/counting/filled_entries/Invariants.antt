use Rattle.std.proofs.Common.{◌≡◌, ◌≤◌, List, length, take}
use Rattle.std.specs.Prelude.{filter}
use Rattle.c6x_elf.specs.declared.file.File.{File}
use Rattle.c6x_layout.specs.RegionRows.{AreRegions}
use Rattle.c6x_layout.specs.Dynamics.{is_filled_entry}
use Rattle.c6x_layout.proofs.counting.filled_entries.Given as goal

abbrev pub invariant-loop-entry : goal.invariant-loop-entry
invariant-loop-entry l = record {
  count : (objects : List File) → AreRegions objects l.regions → l.count ≡ length (filter (is_filled_entry objects l.bindings l.wanted) (take l.entry-index l.entries));
  few : l.count ≤ l.entry-index;
}
