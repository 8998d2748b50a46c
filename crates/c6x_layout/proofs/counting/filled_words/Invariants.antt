use Rattle.std.proofs.Common.{◌≡◌, ◌≤◌, List, length, take}
use Rattle.std.specs.Prelude.{filter}
use Rattle.c6x_elf.specs.declared.file.File.{File}
use Rattle.c6x_layout.specs.RegionRows.{AreRegions}
use Rattle.c6x_layout.specs.Dynamics.{is_filled_word}
use Rattle.c6x_layout.proofs.counting.filled_words.Given as goal

abbrev pub invariant-loop-place : goal.invariant-loop-place
invariant-loop-place l = record {
  count : (objects : List File) → AreRegions objects l.regions → l.count ≡ length (filter (is_filled_word objects l.bindings) (take l.place l.words));
  few : l.count ≤ l.place;
}
