-- The symbols of each object, and what a link keeps at hand.
use Rattle.std.specs.Prelude.{◌≡◌, false, List, map}
use Rattle.c6x_elf.specs.Lists.{symbols_of}
use Rattle.c6x_elf.specs.Types.{Symbol}
use Rattle.c6x_elf.specs.declared.file.File.{File}
use Rattle.c6x_layout.specs.RegionRows.{AreRegions}
use Rattle.c6x_layout.specs.declared.regions.Regions.{Regions}

abbrev pub symbols_in : File → List Symbol
symbols_in file = symbols_of false file.sections

-- The rows are those of the objects.
pub record AreRows (objects : List File) (regions : Regions) (symbols : List (List Symbol)) : Type 0 where
  pub regions_of_each : AreRegions objects regions
  pub symbols_of_each : symbols ≡ map symbols_in objects
