-- Each generated source is assembled to the object that is told of it.
use Rattle.std.specs.Prelude.{◌≡◌, ◌≤◌, ℕ, Ok}
use Rattle.c6x_asm.specs.Objects.{assembled}
use Rattle.c6x_gen.specs.Sources.{app_source, library_source}
use Rattle.c6x_gen.specs.Objects.{app_object, library_object}

-- The executable that a number generates is assembled, and so is each of its libraries, which count from 1 to 11.
abbrev pub SourcesAreAssembled : Type 0
SourcesAreAssembled =
    (number : ℕ) →
    (assembled (app_source number) ≡ Ok (app_object number))
    × ((library : ℕ) → 1 ≤ library → library ≤ 11 → assembled (library_source number library) ≡ Ok (library_object number library))
