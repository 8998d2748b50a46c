-- The objects of the generated sources are linked by the generated plans.
use Rattle.std.specs.Prelude.{◌≡◌, ◌≤◌, ℕ, [], ◌∷◌, Ok}
use Rattle.c6x_elf.specs.declared.file.File.{File}
use Rattle.c6x_plan.specs.declared.link_plan.LinkPlan.{LinkPlan}
use Rattle.c6x_gen.specs.Links.{app_link, library_link}
use Rattle.c6x_gen.specs.Objects.{app_object, library_object}
use Rattle.c6x_link.specs.Linked.{linked}

-- the object alone breaks no rule of a link by this plan
abbrev pub IsLinked : File → LinkPlan → Type 0
IsLinked object link = (file : File) × (linked (object ∷ []) link ≡ Ok file)

-- The executable of each number is linked.
abbrev pub ExecutablesAreLinked : Type 0
ExecutablesAreLinked = (number : ℕ) → IsLinked (app_object number) app_link

-- Each library of a number is linked; libraries count from 1 to 11.
abbrev pub LibrariesAreLinked : Type 0
LibrariesAreLinked = (number library : ℕ) → 1 ≤ library → library ≤ 11 → IsLinked (library_object number library) (library_link library)
