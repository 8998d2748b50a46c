-- The files that the generated objects are linked to are read as modules.
use Rattle.std.specs.Prelude.{◌≡◌, ◌≤◌, ℕ, false, List, [], ◌∷◌, Ok}
use Rattle.c6x_elf.specs.declared.file.File.{File}
use Rattle.c6x_gen.specs.Links.{app_link, app_name, library_link}
use Rattle.c6x_gen.specs.Sources.{library_name}
use Rattle.c6x_gen.specs.Objects.{app_object, library_object}
use Rattle.c6x_link.specs.Linked.{linked}
use Rattle.c6x_layout.specs.declared.parts.Parts.{Parts}
use Rattle.c6x_link_loads.specs.Loads.{module_of_parts}
use Rattle.c6x_module.specs.Modules.{module_in}
use Rattle.c6x_plan.specs.declared.link_plan.LinkPlan.{LinkPlan}
use Rattle.c6x_gen.specs.Parts.{IsApp, IsLibrary}

-- The object alone is linked to a file, which is read as the module of parts of this form.
pub record IsModule (name : List ℕ) (object : File) (link : LinkPlan) (IsOf : Parts → Type 0) : Type 0 where
  pub file : File
  pub parts : Parts
  pub linked : linked (object ∷ []) link ≡ Ok file
  pub read : module_in false name file ≡ Ok (module_of_parts name parts)
  pub form : IsOf parts

-- The executable of each number is read as a module.
abbrev pub ExecutablesAreRead : Type 0
ExecutablesAreRead = (number : ℕ) → IsModule app_name (app_object number) app_link (IsApp number)

-- Each library of a number is; libraries count from 1 to 11.
abbrev pub LibrariesAreRead : Type 0
LibrariesAreRead = (number library : ℕ) → 1 ≤ library → library ≤ 11 → IsModule (library_name library) (library_object number library) (library_link library) (IsLibrary library)
