-- The modules of a number bind its processes.
use Rattle.std.specs.Prelude.{◌≡◌, ◌≤◌, ℕ, List, ◌∷◌, None}
use Rattle.c6x_gen.specs.Lists.{each_library}
use Rattle.c6x_gen.specs.Links.{app_name}
use Rattle.c6x_gen.specs.Plans.{plan_numbered}
use Rattle.c6x_gen.specs.Sources.{library_name}
use Rattle.c6x_gen.specs.Parts.{IsApp, IsLibrary}
use Rattle.c6x_layout.specs.declared.parts.Parts.{Parts}
use Rattle.c6x_link_loads.specs.Loads.{module_of_parts}
use Rattle.c6x_module.specs.declared.module.Module.{Module}
use Rattle.c6x_place.specs.Plans.{plans_refusal}

-- The modules of a number: the executable, and the libraries in their order.
pub record AreGenerated (number : ℕ) (modules : List Module) : Type 0 where
  pub app : Parts
  pub libraries : ℕ → Parts
  pub same : modules ≡ module_of_parts app_name app ∷ each_library (λ library. module_of_parts (library_name library) (libraries library))
  pub is_app : IsApp number app
  pub are_libraries : (library : ℕ) → 1 ≤ library → library ≤ 11 → IsLibrary library (libraries library)

-- No process of the number's plan breaks a rule of binding over them.
abbrev pub ProcessesAreBound : Type 0
ProcessesAreBound =
    (number : ℕ) (modules : List Module) → AreGenerated number modules → plans_refusal modules 0 (plan_numbered number).processes ≡ None
