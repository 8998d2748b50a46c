-- What the plan of a run comes to before anything is written: its modules, what its processes are bound to, and where
-- everything stands.
use Rattle.std.specs.Prelude.{◌≡◌, ℕ, ◌<◌, false, List, [], ◌∷◌, ◌++◌, length, slice_index_or, Result, Ok, Err}
use Rattle.c6x_spec.specs.Files.{Files}
use Rattle.c6x_plan.specs.declared.module_plan.ModulePlan.{ModulePlan}
use Rattle.c6x_module.specs.declared.module.Module.{Module}
use Rattle.c6x_module.specs.Modules.{module_in}
use Rattle.c6x_module.specs.Refusals.{Refusal as ModuleRefusal}
use Rattle.c6x_cli_steps.specs.Elf.{elf_steps}
use Rattle.c6x_cli_steps.specs.Plans.{run_plan_steps}
use Rattle.c6x_cli_steps.specs.declared.cause.Cause.{Cause}
use Rattle.c6x_cli_steps.specs.declared.cause.Cause.TheVariants.{Refused}
use Rattle.c6x_cli_steps.specs.declared.cause.Refusal.{Refusal}
use Rattle.c6x_cli_steps.specs.Steps.{Steps, ◌>>=◌, own}
use Rattle.c6x_cli_run.specs.Placing.{placing}
use Rattle.c6x_cli_run.specs.Words.{module_words}
use Rattle.c6x_cli_run.specs.declared.loading.Loading.{Loading}

-- A module's rule is told with the module's name in the plan.
abbrev pub broken_module : List ℕ → ModuleRefusal → Refusal
broken_module name broken = record { rule = module_words broken.0; subject = name; number = broken.1 }

-- Some modules with one more behind them, where it was read.
abbrev pub taken : List Module → List ℕ → Result Module ModuleRefusal → Result (List Module) Cause
taken modules name (Ok image) = Ok (modules ++ image ∷ [])
taken modules name (Err broken) = Err (Refused (broken_module name broken))

-- The same with a module of a plan.
unfoldable pub image_steps : List Module → Files → ModulePlan → Steps (List Module)
image_steps modules files planned = do
  file ← elf_steps files planned.file
  own (taken modules planned.name (module_in false planned.name file))

-- Some modules, and behind them these of a plan.
abbrev pub images_behind : List Module → Files → List ModulePlan → Steps (List Module)
images_behind modules files [] = own (Ok modules)
images_behind modules files (planned ∷ rest) = image_steps modules files planned >>= λ more. images_behind more files rest

unfoldable pub modules_steps : Files → List ModulePlan → Steps (List Module)
modules_steps files planned = images_behind [] files planned

-- One module more, of this name.
pub record HasAdded (modules : List Module) (name : List ℕ) (more : List Module) : Type 0 where
  pub last : Module
  pub behind : more ≡ modules ++ last ∷ []
  pub named : last.name ≡ name

-- The modules have the names that a plan gives them.
abbrev pub AreNamed : List Module → List ModulePlan → Type 0
AreNamed modules planned =
    (k : ℕ) (m : Module) (p : ModulePlan) → k < length modules → (slice_index_or modules k m).name ≡ (slice_index_or planned k p).name

-- What a plan comes to on a board of `len` bytes from `base` on: the first step that has a missing name or a broken rule
-- decides how the command ends.
unfoldable pub loading_steps : Files → List ℕ → ℕ → ℕ → Steps Loading
loading_steps files name base len = do
  plan ← run_plan_steps files name
  modules ← modules_steps files plan.modules
  own (placing name plan modules base len)
