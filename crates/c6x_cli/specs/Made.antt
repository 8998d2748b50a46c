-- What a number comes to on a board before anything is written: its sources are assembled, their objects linked, the files
-- read as modules, and the processes bound and placed. Each step is that of a command over files. A rule that one breaks
-- stops it, and is told with the name of the module's file.
use Rattle.std.specs.Prelude.{ℕ, false, List, [], ◌∷◌, codes, Result, Ok}
use Rattle.c6x_spec.specs.Results.{◌>>=◌}
use Rattle.c6x_asm.specs.Objects.{assembled}
use Rattle.c6x_gen.specs.Generated.{generated}
use Rattle.c6x_gen.specs.declared.generated.Generated.{Generated}
use Rattle.c6x_link.specs.Linked.{linked}
use Rattle.c6x_module.specs.declared.module.Module.{Module}
use Rattle.c6x_module.specs.Modules.{module_in}
use Rattle.c6x_plan.specs.declared.link_plan.LinkPlan.{LinkPlan}
use Rattle.c6x_plan.specs.declared.module_plan.ModulePlan.{ModulePlan}
use Rattle.c6x_cli_run.specs.Loading.{taken}
use Rattle.c6x_cli_run.specs.Placing.{placing}
use Rattle.c6x_cli_run.specs.declared.loading.Loading.{Loading}
use Rattle.c6x_cli.specs.Linking.{or_unlinked}
use Rattle.c6x_cli.specs.Objects.{or_broken}
use Rattle.c6x_cli_steps.specs.declared.cause.Cause.{Cause}

-- Some modules with one more, made of a source and a link plan.
unfoldable pub with_made : List Module → List ℕ → LinkPlan → ModulePlan → Result (List Module) Cause
with_made modules source link image = do
  object ← or_broken image.file (assembled source)
  file ← or_unlinked image.file link (linked (object ∷ []) link)
  taken modules image.name (module_in false image.name file)

-- Some modules, and behind them those of these sources.
abbrev pub made_behind : List Module → List (List ℕ) → List LinkPlan → List ModulePlan → Result (List Module) Cause
made_behind modules (source ∷ sources) (link ∷ links) (image ∷ images) =
    with_made modules source link image >>= λ more. made_behind more sources links images
made_behind modules _ _ _ = Ok modules

-- Want of room is told with this name.
abbrev pub gen_name : List ℕ
gen_name = codes "gen"

unfoldable pub loading_made : Generated → ℕ → ℕ → Result Loading Cause
loading_made made base len = do
  modules ← made_behind [] made.sources made.links made.plan.modules
  placing gen_name made.plan modules base len

unfoldable pub generated_loading : ℕ → ℕ → ℕ → Result Loading Cause
generated_loading number base len = loading_made (generated number) base len
