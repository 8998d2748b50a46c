-- Modules that are made one after the other.
use Rattle.std.proofs.Common.{◌≡◌, ℕ, suc, ◌+◌, ◌<◌, List, [], ◌∷◌, drop, get_or, length, refl, sym, subst, ◌∙◌, ap, add-one}
use Rattle.std.specs.Prelude.{Result, Ok, Err}
use Rattle.std.proofs.Math.Seq.{drop-cons}
use Rattle.c6x_spec.specs.Results.{◌>>=◌}
use Rattle.c6x_module.specs.declared.module.Module.{Module}
use Rattle.c6x_plan.specs.declared.link_plan.LinkPlan.{LinkPlan}
use Rattle.c6x_plan.specs.declared.module_plan.ModulePlan.{ModulePlan}
use Rattle.c6x_cli_run.proofs.Deciding.{decides_first}
use Rattle.c6x_cli_steps.specs.declared.cause.Cause.{Cause}
use Rattle.c6x_cli_steps.specs.declared.prepare_error.PrepareError.{PrepareError}
use Rattle.c6x_cli_steps.specs.Steps.{Decides}
use Rattle.c6x_cli.specs.Made.{made_behind, with_made}

-- what is left at an item
pub left_at : {A : Type 0} (items : List A) (at : ℕ) (item : A) → at < length items → item ≡ get_or items at item → drop at items ≡ item ∷ drop (at + 1) items
left_at items at item inside is =
    rw add-one (drop-cons items at item inside ∙ ap (λ first. first ∷ drop (suc at) items) (sym is))

-- one more was made
pub made_next : (modules more : List Module) (source : List ℕ) (link : LinkPlan) (image : ModulePlan) (sources rest : List (List ℕ)) (links linked : List LinkPlan) (images planned : List ModulePlan) → rest ≡ source ∷ sources → linked ≡ link ∷ links → planned ≡ image ∷ images → with_made modules source link image ≡ Ok more → made_behind modules rest linked planned ≡ made_behind more sources links images
made_next modules more source link image sources rest links linked images planned a b c made = rw (a, b, c, made) refl

-- or stopped them
pub made_stop : (all : Result (List Module) Cause) (modules : List Module) (source : List ℕ) (link : LinkPlan) (image : ModulePlan) (sources rest : List (List ℕ)) (links linked : List LinkPlan) (images planned : List ModulePlan) (error : PrepareError) (result : Result (List Module) PrepareError) → all ≡ made_behind modules rest linked planned → rest ≡ source ∷ sources → linked ≡ link ∷ links → planned ≡ image ∷ images → result ≡ Err error → Decides {A = List Module} (λ more. more) (with_made modules source link image) (Err error) → Decides {A = List Module} (λ more. more) all result
made_stop all modules source link image sources rest links linked images planned error result leads a b c is stops =
    let next : List Module → Result (List Module) Cause = λ more. made_behind more sources links images in
    let same : made_behind modules rest linked planned ≡ (with_made modules source link image >>= next) = rw (a, b, c) refl in
    let stopped : Decides {A = List Module} (λ more. more) (with_made modules source link image >>= next) (Err error) = decides_first {A = List Module} (λ more. more) (λ more. more) (with_made modules source link image) next error stops in
    subst (λ (r : Result (List Module) PrepareError). Decides {A = List Module} (λ more. more) all r) (sym is)
    (subst (λ (told : Result (List Module) Cause). Decides {A = List Module} (λ more. more) told (Err error)) (sym (leads ∙ same)) stopped)

-- behind the last one all were made
pub made_end : (modules : List Module) (sources : List (List ℕ)) (links : List LinkPlan) (planned : List ModulePlan) → planned ≡ [] → made_behind modules sources links planned ≡ Ok modules
made_end modules [] links planned none = refl
made_end modules (source ∷ sources) [] planned none = refl
made_end modules (source ∷ sources) (link ∷ links) planned none = rw none refl
