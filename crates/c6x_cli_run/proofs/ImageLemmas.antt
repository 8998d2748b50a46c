use Rattle.std.proofs.Common.{◌≡◌, ℕ, suc, ◌+◌, ◌<◌, List, [], ◌∷◌, drop, get_or, length, refl, sym, subst, ◌∙◌, ap, add-one}
use Rattle.std.specs.Prelude.{Result, Ok, Err}
use Rattle.std.proofs.Math.Seq.{drop-cons}
use Rattle.c6x_module.specs.declared.module.Module.{Module}
use Rattle.c6x_plan.specs.declared.module_plan.ModulePlan.{ModulePlan}
use Rattle.c6x_ports.specs.Shelf.{Shelved}
use Rattle.c6x_cli_steps.specs.declared.prepare_error.PrepareError.{PrepareError}
use Rattle.c6x_cli_steps.specs.Steps.{Prepares}
use Rattle.c6x_cli_steps.proofs.Chains.{prepares_first, prepares_then, prepares_own}
use Rattle.c6x_cli_run.specs.Loading.{image_steps, images_behind, modules_steps}

-- before the first module nothing was read
pub images_start : (modules : List Module) (planned : List ModulePlan) (before after : Shelved) (result : Result (List Module) PrepareError) → modules ≡ [] → Prepares (λ more. more) (λ told. images_behind modules told (drop 0 planned)) before after result → Prepares (λ more. more) (λ told. modules_steps told planned) before after result
unfolding modules_steps
images_start modules planned before after result none p =
    subst (λ read. Prepares (λ more. more) (λ told. images_behind read told planned) before after result) none p

-- a module more
pub images_next : (modules more : List Module) (image : ModulePlan) (planned rest : List ModulePlan) (before now after : Shelved) (result : Result (List Module) PrepareError) → rest ≡ image ∷ planned → Prepares (λ made. made) (λ told. image_steps modules told image) before now (Ok more) → Prepares (λ made. made) (λ told. images_behind more told planned) now after result → Prepares (λ made. made) (λ told. images_behind modules told rest) before after result
images_next modules more image planned rest before now after result is p q =
    subst (λ left. Prepares (λ made. made) (λ told. images_behind modules told left) before after result) (sym is)
    (prepares_then (λ made. made) (λ made. made) (λ told. image_steps modules told image) (λ told made. images_behind made told planned) before now after more result p q)

-- one that stops the steps
pub images_stop : (modules : List Module) (image : ModulePlan) (planned rest : List ModulePlan) (before after : Shelved) (error : PrepareError) (result : Result (List Module) PrepareError) → rest ≡ image ∷ planned → result ≡ Err error → Prepares {A = List Module} (λ made. made) (λ told. image_steps modules told image) before after (Err error) → Prepares (λ made. made) (λ told. images_behind modules told rest) before after result
images_stop modules image planned rest before after error result is stops p =
    subst (λ left. Prepares (λ made. made) (λ told. images_behind modules told left) before after result) (sym is)
    (prepares_first (λ made. made) (λ made. made) (λ told. image_steps modules told image) (λ told made. images_behind made told planned) before after error result stops p)

-- behind the last one all were read
pub images_end : (modules : List Module) (rest : List ModulePlan) (shelf : Shelved) → rest ≡ [] → Prepares (λ made. made) (λ told. images_behind modules told rest) shelf shelf (Ok modules)
images_end modules rest shelf none =
    subst (λ left. Prepares (λ made. made) (λ told. images_behind modules told left) shelf shelf (Ok modules)) (sym none)
    (prepares_own (λ made. made) (Ok modules) shelf (Ok modules) refl)

-- what is left at a module
pub planned_from : (planned : List ModulePlan) (at : ℕ) (image : ModulePlan) → at < length planned → image ≡ get_or planned at image → drop at planned ≡ image ∷ drop (at + 1) planned
planned_from planned at image inside is =
    rw add-one (drop-cons planned at image inside ∙ ap (λ (first : ModulePlan). first ∷ drop (suc at) planned) (sym is))
