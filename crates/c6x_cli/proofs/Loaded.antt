-- A plan that is taken in is loaded with its start bytes.
use Rattle.std.proofs.Common.{◌≡◌, ℕ, ◌+◌, ◌^◌, ◌<◌, List, length, refl, sym, ap, ◌∙◌, subst, arith, false}
use Rattle.std.specs.Prelude.{All, Some, Ok, slice_get}
use Rattle.std.proofs.lemmas.List.{length-map}
use Rattle.c6x_spec.specs.Files.{Files}
use Rattle.c6x_spec.specs.Memory.{CanStart, Memory}
use Rattle.c6x_spec.specs.Parts.{HoldsParts}
use Rattle.c6x_elf.specs.declared.file.File.{File}
use Rattle.c6x_plan.specs.Limits.{IsProcess, IsRunPlan}
use Rattle.c6x_plan.specs.declared.link_plan.LinkPlan.{LinkPlan}
use Rattle.c6x_plan.specs.declared.process_plan.ProcessPlan.{ProcessPlan}
use Rattle.c6x_plan.specs.declared.run_plan.RunPlan.{RunPlan}
use Rattle.c6x_link.specs.Working.{working_of}
use Rattle.c6x_module.specs.Valid.{IsValid}
use Rattle.c6x_module.specs.declared.module.Module.{Module}
use Rattle.c6x_place.specs.declared.bound_process.BoundProcess.{BoundProcess}
use Rattle.c6x_place.specs.declared.placement.Placement.{Placement}
use Rattle.c6x_place.specs.Plans.{IsKnown, IsPlacement, bound_plan, bound_plans, placement_of}
use Rattle.c6x_place.proofs.Placements.{placement_is}
use Rattle.c6x_load.specs.Loaded.{plan_parts}
use Rattle.c6x_load.proofs.Placed.{stands}
use Rattle.c6x_load.proofs.PlanWalks.{held_after}
use Rattle.c6x_relocated.specs.Filled.{Finding, IsMember}
use Rattle.c6x_relocated.specs.Plans.{AreLoaded, IsFinding}
use Rattle.c6x_relocated.specs.RelocatedPlans.{IsRelocated}
use Rattle.c6x_relocated.proofs.Relocated.{plan_relocated}
use Rattle.c6x_cli_steps.specs.Plans.{run_plan_steps}
use Rattle.c6x_cli_run.specs.Loading.{loading_steps, modules_steps}
use Rattle.c6x_cli_run.specs.Placing.{placing}
use Rattle.c6x_cli_run.specs.declared.loading.Loading.{Loading}
use Rattle.c6x_cli_steps.specs.Steps.{◌>>=◌, own}
use Rattle.c6x_cli.specs.LinkedModules.{IsLinkedFile, start_memory}
use Rattle.c6x_cli.proofs.Came.{came}
use Rattle.c6x_cli.proofs.Linked.{of_link}
use Rattle.c6x_cli.proofs.ModulesRead.{AreImages, image_at, images_length, images_read, images_valid}
use Rattle.c6x_cli.proofs.Placing.{IsPlaced, placing_is}
use Rattle.c6x_cli.proofs.PlansRead.{steps_within}

-- processes that are bound and placed in a memory are loaded in it with their parts
pub filled_loaded :
    (before : Memory) (modules : List Module) (plans : List ProcessPlan) (bounds : List BoundProcess)
    (placement : Placement)
    → All IsValid modules
    → All (IsKnown modules) plans
    → bounds ≡ bound_plans modules plans
    → before.base + length before.bytes < 2 ^ 32
    → IsPlacement modules plans bounds before.base (before.base + length before.bytes) placement
    → (after : Memory)
    → HoldsParts (plan_parts false modules plans bounds placement) before after
    → AreLoaded after modules plans bounds placement
filled_loaded before modules plans bounds placement valid known bound below placed after held =
    let B : ℕ → Type 0 = λ n. n + length after.bytes < 2 ^ 32 in
    let L : ℕ → Type 0 = λ n. before.base + n < 2 ^ 32 in
    let P : ℕ → Type 0 = λ n. IsPlacement modules plans bounds n (n + length after.bytes) placement in
    let Q : ℕ → Type 0 = λ n. IsPlacement modules plans bounds before.base (before.base + n) placement in
    record {
      valid = valid;
      known = known;
      bound = bound;
      below = subst B (sym held.base) (subst L (sym held.size) below);
      placed = subst P (sym held.base) (subst Q (sym held.size) placed);
      held = held.own;
    }

-- a plan that is taken in
pub record IsTakenIn (files : Files) (before : Memory) (loading : Loading) : Type 0 where
  pub within : IsRunPlan loading.plan
  pub images : AreImages files loading.plan.modules loading.modules
  pub bound : loading.bound.processes ≡ bound_plans loading.modules loading.plan.processes
  pub placed : placement_of loading.modules loading.plan.processes loading.bound.processes before.base
      (before.base + length before.bytes) ≡ Some loading.placement

made_of :
    (files : Files) (before : Memory) (plan : RunPlan) (modules : List Module) (loading : Loading)
    → IsRunPlan plan
    → AreImages files plan.modules modules
    → IsPlaced plan modules before.base (length before.bytes) loading
    → IsTakenIn files before loading
made_of files before plan modules loading within images placed =
    let I : RunPlan → Type 0 = λ p. AreImages files p.modules modules in
    let B : RunPlan → Type 0 = λ p. loading.bound.processes ≡ bound_plans modules p.processes in
    let C : List Module → Type 0 = λ ms. loading.bound.processes ≡ bound_plans ms loading.plan.processes in
    let P : RunPlan → Type 0 = λ p. placement_of modules p.processes loading.bound.processes before.base
    (before.base + length before.bytes) ≡ Some loading.placement in
    let Q : List Module → Type 0 = λ ms. placement_of ms loading.plan.processes loading.bound.processes before.base
    (before.base + length before.bytes) ≡ Some loading.placement in
    record {
      within = subst IsRunPlan (sym placed.plan_is) within;
      images = subst (AreImages files loading.plan.modules) (sym placed.modules_is)
          (subst I (sym placed.plan_is) images);
      bound = subst C (sym placed.modules_is) (subst B (sym placed.plan_is) placed.bound_is);
      placed = subst Q (sym placed.modules_is) (subst P (sym placed.plan_is) placed.placement_is);
    }

pub taken_in :
    (files : Files) (name : List ℕ) (before : Memory) (loading : Loading)
    → (loading_steps files name before.base (length before.bytes)).result ≡ Ok loading
    → IsTakenIn files before loading
unfolding loading_steps
taken_in files name before loading is =
    let base = before.base in
    let len = length before.bytes in
    let c = came (run_plan_steps files name)
    (λ plan. modules_steps files plan.modules >>= λ modules. own (placing name plan modules base len)) loading is
    in
    let d = came (modules_steps files c.middle.modules) (λ modules. own (placing name c.middle modules base len))
    loading c.next_is in
    made_of files before c.middle d.middle loading (steps_within files name c.middle c.first_is)
    (images_read files c.middle.modules d.middle d.first_is)
    (placing_is name c.middle d.middle base len loading d.next_is)

all_known :
    (modules : List Module) (count : ℕ) (plans : List ProcessPlan)
    → count ≡ length modules
    → All (IsProcess count) plans
    → All (IsKnown modules) plans
all_known modules count plans same each =
    let P : ℕ → Type 0 = λ n. All (IsProcess n) plans in
    let all = subst P same each in
    λ k d below. (all k d below).known

loaded_with :
    (files : Files) (before : Memory) (loading : Loading)
    → CanStart before.base (length before.bytes)
    → IsTakenIn files before loading
    → AreLoaded (start_memory loading before) loading.modules loading.plan.processes loading.bound.processes
    loading.placement
loaded_with files before loading start taken =
    let modules = loading.modules in
    let plans = loading.plan.processes in
    let bounds = loading.bound.processes in
    let placement = loading.placement in
    let gates = start.below_gates in
    let below : before.base + length before.bytes < 2 ^ 32 = omega (arith, gates) in
    let valid = images_valid files loading.plan.modules modules taken.images in
    let known = all_known modules (length loading.plan.modules) plans
    (sym (images_length files loading.plan.modules modules taken.images)) taken.within.each in
    let count : length bounds ≡ length plans = ap length taken.bound ∙ length-map plans (bound_plan modules) in
    let placed = placement_is modules plans bounds before.base (before.base + length before.bytes) placement count
    taken.placed in
    let st = stands false modules plans bounds before placement taken.bound valid known below placed in
    filled_loaded before modules plans bounds placement valid known taken.bound below placed
    (start_memory loading before)
    (held_after (plan_parts false modules plans bounds placement) before (start_memory loading before) refl st.on
    st.apart)

pub modules_hold :
    (files : Files) (name : List ℕ) (before : Memory) (loading : Loading)
    → CanStart before.base (length before.bytes)
    → (loading_steps files name before.base (length before.bytes)).result ≡ Ok loading
    → (process : ℕ) (f : Finding)
    → IsFinding loading.modules loading.bound.processes loading.placement process f
    → (position : ℕ) (m : Module) (text base : ℕ)
    → (member : IsMember f position m text base)
    → (objects : List File) (plan : LinkPlan)
    → IsLinkedFile files loading.plan.modules member.number objects plan
    → IsRelocated (working_of objects plan) (start_memory loading before) f position m text base
modules_hold files name before loading start is process f finding position m text base member objects plan stored =
    let taken = taken_in files name before loading is in
    let M : Finding → Type 0 = λ g. slice_get g.modules member.number ≡ Some m in
    let image = image_at files loading.plan.modules loading.modules member.number stored.planned m taken.images
    stored.listed (subst M finding.is member.module_is) in
    plan_relocated (start_memory loading before) loading.modules loading.plan.processes loading.bound.processes
    loading.placement (loaded_with files before loading start taken) process f finding position m text base
    member objects plan
    (of_link files loading.plan.modules member.number stored.planned m objects plan stored.listed image stored)
