-- The linked modules of a plan that is taken in and loaded (SPRAB89, "DSBT Model" and "Dynamic Relocation").
use Rattle.std.specs.Prelude.{◌≡◌, ℕ, false, List, Some, Ok, length, slice_get}
use Rattle.c6x_spec.specs.Files.{Files, file_at}
use Rattle.c6x_spec.specs.Memory.{CanStart, Memory}
use Rattle.c6x_spec.specs.Parts.{filled_with}
use Rattle.c6x_elf.specs.Writing.{written}
use Rattle.c6x_elf.specs.declared.file.File.{File}
use Rattle.c6x_plan.specs.declared.link_plan.LinkPlan.{LinkPlan}
use Rattle.c6x_plan.specs.declared.module_plan.ModulePlan.{ModulePlan}
use Rattle.c6x_link.specs.Linked.{linked}
use Rattle.c6x_link.specs.Working.{working_of}
use Rattle.c6x_link_loads.specs.Linkable.{AreLinkable}
use Rattle.c6x_module.specs.declared.module.Module.{Module}
use Rattle.c6x_load.specs.Loaded.{plan_parts}
use Rattle.c6x_relocated.specs.Filled.{Finding, IsMember}
use Rattle.c6x_relocated.specs.Plans.{IsFinding}
use Rattle.c6x_relocated.specs.RelocatedPlans.{IsRelocated}
use Rattle.c6x_cli_run.specs.Loading.{loading_steps}
use Rattle.c6x_cli_run.specs.declared.loading.Loading.{Loading}

-- The file of the module of a plan with this number has the bytes of the file that a linker makes of objects.
pub record IsLinkedFile (files : Files) (modules : List ModulePlan) (number : ℕ) (objects : List File)
    (plan : LinkPlan) : Type 0 where
  pub planned : ModulePlan
  pub listed : slice_get modules number ≡ Some planned
  pub able : AreLinkable objects plan
  pub file : File
  pub made : linked objects plan ≡ Ok file
  pub bytes : file_at files planned.file ≡ Some (written false file)

-- In every process, and for every member of its search list whose file is a linked one, the link is relocated in the
-- memory.
abbrev pub LinkedModulesHold : Files → Loading → Memory → Type 0
LinkedModulesHold files loading memory =
    (process : ℕ) (f : Finding) → IsFinding loading.modules loading.bound.processes loading.placement process f
    → (position : ℕ) (m : Module) (text base : ℕ) → (member : IsMember f position m text base)
    → (objects : List File) (plan : LinkPlan) → IsLinkedFile files loading.plan.modules member.number objects plan
    → IsRelocated (working_of objects plan) memory f position m text base

-- The memory with all that the processes of a plan have in it at their starts.
abbrev pub start_memory : Loading → Memory → Memory
start_memory loading before =
    filled_with (plan_parts false loading.modules loading.plan.processes loading.bound.processes loading.placement)
    before

-- The law: so it is in every memory in which a plan is taken in and loaded.
abbrev pub LoadedPlansHold : Type 0
LoadedPlansHold =
    (files : Files) (name : List ℕ) (before : Memory) (loading : Loading) → CanStart before.base (length before.bytes)
    → (loading_steps files name before.base (length before.bytes)).result ≡ Ok loading
    → LinkedModulesHold files loading (start_memory loading before)
