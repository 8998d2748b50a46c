-- Whether the processes of a plan are bound and placed.
use Rattle.std.specs.Prelude.{◌≡◌, ℕ, ◌+◌, All, List, length, Option, None, Some, Result, Ok, Err}
use Rattle.c6x_spec.specs.Memory.{CanStart}
use Rattle.c6x_spec.specs.Results.{◌>>=◌}
use Rattle.c6x_plan.specs.Limits.{IsProcess, IsRunPlan}
use Rattle.c6x_plan.specs.declared.process_plan.ProcessPlan.{ProcessPlan}
use Rattle.c6x_plan.specs.declared.run_plan.RunPlan.{RunPlan}
use Rattle.c6x_module.specs.declared.module.Module.{Module}
use Rattle.c6x_place.specs.Binding.{Refusal as BindRefusal}
use Rattle.c6x_place.specs.declared.bound.Bound.{Bound}
use Rattle.c6x_place.specs.Plans.{IsPlacement, bound_plans, placement_of, plans_refusal}
use Rattle.c6x_place.specs.declared.placement.Placement.{Placement}
use Rattle.c6x_cli_steps.specs.declared.cause.Cause.{Cause}
use Rattle.c6x_cli_steps.specs.declared.cause.Cause.TheVariants.{Refused}
use Rattle.c6x_cli_steps.specs.declared.cause.Refusal.{Refusal}
use Rattle.c6x_cli_run.specs.Words.{bind_words, room_words}
use Rattle.c6x_cli_run.specs.declared.loading.Loading.{Loading}

-- A rule on processes is told with the name that it speaks of.
abbrev pub unbound : BindRefusal → Refusal
unbound broken = record { rule = bind_words broken.0; subject = broken.1.1.1; number = broken.1.1.0 }

abbrev pub bound_or : Bound → Option BindRefusal → Result Bound Cause
bound_or bound None = Ok bound
bound_or bound (Some broken) = Err (Refused (unbound broken))

unfoldable pub binding : List Module → List ProcessPlan → Result Bound Cause
binding modules plans = bound_or (record { processes = bound_plans modules plans }) (plans_refusal modules 0 plans)

-- Want of room is told with the plan's file and the length of the board.
abbrev pub no_room : List ℕ → ℕ → Refusal
no_room name len = record { rule = room_words; subject = name; number = len }

abbrev pub placed_or : List ℕ → ℕ → Option Placement → Result Placement Cause
placed_or name len (Some placement) = Ok placement
placed_or name len None = Err (Refused (no_room name len))

-- Where the processes stand on a board of `len` bytes from `base` on.
unfoldable pub placing : List ℕ → RunPlan → List Module → ℕ → ℕ → Result Loading Cause
placing name plan modules base len = do
  bound ← binding modules plan.processes
  placement ← placed_or name len (placement_of modules plan.processes bound.processes base (base + len))
  Ok (record { plan = plan; modules = modules; bound = bound; placement = placement })

-- What is so taken in can be loaded in the memory of `len` bytes from `base` on: the plan is within its limits, its
-- processes are of its modules, and they are bound and placed there.
pub record CanLoad (base len : ℕ) (loading : Loading) : Type 0 where
  pub memory : CanStart base len
  pub plan : IsRunPlan loading.plan
  pub each : All (IsProcess (length loading.modules)) loading.plan.processes
  pub bound : loading.bound.processes ≡ bound_plans loading.modules loading.plan.processes
  pub placed : IsPlacement loading.modules loading.plan.processes loading.bound.processes base (base + len) loading.placement
