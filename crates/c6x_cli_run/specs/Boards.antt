-- The board of a plan that was taken in: where its processes start, and where they have ended.
use Rattle.std.specs.Prelude.{ℕ, false, length, List}
use Rattle.c6x_spec.specs.Memory.{Memory}
use Rattle.c6x_spec.specs.Parts.{Part, filled_with}
use Rattle.c6x_machine.specs.Machine.{life}
use Rattle.c6x_machine.specs.Origin.{Origin}
use Rattle.c6x_ports.specs.Picks.{begun}
use Rattle.c6x_ports.specs.declared.kind.Kind.{Kind}
use Rattle.c6x_sched.specs.Play.{Game}
use Rattle.c6x_load.specs.Loaded.{plan_parts}
use Rattle.c6x_load.specs.Starts.{origins}
use Rattle.c6x_cli_run.specs.TurnBoards.{boards_at}
use Rattle.c6x_cli_run.specs.declared.loading.Loading.{Loading}

-- All that the processes have in the memory at their starts, and the start of each.
abbrev pub parts_of : Loading → List Part
parts_of loading =
    plan_parts false loading.modules loading.plan.processes loading.bound.processes loading.placement

abbrev pub starts_of : Loading → ℕ → Origin
starts_of loading = origins loading.modules loading.plan.processes loading.bound.processes loading.placement

abbrev pub count_of : Loading → ℕ
count_of loading = length loading.plan.processes

-- The board once they are loaded,
abbrev pub start_board : Loading → Memory → Memory
start_board loading before = filled_with (parts_of loading) before

-- and once each has lived its life.
abbrev pub end_board : Loading → Memory → Memory
end_board loading before =
    boards_at (starts_of loading) (λ number. life (starts_of loading number)) (count_of loading) (start_board loading before)

-- What the turns begin with under a policy of this kind that begins with a seed.
abbrev pub game_with : Kind → ℕ → Loading → Game
game_with kind seed loading = record {
  count = count_of loading;
  quantum = loading.plan.quantum;
  starts = starts_of loading;
  first = λ number. 0;
  kind = kind;
  state = begun kind (count_of loading) loading.plan.quantum seed;
}
