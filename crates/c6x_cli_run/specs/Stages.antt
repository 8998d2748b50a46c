-- What `map` and `run` put, and the board at each of their texts.
use Rattle.std.specs.Prelude.{ℕ, Bool, true, false, List, [], ◌∷◌, ◌++◌, Some}
use Rattle.c6x_spec.specs.Memory.{Memory}
use Rattle.c6x_ports.specs.declared.kind.Kind.{Kind}
use Rattle.c6x_sched.specs.Left.{left}
use Rattle.c6x_cli_steps.specs.Policies.{Asked}
use Rattle.c6x_cli_steps.specs.Stages.{Stage}
use Rattle.c6x_cli_run.specs.Tellings.{Telling, turn_stages, untold}
use Rattle.c6x_cli_run.specs.TurnLines.{names_of}
use Rattle.c6x_cli_run.specs.declared.loading.Loading.{Loading}
use Rattle.c6x_cli_run.specs.Bases.{base_text}
use Rattle.c6x_cli_run.specs.Ends.{ends_text}
use Rattle.c6x_cli_run.specs.Values.{value_text}
use Rattle.c6x_cli_run.specs.Boards.{starts_of, start_board, end_board, game_with}

-- `map` puts the whole report once the plan is loaded.
abbrev pub map_stages : Loading → Memory → List Stage
map_stages loading board =
    record { text = base_text loading ++ value_text loading; board = start_board loading board } ∷ []

-- `run` puts where everything stands before the first cycle, and the line and the output of each process once all have
-- ended.
abbrev pub run_stages : Loading → Memory → List Stage
run_stages loading board =
    record { text = ends_text loading.plan.processes (starts_of loading); board = end_board loading board }
    ∷ record { text = base_text loading; board = start_board loading board } ∷ []

-- With its turns told it puts a line behind each of them, before those of the processes.
abbrev pub told_run : Kind → ℕ → Loading → Memory → Telling
told_run kind seed loading board = record {
  game = Some (game_with kind seed loading);
  stages = turn_stages (names_of loading.plan.processes) (game_with kind seed loading) (base_text loading) (start_board loading board);
  last = record { text = ends_text loading.plan.processes (starts_of loading); board = end_board loading board } ∷ [];
}

-- What `run` puts, by whether its turns are told.
abbrev pub run_telling : Bool → Kind → ℕ → Loading → Memory → Telling
run_telling true kind seed loading board = told_run kind seed loading board
run_telling false kind seed loading board = untold (run_stages loading board)

-- What `run` asks of the policy of this kind, with this seed: all turns up to the end of every process.
abbrev pub asked_of : Kind → ℕ → Loading → Asked
asked_of kind seed loading = record { kind = kind; state = left (game_with kind seed loading) }
