-- What `gen` puts, and the board then: its line, once each process has lived its life.
use Rattle.std.specs.Prelude.{ℕ, List, [], ◌∷◌}
use Rattle.c6x_spec.specs.Memory.{Memory}
use Rattle.c6x_cli_steps.specs.Stages.{Stage}
use Rattle.c6x_cli_run.specs.declared.loading.Loading.{Loading}
use Rattle.c6x_cli_run.specs.Boards.{end_board}
use Rattle.c6x_cli.specs.Sums.{sums_text}

abbrev pub gen_stages : ℕ → Loading → Memory → List Stage
gen_stages number loading board =
    record { text = sums_text number loading; board = end_board loading board } ∷ []
