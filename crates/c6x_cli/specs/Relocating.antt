-- What `map` and `run` leave of the linked modules of a plan (SPRAB89, "DSBT Model").
use Rattle.std.specs.Prelude.{◌≡◌, ℕ, List, length, Option, Some, Ok}
use Rattle.c6x_spec.specs.Files.{Files}
use Rattle.c6x_spec.specs.Memory.{Memory}
use Rattle.c6x_cli_run.specs.Loading.{loading_steps}
use Rattle.c6x_cli_run.specs.declared.loading.Loading.{Loading}
use Rattle.c6x_cli.specs.LinkedModules.{LinkedModulesHold}
use Rattle.c6x_cli_run.specs.Boards.{start_board}
use Rattle.c6x_cli_words.specs.declared.request.Request.{Request}
use Rattle.c6x_cli_words.specs.declared.request.Request.TheVariants.{Map, Run}

-- The plan of this name was taken in, and the entries of its linked modules hold in the memory that it leads to.
pub record HoldsLinked (files : Files) (name : List ℕ) (before : Memory) (memory : Loading → Memory) : Type 0 where
  pub loading : Loading
  pub is : (loading_steps files name before.base (length before.bytes)).result ≡ Ok loading
  pub hold : LinkedModulesHold files loading (memory loading)

-- `map` leaves them so on the board; the processes of `run` start with them so.
abbrev pub Relocates : Option Request → Files → Memory → Memory → Type 0
Relocates (Some (Map plan)) files before after = HoldsLinked files plan before (λ loading. after)
Relocates (Some (Run plan policy seed turns)) files before after = HoldsLinked files plan before
    (λ loading. start_board loading before)
Relocates _ files before after = Unit {0}
