-- Processes that are ready to run.
use Rattle.std.specs.Prelude.{◌≡◌, ◌≤◌, ℕ, List, [], ◌∷◌, length, vec_capacity, Option, Result, OnOk}
use Rattle.c6x_spec.specs.Memory.{Memory}
use Rattle.c6x_spec.specs.Sinks.{Takes}
use Rattle.c6x_machine.specs.Machine.{life}
use Rattle.c6x_ports.specs.Chooser.{Chooser}
use Rattle.c6x_sched.specs.Together.{AllLieOn, AllStand, AreApart}
use Rattle.c6x_sched.specs.declared.loaded.Loaded.{Loaded}
use Rattle.c6x_sched.specs.Ended.{AllEnded, AllHaveLived}
use Rattle.c6x_sched.specs.Play.{Game, Played, IsOver, IsPlay, counts_of}
use Rattle.c6x_sched.specs.System.{processes_of}
use Rattle.c6x_sched.specs.declared.system.System.{System}
use Rattle.c6x_load.specs.Made.{AreFresh}
use Rattle.c6x_cli_steps.specs.Policies.{Asked, HasAnswered}
use Rattle.c6x_cli_steps.specs.Stages.{TakesBehind}
use Rattle.c6x_cli_run.specs.TurnBoards.{boards_at}
use Rattle.c6x_cli_run.specs.TurnLines.{line_of, names_of, turn_lines}
use Rattle.c6x_cli_run.specs.declared.loading.Loading.{Loading}
use Rattle.c6x_cli_run.specs.Boards.{count_of, starts_of}

-- The processes of a plan and the board stand for their starts, and nothing keeps them from taking turns.
pub record IsReady (loading : Loading) (memory : Memory) (loaded : Loaded) : Type 0 where
  pub stand : AllStand loaded.processes.items memory (starts_of loading) (λ number. 0)
  pub apart : AreApart loaded.processes.items
  pub lie : AllLieOn memory loaded.processes.items
  pub count : length loaded.processes.items ≡ count_of loading
  pub fresh : AreFresh loaded.processes.items
  pub ready : loaded.ready.items ≡ []
  pub room : length loaded.processes.items ≤ vec_capacity loaded.ready

-- What lending a policy to them gives: it keeps its kind, and where all was done it has answered for all turns.
pub record AskedOnce {A E : Type 0} (asked : Asked) (before after : Chooser) (result : Result A E) : Type 0 where
  pub answers : OnOk result (HasAnswered asked before after)
  pub kind : after.kind ≡ before.kind

-- All turns of a game were told, up to the end of every process: each has lived its life.
pub record HasToldRun (loading : Loading) (game : Game) (system : System) (before after : Memory) (was now : Option (List ℕ)) : Type 0 where
  pub play : List Played
  pub is : IsPlay game play
  pub over : IsOver game play
  pub taken : Takes (turn_lines (names_of loading.plan.processes) play) was now
  pub at : after ≡ boards_at (starts_of loading) (λ number. life (starts_of loading number)) (count_of loading) before
  pub lived : AllHaveLived (processes_of system) after (starts_of loading)
  pub ended : AllEnded (processes_of system)
  pub count : length (processes_of system) ≡ count_of loading

-- A fault cut the line of the last turn that was done.
pub record IsRunCut (loading : Loading) (game : Game) (before after : Memory) (was now : Option (List ℕ)) : Type 0 where
  pub earlier : List Played
  pub last : Played
  pub is : IsPlay game (last ∷ earlier)
  pub behind : TakesBehind (turn_lines (names_of loading.plan.processes) earlier) (line_of (names_of loading.plan.processes) last) was now
  pub at : after ≡ boards_at (starts_of loading) (counts_of game (last ∷ earlier)) (count_of loading) before
