use Rattle.std.specs.Prelude.{ℕ, Bool, true, false, List, length, Option, None, Some, IsTrue, is_some, Ok, Err}
use Rattle.c6x_spec.specs.Files.{Files}
use Rattle.c6x_spec.specs.Memory.{Memory}
use Rattle.c6x_ports.specs.Chooser.{Chooser}
use Rattle.c6x_ports.specs.declared.kind.Kind.{Kind}
use Rattle.c6x_ports.specs.declared.kind.Kind.TheVariants.{Round}
use Rattle.c6x_cli_steps.specs.declared.cause.Cause.TheVariants.{Usage}
use Rattle.c6x_cli_run.specs.Exits.{Outcome, put_outcome, asking_outcome, store_outcome}
use Rattle.c6x_cli_steps.specs.Policies.{first_of}
use Rattle.c6x_cli_steps.specs.Steps.{Steps, ◌>>=◌, own}
use Rattle.c6x_cli_steps.specs.Elf.{elf_steps}
use Rattle.c6x_cli_run.specs.Loading.{loading_steps}
use Rattle.c6x_cli_run.specs.Placing.{CanLoad}
use Rattle.c6x_cli_run.specs.declared.loading.Loading.{Loading}
use Rattle.c6x_cli_run.specs.Stages.{asked_of, map_stages, run_telling}
use Rattle.c6x_cli_run.specs.Tellings.{untold}
use Rattle.c6x_cli.specs.Made.{generated_loading}
use Rattle.c6x_cli.specs.Stages.{gen_stages}
use Rattle.c6x_cli.specs.Linking.{linking_steps}
use Rattle.c6x_cli.specs.Objects.{object_steps}
use Rattle.c6x_cli_show.specs.Stages.{code_stages, show_stages}
use Rattle.c6x_cli_words.specs.declared.request.Request.{Request}
use Rattle.c6x_cli_words.specs.declared.request.Request.TheVariants.{Assemble, Dis, Generate, Link, Map, Run, Show}
use Rattle.c6x_cli.specs.declared.prepared.Prepared.{Prepared}
use Rattle.c6x_cli.specs.declared.prepared.Prepared.TheVariants.{Dis as PreparedDis, Generate as PreparedGenerate, Map as PreparedMap, Run as PreparedRun, Show as PreparedShow, Store}

-- What `gen` leaves of what its number came to: one line, of a run under the first policy of kind Round.
abbrev pub generated_outcome : ℕ → Loading → Memory → Outcome
generated_outcome number loading board = asking_outcome (untold (gen_stages number loading board)) (asked_of Round 1 loading)

-- What each command comes to on the files and the board.
unfoldable pub request_steps : Request → Files → Memory → Steps Outcome
request_steps (Assemble input output) files board = do
  bytes ← object_steps files input
  own (Ok (store_outcome output bytes board))
request_steps (Link plan output) files board = do
  bytes ← linking_steps files plan
  own (Ok (store_outcome output bytes board))
request_steps (Dis input) files board = do
  file ← elf_steps files input
  own (Ok (put_outcome (code_stages file board)))
request_steps (Show input) files board = do
  file ← elf_steps files input
  own (Ok (put_outcome (show_stages file board)))
request_steps (Map plan) files board = do
  loading ← loading_steps files plan board.base (length board.bytes)
  own (Ok (put_outcome (map_stages loading board)))
request_steps (Run plan policy seed turns) files board = do
  loading ← loading_steps files plan board.base (length board.bytes)
  own (Ok (asking_outcome (run_telling turns policy seed loading board) (asked_of policy seed loading)))
request_steps (Generate number) files board = do
  loading ← own (generated_loading number board.base (length board.bytes))
  own (Ok (generated_outcome number loading board))

-- What the words, the files and the board come to: the files that are fetched, and what the command leaves, or the first
-- thing that stops it.
abbrev pub steps_of : Option Request → Files → Memory → Steps Outcome
steps_of None files board = own (Err Usage)
steps_of (Some request) files board = request_steps request files board

-- What a prepared command leaves.
abbrev pub outcome_of : Prepared → Memory → Outcome
outcome_of (PreparedDis file) board = put_outcome (code_stages file board)
outcome_of (PreparedShow file) board = put_outcome (show_stages file board)
outcome_of (PreparedMap loading) board = put_outcome (map_stages loading board)
outcome_of (PreparedRun loading policy seed turns) board = asking_outcome (run_telling turns policy seed loading board) (asked_of policy seed loading)
outcome_of (PreparedGenerate number loading) board = generated_outcome number loading board
outcome_of (Store name bytes) board = store_outcome name bytes board

-- What is prepared is a store, and the kind of policies that it asks.
abbrev pub is_store : Prepared → Bool
is_store (PreparedDis file) = false
is_store (PreparedShow file) = false
is_store (PreparedMap loading) = false
is_store (PreparedRun loading policy seed turns) = false
is_store (PreparedGenerate number loading) = false
is_store (Store name bytes) = true

abbrev pub asks : Prepared → Option Kind
asks (PreparedDis file) = None
asks (PreparedShow file) = None
asks (PreparedMap loading) = None
asks (PreparedRun loading policy seed turns) = Some policy
asks (PreparedGenerate number loading) = Some Round
asks (Store name bytes) = None

-- What carrying it out needs of the board,
abbrev pub CanCommit : Memory → Prepared → Type 0
CanCommit board (PreparedDis file) = Unit {0}
CanCommit board (PreparedShow file) = Unit {0}
CanCommit board (PreparedMap loading) = CanLoad board.base (length board.bytes) loading
CanCommit board (PreparedRun loading policy seed turns) = CanLoad board.base (length board.bytes) loading
CanCommit board (PreparedGenerate number loading) = CanLoad board.base (length board.bytes) loading
CanCommit board (Store name bytes) = Unit {0}

-- and of the policies.
abbrev pub HasPolicy : Option Kind → List Chooser → Type 0
HasPolicy None policies = Unit {0}
HasPolicy (Some kind) policies = IsTrue (is_some (first_of kind policies))
