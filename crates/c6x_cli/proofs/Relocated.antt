-- After status 0 the linked modules of a plan hold.
use Rattle.std.proofs.Common.{◌≡◌, ℕ, inl, inr, Bool, List, refl, sym, ap, subst, length, arith}
use Rattle.std.specs.Prelude.{Option, None, Some, Result, Ok, Err}
use Rattle.c6x_spec.specs.Files.{Files}
use Rattle.c6x_spec.specs.Memory.{CanStart}
use Rattle.c6x_ports.specs.declared.kind.Kind.{Kind}
use Rattle.c6x_ports.specs.Sink.{Taken}
use Rattle.c6x_cli_run.specs.Loading.{loading_steps}
use Rattle.c6x_cli.specs.LinkedModules.{LinkedModulesHold}
use Rattle.c6x_cli.proofs.Came.{came}
use Rattle.c6x_cli.proofs.Loaded.{modules_hold}
use Rattle.c6x_cli_run.specs.Boards.{start_board}
use Rattle.c6x_cli_run.specs.Stages.{asked_of, map_stages, run_telling}
use Rattle.c6x_cli_steps.specs.declared.cause.Cause.{Cause}
use Rattle.c6x_cli_steps.specs.declared.prepare_error.PrepareError.TheVariants.{Because}
use Rattle.c6x_cli_run.specs.Exits.{EndsAs, Exits, IsDone, Outcome, asking_outcome, put_outcome}
use Rattle.c6x_cli_steps.specs.Lines.{Reports}
use Rattle.c6x_cli_steps.specs.Steps.{Steps, own}
use Rattle.c6x_cli_steps.specs.World.{World}
use Rattle.c6x_cli_run.specs.Tellings.{HasPut}
use Rattle.c6x_cli_run.proofs.Performs.{not_done}
use Rattle.c6x_cli_words.specs.declared.request.Request.{Request}
use Rattle.c6x_cli_words.specs.declared.request.Request.TheVariants.{Map, Run}
use Rattle.c6x_cli.specs.Meaning.{request_steps, steps_of}
use Rattle.c6x_cli.specs.Relocating.{Relocates}

-- what was reported has another status than 0
told :
    (line : List ℕ) (wanted status : ℕ) (before after : Taken)
    → Reports line wanted status before after
    → status ≡ 0
    → wanted ≡ 0
told line wanted status before after reports zero = elim reports [
  | inl first ↦ let is = first.0 in omega (arith, is, zero)
  | inr cut ↦ let is = cut.0 in absurd (omega (arith, is, zero))
]

-- so status 0 comes only where all was done
pub record IsAllDone (steps : Steps Outcome) (before after : World) : Type 0 where
  pub outcome : Outcome
  pub is : steps.result ≡ Ok outcome
  pub done : IsDone outcome before after

ends_done :
    (steps : Steps Outcome) (r : Result Outcome Cause) (status : ℕ) (before after : World)
    → steps.result ≡ r
    → EndsAs r status before after
    → status ≡ 0
    → IsAllDone steps before after
ends_done steps (Ok outcome) status before after here ends zero = elim ends [
  | inl done ↦ record { outcome = outcome; is = here; done = done.1 }
  | inr cut ↦ let is = cut.0 in absurd (omega (arith, is, zero))
]
ends_done steps (Err cause) status before after here stopped zero =
    absurd (not_done (Because cause) (told _ _ status before.err after.err stopped.reports zero))

all_done :
    (steps : Steps Outcome) (status : ℕ) (before after : World)
    → Exits steps status before after
    → status ≡ 0
    → IsAllDone steps before after
all_done steps status before after exits zero = elim exits [
  | inl ends ↦ ends_done steps steps.result status before after refl ends zero
  | inr device ↦ elim device [
    | inl fault ↦ let is = told _ 5 status before.err after.err fault.stopped.reports zero in absurd (omega (arith, is))
    | inr memory ↦ let is = told _ 7 status before.err after.err memory.reports zero in absurd (omega (arith, is))
  ]
]

map_holds :
    (plan : List ℕ) (files : Files) (before after : World)
    → CanStart before.board.base (length before.board.bytes)
    → IsAllDone (request_steps (Map plan) files before.board) before after
    → Relocates (Some (Map plan)) files before.board after.board
unfolding request_steps
map_holds plan files before after start all =
    let board = before.board in
    let c = came (loading_steps files plan board.base (length board.bytes))
    (λ loading. own (Ok (put_outcome (map_stages loading board)))) all.outcome all.is in
    let same : put_outcome (map_stages c.middle board) ≡ all.outcome = cc c.next_is in
    let P : Outcome → Type 0 = λ o. HasPut o.telling before.out.bytes after.out.bytes board after.board in
    let there : after.board ≡ start_board c.middle board = (subst P (sym same) all.done.put).at in
    let hold : LinkedModulesHold files c.middle (start_board c.middle board) = modules_hold files plan board c.middle
    start c.first_is in
    record { loading = c.middle; is = c.first_is; hold = subst (LinkedModulesHold files c.middle) (sym there) hold }

run_holds :
    (plan : List ℕ) (policy : Kind) (seed : ℕ) (turns : Bool) (files : Files) (before after : World)
    → CanStart before.board.base (length before.board.bytes)
    → IsAllDone (request_steps (Run plan policy seed turns) files before.board) before after
    → Relocates (Some (Run plan policy seed turns)) files before.board after.board
unfolding request_steps
run_holds plan policy seed turns files before after start all =
    let board = before.board in
    let c = came (loading_steps files plan board.base (length board.bytes))
    (λ loading. own
    (Ok (asking_outcome (run_telling turns policy seed loading board) (asked_of policy seed loading))))
    all.outcome
    all.is in
    record { loading = c.middle; is = c.first_is; hold = modules_hold files plan board c.middle start c.first_is }

-- and then the linked modules of a plan hold
pub relocates :
    (request : Option Request) (files : Files) (status : ℕ) (before after : World)
    → Exits (steps_of request files before.board) status before after
    → CanStart before.board.base (length before.board.bytes)
    → status ≡ 0
    → Relocates request files before.board after.board
relocates None files status before after exits start zero = tt
relocates (Some (Map plan)) files status before after exits start zero =
    map_holds plan files before after start
    (all_done (request_steps (Map plan) files before.board) status before after exits zero)
relocates (Some (Run plan policy seed turns)) files status before after exits start zero =
    run_holds plan policy seed turns files before after start
    (all_done (request_steps (Run plan policy seed turns) files before.board) status before after exits zero)
relocates (Some _) files status before after exits start zero = tt
