-- What stops `gen`: no number breaks a rule, so want of room on the board alone.
use Rattle.std.specs.Prelude.{◌≡◌, ℕ, length, Some, Err}
use Rattle.c6x_spec.specs.Files.{Files}
use Rattle.c6x_spec.specs.Memory.{Memory}
use Rattle.c6x_cli.specs.Made.{gen_name}
use Rattle.c6x_cli_run.specs.Placing.{no_room}
use Rattle.c6x_cli_steps.specs.declared.cause.Cause.{Cause}
use Rattle.c6x_cli_steps.specs.declared.cause.Cause.TheVariants.{Refused}
use Rattle.c6x_cli_words.specs.declared.request.Request.TheVariants.{Generate}
use Rattle.c6x_cli.specs.Meaning.{steps_of}

abbrev pub StopsForRoomAlone : Files → Memory → Type 0
StopsForRoomAlone files board =
    (number : ℕ) (cause : Cause) → (steps_of (Some (Generate number)) files board).result ≡ Err cause → cause ≡ Refused (no_room gen_name (length board.bytes))
