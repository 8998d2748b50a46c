-- A number that is stopped has no room.
use Rattle.std.proofs.Common.{◌≡◌, [], length, refl, sym, ◌∙◌}
use Rattle.std.specs.Prelude.{Result, Ok, Err}
use Rattle.c6x_spec.specs.Files.{Files}
use Rattle.c6x_spec.specs.Memory.{Memory}
use Rattle.c6x_cli.specs.Made.{gen_name, generated_loading}
use Rattle.c6x_cli.specs.Room.{GeneratedLacksRoomAlone}
use Rattle.c6x_cli_run.specs.Placing.{no_room}
use Rattle.c6x_cli_run.specs.declared.loading.Loading.{Loading}
use Rattle.c6x_cli_steps.specs.Steps.{◌>>=◌, followed, own}
use Rattle.c6x_cli_steps.specs.declared.cause.Cause.{Cause}
use Rattle.c6x_cli_steps.specs.declared.cause.Cause.TheVariants.{Refused}
use Rattle.c6x_cli.specs.Generating.{StopsForRoomAlone}
use Rattle.c6x_cli.specs.Meaning.{generated_outcome, request_steps}

pub lacks_room : GeneratedLacksRoomAlone → (files : Files) (board : Memory) → StopsForRoomAlone files board
unfolding request_steps ◌>>=◌
lacks_room all files board number cause is = by (generated_loading number board.base (length board.bytes)) refl is
  where
    by :
        (r : Result Loading Cause)
        → generated_loading number board.base (length board.bytes) ≡ r
        → (followed [] r (λ loading. own (Ok (generated_outcome number loading board)))).result ≡ Err cause
        → cause ≡ Refused (no_room gen_name (length board.bytes))
    by (Ok loading) here e = absurd (cc e)
    by (Err stop) here e =
        let same : stop ≡ cause = cc e in
        sym same ∙ all number board.base (length board.bytes) stop here
