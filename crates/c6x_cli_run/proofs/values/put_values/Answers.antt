use Rattle.std.proofs.Common.{◌≡◌, sym}
use Rattle.c6x_cli_run.specs.Held.{held_processes}
use Rattle.c6x_cli_run.specs.Values.{value_text}
use Rattle.c6x_cli_run.proofs.ReadBack.{values_are}
use Rattle.c6x_cli_run.proofs.Settled.{loads_are_on, loads_are_seated, loads_is_settled}
use Rattle.c6x_cli_run.proofs.values.put_values.Goals as goal

pub put_processes-requires-clause-bounds : goal.put_processes-requires-clause-bounds
put_processes-requires-clause-bounds g c =
    rw (c.as_slice-plans.ensures, c.as_slice-bounds.ensures) (loads_is_settled _ _ _ c.requires.loads).bounds

pub put_processes-requires-clause-seats : goal.put_processes-requires-clause-seats
put_processes-requires-clause-seats g c =
    rw (c.as_slice-plans.ensures, c.as_slice-seats.ensures) (loads_is_settled _ _ _ c.requires.loads).seats

pub put_processes-requires-clause-seated : goal.put_processes-requires-clause-seated
put_processes-requires-clause-seated g c =
    rw (c.as_slice-bounds.ensures, c.as_slice-seats.ensures) (loads_is_settled _ _ _ c.requires.loads).seated

pub put_processes-requires-clause-room : goal.put_processes-requires-clause-room
put_processes-requires-clause-room g c =
    rw (c.as_slice-bounds.ensures, c.as_slice-seats.ensures) (loads_are_on c.args.board.now c.args.loading.now c.len.ensures.kept.valid c.requires.loads)

pub returns : goal.returns
returns g c =
    let text : held_processes c.args.board.now c.args.loading.now.modules c.as_slice-plans.result.now c.as_slice-bounds.result.now c.as_slice-seats.result.now ≡ value_text c.args.loading.now = rw (c.as_slice-plans.ensures, c.as_slice-bounds.ensures, c.as_slice-seats.ensures) (values_are c.args.board.now c.args.loading.now (loads_are_seated _ _ _ c.requires.loads) c.requires.read_back) in
    rw (sym text) c.put_processes.ensures
