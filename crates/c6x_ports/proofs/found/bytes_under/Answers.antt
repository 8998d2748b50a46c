use Rattle.std.proofs.Common.{sym}
use Rattle.c6x_ports.proofs.Places.{file_at-None, file_at-Some}
use Rattle.c6x_ports.proofs.found.bytes_under.Goals as goal

pub returns-in-None : goal.returns-in-None
returns-in-None c = sym (file_at-None c.args.files.now c.args.name.now (sym c.in-None.ensures.place))

pub returns-in-Some : goal.returns-in-Some
returns-in-Some c =
    rw c.as_bytes.ensures (sym (file_at-Some c.args.files.now c.args.name.now _ c.index-files-at.result (sym c.in-Some.ensures.place)))
