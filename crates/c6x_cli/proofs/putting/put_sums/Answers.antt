use Rattle.std.proofs.Common.{sym}
use Rattle.c6x_cli.proofs.putting.put_sums.Goals as goal

pub returns : goal.returns
returns g c = λ b s lived.
    rw (sym (c.cycles_of-cycles.ensures b s lived), sym (c.exits_of-exits.ensures b s lived), sym c.sums_line-line.ensures, sym c.as_bytes.ensures) c.put.ensures.puts
