use Rattle.c6x_asm.proofs.Passes.{stop_ok}
use Rattle.c6x_asm.proofs.reading.stopped.Goals as goal

pub returns : goal.returns
returns c = stop_ok c.args.text.now c.args.tokens.now c.args.broken c.packet_before.result c.requires.is c.packet_before.ensures
