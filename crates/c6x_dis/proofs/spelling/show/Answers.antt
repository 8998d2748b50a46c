use Rattle.c6x_encoding.proofs.Bounds.{fits_valid}
use Rattle.c6x_dis.proofs.Words.{read_back}
use Rattle.c6x_dis.proofs.spelling.show.Goals as goal

pub put_operands-requires-clause-fits : goal.put_operands-requires-clause-fits
put_operands-requires-clause-fits c = fits_valid c.args.instr.now c.requires

pub returns-clause-read : goal.returns-clause-read
returns-clause-read c = read_back c.args.instr.now c.requires
