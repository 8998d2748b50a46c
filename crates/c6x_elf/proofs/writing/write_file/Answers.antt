use Rattle.std.proofs.Common.{◌∙◌}
use Rattle.c6x_elf.proofs.WayBack.{written_passes, written_reads}
use Rattle.c6x_elf.proofs.writing.write_file.Goals as goal

pub returns-clause-kept : goal.returns-clause-kept
returns-clause-kept c =
    written_passes c.args.file.now c.of.result (c.of.ensures ∙ c.in_ok-put_file.ensures.written) c.requires c.in_ok-put_file.ensures.fit

pub returns-clause-read_back : goal.returns-clause-read_back
returns-clause-read_back c =
    written_reads c.args.file.now c.of.result (c.of.ensures ∙ c.in_ok-put_file.ensures.written) c.requires c.in_ok-put_file.ensures.fit
