use Rattle.std.proofs.Common.{◌≤◌, ◌∙◌, false, length, arith}
use Rattle.c6x_elf.specs.EntryRows.{rela_row}
use Rattle.c6x_layout.proofs.FileRows.{rows_step, rows_done}
use Rattle.c6x_layout.proofs.entries.rela_bytes.Goals as goal

pub loop-rela-preserved : goal.loop-rela-preserved
loop-rela-preserved c =
    rows_step (rela_row false) c.loop-rela.bytes.items c.put_rela.new.out.items c.args.relas.now c.loop-rela.rela-index _ (omega arith) c.in_ok-put_rela.ensures.row ∙ c.loop-rela.invariant

pub returns : goal.returns
returns c =
    let past : length c.args.relas.now ≤ c.loop-rela.rela-index = omega arith in
    rows_done (rela_row false) c.loop-rela.bytes.items c.args.relas.now c.loop-rela.rela-index past ∙ c.loop-rela.invariant
