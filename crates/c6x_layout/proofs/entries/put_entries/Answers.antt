use Rattle.std.proofs.Common.{◌≤◌, ◌∙◌, false, length, arith}
use Rattle.c6x_elf.specs.EntryRows.{dynamic_row}
use Rattle.c6x_layout.proofs.FileRows.{rows_step, rows_done}
use Rattle.c6x_layout.proofs.entries.put_entries.Goals as goal

pub loop-entry-preserved : goal.loop-entry-preserved
loop-entry-preserved c =
    rows_step (dynamic_row false) c.loop-entry.out.items c.put_dynamic.new.out.items c.args.entries.now c.loop-entry.entry-index _ (omega arith) c.in_ok-put_dynamic.ensures.row ∙ c.loop-entry.invariant

pub returns : goal.returns
returns c =
    let past : length c.args.entries.now ≤ c.loop-entry.entry-index = omega arith in
    rows_done (dynamic_row false) c.loop-entry.out.items c.args.entries.now c.loop-entry.entry-index past ∙ c.loop-entry.invariant
