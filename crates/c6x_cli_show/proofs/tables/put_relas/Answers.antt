use Rattle.std.proofs.Common.{◌/◌, rules, arith, false, length}
use Rattle.c6x_spec.proofs.Puts.{on_err}
use Rattle.c6x_elf.specs.TableEntries.{rela_at, rela_entries}
use Rattle.c6x_cli_show.specs.Lines.{rela_line}
use Rattle.c6x_dis.proofs.Behind.{behind_all, behind_cut, behind_next, behind_none}
use Rattle.c6x_cli_show.proofs.TableLines.{lines_all, lines_end, lines_more}
use Rattle.c6x_cli_show.proofs.tables.put_relas.Goals as goal

pub loop-number-init : goal.loop-number-init
unfolding rela_entries
loop-number-init g c = record { text = behind_none _ _ _ (lines_all rela_line (rela_at false c.args.table.now) (length c.args.table.now / 12)); kept = omega arith }

pub loop-number-preserved : goal.loop-number-preserved
loop-number-preserved g c = record {
  text = behind_next _ _ _ _ _ _ _ (lines_more rela_line (rela_at false c.args.table.now) c.loop-number.number _ _ (omega arith) c.rela_in.ensures) c.in_ok-put_rela.ensures.all c.loop-number.invariant.text;
  kept = search rules;
}

pub returns-in_err-put_rela : goal.returns-in_err-put_rela
returns-in_err-put_rela g c = record {
  all = search rules;
  front = on_err _ (behind_cut _ _ _ _ _ _ _ (lines_more rela_line (rela_at false c.args.table.now) c.loop-number.number _ _ (omega arith) c.rela_in.ensures) c.in_err-put_rela.ensures.front c.loop-number.invariant.text);
  failed = search rules;
  kept = search rules;
}

pub returns : goal.returns
returns g c = record {
  all = behind_all _ _ _ _ (lines_end rela_line (rela_at false c.args.table.now) c.loop-number.number _ (omega arith)) c.loop-number.invariant.text;
  front = search rules;
  failed = search rules;
  kept = c.loop-number.invariant.kept;
}
