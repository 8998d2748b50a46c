use Rattle.std.proofs.Common.{◌/◌, rules, arith, false, length}
use Rattle.c6x_spec.proofs.Puts.{on_err}
use Rattle.c6x_elf.specs.TableEntries.{symbol_at, symbol_entries}
use Rattle.c6x_cli_show.specs.Lines.{symbol_line_in}
use Rattle.c6x_dis.proofs.Behind.{behind_all, behind_cut, behind_next, behind_none}
use Rattle.c6x_cli_show.proofs.TableLines.{lines_all, lines_end, lines_more}
use Rattle.c6x_cli_show.proofs.tables.put_symbols.Goals as goal

pub loop-number-init : goal.loop-number-init
unfolding symbol_entries
loop-number-init g c = record { text = behind_none _ _ _ (lines_all (symbol_line_in c.args.strings.now) (symbol_at false c.args.table.now) (length c.args.table.now / 16)); kept = omega arith }

pub loop-number-preserved : goal.loop-number-preserved
loop-number-preserved g c = record {
  text = behind_next _ _ _ _ _ _ _ (lines_more (symbol_line_in c.args.strings.now) (symbol_at false c.args.table.now) c.loop-number.number _ _ (omega arith) c.symbol_in.ensures) c.in_ok-put_named.ensures.all c.loop-number.invariant.text;
  kept = search rules;
}

pub returns-in_err-put_named : goal.returns-in_err-put_named
returns-in_err-put_named g c = record {
  all = search rules;
  front = on_err _ (behind_cut _ _ _ _ _ _ _ (lines_more (symbol_line_in c.args.strings.now) (symbol_at false c.args.table.now) c.loop-number.number _ _ (omega arith) c.symbol_in.ensures) c.in_err-put_named.ensures.front c.loop-number.invariant.text);
  failed = search rules;
  kept = search rules;
}

pub returns : goal.returns
returns g c = record {
  all = behind_all _ _ _ _ (lines_end (symbol_line_in c.args.strings.now) (symbol_at false c.args.table.now) c.loop-number.number _ (omega arith)) c.loop-number.invariant.text;
  front = search rules;
  failed = search rules;
  kept = c.loop-number.invariant.kept;
}
