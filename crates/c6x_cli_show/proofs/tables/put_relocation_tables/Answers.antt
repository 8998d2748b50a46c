use Rattle.std.proofs.Common.{refl, rules, arith, false}
use Rattle.c6x_spec.proofs.Puts.{on_err}
use Rattle.c6x_cli_show.specs.Shown.{table_relas}
use Rattle.c6x_dis.proofs.Behind.{behind_all, behind_cut, behind_next, behind_none}
use Rattle.c6x_cli_show.proofs.TableLines.{members_end, members_more}
use Rattle.c6x_cli_show.proofs.tables.put_relocation_tables.Goals as goal

pub loop-table-init : goal.loop-table-init
loop-table-init g c = record { text = behind_none _ _ _ refl; kept = omega arith }

pub loop-table-preserved : goal.loop-table-preserved
loop-table-preserved g c = record {
  text = behind_next _ _ _ _ _ _ _ (members_more (table_relas false) c.args.sections.now c.loop-table.table-index c.table-item.result c.loop-table-test.true c.table-item.is) c.in_ok-put_table_relas.ensures.all c.loop-table.invariant.text;
  kept = search rules;
}

pub returns-in_err-put_table_relas : goal.returns-in_err-put_table_relas
returns-in_err-put_table_relas g c = record {
  all = search rules;
  front = on_err _ (behind_cut _ _ _ _ _ _ _ (members_more (table_relas false) c.args.sections.now c.loop-table.table-index c.table-item.result c.loop-table-test.true c.table-item.is) c.in_err-put_table_relas.ensures.front c.loop-table.invariant.text);
  failed = search rules;
  kept = search rules;
}

pub returns : goal.returns
returns g c = record {
  all = behind_all _ _ _ _ (members_end (table_relas false) c.args.sections.now c.loop-table.table-index c.loop-table-test.false) c.loop-table.invariant.text;
  front = search rules;
  failed = search rules;
  kept = c.loop-table.invariant.kept;
}
