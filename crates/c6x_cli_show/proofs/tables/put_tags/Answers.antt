use Rattle.std.proofs.Common.{◌/◌, ap, rules, arith, false, length, map}
use Rattle.c6x_spec.proofs.Puts.{on_err}
use Rattle.std.specs.List.{flat_map}
use Rattle.c6x_elf.specs.TableEntries.{dynamic_at, dynamic_entries}
use Rattle.c6x_module.specs.Entries.{entries_of, until_null}
use Rattle.c6x_module.proofs.EntryWalks.{entries_end, entries_kept, entries_null}
use Rattle.c6x_cli_show.specs.Lines.{tag_line}
use Rattle.c6x_dis.proofs.Behind.{behind_all, behind_cut, behind_next, behind_none, numbers_all}
use Rattle.c6x_cli_show.proofs.tables.put_tags.Goals as goal

pub loop-number-init : goal.loop-number-init
unfolding entries_of dynamic_entries
loop-number-init g c = record { text = behind_none _ _ _ (ap (λ numbers. flat_map tag_line (until_null (map (dynamic_at false c.args.table.now) numbers))) (numbers_all (length c.args.table.now / 8))); kept = omega arith }

pub loop-number-preserved : goal.loop-number-preserved
loop-number-preserved g c = record {
  text = behind_next _ _ _ _ _ _ _ (ap (flat_map tag_line) (entries_kept false c.args.table.now c.loop-number.number _ c.entry_in-entry.result c.entry_in-entry.ensures (search rules) (omega arith))) c.in_ok-put_tag.ensures.all c.loop-number.invariant.text;
  kept = search rules;
}

pub returns-in_err-put_tag : goal.returns-in_err-put_tag
returns-in_err-put_tag g c = record {
  all = search rules;
  front = on_err _ (behind_cut _ _ _ _ _ _ _ (ap (flat_map tag_line) (entries_kept false c.args.table.now c.loop-number.number _ c.entry_in-entry.result c.entry_in-entry.ensures (search rules) (omega arith))) c.in_err-put_tag.ensures.front c.loop-number.invariant.text);
  failed = search rules;
  kept = search rules;
}

pub returns : goal.returns
returns g c = record {
  all = behind_all _ _ _ _ (ap (flat_map tag_line) (entries_end false c.args.table.now c.loop-number.number _ (omega arith))) c.loop-number.invariant.text;
  front = search rules;
  failed = search rules;
  kept = c.loop-number.invariant.kept;
}

pub returns-then-entry-eq-DT_NULL : goal.returns-then-entry-eq-DT_NULL
returns-then-entry-eq-DT_NULL g c = record {
  all = behind_all _ _ _ _ (ap (flat_map tag_line) (entries_null false c.args.table.now c.loop-number.number _ c.entry_in-entry.result c.entry_in-entry.ensures (search rules) (omega arith))) c.loop-number.invariant.text;
  front = search rules;
  failed = search rules;
  kept = c.loop-number.invariant.kept;
}
